-- A reader of code words, which goes on from where it stands.
use Rattle.std.specs.Prelude.{ℕ, ◌≡◌, ◌+◌, ◌*◌, ◌/◌, ◌^◌, ◌≤◌, Bool, List, All, length}
use Rattle.huff_codes.specs.Prefixes.{ArePrefixes}
use Rattle.huff_codes.specs.declared.words.reader.SymbolReader.{SymbolReader}
use Rattle.huff_codes.specs.inside.Lookup.{AreEntries, IsShort}
use Rattle.huff_codes.specs.inside.Reading.{HaveReached}

-- the codes, and the bytes in whose words they stand
abbrev pub codes_of : SymbolReader → List (List Bool)
codes_of r = r.codes.now

abbrev pub bytes_of : SymbolReader → List ℕ
bytes_of r = r.bytes.now

-- how many symbols may still be read
abbrev pub left_of : SymbolReader → ℕ
left_of r = r.left

-- what holds of a reader between calls: its tables are those of the codes, and it stands within the
-- whole words
pub record IsReader (r : SymbolReader) : Type 0 where
  pub room : length r.entries ≡ 2048
  pub short : All IsShort r.entries
  pub entries : AreEntries r.codes.now r.entries
  pub prefixes : ArePrefixes r.codes.now r.prefixes
  pub within : r.bit ≤ 32 * (length r.bytes.now / 4)
  pub few : r.bit + 32 * r.left ≤ 2 ^ 29

-- these symbols have been read: their codes stand in front, and the reader stands behind them
abbrev pub HaveRead : SymbolReader → List ℕ → Type 0
HaveRead r symbols = HaveReached r.codes.now r.bytes.now symbols r.bit
