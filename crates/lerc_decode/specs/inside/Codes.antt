-- Reading codes, and what symbols leave in the raster.
use Rattle.std.specs.Prelude.{ℕ, ◌≤◌, Bool, List}
use Rattle.first_fault.specs.Faults.{Faults, in_order, ends}
use Rattle.raster_values.specs.Raster.{Pixels}
use Rattle.huff_codes.specs.Table.{IsCoding}
use Rattle.huff_codes.specs.Words.{AreWords, word_faults}
use Rattle.delta_mode.specs.Deltas.{ArePlain}
use Rattle.delta_mode.specs.Symbols.{IsByteType}
use Rattle.lerc_header.specs.declared.header.Header.{Header}
use Rattle.lerc_header.specs.declared.fault.BlobReason.{BlobReason}
use Rattle.lerc_header.specs.declared.fault.BlobReason.TheVariants.{Leftover}
use Rattle.lerc_grammar.specs.Reasons.{told, code_reason}
use Rattle.lerc_grammar.specs.Codes.{AreAllDeltas}
use Rattle.lerc_grammar.specs.Image.{value_count}
use Rattle.lerc_decode.specs.inside.Body.{IsMarkedAs}

-- a raster of bytes that may be filled, as many of whose pixels are valid as the header says, and
-- of as many values as a raster may have
pub record IsCodedAs (h : Header) (r : Pixels) : Type 0 where
  pub marked : IsMarkedAs h r
  pub byte : IsByteType h.kind
  pub few : value_count h ≤ 16777216

-- what is wrong first with the words of n symbols: they themselves, or bytes behind them
abbrev pub words_faults : List (List Bool) → ℕ → List ℕ → Faults BlobReason
words_faults codes n rest =
    in_order (AreWords codes n) (λ bytes. told code_reason (word_faults codes n bytes))
    (λ symbols behind. ends Leftover behind) rest

-- the bytes are a coding of the differences
pub record HasDeltas (h : Header) (rest : List ℕ) (r : Pixels) : Type 0 where
  pub symbols : List ℕ
  pub coding : IsCoding (value_count h) rest symbols
  pub deltas : AreAllDeltas h r symbols

-- the bytes are a coding of the values
pub record HasPlain (h : Header) (rest : List ℕ) (r : Pixels) : Type 0 where
  pub symbols : List ℕ
  pub coding : IsCoding (value_count h) rest symbols
  pub plain : ArePlain r symbols
