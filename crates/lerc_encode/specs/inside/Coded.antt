-- What is known of the symbols of values and their codes before they are written.
use Rattle.std.specs.Prelude.{◌≡◌, ℕ, ◌*◌, ◌≤◌, Bool, true, false, ◌&&◌, List, length, Option}
use Rattle.std.specs.Prelude.{MatchOption}
use Rattle.raster_cells.specs.declared.kind.PixelType.TheVariants.{U8}
use Rattle.raster_values.specs.Raster.{Pixels, valid_count}
use Rattle.lerc_header.specs.declared.header.Version.{Version}
use Rattle.delta_mode.specs.Deltas.{plain}
use Rattle.lerc_encode.specs.Codings.{code_lengths, coding_bytes, have_codes}
use Rattle.lerc_encode.specs.Images.{all_deltas, has_mode, is_v4}
use Rattle.lerc_encode.specs.declared.code_words.codings.Coding.{Coding}
use Rattle.lerc_encode.specs.declared.code_words.codings.Codings.{Codings}
use Rattle.lerc_encode.specs.declared.code_words.symbols.SymbolMode.{SymbolMode}
use Rattle.lerc_encode.specs.declared.code_words.symbols.SymbolMode.TheVariants.{Deltas, Plain}

-- the symbols of a mode
abbrev pub symbols_of : SymbolMode → Pixels → List ℕ
symbols_of Deltas r = all_deltas r
symbols_of Plain r = plain r

-- the number that names it in a blob
abbrev pub mode_number : SymbolMode → ℕ
mode_number Deltas = 1
mode_number Plain = 2

-- the lengths of the symbols' codes, and the number of the bytes
pub record IsCodingOf (symbols : List ℕ) (c : Coding) : Type 0 where
  pub has : have_codes symbols ≡ true
  pub lengths_are : c.lengths ≡ code_lengths symbols
  pub size_is : c.size ≡ length (coding_bytes symbols)
  pub few : c.size ≤ 67110912

-- the plain symbols are the raster's bytes: all pixels are valid, and of u8
pub record IsLying (r : Pixels) : Type 0 where
  pub kind : r.kind ≡ U8
  pub full : valid_count r ≡ r.rows * r.cols

-- the coding of symbols that are wanted and have codes
pub record HasSymbols (wanted : Bool) (symbols : List ℕ) (c : Coding) : Type 0 where
  pub holds : (wanted && have_codes symbols) ≡ true
  pub coding_is : IsCodingOf symbols c

-- where they are not, there is no coding
abbrev pub AreSymbols : Bool → List ℕ → Option Coding → Type 0
AreSymbols wanted symbols coding =
    MatchOption coding ((wanted && have_codes symbols) ≡ false) (HasSymbols wanted symbols)

-- symbols whose coding is there
abbrev pub AreThere : List ℕ → Option Coding → Type 0
AreThere symbols coding = MatchOption coding ⊥ (IsCodingOf symbols)

pub record AreCodings (r : Pixels) (version : Version) (step : ℕ) (c : Codings) : Type 0 where
  pub deltas : AreSymbols (has_mode r step) (all_deltas r) c.deltas
  pub plains : AreSymbols (has_mode r step && is_v4 version) (plain r) c.plains
