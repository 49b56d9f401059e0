-- Symbols that are counted and written piece by piece.
use Rattle.std.proofs.Common.{◌≡◌, ℕ, ◌+◌, ◌≤◌, Bool, List, ◌++◌, take, refl, sym, ap, ◌∙◌, arith}
use Rattle.raster_values.specs.Raster.{Pixels, IsRaster}
use Rattle.delta_mode.specs.EncodeStates.{deltas_of_all}
use Rattle.delta_mode.specs.Deltas.{plain}
use Rattle.delta_mode.proofs.Existence.{plain_low}
use Rattle.first_fault.specs.Parts.{AreBytes}
use Rattle.huff_codes.specs.Written.{written_size}
use Rattle.huff_codes.proofs.Filling.{joined_within}
use Rattle.lerc_encode.specs.Images.{all_deltas}
use Rattle.lerc_encode.specs.declared.code_words.symbols.SymbolMode.{SymbolMode}
use Rattle.lerc_encode.specs.declared.code_words.symbols.SymbolMode.TheVariants.{Deltas, Plain}
use Rattle.lerc_encode.specs.inside.Coded.{symbols_of}
use Rattle.lerc_encode.proofs.SymbolForms.{all_bytes, bytes_from}

pub all_is : (r : Pixels) → deltas_of_all r ≡ all_deltas r
unfolding all_deltas
all_is r = refl

-- the words of the first symbols fit where those of all do
pub front_fits : (codes other : List (List Bool)) (all piece : List ℕ) (before next room : ℕ) → codes ≡ other → take next all ≡ take before all ++ piece → room ≡ written_size other all → written_size codes (take before all ++ piece) ≤ room
front_fits codes other all piece before next room is more size =
    let within = joined_within codes all next in
    let same : written_size codes (take before all ++ piece) ≡ written_size codes (take next all) = ap (written_size codes) (sym more) in
    let whole : room ≡ written_size codes all = size ∙ ap (λ (cs : List (List Bool)). written_size cs all) (sym is) in
    omega (arith, within, same, whole)

pub whole_size : (codes other : List (List Bool)) (all : List ℕ) (room old : ℕ) → codes ≡ other → room ≡ old → old ≡ written_size other all → room ≡ written_size codes all
whole_size codes other all room old is same size = same ∙ size ∙ ap (λ (cs : List (List Bool)). written_size cs all) (sym is)

-- symbols are bytes
pub symbols_low : (mode : SymbolMode) (r : Pixels) → IsRaster r → AreBytes (symbols_of mode r)
symbols_low Deltas r sound = all_bytes r sound
symbols_low Plain r sound = bytes_from (plain r) (plain_low r (plain r) sound refl).1
