-- The plain symbols, given piece by piece.
use Rattle.std.specs.Prelude.{ℕ, ◌≡◌, ◌*◌, ◌≤◌, List, map, take}
use Rattle.raster_values.specs.Raster.{Pixels, values_of}
use Rattle.delta_mode.specs.Symbols.{symbol_of}
use Rattle.delta_mode.specs.Deltas.{is_valid}
use Rattle.delta_mode.specs.inside.Pieces.{rank}
use Rattle.delta_mode.specs.declared.giving_plain.PlainState.{PlainState}

-- those of the pixels before number k
abbrev pub plain_before : Pixels → ℕ → List ℕ
plain_before r k = map (symbol_of r.kind) (values_of (take k r.pixels))

-- as many are given as the pixels in front of the place have
pub record IsOnPlain (r : Pixels) (w : PlainState) : Type 0 where
  pub place : w.place ≤ r.rows * r.cols
  pub given : w.given ≡ rank (is_valid r) w.place * r.depth
