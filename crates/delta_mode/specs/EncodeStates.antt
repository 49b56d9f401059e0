-- The symbols of the differences of all depths, given piece by piece.
use Rattle.std.specs.Prelude.{ℕ, ◌≡◌, ◌+◌, ◌-◌, ◌*◌, ◌<◌, ◌≤◌, List, ◌++◌, length, take}
use Rattle.std.specs.List.{flat_map, range_with_len}
use Rattle.raster_values.specs.Raster.{Pixels, valid_count}
use Rattle.raster_values.specs.Flat.{value_in}
use Rattle.delta_mode.specs.Deltas.{deltas, deltas_from, is_valid}
use Rattle.delta_mode.specs.Symbols.{IsByteType}
use Rattle.delta_mode.specs.inside.Pieces.{rank, IsAt}
use Rattle.delta_mode.specs.declared.giving.EncodeState.{EncodeState}

-- one depth behind the other
abbrev pub deltas_of_all : Pixels → List ℕ
deltas_of_all r = flat_map (deltas r) (range_with_len 0 r.depth)

-- at a depth those of the pixels before number k
abbrev pub deltas_before : Pixels → ℕ → ℕ → List ℕ
deltas_before r d k = deltas_from r.kind r.cols (is_valid r) (value_in r d) 0 k

-- how many pixels are left to look at, each once at each depth
abbrev pub left_over : Pixels → EncodeState → ℕ
left_over r w = (r.depth - w.d) * (r.rows * r.cols) - w.place

-- what a state keeps is that of the raster in front of its place
pub record IsOn (r : Pixels) (w : EncodeState) : Type 0 where
  pub depth : w.d ≤ r.depth
  pub place : w.place < r.rows * r.cols
  pub end : w.d ≡ r.depth → w.place ≡ 0
  pub given : w.given ≡ w.d * valid_count r + rank (is_valid r) w.place
  pub at : (valid_count r ≡ r.rows * r.cols → ⊥) → IsAt (is_valid r) (value_in r w.d) w.place
      w.walk.left w.walk.last w.walk.count

-- a state of a raster of bytes that is not at its end
pub record IsBeforeEnd (r : Pixels) (w : EncodeState) : Type 0 where
  pub byte : IsByteType r.kind
  pub state : IsOn r w
  pub more : w.d < r.depth

-- the symbols in front of a list lead from a state to one that has more behind it
pub record LeadsOn (r : Pixels) (old new : EncodeState) (room front : List ℕ) : Type 0 where
  pub state : IsOn r new
  pub some : old.given ≤ new.given
  pub few : new.given ≤ old.given + length room
  pub symbols : take new.given (deltas_of_all r)
      ≡ take old.given (deltas_of_all r) ++ take (new.given - old.given) front
  pub later : left_over r new < left_over r old
