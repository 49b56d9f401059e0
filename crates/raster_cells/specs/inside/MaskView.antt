-- How bytes stand for marks.
use Rattle.std.specs.Prelude.{Bool, List, ◌≡◌, ℕ, ◌+◌, ◌/◌, ◌≤◌, false, length}
use Rattle.std.specs.List.{count_by}
use Rattle.raster_cells.specs.declared.marks.mask.Mask.TheInside.{Inside}
use Rattle.raster_cells.specs.Masks.{marks_in, mask_bit}

abbrev pub seen_mask : Inside → List Bool
seen_mask a = marks_in a.count a.bytes.items

pub record IsMask (a : Inside) : Type 0 where
  pub few : a.count ≤ 16777216
  pub size : length a.bytes.items ≡ (a.count + 7) / 8
  -- the bits behind the last pixel are 0
  pub spare : (k : ℕ) → a.count ≤ k → mask_bit a.bytes.items k ≡ false
  pub counted : a.valid ≡ count_by (λ m. m) (marks_in a.count a.bytes.items)
