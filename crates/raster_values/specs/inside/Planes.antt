-- What is read at one depth of a raster.
use Rattle.std.specs.Prelude.{ℕ, ℤ, List, map, pos, ◌+◌, ◌*◌, false, get_or, if◌then◌else◌, ◌≡◌, ◌<◌, length}
use Rattle.raster_cells.specs.Distance.{distance_of}
use Rattle.raster_values.specs.inside.Runs.{whole_rows, run_values}
use Rattle.raster_values.specs.declared.blocks.window.Plane.{Plane}
use Rattle.raster_values.specs.declared.blocks.window.Window.{Window}
use Rattle.raster_values.specs.inside.Windows.{window_values}

-- the values of the marked ones among `count` pixels from `from` on
abbrev pub plane_values : Plane → ℕ → ℕ → List ℤ
plane_values p from count = run_values p.depth p.d p.marks.now p.samples.now.values from count

-- how far each is above the least of the type
abbrev pub plane_distances : Plane → ℕ → ℕ → List ℕ
plane_distances p from count = map (distance_of p.samples.now.kind) (plane_values p from count)

-- the same of a window
abbrev pub window_distances : Plane → Window → List ℕ
window_distances p w = map (distance_of p.samples.now.kind)
    (window_values w p.depth p.d p.marks.now p.samples.now.values)

-- the same of all its pixels, marked or not
abbrev pub whole_distances : Plane → Window → List ℕ
whole_distances p w = map (distance_of p.samples.now.kind)
    (whole_rows p.depth p.d p.samples.now.values w.cols w.row w.col w.high w.wide)

-- the value of pixel k, and 0 where it is not marked
abbrev pub plane_value : Plane → ℕ → ℤ
plane_value p k = if get_or p.marks.now k false
    then get_or p.samples.now.values (k * p.depth + p.d) (pos 0) else pos 0

-- as many values as there were are those of the pixels from `place` on
pub record GetsMarked (p : Plane) (place : ℕ) (old new : List ℤ) : Type 0 where
  pub size : length new ≡ length old
  pub values : (i : ℕ) → i < length old → get_or new i (pos 0) ≡ plane_value p (place + i)
