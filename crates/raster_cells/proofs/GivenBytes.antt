-- Values that bytes tell, put into a raster.
use Rattle.std.proofs.Common.{◌≡◌, ℕ, pos, ◌-ℤ◌, ◌<◌, List, length, get_or, take, drop}
use Rattle.std.proofs.lemmas.List.{get_or-map, length-map}
use Rattle.raster_cells.specs.Values.{values_above}
use Rattle.raster_cells.proofs.GivenSums.{map_cut}

pub length-above : (below : ℕ) (bytes : List ℕ) → length (values_above below bytes) ≡ length bytes
length-above below bytes = length-map bytes (λ x. pos x -ℤ pos below)

pub above_at : (below : ℕ) (bytes : List ℕ) (i : ℕ) → i < length bytes → get_or (values_above below bytes) i (pos 0) ≡ pos (get_or bytes i 0) -ℤ pos below
above_at below bytes i lt = get_or-map (λ x. pos x -ℤ pos below) bytes i 0 (pos 0) lt

pub above_cut : (below : ℕ) (bytes : List ℕ) (n count : ℕ) → values_above below (take count (drop n bytes)) ≡ take count (drop n (values_above below bytes))
above_cut below bytes n count = map_cut (λ x. pos x -ℤ pos below) bytes n count
