-- A raster laid into a layer, and the raster of its means.
use Rattle.std.proofs.Common.{◌≡◌, ℕ, ℤ, ◌*◌, ◌<◌, List, length, map, ap, sym, subst, ◌∙◌}
use Rattle.std.proofs.lemmas.List.{map-id}
use Rattle.raster_cells.specs.declared.kind.PixelType.{PixelType}
use Rattle.raster_values.specs.Raster.{Pixels, IsRaster, blank}
use Rattle.overview_tiles.specs.declared.layer.Frame.{Frame}
use Rattle.overview_tiles.specs.Sums.{Sums}
use Rattle.overview_tiles.specs.inside.Lays.{LaysAll, LaysMarks, LaysValues}
use Rattle.overview_tiles.specs.inside.Means.{Counted, Fills, HasMeans}
use Rattle.overview_tiles.proofs.Filling.{has_means}

pub laid_all : (f : Frame) (r : Pixels) (old new : Sums) (counts0 counts1 : List ℕ) (sums0 sums1 : List ℤ) → old.counts ≡ counts0 → old.sums ≡ sums0 → new.counts ≡ counts1 → new.sums ≡ sums1
    → length counts1 ≡ length counts0 → length sums1 ≡ length sums0 → LaysMarks f r 0 (r.rows * r.cols) counts0 counts1
    → LaysValues f r 0 (r.rows * r.cols) (r.rows * r.cols) (map (λ (z : ℤ). z) sums0) (map (λ (z : ℤ). z) sums1) → LaysAll f r old new
laid_all f r old new counts0 counts1 sums0 sums1 oc os nc ns count_size sum_size marks values =
    let n = r.rows * r.cols in
    let plain : LaysValues f r 0 n n sums0 sums1 = subst (λ (xs : List ℤ). LaysValues f r 0 n n xs sums1) (map-id sums0) (subst (λ (xs : List ℤ). LaysValues f r 0 n n (map (λ (z : ℤ). z) sums0) xs) (map-id sums1) values) in
    record {
      counts = subst (λ (xs : List ℕ). LaysMarks f r 0 n xs new.counts) (sym oc) (subst (λ (xs : List ℕ). LaysMarks f r 0 n counts0 xs) (sym nc) marks);
      sums = subst (λ (xs : List ℤ). LaysValues f r 0 n n xs new.sums) (sym os) (subst (λ (xs : List ℤ). LaysValues f r 0 n n sums0 xs) (sym ns) plain);
      count_size = ap length nc ∙ count_size ∙ sym (ap length oc);
      sum_size = ap length ns ∙ sum_size ∙ sym (ap length os);
    }

pub means_of : (kind : PixelType) (rows cols depth : ℕ) (s : Sums) (counts : List ℕ) (sums : List ℤ) (r1 r2 r3 : Pixels) → s.counts ≡ counts → s.sums ≡ sums → r3 ≡ r2 → 0 < cols → IsRaster r2 → length s.counts ≡ rows * cols
    → Counted counts (blank kind rows cols depth) r1 → Fills counts (map (λ (z : ℤ). z) sums) 0 (r1.rows * r1.cols) r1 r2 → HasMeans kind rows cols depth s r3
means_of kind rows cols depth s counts sums r1 r2 r3 cs ss is hc sound size counted filled =
    let n = r1.rows * r1.cols in
    let plain : Fills s.counts s.sums 0 n r1 r2 = subst (λ (xs : List ℕ). Fills xs s.sums 0 n r1 r2) (sym cs) (subst (λ (xs : List ℤ). Fills counts xs 0 n r1 r2) (sym ss) (subst (λ (xs : List ℤ). Fills counts xs 0 n r1 r2) (map-id sums) filled)) in
    let there : Counted s.counts (blank kind rows cols depth) r1 = subst (λ (xs : List ℕ). Counted xs (blank kind rows cols depth) r1) (sym cs) counted in
    subst (HasMeans kind rows cols depth s) (sym is) (has_means kind rows cols depth s r1 r2 hc sound size there plain)
