-- Sums of any kind, each of which is a number.
use Rattle.std.proofs.Common.{◌≡◌, ℕ, ℤ, ◌+◌, ◌*◌, ◌/◌, ◌%◌, ◌<◌, List, length, get_or, map, ap, sym, subst, arith}
use Rattle.std.specs.Prelude.{pos, ◌+ℤ◌}
use Rattle.std.proofs.Math.ListN.{set}
use Rattle.std.proofs.lemmas.List.{get_or-map, length-map, map-set}
use Rattle.overview_tiles.specs.inside.Comes.{GrowsSums, IsWithin, in_row}
use Rattle.overview_tiles.proofs.Comes.{pair_first, sums_pair, sums_step}

-- the number that a sum is
pub number_at : {S : Type 0} (f : S → ℤ) (sums : List S) (k : ℕ) (e : S) → k < length sums → get_or (map f sums) k (pos 0) ≡ f (get_or sums k e)
number_at f sums k e inside = get_or-map f sums k e (pos 0) inside

pub number_within : {S : Type 0} (f : S → ℤ) (sums : List S) (bound k : ℕ) (e : S) → k < length sums → IsWithin bound (get_or (map f sums) k (pos 0)) → IsWithin bound (f (get_or sums k e))
number_within f sums bound k e inside h = subst (IsWithin bound) (number_at f sums k e inside) h

-- one amount more
pub number_step : {S : Type 0} (f : S → ℤ) (depth d : ℕ) (to : ℕ → ℕ) (a : ℕ → ℤ) (n k : ℕ) (v : S) (old new : List S) → d < depth → to n * depth + d ≡ k → k < length new → length new ≡ length old
    → f v ≡ get_or (map f new) k (pos 0) +ℤ a n → GrowsSums depth d to a n (map f old) (map f new) → GrowsSums depth d to a (n + 1) (map f old) (map f (set new k v))
number_step f depth d to a n k v old new within place below size is h =
    let wide = length-map new f in
    let was = length-map old f in
    subst (GrowsSums depth d to a (n + 1) (map f old)) (sym (map-set f new k v))
    (sums_step depth d to a n k (f v) (map f old) (map f new) within place (omega (arith, below, wide)) (omega (arith, size, wide, was)) is h)

-- and two that come to one sum
pub number_pair : {S : Type 0} (f : S → ℤ) (depth d : ℕ) (to : ℕ → ℕ) (a : ℕ → ℤ) (n k : ℕ) (v : S) (old new : List S) → d < depth → to n * depth + d ≡ k → to (n + 1) ≡ to n → k < length new
    → f v ≡ (get_or (map f new) k (pos 0) +ℤ a n) +ℤ a (n + 1) → GrowsSums depth d to a n (map f old) (map f new) → GrowsSums depth d to a (n + 2) (map f old) (map f (set new k v))
number_pair f depth d to a n k v old new within place beside below is h =
    let wide = length-map new f in
    subst (GrowsSums depth d to a (n + 2) (map f old)) (sym (map-set f new k v))
    (sums_pair depth d to a n k (f v) (map f old) (map f new) within place beside (omega (arith, below, wide)) is h)

-- the sum of two neighbouring columns is there
pub pair_room : {S : Type 0} (f : S → ℤ) (base col depth d k count : ℕ) (old new : List S) → col % 2 ≡ 0 → ((i : ℕ) → i < count → in_row base col i * depth + d < length (map f old)) → 2 * k < count → length new ≡ length old
    → (base + col / 2 + k) * depth + d < length new
pair_room f base col depth d k count old new even room less size =
    let first : in_row base col (2 * k) ≡ base + col / 2 + k = pair_first base col k even in
    let at : in_row base col (2 * k) * depth + d ≡ (base + col / 2 + k) * depth + d = ap (λ m. m * depth + d) first in
    let there = room (2 * k) less in
    let wide = length-map old f in
    omega (arith, there, at, wide, size)
