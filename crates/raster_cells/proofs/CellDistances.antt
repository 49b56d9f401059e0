-- The distances of values that stand as their bytes.
use Rattle.std.proofs.Common.{[], ℕ, ◌+◌, ◌*◌, ◌<◌, ◌≤◌, suc, arith, ◌≡◌, length, ap, subst, get_or, drop, sym, ◌∙◌, ◌∷◌, map}
use Rattle.std.proofs.Math.Nat.{mul-le-mul_right}
use Rattle.std.specs.Prelude.{pos, min, max, ℤ}
use Rattle.std.specs.Int.{int_min, int_max}
use Rattle.std.proofs.lemmas.Int.{ints, clamps}
use Rattle.std.specs.List.{range_with_len}
use Rattle.byteorder.specs.Endian.{little_number}
use Rattle.lane_kernels.specs.Kernels.{IsLeast, IsGreatest}
use Rattle.raster_cells.specs.declared.values.cell_bytes.CellBytes.TheInside.{Inside}
use Rattle.raster_cells.specs.CellList.{CellList, values_in}
use Rattle.raster_cells.specs.declared.kind.PixelType.{PixelType}
use Rattle.raster_cells.specs.PixelType.{bytes_of, value_of, InRange}
use Rattle.raster_cells.specs.LentBytes.{AreHeld}
use Rattle.raster_cells.specs.Distance.{distance_of, value_above}
use Rattle.raster_cells.proofs.CellRuns.{length-values_in}
use Rattle.raster_cells.proofs.Spelled.{value_in-at}
use Rattle.raster_cells.specs.Runs.{AreEnds}
use Rattle.raster_cells.proofs.Distances.{value_back}
use Rattle.raster_cells.proofs.Ranges.{least_of_one, greatest_of_one, least_pushed, greatest_pushed}

pub place_below : {count depth d size : ℕ} (first : ℕ) → 0 < count → d < depth → (first + count) * depth ≤ size → first * depth + d < size
place_below {count} {depth} first some deep within =
    let up : suc first * depth ≤ (first + count) * depth = mul-le-mul_right depth (omega arith) in
    omega (arith, up)

-- the values that the bytes stand for
abbrev pub held : Inside → CellList
held a = record { kind = a.kind; values = values_in a.kind a.count a.bytes.now }

-- they are no more than a raster has
pub few_there : (a : Inside) (l : CellList) → AreHeld a.kind a.count a.bytes.now → held a ≡ l → length l.values ≤ 16777216
few_there a l h seen = subst (λ (c : CellList). length c.values ≤ 16777216) seen (omega (arith, h.counted, h.few))

-- the bytes of a value lie within those of all
pub bytes_within : (a : Inside) (l : CellList) (kind : PixelType) (at : ℕ) → AreHeld a.kind a.count a.bytes.now → held a ≡ l → kind ≡ l.kind → at < length l.values
    → at * bytes_of kind + bytes_of kind ≤ length a.bytes.now
bytes_within a l kind at h seen is below =
    subst (λ (c : CellList). kind ≡ c.kind → at < length c.values → at * bytes_of kind + bytes_of kind ≤ length a.bytes.now) seen
    (λ e less.
    let up : (at + 1) * bytes_of kind ≤ a.count * bytes_of kind = mul-le-mul_right (bytes_of kind) (omega (arith, less, h.counted)) in
    omega (arith, up, h.size, ap (λ (k : PixelType). a.count * bytes_of k) e)) is below

-- the distance of the value that they stand for
pub distance_there : (a : Inside) (l : CellList) (kind : PixelType) (at : ℕ) → held a ≡ l → kind ≡ l.kind → at < length l.values
    → distance_of kind (value_of kind (little_number (bytes_of kind) (drop (at * bytes_of kind) a.bytes.now))) ≡ distance_of l.kind (get_or l.values at (pos 0))
distance_there a l kind at seen is below =
    subst (λ (c : CellList). kind ≡ c.kind → at < length c.values → distance_of kind (value_of kind (little_number (bytes_of kind) (drop (at * bytes_of kind) a.bytes.now))) ≡ distance_of c.kind (get_or c.values at (pos 0))) seen
    (λ e less.
    ap (λ (k : PixelType). distance_of k (value_of k (little_number (bytes_of k) (drop (at * bytes_of k) a.bytes.now)))) e
    ∙ ap (distance_of a.kind) (sym (value_in-at a.kind a.count a.bytes.now at (omega (arith, less, length-values_in a.kind a.count a.bytes.now))))) is below

-- they are values of the type
pub value_fits : (a : Inside) (l : CellList) (at : ℕ) → AreHeld a.kind a.count a.bytes.now → held a ≡ l → at < length l.values → InRange l.kind (get_or l.values at (pos 0))
value_fits a l at h seen below = subst (λ (c : CellList). at < length c.values → InRange c.kind (get_or c.values at (pos 0))) seen (λ less. h.in_range at (pos 0) less) below

-- ---- the ends of values read one by one

above_least : (kind : PixelType) (m n : ℕ) → value_above kind (min m n) ≡ int_min (value_above kind m) (value_above kind n)
above_least kind m n = omega (arith, ints, clamps)

above_greatest : (kind : PixelType) (m n : ℕ) → value_above kind (max m n) ≡ int_max (value_above kind m) (value_above kind n)
above_greatest kind m n = omega (arith, ints, clamps)

pub ends_of_one : (kind : PixelType) (v : ℤ) (n : ℕ) → InRange kind v → n ≡ distance_of kind v → AreEnds kind (v ∷ []) n n
ends_of_one kind v n h is =
    let back : value_above kind n ≡ v = ap (value_above kind) is ∙ value_back kind v h in
    record { least = subst (IsLeast (v ∷ [])) (sym back) (least_of_one v); greatest = subst (IsGreatest (v ∷ [])) (sym back) (greatest_of_one v) }

pub ends_pushed : (kind : PixelType) (f : ℕ → ℤ) (first i near far here lower higher : ℕ) → InRange kind (f (first + i)) → here ≡ distance_of kind (f (first + i)) → lower ≡ min near here → higher ≡ max far here
    → AreEnds kind (map f (range_with_len first i)) near far → AreEnds kind (map f (range_with_len first (i + 1))) lower higher
ends_pushed kind f first i near far here lower higher h is low high ends =
    let back : value_above kind here ≡ f (first + i) = ap (value_above kind) is ∙ value_back kind (f (first + i)) h in
    record {
      least = least_pushed f first i (value_above kind near) (value_above kind lower) (value_above kind here) (ap (value_above kind) low ∙ above_least kind near here) back ends.least;
      greatest = greatest_pushed f first i (value_above kind far) (value_above kind higher) (value_above kind here) (ap (value_above kind) high ∙ above_greatest kind far here) back ends.greatest;
    }
