-- Full rasters, byte by byte of a depth.
use Rattle.std.proofs.Common.{◌≡◌, ℕ, ℤ, pos, ◌+◌, ◌-◌, ◌*◌, ◌%◌, ◌<◌, ◌≤◌, Bool, true, false, cond, nat_lt, nat_le, List, get_or, refl, sym, ap, ◌∙◌, arith}
use Rattle.std.proofs.lemmas.Bool.{lt-ltb}
use Rattle.std.proofs.lemmas.List.{get_or-map}
use Rattle.std.proofs.Math.Nat.{mul-le-mul_right}
use Rattle.raster_values.specs.Raster.{Pixels, IsRaster}
use Rattle.raster_values.specs.Flat.{AllStand, all_values, value_in}
use Rattle.raster_cells.specs.Values.{values_bytes}
use Rattle.delta_mode.specs.Symbols.{IsByteType}
use Rattle.delta_mode.specs.Deltas.{predictor}
use Rattle.delta_mode.specs.inside.Bytewise.{byte_of}
use Rattle.delta_mode.specs.inside.Strided.{cell, cell_above, cell_before}
use Rattle.delta_mode.proofs.Bytewise.{bytes_map, full_predictor}

-- ---- places

-- a pixel's value at a depth has its place
pub placed : (n depth d k : ℕ) → d < depth → k < n → k * depth + d < n * depth
placed n depth d k below lt =
    let up : (k + 1) * depth ≤ n * depth = mul-le-mul_right depth (omega (arith, lt)) in
    let open_ : (k + 1) * depth ≡ k * depth + depth = omega arith in
    omega (arith, up, open_, below)

-- a raster has a row at least
pub row_within : (r : Pixels) → IsRaster r → r.cols ≤ r.rows * r.cols
row_within r sound =
    let m : 1 * r.cols ≤ r.rows * r.cols = mul-le-mul_right r.cols (let some = sound.shape.rows_above in omega (arith, some)) in
    omega (arith, m)

-- ---- the byte above

-- ---- the byte before

pub before_left : (cols : ℕ) (byte : ℕ → ℕ) (k : ℕ) → 0 < k % cols → cell_before cols byte k ≡ byte (k - 1)
before_left cols byte k some = ap (λ b. cond b (byte (k - 1)) (cell_above cols byte k)) (lt-ltb 0 (k % cols) some)

pub before_first : (cols : ℕ) (byte : ℕ → ℕ) (k : ℕ) → k % cols ≡ 0 → cell_before cols byte k ≡ cell_above cols byte k
before_first cols byte k none = ap (λ n. cond (nat_lt 0 n) (byte (k - 1)) (cell_above cols byte k)) none

-- ---- the bytes of a raster's depth

pub cell_is : (r : Pixels) (bytes : List ℕ) (d : ℕ) → AllStand r → IsByteType r.kind → d < r.depth → bytes ≡ values_bytes r.kind (all_values r)
    → (k : ℕ) → k < r.rows * r.cols → cell r.depth d bytes k ≡ byte_of (value_in r d k)
cell_is r bytes d all byte below is k lt =
    ap (λ (bs : List ℕ). get_or bs (k * r.depth + d) 0) (is ∙ bytes_map r.kind (all_values r) byte)
    ∙ get_or-map byte_of (all_values r) (k * r.depth + d) (pos 0) 0 (let in_ = placed (r.rows * r.cols) r.depth d k below lt in let size = all.size in omega (arith, size, in_))
    ∙ ap byte_of (all.each k d lt below)

-- the byte before each is that of its predictor
pub before_is : (cols : ℕ) (valid : ℕ → Bool) (value : ℕ → ℤ) (byte : ℕ → ℕ) (n k : ℕ) → 0 < cols → ((j : ℕ) → j < n → valid j ≡ true) → ((j : ℕ) → j < n → byte j ≡ byte_of (value j)) → k < n
    → cell_before cols byte k ≡ byte_of (predictor cols valid value k)
before_is cols valid value byte n k some each cells lt =
    by (nat_lt 0 (k % cols)) (nat_le cols k)
    ∙ ap byte_of (sym (full_predictor cols valid value n k some each lt))
  where
    by : (a b : Bool) → cond a (byte (k - 1)) (cond b (byte (k - cols)) 0) ≡ byte_of (cond a (value (k - 1)) (cond b (value (k - cols)) (pos 0)))
    by true b = cells (k - 1) (omega (arith, lt))
    by false true = cells (k - cols) (omega (arith, lt))
    by false false = refl
