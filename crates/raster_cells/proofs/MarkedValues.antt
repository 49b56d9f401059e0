-- The values of numbered pixels, 0 of those that are not marked.
use Rattle.std.proofs.Common.{◌≡◌, ℕ, ◌+◌, ◌-◌, ◌<◌, ◌≤◌, List, ◌++◌, length, get_or, take, drop, sym, ap, ◌∙◌, arith, ⊎_elim, ◌*◌, Bool}
use Rattle.std.specs.Prelude.{ℤ, pos}
use Rattle.std.proofs.lemmas.Bool.{cases_lt}
use Rattle.std.proofs.Math.Nat.{mul-le-mul_right}
use borrow.Rule.Slice.PartMut.{put_mid}
use Rattle.raster_cells.proofs.CellRuns.{with_run}
use Rattle.raster_cells.proofs.WholeRuns.{put_whole, with_run_at, with_run_before}
use Rattle.raster_cells.proofs.PixelSteps.{pixel_room}

-- a piece more of what numbers say
pub read_piece : (f : ℕ → ℤ) (k next : ℕ) (out piece : List ℤ) → k ≤ next → next ≤ length out → length piece ≡ next - k → ((j : ℕ) → j < next - k → get_or piece j (pos 0) ≡ f (k + j))
    → ((i : ℕ) → i < k → get_or out i (pos 0) ≡ f i) → (i : ℕ) → i < next → get_or (put_mid k (next - k) out piece) i (pos 0) ≡ f i
read_piece f k next out piece order fits long here before i less =
    let within : k + length piece ≤ length out = omega (arith, long, order, fits) in
    let laid : put_mid k (next - k) out piece ≡ with_run out k piece = put_whole k next out piece order fits long ∙ ap (λ m. take k out ++ (piece ++ drop m out)) (let e : next ≡ k + length piece = omega (arith, long, order) in e) in
    ap (λ xs. get_or xs i (pos 0)) laid
    ∙ ⊎_elim
    (λ (lt : i < k). with_run_before out piece k i within lt ∙ before i lt)
    (λ (ge : k ≤ i).
    let j = i - k in
    let at : k + j ≡ i = omega (arith, ge) in
    let below : j < next - k = omega (arith, less, ge) in
    ap (λ n. get_or (with_run out k piece) n (pos 0)) (sym at) ∙ with_run_at out piece k j within (omega (arith, below, long)) ∙ here j below ∙ ap f at)
    (cases_lt i k)

-- the values of the pixels are there
pub values_there : (marks : List Bool) (values : List ℤ) (place n depth : ℕ) → length values ≡ length marks * depth → place + n ≤ length marks → (place + n) * depth ≤ length values
values_there marks values place n depth size within =
    let up : (place + n) * depth ≤ length marks * depth = mul-le-mul_right depth within in
    omega (arith, up, size)

pub value_there : {i n depth d : ℕ} (marks : List Bool) (values : List ℤ) (place : ℕ) → length values ≡ length marks * depth → place + n ≤ length marks → d < depth → i < n → (place + i) * depth + d < length values
value_there {i} {n} {depth} marks values place size within deep less =
    (pixel_room {i = i} {n = n} {depth = depth} place less deep (values_there marks values place n depth size within)).0
