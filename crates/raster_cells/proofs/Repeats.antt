-- Pixels filled by copies of those that were filled before.
use Rattle.std.proofs.Common.{ℕ, ◌+◌, List, ◌++◌, take, drop, ◌≡◌, ◌≤◌, length, arith, sym, ap, ◌∙◌, subst, ◌*◌, refl, ◌-◌, ◌<◌, suc, get_or, ⊎_elim, min}
use Rattle.std.specs.Prelude.{ℤ, All, pos}
use Rattle.std.proofs.lemmas.List.{length-take-le, length-drop, get_or-take, get_or-drop}
use Rattle.std.proofs.lemmas.List.Elements.{All-take, All-drop}
use Rattle.std.proofs.lemmas.Grind.{flat_map-append}
use Rattle.std.proofs.lemmas.Bool.{cases_lt}
use Rattle.std.proofs.Math.Nat.{mul-le-mul_right}
use Rattle.raster_cells.proofs.CellRuns.{with_run, length-with_run, with_run_in_range, bytes_front, bytes_behind}
use Rattle.raster_cells.specs.declared.kind.PixelType.{PixelType}
use Rattle.raster_cells.specs.PixelType.{InRange, bytes_of, value_bytes}
use Rattle.raster_cells.specs.Values.{values_bytes}
use Rattle.raster_cells.specs.Ordered.{FillsPixels}
use Rattle.raster_cells.proofs.PixelSteps.{fills_one_more}
use Rattle.raster_cells.proofs.WholeRuns.{with_run_at, with_run_before, with_run_after}

-- the values with some of them standing a second time behind
abbrev pub repeated : List ℤ → ℕ → ℕ → ℕ → List ℤ
repeated vs at to count = take to vs ++ (take count (drop at vs) ++ drop (to + count) vs)

run_long : (vs : List ℤ) (at to count : ℕ) → at + count ≤ to → to + count ≤ length vs → length (take count (drop at vs)) ≡ count
run_long vs at to count behind within = length-take-le count (drop at vs) (omega (arith, length-drop at vs))

pub repeated_run : (vs : List ℤ) (at to count : ℕ) → at + count ≤ to → to + count ≤ length vs → repeated vs at to count ≡ with_run vs to (take count (drop at vs))
repeated_run vs at to count behind within = ap (λ n. take to vs ++ (take count (drop at vs) ++ drop (to + n) vs)) (sym (run_long vs at to count behind within))

pub length-repeated : (vs : List ℤ) (at to count : ℕ) → at + count ≤ to → to + count ≤ length vs → length (repeated vs at to count) ≡ length vs
length-repeated vs at to count behind within =
    ap length (repeated_run vs at to count behind within) ∙ length-with_run vs (take count (drop at vs)) to (omega (arith, run_long vs at to count behind within))

pub repeated_in_range : (kind : PixelType) (vs : List ℤ) (at to count : ℕ) → at + count ≤ to → to + count ≤ length vs → All (InRange kind) vs → All (InRange kind) (repeated vs at to count)
repeated_in_range kind vs at to count behind within fits =
    subst (All (InRange kind)) (sym (repeated_run vs at to count behind within))
    (with_run_in_range kind vs (take count (drop at vs)) to fits (All-take (InRange kind) count (drop at vs) (All-drop (InRange kind) at vs fits)))

pub bytes_repeated : (kind : PixelType) (vs : List ℤ) (old : List ℕ) (at to count from dest n : ℕ) → at + count ≤ to → to + count ≤ length vs → old ≡ values_bytes kind vs
    → from ≡ at * bytes_of kind → dest ≡ to * bytes_of kind → n ≡ count * bytes_of kind
    → take dest old ++ (take n (drop from old) ++ drop (dest + n) old) ≡ values_bytes kind (repeated vs at to count)
bytes_repeated kind vs old at to count from dest n behind within is start there size =
    let s = bytes_of kind in
    let all = values_bytes kind vs in
    let run = take count (drop at vs) in
    let end : dest + n ≡ (to + count) * s = omega (arith, there, size) in
    ap (λ xs. take dest xs ++ (take n (drop from xs) ++ drop (dest + n) xs)) is
    ∙ ap (λ m. take m all ++ (take n (drop from all) ++ drop (dest + n) all)) there
    ∙ ap (λ xs. xs ++ (take n (drop from all) ++ drop (dest + n) all)) (bytes_front kind vs to (omega arith))
    ∙ ap (λ m. values_bytes kind (take to vs) ++ (take m (drop from all) ++ drop (dest + n) all)) size
    ∙ ap (λ m. values_bytes kind (take to vs) ++ (take (count * s) (drop m all) ++ drop (dest + n) all)) start
    ∙ ap (λ xs. values_bytes kind (take to vs) ++ (take (count * s) xs ++ drop (dest + n) all)) (bytes_behind kind vs at (omega arith))
    ∙ ap (λ xs. values_bytes kind (take to vs) ++ (xs ++ drop (dest + n) all)) (bytes_front kind (drop at vs) count (omega (arith, length-drop at vs)))
    ∙ ap (λ m. values_bytes kind (take to vs) ++ (values_bytes kind run ++ drop m all)) end
    ∙ ap (λ xs. values_bytes kind (take to vs) ++ (values_bytes kind run ++ xs)) (bytes_behind kind vs (to + count) within)
    ∙ ap (λ xs. values_bytes kind (take to vs) ++ xs) (sym (flat_map-append (value_bytes kind) run (drop (to + count) vs)))
    ∙ sym (flat_map-append (value_bytes kind) (take to vs) (run ++ drop (to + count) vs))

-- ---- pixels

fills_none : (first : ℕ) (pixel old : List ℤ) → FillsPixels first 0 pixel old old
fills_none first pixel old = record {
  each = λ k d low high less. absurd (let no : ⊥ = omega arith in no);
  rest = λ k d less out. refl;
}

-- one pixel laid down
pub fills_one : (first at : ℕ) (pixel old : List ℤ) → at ≡ first * length pixel → at + length pixel ≤ length old → FillsPixels first 1 pixel old (with_run old at pixel)
fills_one first at pixel old is within =
    let there : (first + 0) * length pixel ≡ at = omega (arith, is) in
    subst (λ n. FillsPixels first 1 pixel old (with_run old n pixel)) there (fills_one_more first 0 pixel old old (omega (arith, there)) (fills_none first pixel old))

-- and then copied
pub fills_copied : (first n more at to : ℕ) (pixel old vs : List ℤ) → more ≤ n → at ≡ first * length pixel → to ≡ at + n * length pixel → to + more * length pixel ≤ length vs
    → FillsPixels first n pixel old vs → FillsPixels first (n + more) pixel old (repeated vs at to (more * length pixel))
fills_copied first n more at to pixel old vs few start there within h =
    let deep = length pixel in
    let count = more * deep in
    let up : more * deep ≤ n * deep = mul-le-mul_right deep few in
    let behind : at + count ≤ to = omega arith in
    let run = take count (drop at vs) in
    let long : length run ≡ count = run_long vs at to count behind within in
    let room : to + length run ≤ length vs = omega (arith, long) in
    let new = with_run vs to run in
    let edge : to ≡ (first + n) * deep = omega (arith, start, there) in
    let before : (k d : ℕ) → k < first + n → d < deep → get_or new (k * deep + d) (pos 0) ≡ get_or vs (k * deep + d) (pos 0) = λ k d lt less.
    (let some : suc k * deep ≤ (first + n) * deep = mul-le-mul_right deep (omega arith) in with_run_before vs run to (k * deep + d) room (omega (arith, edge))) in
    let after : (k d : ℕ) → first + (n + more) ≤ k → d < deep → get_or new (k * deep + d) (pos 0) ≡ get_or vs (k * deep + d) (pos 0) = λ k d ge less.
    (let some : (first + (n + more)) * deep ≤ k * deep = mul-le-mul_right deep ge in with_run_after vs run to (k * deep + d) room (omega (arith, edge, long))) in
    subst (FillsPixels first (n + more) pixel old) (sym (repeated_run vs at to count behind within)) (record {
      each = λ k d low high less.
          ⊎_elim
          (λ (lt : k < first + n). before k d lt less ∙ h.each k d low lt less)
          (λ (ge : first + n ≤ k).
          let j = k - (first + n) in
          let small : suc j * deep ≤ more * deep = mul-le-mul_right deep (omega arith) in
          let place : k * deep + d ≡ to + (j * deep + d) = omega (arith, edge, ap (λ m. m * deep) (let e : k ≡ first + n + j = omega arith in e)) in
          let source : at + (j * deep + d) ≡ (first + j) * deep + d = omega (arith, start) in
          ap (λ m. get_or new m (pos 0)) place ∙ with_run_at vs run to (j * deep + d) room (omega (arith, long))
          ∙ get_or-take count (drop at vs) (j * deep + d) (pos 0) (omega arith) ∙ get_or-drop at vs (j * deep + d) (pos 0)
          ∙ ap (λ m. get_or vs m (pos 0)) source ∙ h.each (first + j) d (omega arith) (omega arith) less)
          (cases_lt k (first + n));
      rest = λ k d less out.
          ⊎_elim
          (λ (lt : k < first + n). before k d lt less ∙ h.rest k d less (λ low high. out low (omega arith)))
          (λ (ge : first + n ≤ k). ⊎_elim
          (λ (lt : k < first + (n + more)). absurd (out (omega arith) lt))
          (λ (past : first + (n + more) ≤ k). after k d past less ∙ h.rest k d less (λ low high. absurd (let no : ⊥ = omega arith in no)))
          (cases_lt k (first + (n + more))))
          (cases_lt k (first + n));
    })

-- where the values that are laid down next come from, and where they go
pub record Behind (first done more count deep size : ℕ) : Type 0 where
  pub few : more ≤ done
  pub less : done + more ≤ count
  pub order : first * deep + more * deep ≤ first * deep + done * deep
  pub within : first * deep + done * deep + more * deep ≤ size

pub behind : {done count size some more : ℕ} (first deep span : ℕ) → some ≡ min done (count - done) → more ≡ min some span → done ≤ count → (first + count) * deep ≤ size
    → Behind first done more count deep size
behind {done} {count} {more} first deep span some least in_ within =
    let few : more ≤ done = omega arith in
    let less : done + more ≤ count = omega arith in
    let up : more * deep ≤ done * deep = mul-le-mul_right deep few in
    let all : (first + (done + more)) * deep ≤ (first + count) * deep = mul-le-mul_right deep (omega arith) in
    record { few = few; less = less; order = omega (arith, up); within = omega (arith, all, within) }
