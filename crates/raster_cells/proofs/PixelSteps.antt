-- The loops over the values of pixels and over runs of marked ones.
use Rattle.std.proofs.Common.{ℕ, ◌+◌, ◌*◌, ◌<◌, ◌≤◌, suc, arith, ◌≡◌, ◌≢◌, List, length, get_or, set, sym, ap, ◌∙◌, ⊎_elim}
use Rattle.std.proofs.Math.Nat.{mul-le-mul_left, mul-le-mul_right}
use Rattle.std.specs.Prelude.{ℤ, pos}
use Rattle.std.proofs.lemmas.List.{get_or-set_same, get_or-set_other}
use Rattle.std.proofs.lemmas.Bool.{cases_eq, cases_lt}
use Rattle.std.proofs.lemmas.Nat.{same_from_place}
use Rattle.raster_cells.specs.Ordered.{PutsPixels, FillsPixels}
use Rattle.raster_cells.proofs.CellRuns.{with_run}
use Rattle.raster_cells.proofs.WholeRuns.{with_run_at, with_run_before, with_run_after}

-- ---- pixel by pixel

-- the values of the first pixels lie within the list
pub pixel_room : {i n depth d size : ℕ} (first : ℕ) → i < n → d < depth → (first + n) * depth ≤ size → ((first + i) * depth + d < size) × (first + i ≤ size)
pixel_room {i} {n} {depth} first below less within =
    let up : suc (first + i) * depth ≤ (first + n) * depth = mul-le-mul_right depth (omega arith) in
    let wide : (first + n) * 1 ≤ (first + n) * depth = mul-le-mul_left (first + n) (omega arith) in
    (omega (arith, up), omega (arith, wide))

pub pixels_more : (depth d first n : ℕ) (input old vs : List ℤ) (x : ℤ) → d < depth → (first + n) * depth + d < length vs → x ≡ get_or input n (pos 0)
    → PutsPixels depth d first n input old vs → PutsPixels depth d first (n + 1) input old (set vs ((first + n) * depth + d) x)
pixels_more depth d first n input old vs x below within is h = record {
  put = λ i less.
      ⊎_elim
      (λ (same : i ≡ n).
      ap (λ j. get_or (set vs ((first + n) * depth + d) x) ((first + j) * depth + d) (pos 0)) same ∙ get_or-set_same vs ((first + n) * depth + d) x (pos 0) within ∙ is ∙ ap (λ j. get_or input j (pos 0)) (sym same))
      (λ (ne : i ≢ n).
      get_or-set_other vs ((first + n) * depth + d) ((first + i) * depth + d) x (pos 0)
      (λ e. let at : first + i ≡ first + n = (same_from_place (first + i) d (first + n) d depth below below e).0 in ne (omega arith))
      ∙ h.put i (omega arith))
      (cases_eq i n);
  rest = λ k e less out.
      get_or-set_other vs ((first + n) * depth + d) (k * depth + e) x (pos 0)
      (λ same. let at = same_from_place k e (first + n) d depth less below same in
      let here : k ≡ first + n = at.0 in
      out (omega arith) (omega arith) at.1)
      ∙ h.rest k e less (λ lo hi depth_is. out lo (omega arith) depth_is);
}

-- a run of values is put pixel by pixel where a pixel has one value
pub run_puts : (d first : ℕ) (run vs : List ℤ) → d < 1 → first + length run ≤ length vs
    → PutsPixels 1 d first (length run) run vs (with_run vs first run)
run_puts d first run vs deep within =
    let new = with_run vs first run in
    record {
      put = λ i less.
          ap (λ j. get_or new j (pos 0)) (let e : (first + i) * 1 + d ≡ first + i = omega arith in e)
          ∙ with_run_at vs run first i within less;
      rest = λ k e small out.
          ⊎_elim
          (λ (lt : k * 1 + e < first). with_run_before vs run first (k * 1 + e) within lt)
          (λ (ge : first ≤ k * 1 + e). ⊎_elim
          (λ (in_run : k * 1 + e < first + length run).
          absurd (out (omega arith) (omega arith) (omega arith)))
          (λ (past : first + length run ≤ k * 1 + e).
          with_run_after vs run first (k * 1 + e) within past)
          (cases_lt (k * 1 + e) (first + length run)))
          (cases_lt (k * 1 + e) first);
    }

pub fills_one_more : (first n : ℕ) (pixel old vs : List ℤ) → (first + n) * length pixel + length pixel ≤ length vs
    → FillsPixels first n pixel old vs → FillsPixels first (n + 1) pixel old (with_run vs ((first + n) * length pixel) pixel)
fills_one_more first n pixel old vs within h =
    let deep = length pixel in
    let at = first + n in
    let new = with_run vs (at * deep) pixel in
    let before : (k d : ℕ) → k < at → d < deep → get_or new (k * deep + d) (pos 0) ≡ get_or vs (k * deep + d) (pos 0) = λ k d lt less.
    (let some : suc k * deep ≤ at * deep = mul-le-mul_right deep (omega arith) in with_run_before vs pixel (at * deep) (k * deep + d) within (omega arith)) in
    let after : (k d : ℕ) → at < k → d < deep → get_or new (k * deep + d) (pos 0) ≡ get_or vs (k * deep + d) (pos 0) = λ k d gt less.
    (let some : suc at * deep ≤ k * deep = mul-le-mul_right deep (omega arith) in with_run_after vs pixel (at * deep) (k * deep + d) within (omega arith)) in
    record {
      each = λ k d low high less.
          ⊎_elim
          (λ (is : k ≡ at). ap (λ j. get_or new (j * deep + d) (pos 0)) is ∙ with_run_at vs pixel (at * deep) d within less)
          (λ (ne : k ≢ at). before k d (omega arith) less ∙ h.each k d low (omega arith) less)
          (cases_eq k at);
      rest = λ k d less out.
          ⊎_elim
          (λ (lt : k < at). before k d lt less ∙ h.rest k d less (λ low high. out low (omega arith)))
          (λ (ge : at ≤ k). ⊎_elim
          (λ (is : k ≡ at). absurd (out (omega arith) (omega arith)))
          (λ (ne : k ≢ at). after k d (omega arith) less ∙ h.rest k d less (λ low high. absurd (let no : ⊥ = omega arith in no)))
          (cases_eq k at))
          (cases_lt k at);
    }
