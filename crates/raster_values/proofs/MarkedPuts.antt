-- Values put at marked pixels, by the bits of their marks.
use Rattle.std.proofs.Common.{ℕ, Bool, List, refl, arith, ◌≡◌, ◌+◌, ◌<◌, ◌≤◌, false, get_or, sym, ◌∙◌, true, ◌≢◌, ◌*◌, cond, length, set, ap, ⊎_elim, ◌-◌, take, drop}
use Rattle.std.specs.Prelude.{ℤ, pos}
use Rattle.std.proofs.lemmas.Bool.{false≢true, cases_eq, cases_lt}
use Rattle.std.proofs.lemmas.List.{get_or-set_same, get_or-set_other, get_or-take, get_or-drop}
use Rattle.std.proofs.lemmas.Nat.{same_from_place}
use Rattle.raster_cells.specs.Ordered.{PutsPixels}
use Rattle.raster_values.specs.Ordered.{PutsMarked}

pub puts_none : (depth d : ℕ) (marks : List Bool) (place : ℕ) (input old : List ℤ) → PutsMarked depth d marks place 0 input old old
puts_none depth d marks place input old = record {
  put = λ i less on. absurd (let no : ⊥ = omega (arith, less) in no);
  rest = λ k e less out. refl;
}

pub puts_unmarked : (depth d : ℕ) (marks : List Bool) (place n : ℕ) (input old : List ℤ) → ((k : ℕ) → place ≤ k → k < place + n → get_or marks k false ≡ false) → PutsMarked depth d marks place n input old old
puts_unmarked depth d marks place n input old off = record {
  put = λ i less on. absurd (false≢true (sym (off (place + i) (omega arith) (omega (arith, less))) ∙ on));
  rest = λ k e less out. refl;
}

pub puts_marked : (depth d : ℕ) (marks : List Bool) (place n : ℕ) (input old new : List ℤ) → ((k : ℕ) → place ≤ k → k < place + n → get_or marks k false ≡ true) → PutsPixels depth d place n input old new
    → PutsMarked depth d marks place n input old new
puts_marked depth d marks place n input old new all puts = record {
  put = λ i less on. puts.put i less;
  rest = λ k e less out. puts.rest k e less (λ lo hi is. out lo hi (all k lo hi) is);
}

-- one pixel more, which has a value of the input where it is marked, and else what stood there
pub puts_pixel : (depth d : ℕ) (marks : List Bool) (place i : ℕ) (input first old new : List ℤ) (b : Bool) → get_or marks (place + i) false ≡ b → d < depth → (place + i) * depth + d < length old
    → new ≡ cond b (set old ((place + i) * depth + d) (get_or input i (pos 0))) old → PutsMarked depth d marks place i input first old → PutsMarked depth d marks place (i + 1) input first new
puts_pixel depth d marks place i input first old new true mark deep inside is h =
    let at = (place + i) * depth + d in
    let x = get_or input i (pos 0) in
    record {
      put = λ j less on.
          ap (λ xs. get_or xs ((place + j) * depth + d) (pos 0)) is
          ∙ ⊎_elim
          (λ (same : j ≡ i). ap (λ m. get_or (set old at x) ((place + m) * depth + d) (pos 0)) same ∙ get_or-set_same old at x (pos 0) inside ∙ ap (λ m. get_or input m (pos 0)) (sym same))
          (λ (ne : j ≢ i).
          get_or-set_other old at ((place + j) * depth + d) x (pos 0) (λ e. let here : place + j ≡ place + i = (same_from_place (place + j) d (place + i) d depth deep deep e).0 in ne (omega (arith, here)))
          ∙ h.put j (omega (arith, less, ne)) on)
          (cases_eq j i);
      rest = λ k e less out.
          ap (λ xs. get_or xs (k * depth + e) (pos 0)) is
          ∙ get_or-set_other old at (k * depth + e) x (pos 0)
          (λ same. let here = same_from_place k e (place + i) d depth less deep same in
          let row : k ≡ place + i = here.0 in
          out (omega (arith, row)) (omega (arith, row)) (ap (λ j. get_or marks j false) row ∙ mark) here.1)
          ∙ h.rest k e less (λ lo hi on deep_is. out lo (omega (arith, hi)) on deep_is);
    }
puts_pixel depth d marks place i input first old new false mark deep inside is h = record {
  put = λ j less on.
      ap (λ xs. get_or xs ((place + j) * depth + d) (pos 0)) is
      ∙ ⊎_elim
      (λ (same : j ≡ i). absurd (false≢true (sym mark ∙ ap (λ m. get_or marks (place + m) false) (sym same) ∙ on)))
      (λ (ne : j ≢ i). h.put j (omega (arith, less, ne)) on)
      (cases_eq j i);
  rest = λ k e less out. ap (λ xs. get_or xs (k * depth + e) (pos 0)) is ∙ h.rest k e less (λ lo hi on deep_is. out lo (omega (arith, hi)) on deep_is);
}

-- a piece of the input more
pub puts_join : (depth d : ℕ) (marks : List Bool) (place k next : ℕ) (input first old new : List ℤ) → d < depth → k ≤ next → next ≤ length input → PutsMarked depth d marks (place + k) (next - k) (take (next - k) (drop k input)) old new
    → PutsMarked depth d marks place k input first old → PutsMarked depth d marks place next input first new
puts_join depth d marks place k next input first old new deep order within g h = record {
  put = λ i less on.
      ⊎_elim
      (λ (lt : i < k). g.rest (place + i) d deep (λ lo hi valid is. absurd (let no : ⊥ = omega (arith, lo, lt) in no)) ∙ h.put i lt on)
      (λ (ge : k ≤ i).
      let j = i - k in
      let at : place + k + j ≡ place + i = omega (arith, ge) in
      let small : j < next - k = omega (arith, less, ge) in
      ap (λ x. get_or new (x * depth + d) (pos 0)) (sym at) ∙ g.put j small (ap (λ x. get_or marks x false) at ∙ on) ∙ get_or-take (next - k) (drop k input) j (pos 0) small ∙ get_or-drop k input j (pos 0)
      ∙ ap (λ x. get_or input x (pos 0)) (let e : k + j ≡ i = omega (arith, ge) in e))
      (cases_lt i k);
  rest = λ x e less out.
      g.rest x e less (λ lo hi valid is. out (omega (arith, lo)) (omega (arith, hi, order)) valid is) ∙ h.rest x e less (λ lo hi valid is. out lo (omega (arith, hi, order)) valid is);
}
