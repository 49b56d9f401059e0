-- Marks, and what stands at each moment by them.
use Rattle.std.proofs.Common.{◌≡◌, ℕ, zero, suc, ◌+◌, ◌<◌, ◌≤◌, List, [], ◌∷◌, ◌++◌, length, replicate, slice_index, cond, refl, sym, ap, subst, ◌∙◌, inl, inr, arith, nat_le, append_assoc, length-append}
use Rattle.std.proofs.lemmas.Bool.{cases_lt}
use Rattle.std.proofs.lemmas.Bool.Decides.{nat_tests}
use Rattle.std.proofs.lemmas.List.{append-nil, length-replicate, places}
use Rattle.std.proofs.lemmas.List.Sums.{sum_by-append, sum_by-cons}
use Rattle.bundle_store.specs.declared.tile_rec.TileRec.{TileRec}
use Rattle.bundle_lines.specs.Puts.{AreGroups, AreMarks, AreWhole, InRuns, IsNextGroup, marked}

marked_end : (marks : List ℕ) (mark t : ℕ) → marked (marks ++ mark ∷ []) t ≡ marked marks t + cond (nat_le mark t) 1 0
marked_end marks mark t = sum_by-append (λ m. cond (nat_le m t) 1 0) marks (mark ∷ []) ∙ (let e : marked marks t + (0 + cond (nat_le mark t) 1 0) ≡ marked marks t + cond (nat_le mark t) 1 0 = omega arith in e)

marked_front : (m : ℕ) (marks : List ℕ) (t : ℕ) → marked (m ∷ marks) t ≡ cond (nat_le m t) 1 0 + marked marks t
marked_front m marks t = sum_by-cons (λ x. cond (nat_le x t) 1 0) m marks

-- a moment before the newest mark has the marks that it had
pub marked_before : (marks : List ℕ) (mark t : ℕ) → t < mark → marked (marks ++ mark ∷ []) t ≡ marked marks t
marked_before marks mark t below = grind (arith, nat_tests, marked_end marks mark t)

-- a moment that is not before any mark has them all
pub marked_all : (marks : List ℕ) (t : ℕ) → ((i : ℕ) → i < length marks → slice_index marks i ≤ t) → marked marks t ≡ length marks
marked_all [] t by = refl
marked_all (m ∷ marks) t by =
    let here : m ≤ t = by 0 (omega arith) in
    let rest : marked marks t ≡ length marks = marked_all marks t (λ i less. by (suc i) (omega (arith, less))) in
    grind (arith, nat_tests, marked_front m marks t)

-- a moment before all marks has none
pub marked_none : (marks : List ℕ) (from t : ℕ) → ((i : ℕ) → i < length marks → from ≤ slice_index marks i) → t < from → marked marks t ≡ 0
marked_none [] from t all before = refl
marked_none (m ∷ marks) from t all before =
    let here : from ≤ m = all 0 (omega arith) in
    let rest : marked marks t ≡ 0 = marked_none marks from t (λ i less. all (suc i) (omega (arith, less))) before in
    grind (arith, nat_tests, marked_front m marks t)

index_front : (xs : List ℕ) (y i : ℕ) → i < length xs → slice_index (xs ++ y ∷ []) i ≡ slice_index xs i
index_front xs y i less = grind (arith, places)

index_end : (xs : List ℕ) (y i : ℕ) → i ≡ length xs → slice_index (xs ++ y ∷ []) i ≡ y
index_end xs y i is = grind (arith, places)

pub no_marks : (from to : ℕ) → AreMarks [] from to
no_marks from to = record { rising = λ i j le less. absurd (omega (arith, less)); within = λ i less. absurd (omega (arith, less)) }

pub marks_later : (marks : List ℕ) (from mid to : ℕ) → mid ≤ to → AreMarks marks from mid → AreMarks marks from to
marks_later marks from mid to le are = record {
  rising = are.rising;
  within = λ i less. let is = are.within i less in (is.0, omega (arith, is.1, le));
}

-- one mark more, the moment
pub marks_more : (marks : List ℕ) (from mid to : ℕ) → from ≤ mid → mid ≤ to → AreMarks marks from mid → AreMarks (marks ++ to ∷ []) from to
marks_more marks from mid to start le are =
    let size : length (marks ++ to ∷ []) ≡ length marks + 1 = length-append marks (to ∷ []) in
    let at : (i : ℕ) → i < length marks → slice_index (marks ++ to ∷ []) i ≡ slice_index marks i = index_front marks to in
    record {
      rising = λ i j order less. elim (cases_lt j (length marks)) [
        | inl before ↦ omega (arith, at i (omega (arith, order, before)), at j before, are.rising i j order before)
        | inr last ↦ (let e : slice_index (marks ++ to ∷ []) j ≡ to = index_end marks to j (omega (arith, last, less, size)) in elim (cases_lt i (length marks)) [
          | inl low ↦ omega (arith, e, at i low, (are.within i low).1, le)
          | inr also ↦ omega (arith, e, index_end marks to i (omega (arith, also, order, less, size)))
        ])
      ];
      within = λ i less. elim (cases_lt i (length marks)) [
        | inl low ↦ (let is = are.within i low in (omega (arith, at i low, is.0), omega (arith, at i low, is.1, le)))
        | inr last ↦ (let e : slice_index (marks ++ to ∷ []) i ≡ to = index_end marks to i (omega (arith, last, less, size)) in (omega (arith, e, start, le), omega (arith, e)))
      ];
    }

-- ---- a group of marks more

-- one mark more, and then the others of its group
one_then : (marks : List ℕ) (n mark : ℕ) → marks ++ replicate (suc n) mark ≡ (marks ++ mark ∷ []) ++ replicate n mark
one_then marks n mark = sym (append_assoc marks (mark ∷ []) (replicate n mark))

pub marked_before_all : (marks : List ℕ) (n mark t : ℕ) → t < mark → marked (marks ++ replicate n mark) t ≡ marked marks t
marked_before_all marks zero mark t below = ap (λ (x : List ℕ). marked x t) (append-nil marks)
marked_before_all marks (suc n) mark t below =
    ap (λ (x : List ℕ). marked x t) (one_then marks n mark) ∙ marked_before_all (marks ++ mark ∷ []) n mark t below ∙ marked_before marks mark t below

marks_all : (marks : List ℕ) (n from to : ℕ) → from ≤ to → AreMarks marks from to → AreMarks (marks ++ replicate n to) from to
marks_all marks zero from to le are = subst (λ (x : List ℕ). AreMarks x from to) (sym (append-nil marks)) are
marks_all marks (suc n) from to le are =
    subst (λ (x : List ℕ). AreMarks x from to) (sym (one_then marks n to)) (marks_all (marks ++ to ∷ []) n from to le (marks_more marks from to to le (omega arith) are))

-- the moment, as the mark of a group
pub marks_more_all : (marks : List ℕ) (n from mid to : ℕ) → from ≤ mid → mid ≤ to → AreMarks marks from mid → AreMarks (marks ++ replicate n to) from to
marks_more_all marks n from mid to start le are = marks_all marks n from to (omega (arith, start, le)) (marks_later marks from mid to le are)

groups_more : (b : List ℕ) (us : List TileRec) (ns : List ℕ) (k : ℕ) (marks : List ℕ) (n mark : ℕ) → AreGroups b us k ns → InRuns ns marks → 0 < n → IsNextGroup b us (k + length marks) n
    → AreGroups b us k (ns ++ n ∷ []) × InRuns (ns ++ n ∷ []) (marks ++ replicate n mark)
groups_more b us [] k marks n mark are runs some next =
    let none : k + length marks ≡ k = omega (arith, ap length runs) in (
      (some, subst (λ (i : ℕ). IsNextGroup b us i n) none next, tt),
      (mark, ([], (ap (λ (x : List ℕ). x ++ replicate n mark) runs ∙ sym (append-nil (replicate n mark)), refl))),
    )
groups_more b us (a ∷ ns) k marks n mark are runs some next =
    let rest = runs.1.0 in
    let size : length marks ≡ a + length rest = ap length runs.1.1.0 ∙ length-append (replicate a runs.0) rest ∙ ap (λ (i : ℕ). i + length rest) (length-replicate a runs.0) in
    let from : k + length marks ≡ k + a + length rest = omega (arith, size) in
    let more = groups_more b us ns (k + a) rest n mark are.2 runs.1.1.1 some (subst (λ (i : ℕ). IsNextGroup b us i n) from next) in (
      (are.0, are.1, more.0),
      (runs.0, (rest ++ replicate n mark, (ap (λ (x : List ℕ). x ++ replicate n mark) runs.1.1.0 ∙ append_assoc (replicate a runs.0) rest (replicate n mark), more.1))),
    )

-- no group
pub no_groups : (b : List ℕ) (us : List TileRec) → AreWhole b us []
no_groups b us = record { sizes = []; groups = tt; runs = refl }

-- one group more
pub whole_more : (b : List ℕ) (us : List TileRec) (marks : List ℕ) (n mark : ℕ) → 0 < n → IsNextGroup b us (length marks) n → AreWhole b us marks → AreWhole b us (marks ++ replicate n mark)
whole_more b us marks n mark some next whole =
    let from : length marks ≡ 0 + length marks = omega arith in
    let more = groups_more b us whole.sizes 0 marks n mark whole.groups whole.runs some (subst (λ (i : ℕ). IsNextGroup b us i n) from next) in
    record { sizes = whole.sizes ++ n ∷ []; groups = more.0; runs = more.1 }
