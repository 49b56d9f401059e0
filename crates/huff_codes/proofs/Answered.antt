-- The clauses of a reader of a part, from one for both of its answers.
use Rattle.std.proofs.Common.{◌≡◌, ℕ, ◌≤◌, List, ◌++◌, length, take, drop, refl, sym, ap, ◌∙◌, subst, Ok, Err, Result, ◌↔◌}
use Rattle.std.specs.Prelude.{MatchResult}
use Rattle.std.proofs.lemmas.List.{length-take-le, take-append-drop}
use Rattle.first_fault.specs.Faults.{Faults}
use Rattle.first_fault.specs.Parts.{IsPart}
use Rattle.huff_codes.specs.declared.faults.CodeFault.{CodeFault}
use Rattle.huff_codes.specs.declared.faults.CodeReason.{CodeReason}

abbrev pub IsAnswered : {X : Type 0} → (List ℕ → X → Type 0) → (List ℕ → Faults CodeReason) → List ℕ → X → Result ℕ CodeFault → Type 0
IsAnswered part own bytes out result =
    MatchResult result (λ used. (used ≤ length bytes) × part (take used bytes) out) (λ f. own bytes f.at f.reason)

pub answer_complete : {X : Type 0} (part : List ℕ → X → Type 0) (own : List ℕ → Faults CodeReason) (bytes : List ℕ) (out : X) (result : Result ℕ CodeFault) → IsPart part own → IsAnswered part own bytes out result
    → (front rest : List ℕ) (x : X) → bytes ≡ front ++ rest → part front x → (result ≡ Ok (length front)) × (out ≡ x)
answer_complete part own bytes out (Ok used) is h front rest x e stands =
    let same = is.once (take used bytes) front (drop used bytes) rest out x h.1 stands (take-append-drop used bytes ∙ e) in
    (ap (λ (k : ℕ). Ok k) (sym (length-take-le used bytes h.0) ∙ ap length same.0), same.1)
answer_complete part own bytes out (Err f) is h front rest x e stands =
    absurd (is.either front rest x f.at f.reason stands (subst (λ (xs : List ℕ). own xs f.at f.reason) e h))

pub answer_fault : {X : Type 0} (part : List ℕ → X → Type 0) (own : List ℕ → Faults CodeReason) (bytes : List ℕ) (out : X) (result : Result ℕ CodeFault) → IsPart part own → IsAnswered part own bytes out result
    → (f : CodeFault) → (result ≡ Err f) ↔ own bytes f.at f.reason
answer_fault part own bytes out (Ok used) is h f = (
  λ e. absurd (ok_no_err (Err f) used f e refl),
  λ wrong. absurd (is.either (take used bytes) (drop used bytes) out f.at f.reason h.1
      (subst (λ (xs : List ℕ). own xs f.at f.reason) (sym (take-append-drop used bytes)) wrong)),
)
  where
    ok_no_err : (r : Result ℕ CodeFault) (k : ℕ) (g : CodeFault) → Ok k ≡ r → r ≡ Err g → ⊥
    ok_no_err r k g d e = cc
answer_fault part own bytes out (Err g) is h f = (
  λ e. subst (λ (x : CodeFault). own bytes x.at x.reason) (err_same (Err f) g f e refl) h,
  λ wrong.
      let same = is.single bytes g.at f.at g.reason f.reason h wrong in
      λ i. Err (record { reason = same.1 i; at = same.0 i }),
)
  where
    err_same : (r : Result ℕ CodeFault) (x y : CodeFault) → Err x ≡ r → r ≡ Err y → x ≡ y
    err_same r x y d e = cc

-- the same of a reader that answers the value with the number of bytes
abbrev pub IsAnsweredWith : {X : Type 0} → (List ℕ → X → Type 0) → (List ℕ → Faults CodeReason) → List ℕ → Result (X × ℕ) CodeFault → Type 0
IsAnsweredWith part own bytes result =
    MatchResult result (λ r. (r.1 ≤ length bytes) × part (take r.1 bytes) r.0) (λ f. own bytes f.at f.reason)

pub value_complete : {X : Type 0} (part : List ℕ → X → Type 0) (own : List ℕ → Faults CodeReason) (bytes : List ℕ) (result : Result (X × ℕ) CodeFault) → IsPart part own → IsAnsweredWith part own bytes result
    → (front rest : List ℕ) (x : X) → bytes ≡ front ++ rest → part front x → result ≡ Ok (x, length front)
value_complete part own bytes (Ok (y, used)) is h front rest x e stands =
    let same = is.once (take used bytes) front (drop used bytes) rest y x h.1 stands (take-append-drop used bytes ∙ e) in
    let size : used ≡ length front = sym (length-take-le used bytes h.0) ∙ ap length same.0 in
    λ i. Ok (same.1 i, size i)
value_complete part own bytes (Err f) is h front rest x e stands =
    absurd (is.either front rest x f.at f.reason stands (subst (λ (xs : List ℕ). own xs f.at f.reason) e h))

pub value_fault : {X : Type 0} (part : List ℕ → X → Type 0) (own : List ℕ → Faults CodeReason) (bytes : List ℕ) (result : Result (X × ℕ) CodeFault) → IsPart part own → IsAnsweredWith part own bytes result
    → (f : CodeFault) → (result ≡ Err f) ↔ own bytes f.at f.reason
value_fault {X} part own bytes (Ok (y, used)) is h f = (
  λ e. absurd (ok_no_err (Err f) (y, used) f e refl),
  λ wrong. absurd (is.either (take used bytes) (drop used bytes) y f.at f.reason h.1
      (subst (λ (xs : List ℕ). own xs f.at f.reason) (sym (take-append-drop used bytes)) wrong)),
)
  where
    ok_no_err : (r : Result (X × ℕ) CodeFault) (k : X × ℕ) (g : CodeFault) → Ok k ≡ r → r ≡ Err g → ⊥
    ok_no_err r k g d e = cc
value_fault {X} part own bytes (Err g) is h f = (
  λ e. subst (λ (x : CodeFault). own bytes x.at x.reason) (err_same (Err f) g f e refl) h,
  λ wrong.
      let same = is.single bytes g.at f.at g.reason f.reason h wrong in
      λ i. Err (record { reason = same.1 i; at = same.0 i }),
)
  where
    err_same : (r : Result (X × ℕ) CodeFault) (x y : CodeFault) → Err x ≡ r → r ≡ Err y → x ≡ y
    err_same r x y d e = cc
