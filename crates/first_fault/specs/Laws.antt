-- The laws of the words, as far as a contract can say them: of parts and faults whose tests are
-- decided. The lemmas of proofs/Parts.antt and proofs/Decided.antt are about every part.
use Rattle.std.specs.Prelude.{ℕ, List, Bool, IsTrue}
use Rattle.first_fault.specs.Faults.{Faults, in_order, AllNumbered, InNumbered}
use Rattle.first_fault.specs.Parts.{IsSingle, IsPart, IsDecided}

-- parts whose values and reasons are numbers
abbrev pub TestedPart : (List ℕ → ℕ → Bool) → List ℕ → ℕ → Type 0
TestedPart part bytes value = IsTrue (part bytes value)

abbrev pub TestedFaults : (List ℕ → ℕ → ℕ → Bool) → List ℕ → Faults ℕ
TestedFaults own bytes place reason = IsTrue (own bytes place reason)

-- any number of parts in a row are a part
abbrev pub RowsArePart : Type 0
RowsArePart = (part : ℕ → List ℕ → ℕ → Bool) (own : ℕ → List ℕ → ℕ → ℕ → Bool) →
    ((k : ℕ) → IsPart (TestedPart (part k)) (TestedFaults (own k))) → (n : ℕ) →
    IsPart (AllNumbered (λ k. TestedPart (part k)) n)
    (InNumbered (λ k. TestedPart (part k)) (λ k. TestedFaults (own k)) n)

-- where each of them is decided, so are all together
abbrev pub RowsAreDecided : Type 0
RowsAreDecided = (part : ℕ → List ℕ → ℕ → Bool) (own : ℕ → List ℕ → ℕ → ℕ → Bool) →
    ((k : ℕ) → IsDecided (TestedPart (part k)) (TestedFaults (own k))) → (n : ℕ) →
    IsDecided (AllNumbered (λ k. TestedPart (part k)) n)
    (InNumbered (λ k. TestedPart (part k)) (λ k. TestedFaults (own k)) n)

-- a part, and what may be wrong behind it: one first fault
abbrev pub OrderIsSingle : Type 0
OrderIsSingle = (part : List ℕ → ℕ → Bool) (own : List ℕ → ℕ → ℕ → Bool)
    (behind : ℕ → List ℕ → ℕ → ℕ → Bool) → IsPart (TestedPart part) (TestedFaults own) →
    ((x : ℕ) (rest : List ℕ) → IsSingle (TestedFaults (behind x) rest)) → (bytes : List ℕ) →
    IsSingle (in_order (TestedPart part) (TestedFaults own) (λ x. TestedFaults (behind x)) bytes)
