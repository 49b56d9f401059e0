-- The words in which a format says its first fault: the tests in their order, each with the fault
-- that it is where it fails. They read from the top, as a table of faults does. A place counts from
-- the first of the bytes that are spoken of. `R` is the format's own type of reasons.
use Rattle.std.specs.Prelude.{◌≡◌, ℕ, ◌+◌, ◌<◌, suc, ◌⊎◌, List, [], ◌∷◌, ◌++◌, length}

-- what may be wrong: at which place, for which reason
abbrev pub Faults : Type 0 → Type 1
Faults R = ℕ → R → Type 0

-- nothing is wrong
abbrev pub none : {R : Type 0} → Faults R
none place reason = ⊥

-- this is wrong
abbrev pub wrong : {R : Type 0} → R → ℕ → Faults R
wrong why at place reason = (place ≡ at) × (reason ≡ why)

-- where the test holds the one, else the other
abbrev pub choice : {R : Type 0} → Type 0 → Faults R → Faults R → Faults R
choice test holding failing place reason =
    (test × holding place reason) ⊎ (¬ test × failing place reason)

-- the test fails, which is the first fault; or it holds, and the fault is a later one
abbrev pub unless : {R : Type 0} → Type 0 → Faults R → Faults R → Faults R
unless test fault later = choice test later fault

-- places that count from a later byte on
abbrev pub moved : {R : Type 0} → ℕ → Faults R → Faults R
moved n faults place reason = (at : ℕ) × ((place ≡ n + at) × faults at reason)

-- A part comes first in some bytes, and something behind it. Either the part itself is wrong, or it
-- stands, for some value, and what is behind it is wrong.
pub record Stands {R X : Type 0} (part : List ℕ → X → Type 0) (behind : X → List ℕ → Faults R)
    (bytes : List ℕ) (place : ℕ) (reason : R) : Type 0 where
  pub front : List ℕ
  pub rest : List ℕ
  pub value : X
  pub joined : bytes ≡ front ++ rest
  pub stands : part front value
  pub later : moved (length front) (behind value rest) place reason

abbrev pub in_order : {R X : Type 0} → (List ℕ → X → Type 0) → (List ℕ → Faults R) →
    (X → List ℕ → Faults R) → List ℕ → Faults R
in_order part own behind bytes place reason =
    own bytes place reason ⊎ Stands part behind bytes place reason

-- nothing may follow: where something does, it is left over
abbrev pub ends : {R : Type 0} → R → List ℕ → Faults R
ends left_over rest = unless (rest ≡ []) (wrong left_over 0) none

-- The bytes are one part for each value, joined, the parts being numbered from k on.
abbrev pub Numbered : {X : Type 0} → (ℕ → List ℕ → X → Type 0) → ℕ → List ℕ → List X → Type 0
Numbered part k bytes [] = bytes ≡ []
Numbered part k bytes (x ∷ xs) = (front : List ℕ) × ((rest : List ℕ) ×
    ((bytes ≡ front ++ rest) × (part k front x × Numbered part (suc k) rest xs)))

-- n parts, numbered from 0 on
abbrev pub AllNumbered : {X : Type 0} → (ℕ → List ℕ → X → Type 0) → ℕ → List ℕ → List X → Type 0
AllNumbered part n bytes xs = (length xs ≡ n) × Numbered part 0 bytes xs

-- of n numbered parts the first ones stand, and the next one is wrong
pub record InNumbered {R X : Type 0} (part : ℕ → List ℕ → X → Type 0)
    (own : ℕ → List ℕ → Faults R) (n : ℕ) (bytes : List ℕ) (place : ℕ) (reason : R) : Type 0 where
  pub before : List X
  pub front : List ℕ
  pub rest : List ℕ
  pub fewer : length before < n
  pub joined : bytes ≡ front ++ rest
  pub stand : Numbered part 0 front before
  pub next : moved (length front) (own (length before) rest) place reason
