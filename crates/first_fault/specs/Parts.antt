-- What every part of a format owes: it is read in one way, and it stands or has one first fault. A
-- part is a pair of relations: `part bytes value`, the bytes being exactly the part's, and `own
-- rest`, what may be wrong with the part at the front of all the bytes that are there.
use Rattle.std.specs.Prelude.{◌≡◌, ℕ, ◌<◌, ◌⊎◌, List, ◌++◌, get_or}
use Rattle.first_fault.specs.Faults.{Faults}

-- there is one place and one reason at most
abbrev pub IsSingle : {R : Type 0} → Faults R → Type 0
IsSingle {R} faults =
    (p q : ℕ) (a b : R) → faults p a → faults q b → (p ≡ q) × (a ≡ b)

-- there is none
abbrev pub IsEmpty : {R : Type 0} → Faults R → Type 0
IsEmpty {R} faults = (p : ℕ) (a : R) → faults p a → ⊥

-- What is read in front is read in one way, whatever follows; it has no fault then; and there is at
-- most one first fault.
pub record IsPart {R X : Type 0} (part : List ℕ → X → Type 0) (own : List ℕ → Faults R) :
    Type 0 where
  pub once : (a b s t : List ℕ) (x y : X) →
      part a x → part b y → a ++ s ≡ b ++ t → (a ≡ b) × (x ≡ y)
  pub either : (a s : List ℕ) (x : X) (p : ℕ) (r : R) → part a x → own (a ++ s) p r → ⊥
  pub single : (bytes : List ℕ) → IsSingle (own bytes)

-- each element is a byte
abbrev pub AreBytes : List ℕ → Type 0
AreBytes bytes = (i : ℕ) → get_or bytes i 0 < 256

-- a part stands in front of the bytes
pub record InFront {X : Type 0} (part : List ℕ → X → Type 0) (bytes : List ℕ) : Type 0 where
  pub front : List ℕ
  pub rest : List ℕ
  pub value : X
  pub joined : bytes ≡ front ++ rest
  pub stands : part front value

-- there is a fault
pub record HasFault {R : Type 0} (faults : Faults R) : Type 0 where
  pub place : ℕ
  pub reason : R
  pub fault : faults place reason

-- of all bytes, a part stands in front or has a fault
abbrev pub IsDecided : {R X : Type 0} → (List ℕ → X → Type 0) → (List ℕ → Faults R) → Type 0
IsDecided part own = (bytes : List ℕ) → AreBytes bytes → InFront part bytes ⊎ HasFault (own bytes)
