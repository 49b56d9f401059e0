-- One part of some bytes, and behind it another, which depends on the value of the first.
use Rattle.std.specs.Prelude.{◌≡◌, ℕ, List, ◌++◌}

-- the bytes are the first part, of some value, and then the next, of this value
pub record InTurn {X Y : Type 0} (part : List ℕ → X → Type 0) (next : X → List ℕ → Y → Type 0)
    (bytes : List ℕ) (y : Y) : Type 0 where
  pub front : List ℕ
  pub rest : List ℕ
  pub value : X
  pub joined : bytes ≡ front ++ rest
  pub stands : part front value
  pub follows : next value rest y
