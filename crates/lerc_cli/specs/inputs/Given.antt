-- What a run is given.
use Rattle.std.specs.Prelude.{ℕ, List, Option, IfSome}
use Rattle.opened_bundle.specs.Files.{Files}

-- the whole input, and what a read gives of the two files as the run starts, each where it is told
pub record Given : Type 0 where
  pub input : Option (List ℕ)
  pub files : Option Files

abbrev pub given : Option (List ℕ) → Option Files → Given
given input files = record { input = input; files = files }

-- the input, where it is told, is such
abbrev pub OfInput : Given → (List ℕ → Type 0) → Type 0
OfInput g P = IfSome g.input P
