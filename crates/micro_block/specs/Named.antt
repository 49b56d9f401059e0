-- Names that were found of some values.
use Rattle.std.specs.Prelude.{ℕ, ◌≡◌, ◌<◌, Bool, IsTrue, List, get_or, length}
use Rattle.lut_stuff.specs.declared.naming.Names.{Names}
use Rattle.lut_stuff.specs.Names.{IsNamed}

-- the numbers that were found are the names of the values, one by one
abbrev pub AreNamed : Names → List ℕ → List ℕ → Type 0
AreNamed names values found =
    (i : ℕ) → i < length values → IsNamed names (get_or values i 0) (get_or found i 0)

-- there is room for the name of each value, and where the names are known they stand there
pub record HasNameRoom (names : Names) (values found : List ℕ) (known : Bool) : Type 0 where
  pub room : length found ≡ length values
  pub named : IsTrue known → AreNamed names values found
