-- The different values that came so far, each by the number of those before it.
use Rattle.std.specs.Prelude.{◌≡◌, ℕ, ◌<◌, ◌≤◌, All, List, false, get_or, length, take}
use Rattle.lut_stuff.specs.declared.naming.Names.{Names}
use Rattle.lut_stuff.specs.declared.naming.NameSet.{NameSet}
use Rattle.lut_stuff.specs.Tables.{occurs}

-- the values that have a name, in the order of their names
abbrev pub named_values : Names → List ℕ
named_values n = take n.count n.values

-- those that had a name keep it
pub record KeepsNames (old new : Names) : Type 0 where
  pub more : old.count ≤ new.count
  pub kept : (i : ℕ) → i < old.count → get_or new.values i 0 ≡ get_or old.values i 0

-- it is the name of the value
pub record IsNamed (n : Names) (value name : ℕ) : Type 0 where
  pub there : name < n.count
  pub value_is : get_or n.values name 0 ≡ value

-- those of some names are marked, and no other
pub record IsSetOf (set : NameSet) (names : List ℕ) : Type 0 where
  pub size : length set.marks ≡ 256
  pub within : All (λ n. n < 256) names
  pub marks : (n : ℕ) → n < 256 → get_or set.marks n false ≡ occurs names n
