-- The symbols of a list as a source.
use Rattle.std.specs.Prelude.{ℕ, ◌≡◌, ◌-◌, ◌≤◌, List, length, take}
use Rattle.delta_mode.specs.declared.source.ListSymbols.{ListSymbols}

abbrev pub list_of : ListSymbols → List ℕ
list_of s = s.symbols.now

abbrev pub IsWithin : ListSymbols → Type 0
IsWithin s = s.at ≤ length s.symbols.now

-- these are the first of the list, as many as were given
abbrev pub are_first : ListSymbols → List ℕ → Type 0
are_first s given = given ≡ take s.at s.symbols.now

abbrev pub left_in : ListSymbols → ℕ
left_in s = length s.symbols.now - s.at

-- it never stops but at its end
abbrev pub never : List ℕ → Unit {0} → Type 0
never list stop = ⊥
