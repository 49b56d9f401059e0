use Rattle.lut_stuff.specs.Tables.{entries_of}
use Rattle.lut_stuff.proofs.Rising.{entries_rising, rising_increasing}
use Rattle.lut_stuff.proofs.Tabled.{entries_contain}
use Rattle.lut_stuff.proofs.laws.entries_are_the_different_values.Goals as goal

pub returns-clause-rising : goal.returns-clause-rising
returns-clause-rising c = λ values. rising_increasing 0 (entries_of values) (entries_rising values)

pub returns-clause-members : goal.returns-clause-members
returns-clause-members c = λ values v. entries_contain values v
