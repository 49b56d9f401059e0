-- How a text ends where a token is owed.
use Rattle.std.specs.Prelude.{ℕ, ◌≤◌}
use Rattle.first_fault.specs.Faults.{Faults, none, unless, wrong}
use Rattle.ascii_grid.specs.declared.fault.AsciiReason.{AsciiReason}
use Rattle.ascii_grid.specs.declared.fault.AsciiReason.TheVariants.{TooLong, Truncated}
use Rattle.ascii_grid.specs.Tokens.{limit}

-- a text of so many bytes ends there, or has a byte at the limit, where it is looked at no further
abbrev pub ending : ℕ → Faults AsciiReason
ending total = unless (total ≤ limit) (wrong TooLong limit) (wrong Truncated total)

-- and where none is owed, this is wrong
abbrev pub too_late : ℕ → Faults AsciiReason
too_late total = unless (total ≤ limit) (wrong TooLong limit) none
