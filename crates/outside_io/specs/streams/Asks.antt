-- Whether a source has a byte more.
use Rattle.std.specs.Prelude.{◌≡◌, ℕ, ◌<◌, Bool, true, false, List, [], length, drop, Option, Some, None, Result, Ok, Err}
use Rattle.outside_io.specs.declared.streams.failed.Failed.{Failed}

-- One byte more was asked for: it was there and was taken, or nothing is left. A failure takes no
-- byte.
abbrev pub AsksOne : Result Bool Failed → Option (List ℕ) → Option (List ℕ) → Type 0
AsksOne result None new = new ≡ None
AsksOne (Ok true) (Some left) new = (0 < length left) × (new ≡ Some (drop 1 left))
AsksOne (Ok false) (Some left) new = (left ≡ []) × (new ≡ Some [])
AsksOne (Err e) (Some left) new = new ≡ Some left
