use Rattle.std.proofs.Common.{◌≡◌, ℕ, List}
use Rattle.bundle_store.specs.Session.{Serves}
use Rattle.bundle_tiles.specs.Exported.{slots_below}
use Rattle.bundle_tiles.proofs.slots.filled_slots.Given as goal

abbrev pub invariant-loop-number : goal.invariant-loop-number
invariant-loop-number l = record { so : (bundle : List ℕ) → Serves l.session bundle → l.slots.items ≡ slots_below bundle l.number }
