use Rattle.std.proofs.Common.{◌≡◌, ◌≤◌, ◌+◌, ℕ, Bool, List, length}
use Rattle.overview_updates.specs.inside.Fours.{AreHalves}
use Rattle.overview_updates.specs.inside.SoFar.{AreWaiting}
use Rattle.overview_updates.proofs.places.wait_halves.Given as goal

-- The halves so far wait, and those that are left are of the places behind.
abbrev pub invariant-loop-half : goal.invariant-loop-half
invariant-loop-half l = record {
  left : l.waiting.place + length l.half-iterator.rest.items ≡ l.fn.waiting.place + length l.fn.halves.items;
  few : length l.waiting.batch ≤ l.waiting.place;
  waits : (told : Bool) (bundle : List ℕ) (from : ℕ) → AreWaiting told bundle l.asked.quarter l.asked.coding.version from l.fn.waiting
      → AreHalves told bundle l.asked.coding.version l.fn.waiting.place l.fn.halves.items → AreWaiting told bundle l.asked.quarter l.asked.coding.version from l.waiting
      × AreHalves told bundle l.asked.coding.version l.waiting.place l.half-iterator.rest.items;
}
