-- Tiles that are held: of the first ones something was made, and others wait behind them.
use Rattle.std.proofs.Common.{◌≡◌, ◌⊎◌, ◌↔◌, inl, inr, ℕ, ◌+◌, ◌-◌, ◌*◌, ◌<◌, ◌≤◌, Bool, true, false, IsTrue, List, [], length, Option, sym, ap, subst, arith}
use Rattle.std.proofs.lemmas.Bool.{cases_lt}
use Rattle.raster_grids.specs.Taken.{TookSome}
use Rattle.raster_grids.proofs.TakenBytes.{took_more}
use Rattle.lerc_header.specs.declared.header.Version.{Version}
use Rattle.tile_updates.specs.declared.stop.StreamStop.{StreamStop}
use Rattle.tile_updates.specs.declared.stop.StreamStop.TheVariants.{Source}
use Rattle.tile_updates.specs.declared.updates.Next.{Next}
use Rattle.tile_updates.specs.declared.updates.Next.TheVariants.{More, AtEnd, Refused}
use Rattle.tile_updates.specs.declared.updates.SoFar.{SoFar}
use Rattle.tile_updates.specs.declared.updates.Waiting.{Waiting}
use Rattle.tile_updates.specs.Stops.{TellsStop}
use Rattle.tile_updates.specs.inside.SoFar.{AreWaiting, EndsSo, IsAll, IsFilled, IsHeld, IsSoFar, RefusesReading}
use Rattle.tile_updates.proofs.Refusing.{refused_reading}
use Rattle.tile_updates.proofs.SoFar.{at_the_end, more_read, so_far_none}

-- the batch is read whole, and there may be more
pub held_more : (v : Version) (step : ℕ) (old now : Option (List ℕ)) (done : SoFar) (w : Waiting) (next : Next) (h : IsHeld v step old now done w next) → next ≡ More → AreWaiting v done.place h.from now w × (0 < length w.batch)
held_more v step old now done w next h is =
    let f = h.filled in
    let ends = subst (λ (e : Next). EndsSo v (1048576 - length done.list) f.mid now w e) is f.ends in
    (subst (λ (o : Option (List ℕ)). AreWaiting v done.place h.from o w) (sym ends.0) f.waiting, ends.1)

-- there is room for the tiles, and their places are low
pub held_few : (v : Version) (step : ℕ) (old now : Option (List ℕ)) (done : SoFar) (w : Waiting) (next : Next) → IsHeld v step old now done w next → length done.list + length w.batch ≤ 1048576
held_few v step old now done w next h = omega (arith, h.few, h.filled.few)

pub held_place : (v : Version) (step : ℕ) (old now : Option (List ℕ)) (done : SoFar) (w : Waiting) (next : Next) → IsHeld v step old now done w next → w.place ≤ 83886104 * (length done.list + length w.batch)
held_place v step old now done w next h = omega (arith, h.place, h.filled.waiting.low)

pub held_start : (v : Version) (step : ℕ) (old now : Option (List ℕ)) (done : SoFar) (w : Waiting) (next : Next) → done.list ≡ [] → done.place ≡ 0 → IsFilled v 1048576 0 old now w next → TookSome old now → IsHeld v step old now done w next
held_start v step old now done w next none begin f some =
    let nothing : length done.list ≡ 0 = ap length none in
    let room : 1048576 ≡ 1048576 - length done.list = omega (arith, nothing) in
    record {
      from = old;
      so_far = so_far_none v step old done none begin;
      few = omega (arith, nothing);
      place = omega (arith, nothing, begin);
      filled = subst (λ n. IsFilled v (1048576 - length done.list) n old now w next) (sym begin) (subst (λ n. IsFilled v n 0 old now w next) room f);
      some = some;
    }

-- the tiles that were held were made, and these are held behind them
pub held_next : (v : Version) (step : ℕ) (old mid now : Option (List ℕ)) (done after : SoFar) (w w' : Waiting) (next next' : Next) → IsHeld v step old mid done w next → IsSoFar v step old mid after → length after.list ≡ length done.list + length w.batch → after.place ≡ w.place
    → IsFilled v (1048576 - length after.list) after.place mid now w' next' → TookSome mid now → IsHeld v step old now after w' next'
held_next v step old mid now done after w w' next next' h s grows place f some =
    let few = held_few v step old mid done w next h in
    let low = held_place v step old mid done w next h in
    record {
      from = mid;
      so_far = s;
      few = omega (arith, few, grows);
      place = omega (arith, low, grows, place);
      filled = f;
      some = more_read v step old mid now after s some;
    }

-- some bytes are taken by then
pub held_read : (v : Version) (step : ℕ) (old now new : Option (List ℕ)) (done : SoFar) (w : Waiting) (next : Next) → IsHeld v step old now done w next → TookSome now new → TookSome old new
held_read v step old now new done w next h more = took_more old now new h.some.0 h.some.1 more

-- ---- what becomes of them

-- whatever was made of the first ones, so much is made of these
abbrev pub Makes : Version → ℕ → SoFar → Waiting → SoFar → Type 0
Makes v step done w after = (input from now : Option (List ℕ)) → IsSoFar v step input from done → AreWaiting v done.place from now w → IsSoFar v step input now after

pub made_more : (v : Version) (step : ℕ) (old now : Option (List ℕ)) (done after : SoFar) (w : Waiting) (next : Next) → IsHeld v step old now done w next → Makes v step done w after → next ≡ More → IsSoFar v step old now after
made_more v step old now done after w next h made is = made old h.from now h.so_far (held_more v step old now done w next h is).0

pub made_end : (v : Version) (step : ℕ) (old now : Option (List ℕ)) (done after : SoFar) (w : Waiting) (next : Next) → IsHeld v step old now done w next → Makes v step done w after → next ≡ AtEnd → IsAll v step old now after
made_end v step old now done after w next h made is =
    let f = h.filled in
    let ends = subst (λ (e : Next). EndsSo v (1048576 - length done.list) f.mid now w e) is f.ends in
    at_the_end v step old f.mid now after ends.0 ends.1 (made old h.from f.mid h.so_far f.waiting)

-- what follows them is refused so as it is read
ends_refused : (v : Version) (step : ℕ) (old now : Option (List ℕ)) (done : SoFar) (w : Waiting) (next : Next) (stop : StreamStop) (h : IsHeld v step old now done w next) → next ≡ Refused stop
    → (length w.batch < 1048576 - length done.list) × RefusesReading v w.place h.filled.mid now stop
ends_refused v step old now done w next stop h is = subst (λ (e : Next). EndsSo v (1048576 - length done.list) h.filled.mid now w e) is h.filled.ends

pub made_refused : (v : Version) (step : ℕ) (old now : Option (List ℕ)) (done after : SoFar) (w : Waiting) (next : Next) (stop : StreamStop) → IsHeld v step old now done w next → Makes v step done w after → length after.list ≡ length done.list + length w.batch → after.place ≡ w.place
    → next ≡ Refused stop → TellsStop v step old stop
made_refused v step old now done after w next stop h made grows place is =
    let e = ends_refused v step old now done w next stop h is in
    let less = e.0 in
    refused_reading v step old h.filled.mid now after stop (made old h.from h.filled.mid h.so_far h.filled.waiting) (omega (arith, less, grows))
    (subst (λ (n : ℕ). RefusesReading v n h.filled.mid now stop) (sym place) e.1)

-- that is no failure of the source
pub refused_no_source : (v : Version) (step : ℕ) (old now : Option (List ℕ)) (done : SoFar) (w : Waiting) (next : Next) (stop : StreamStop) → IsHeld v step old now done w next → next ≡ Refused stop → stop ≡ Source → ⊥
refused_no_source v step old now done w next stop h is so = subst (λ (s : StreamStop). RefusesReading v w.place h.filled.mid now s) so (ends_refused v step old now done w next stop h is).1

-- more may follow, but as many tiles are there as there may be
pub no_room : (next : Next) (count : ℕ) (goes : Bool) → (IsTrue goes ↔ ((next ≡ More) × (count < 1048576))) → goes ≡ false → next ≡ More → 1048576 ≤ count
no_room next count goes iff not is = by (cases_lt count 1048576)
  where
    by : (count < 1048576) ⊎ (1048576 ≤ count) → 1048576 ≤ count
    by (inl less) = let goes_on : goes ≡ true = iff.1 (is, less) in absurd (cc)
    by (inr most) = most
