use Rattle.std.proofs.Common.{◌≡◌, refl, ℕ, List, [], length, take, sym, subst, ap, ◌∙◌, arith, length-append}
use Rattle.outside_io.specs.volume.History.{current}
use Rattle.outside_io.proofs.VolumeLemmas.Moments.{during_join, during_map, started}
use Rattle.bundle_store.specs.inside.Parts.{Extends, Gathers, KeepsJournal}
use Rattle.bundle_store.specs.inside.Table.{table_map}
use Rattle.bundle_store.specs.Layout.{record_of, records}
use Rattle.bundle_store.proofs.Building.{records_none, records_step}
use Rattle.bundle_store.proofs.Gathering.{gathers_end, gathers_none, gathers_on}
use Rattle.bundle_store.proofs.Layouts.{length-records}
use Rattle.bundle_store.proofs.build.laying.write_records.Goals as goal

pub loop-slot-init : goal.loop-slot-init
loop-slot-init g c =
    let map = table_map c.args.tiles.now c.args.table.now in
    let h = g.V.Volume.history c.args.vol.now in
    record {
      at = omega (arith, ap length (records_none map));
      count = omega arith;
      done = λ told. subst (Gathers (current h) (current h) [] []) (sym (records_none map)) (gathers_none (current h) []);
      end = λ told. sym (c.requires.end told);
      during = λ told. started (KeepsJournal (current h)) h (record { journal = refl });
      told = refl;
      counted = refl;
    }

pub gather_slot-requires-clause-room : goal.gather_slot-requires-clause-room
gather_slot-requires-clause-room g c = omega (arith, c.loop-slot.invariant.at, length-records (table_map c.args.tiles.now c.args.table.now) c.loop-slot.slot c.requires.table.are_tiles)

pub loop-slot-preserved : goal.loop-slot-preserved
loop-slot-preserved g c =
    let map = table_map c.args.tiles.now c.args.table.now in
    let n = c.loop-slot.slot in
    let inv = c.loop-slot.invariant in
    let old = current (g.V.Volume.history c.args.vol.now) in
    let mid = current (g.V.Volume.history c.loop-slot.vol) in
    let now = current (g.V.Volume.history c.gather_slot.new.vol) in
    let more = record_of (map n) in
    let step = records_step map n in
    record {
      at = omega (arith, c.in_ok-waiting.ensures.next, inv.at, ap length step, length-append (records map n) more);
      count = c.in_ok-waiting.ensures.count;
      done = λ told. subst (λ (l : List ℕ). Gathers old now [] (take c.in_ok-waiting.waiting.count c.gather_slot.new.buffer) l) (sym step)
          (gathers_on old mid now [] _ _ (records map n) more (inv.done told) (c.in_ok-waiting.ensures.done (inv.told ∙ told)));
      end = λ told. c.in_ok-waiting.ensures.end (inv.told ∙ told);
      during = λ told. during_join (KeepsJournal old) _ _ _ (inv.during told) (during_map _ (KeepsJournal old) _ _ (λ d keeps. record { journal = keeps.journal ∙ (inv.done told).journal }) (c.gather_slot.ensures.changes.during (inv.told ∙ told)));
      told = c.gather_slot.ensures.changes.same ∙ inv.told;
      counted = c.in_ok-waiting.ensures.changes.counted ∙ inv.counted;
    }

pub write_waiting-requires-clause-room : goal.write_waiting-requires-clause-room
write_waiting-requires-clause-room g c = omega (arith, c.loop-slot.invariant.at, length-records (table_map c.args.tiles.now c.args.table.now) c.loop-slot.slot c.requires.table.are_tiles)

pub returns-clause-done : goal.returns-clause-done
returns-clause-done g c = λ told.
    let map = table_map c.args.tiles.now c.args.table.now in
    let old = current (g.V.Volume.history c.args.vol.now) in
    let now = current (g.V.Volume.history c.write_waiting.new.vol) in
    let all : c.loop-slot.slot ≡ 16384 = omega (arith, c.loop-slot-test.false, c.loop-slot.auto.slot-end) in
    subst (λ (n : ℕ). Extends old now (records map n)) all
    (gathers_end _ _ _ _ _ (c.loop-slot.invariant.done told) (c.in_ok-write_waiting.ensures.done (c.loop-slot.invariant.told ∙ told)))
