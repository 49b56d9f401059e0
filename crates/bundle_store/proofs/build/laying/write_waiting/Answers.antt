use Rattle.std.proofs.Common.{refl, ap, ◌∙◌, rules}
use Rattle.outside_io.specs.volume.Disk.{Disk}
use Rattle.outside_io.specs.volume.History.{current}
use Rattle.bundle_store.proofs.Building.{laid_end}
use Rattle.bundle_store.proofs.Gathering.{nothing_waits}
use Rattle.bundle_store.proofs.Keeping.{journal_starts, journal_stays}
use Rattle.bundle_store.proofs.build.laying.write_waiting.Goals as goal

pub returns-then-waiting-eq0-clause-done : goal.returns-then-waiting-eq0-clause-done
returns-then-waiting-eq0-clause-done g c = λ told. nothing_waits (current (g.V.Volume.history c.args.vol.now)) c.args.waiting.count c.args.buffer.now c.if-waiting-eq0.true

pub returns-then-waiting-eq0-clause-changes : goal.returns-then-waiting-eq0-clause-changes
returns-then-waiting-eq0-clause-changes g c = record { same = refl; counted = search rules; during = λ told. journal_starts (g.V.Volume.history c.args.vol.now) }

pub returns-clause-done : goal.returns-clause-done
returns-clause-done g c = λ told.
    let b = (current (g.V.Volume.history c.args.vol.now)).bundle.now in
    let is = c.in_ok-write.ensures.ok told in
    record {
      journal = ap (λ (d : Disk). d.journal) is;
      bundle = ap (λ (d : Disk). d.bundle.now) is ∙ laid_end c.args.waiting.at _ b (c.requires.end told);
    }

pub returns-in_err-write-clause-changes : goal.returns-in_err-write-clause-changes
returns-in_err-write-clause-changes g c = record {
  same = (cc);
  counted = search rules;
  during = λ told.
      let crash = c.write.ensures.crash told in
      let old = g.V.Volume.history c.args.vol.now in
      journal_stays _ _ _ _ (journal_starts old) c.write.ensures.time crash.other;
}

pub returns-clause-changes : goal.returns-clause-changes
returns-clause-changes g c = record {
  same = (cc);
  counted = search rules;
  during = λ told.
      let crash = c.write.ensures.crash told in
      let old = g.V.Volume.history c.args.vol.now in
      journal_stays _ _ _ _ (journal_starts old) c.write.ensures.time crash.other;
}
