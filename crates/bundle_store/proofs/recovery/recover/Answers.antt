use Rattle.std.proofs.Common.{◌≡◌, ℕ, List, IfOk, OnOk, sym, ap, ◌∙◌, subst}
use Rattle.outside_io.specs.volume.Disk.{Disk}
use Rattle.outside_io.specs.volume.History.{current}
use Rattle.outside_io.proofs.VolumeLemmas.Images.{present_of}
use Rattle.outside_io.specs.declared.volume.VolFile.TheVariants.{Bundle, Journal}
use Rattle.outside_io.proofs.VolumeLemmas.Moments.{during_join, during_map}
use Rattle.bundle_store.specs.inside.Parts.{EachKeeps}
use Rattle.bundle_store.specs.Recover.{EachStandsForOneOf, IsRecovered, Leaves, LeavesJournal, OnBadJournal, OnClosed, RecoverySays}
use Rattle.bundle_store.proofs.Midway.{narrows_midway, recover_midway}
use Rattle.bundle_store.proofs.Recovering.{both_settled, one_of}
use Rattle.bundle_store.proofs.Ways.{narrowing_way, synced_way}
use Rattle.bundle_store.proofs.recovery.recover.Goals as goal

pub returns-clause-images : goal.returns-clause-images
returns-clause-images g c = λ told.
    let old = g.V.Volume.history c.args.vol.now in
    let b = (current old).bundle.now in
    let j = (current old).journal.now in
    let Pass = EachStandsForOneOf (current old) in
    let present = g.met.V.Volume.present c.args.vol.now told in
    let syncing = during_map _ Pass _ _ (λ d narrows. λ c k ic ik. record { bundle = c; journal = k; bundle_is = narrows.bundle c ic; journal_is = narrows.journal k ik; same = λ map stands. stands }) (c.sync_both.ensures.changes.during told) in
    let next = g.V.Volume.history c.sync_both.new.vol in
    let done = c.in_ok-sync_both.ensures.done told in
    let finishing = during_map _ Pass _ _ (λ d keeps. one_of b j (current old) d (present_of Bundle old present) (present_of Journal old present)
    (subst (λ (l : List ℕ). EachKeeps l j d) (ap (λ (x : Disk). x.bundle.now) done) (subst (λ (l : List ℕ). EachKeeps (current next).bundle.now l d) (ap (λ (x : Disk). x.journal.now) done) keeps)))
    (c.finish.ensures.changes.during (c.sync_both.ensures.changes.same ∙ told)) in
    during_join Pass _ _ _ syncing finishing

pub finish-requires : goal.finish-requires
finish-requires g c = record {
  quiet = λ told_1.
      let told = sym c.sync_both.ensures.changes.same ∙ told_1 in
      both_settled _ _ _ (c.in_ok-sync_both.ensures.done told);
}

pub returns-clause-says : goal.returns-clause-says
returns-clause-says g c = λ told.
    let done = c.in_ok-sync_both.ensures.done told in
    subst (λ (d : Disk). RecoverySays d.bundle.now d.journal.now c.finish.result) done
    (c.finish.ensures.finishes.says (c.sync_both.ensures.changes.same ∙ told))

pub returns-clause-done : goal.returns-clause-done
returns-clause-done g c = λ told.
    let done = c.in_ok-sync_both.ensures.done told in
    let last = current (g.V.Volume.history c.finish.new.vol) in
    let Done : Disk → Type 0 = λ d.
    OnOk c.finish.result (IsRecovered d.bundle.now d.journal.now last) in
    subst Done done
    (c.finish.ensures.finishes.done (c.sync_both.ensures.changes.same ∙ told))

pub returns-clause-leaves : goal.returns-clause-leaves
returns-clause-leaves g c = λ told.
    let done = c.in_ok-sync_both.ensures.done told in
    let last = current (g.V.Volume.history c.finish.new.vol) in
    let Left : Disk → Type 0 = λ d.
    IfOk c.finish.result (λ r. Leaves d.bundle.now d.journal.now r last.bundle.now) in
    subst Left done
    (c.finish.ensures.finishes.leaves (c.sync_both.ensures.changes.same ∙ told))

pub returns-clause-refused : goal.returns-clause-refused
returns-clause-refused g c = λ told.
    let done = c.in_ok-sync_both.ensures.done told in
    let last = current (g.V.Volume.history c.finish.new.vol) in
    subst (λ (d : Disk). OnBadJournal c.finish.result (last ≡ d)) done
    (c.finish.ensures.finishes.refused (c.sync_both.ensures.changes.same ∙ told))

pub returns-in_err-sync_both-clause-bytes : goal.returns-in_err-sync_both-clause-bytes
returns-in_err-sync_both-clause-bytes g c = λ told. during_map _ _ _ _ (narrows_midway (current (g.V.Volume.history c.args.vol.now))) (c.sync_both.ensures.changes.during told)

pub returns-clause-bytes : goal.returns-clause-bytes
returns-clause-bytes g c = λ told.
    let done = c.in_ok-sync_both.ensures.done told in
    recover_midway _ _ _ (c.sync_both.ensures.changes.during told) (ap (λ (d : Disk). d.bundle.now) done) (ap (λ (d : Disk). d.journal.now) done) (c.finish.ensures.bytes (c.sync_both.ensures.changes.same ∙ told))

pub returns-in_err-sync_both-clause-files : goal.returns-in_err-sync_both-clause-files
returns-in_err-sync_both-clause-files g c = λ told. narrowing_way (g.V.Volume.history c.args.vol.now) _ (c.sync_both.ensures.changes.during told)

pub returns-clause-files : goal.returns-clause-files
returns-clause-files g c = λ told.
    synced_way _ _ _ (c.sync_both.ensures.changes.during told) (c.in_ok-sync_both.ensures.done told) (c.finish.ensures.files (c.sync_both.ensures.changes.same ∙ told))

pub returns-clause-journal : goal.returns-clause-journal
returns-clause-journal g c = λ told.
    let done = c.in_ok-sync_both.ensures.done told in
    let last = current (g.V.Volume.history c.finish.new.vol) in
    let Left : Disk → Type 0 = λ d.
    IfOk c.finish.result (λ r. LeavesJournal d.journal.now r last.journal.now) in
    subst Left done
    (c.finish.ensures.finishes.journal (c.sync_both.ensures.changes.same ∙ told))

pub returns-clause-closed : goal.returns-clause-closed
returns-clause-closed g c = λ told.
    let done = c.in_ok-sync_both.ensures.done told in
    let last = current (g.V.Volume.history c.finish.new.vol) in
    subst (λ (d : Disk). OnClosed c.finish.result (last ≡ d)) done
    (c.finish.ensures.finishes.closed (c.sync_both.ensures.changes.same ∙ told))
