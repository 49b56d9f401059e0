use Rattle.std.proofs.Common.{refl, subst}
use Rattle.outside_io.specs.declared.volume.VolFile.TheVariants.{Journal}
use Rattle.outside_io.specs.volume.History.{contents}
use Rattle.side_journal.specs.Bodies.{IsState}
use Rattle.side_journal.specs.Says.{Says}
use Rattle.opened_bundle.proofs.BundleOpening.{still}
use Rattle.audit_cli.proofs.Opened.{failed_cause, journal_bad, journal_open}
use Rattle.audit_cli.proofs.opening.read_closed.Goals as goal

pub returns-in-Ok-Closed-clause-closed : goal.returns-in-Ok-Closed-clause-closed
returns-in-Ok-Closed-clause-closed g c = λ tells. subst (Says (contents Journal (g.V.Volume.history c.args.vol.now))) c.in-Ok-Closed.field-0-is (c.in-Ok-Closed.ensures.says tells)

pub returns-in-Ok-Closed-clause-reads : goal.returns-in-Ok-Closed-clause-reads
returns-in-Ok-Closed-clause-reads g c = record {
  same = c.read_journal.ensures.told;
  counted = still _ _ _ c.in-Ok-Closed.ensures.counted (λ is. (let bad : ⊥ = cc in bad));
  during = c.read_journal.ensures.during;
}

pub returns-in-Ok-Open-clause-refused : goal.returns-in-Ok-Open-clause-refused
returns-in-Ok-Open-clause-refused g c =
    journal_open (g.V.Volume.told c.args.vol.now) (g.V.Volume.history c.args.vol.now) _ (λ tells. subst (Says (contents Journal (g.V.Volume.history c.args.vol.now))) c.in-Ok-Open.field-0-is (c.in-Ok-Open.ensures.says tells))

pub returns-in-Ok-Open-clause-reads : goal.returns-in-Ok-Open-clause-reads
returns-in-Ok-Open-clause-reads g c = record {
  same = c.read_journal.ensures.told;
  counted = still _ _ _ c.in-Ok-Open.ensures.counted (λ is. (let bad : ⊥ = cc in bad));
  during = c.read_journal.ensures.during;
}

pub returns-in-Ok-Bad-clause-refused : goal.returns-in-Ok-Bad-clause-refused
returns-in-Ok-Bad-clause-refused g c =
    journal_bad (g.V.Volume.told c.args.vol.now) (g.V.Volume.history c.args.vol.now) c.in-Ok-Bad.place c.in-Ok-Bad.found (subst IsState c.in-Ok-Bad.field-0-is c.in-Ok-Bad.ensures.fits)
    (λ tells. subst (Says (contents Journal (g.V.Volume.history c.args.vol.now))) c.in-Ok-Bad.field-0-is (c.in-Ok-Bad.ensures.says tells))

pub returns-in-Ok-Bad-clause-reads : goal.returns-in-Ok-Bad-clause-reads
returns-in-Ok-Bad-clause-reads g c = record {
  same = c.read_journal.ensures.told;
  counted = still _ _ _ c.in-Ok-Bad.ensures.counted (λ is. (let bad : ⊥ = cc in bad));
  during = c.read_journal.ensures.during;
}

pub returns-in-Err-clause-reads : goal.returns-in-Err-clause-reads
returns-in-Err-clause-reads g c = record { same = c.read_journal.ensures.told; counted = failed_cause _ _ _ refl c.in-Err.ensures.counted; during = c.read_journal.ensures.during }
