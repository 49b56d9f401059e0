use Rattle.std.proofs.Common.{◌≡◌, ◌∷◌, drop, ap, ◌∙◌, rules}
use Rattle.outside_io.specs.volume.Disk.{Disk}
use Rattle.outside_io.specs.volume.History.{current}
use Rattle.outside_io.proofs.VolumeLemmas.Moments.{during_end}
use Rattle.side_journal.specs.declared.body.JournalState.TheVariants.{Open}
use Rattle.bundle_store.proofs.Midway.{midway_emptying, midway_finishing, midway_reading}
use Rattle.bundle_store.proofs.Recovering.{emptied, keeps_emptying, keeps_finishing, keeps_reading}
use Rattle.bundle_store.proofs.Ways.{finishing_way, reading_way}
use Rattle.bundle_store.proofs.recovery.finish.Goals as goal

pub returns-in_err-state-clause-changes : goal.returns-in_err-state-clause-changes
returns-in_err-state-clause-changes g c = record {
  same = (cc);
  counted = search rules;
  during = λ told.
      keeps_reading _ _ (c.requires.quiet told) (c.read_journal.ensures.during told);
}

pub returns-in-Closed-clause-changes : goal.returns-in-Closed-clause-changes
returns-in-Closed-clause-changes g c = record {
  same = (cc);
  counted = search rules;
  during = λ told.
      keeps_reading _ _ (c.requires.quiet told) (c.read_journal.ensures.during told);
}

pub returns-in-Tile-clause-changes : goal.returns-in-Tile-clause-changes
returns-in-Tile-clause-changes g c = record {
  same = (cc);
  counted = search rules;
  during = λ told.
      keeps_finishing _ _ _ (c.requires.quiet told) (c.read_journal.ensures.during told)
      (c.finish_group.ensures.changes.during (c.read_journal.ensures.told ∙ told));
}

pub returns-in_err-empty-in-Build-clause-changes : goal.returns-in_err-empty-in-Build-clause-changes
returns-in_err-empty-in-Build-clause-changes g c = record {
  same = (cc);
  counted = search rules;
  during = λ told.
      keeps_emptying c.in_ok-state.state _ _ _ (c.in-Open.is ∙ ap Open c.in-Build.is) (c.in_ok-state.ensures.says told) (c.requires.quiet told) (c.read_journal.ensures.during told)
      (c.empty.ensures.changes.during (c.read_journal.ensures.told ∙ told));
}

pub returns-in_ok-empty-in-Build-clause-changes : goal.returns-in_ok-empty-in-Build-clause-changes
returns-in_ok-empty-in-Build-clause-changes g c = record {
  same = (cc);
  counted = search rules;
  during = λ told.
      keeps_emptying c.in_ok-state.state _ _ _ (c.in-Open.is ∙ ap Open c.in-Build.is) (c.in_ok-state.ensures.says told) (c.requires.quiet told) (c.read_journal.ensures.during told)
      (c.empty.ensures.changes.during (c.read_journal.ensures.told ∙ told));
}

pub returns-in_ok-empty-in-Build-clause-finishes : goal.returns-in_ok-empty-in-Build-clause-finishes
returns-in_ok-empty-in-Build-clause-finishes g c = record {
  says = search rules;
  done = λ told.
      emptied c.in_ok-state.state _ _ (g.V.Volume.history c.empty.new.vol) (c.in-Open.is ∙ ap Open c.in-Build.is) (c.in_ok-state.ensures.says told) (c.read_journal.ensures.during told)
      (c.in_ok-empty-in-Build.ensures.done (c.read_journal.ensures.told ∙ told));
  leaves = search rules;
  journal = λ told.
      let old = g.V.Volume.history c.args.vol.now in
      let still = during_end (λ d. d ≡ current old) old _ (c.read_journal.ensures.during told) in
      ap (λ (d : Disk). d.journal.now) (c.in_ok-empty-in-Build.ensures.done (c.read_journal.ensures.told ∙ told)) ∙ ap (λ (d : Disk). 0 ∷ drop 1 d.journal.now) still;
  closed = λ told. tt;
  refused = λ told. tt;
  answers = tt;
}

pub returns-in-Bad-clause-changes : goal.returns-in-Bad-clause-changes
returns-in-Bad-clause-changes g c = record {
  same = (cc);
  counted = search rules;
  during = λ told.
      keeps_reading _ _ (c.requires.quiet told) (c.read_journal.ensures.during told);
}

pub returns-in_err-state-clause-bytes : goal.returns-in_err-state-clause-bytes
returns-in_err-state-clause-bytes g c = λ told. midway_reading _ _ (c.requires.quiet told) (c.read_journal.ensures.during told)

pub returns-in-Closed-clause-bytes : goal.returns-in-Closed-clause-bytes
returns-in-Closed-clause-bytes g c = λ told. midway_reading _ _ (c.requires.quiet told) (c.read_journal.ensures.during told)

pub returns-in-Bad-clause-bytes : goal.returns-in-Bad-clause-bytes
returns-in-Bad-clause-bytes g c = λ told. midway_reading _ _ (c.requires.quiet told) (c.read_journal.ensures.during told)

pub returns-in-Tile-clause-bytes : goal.returns-in-Tile-clause-bytes
returns-in-Tile-clause-bytes g c = λ told.
    midway_finishing _ _ _ (c.requires.quiet told) (c.read_journal.ensures.during told) (c.finish_group.ensures.bytes (c.read_journal.ensures.told ∙ told))

pub returns-in_err-empty-in-Build-clause-bytes : goal.returns-in_err-empty-in-Build-clause-bytes
returns-in_err-empty-in-Build-clause-bytes g c = λ told.
    midway_emptying c.in_ok-state.state _ _ _ (c.in-Open.is ∙ ap Open c.in-Build.is) (c.in_ok-state.ensures.says told) (c.requires.quiet told) (c.read_journal.ensures.during told)
    (c.empty.ensures.bytes (c.read_journal.ensures.told ∙ told))

pub returns-in_ok-empty-in-Build-clause-bytes : goal.returns-in_ok-empty-in-Build-clause-bytes
returns-in_ok-empty-in-Build-clause-bytes g c = λ told.
    midway_emptying c.in_ok-state.state _ _ _ (c.in-Open.is ∙ ap Open c.in-Build.is) (c.in_ok-state.ensures.says told) (c.requires.quiet told) (c.read_journal.ensures.during told)
    (c.empty.ensures.bytes (c.read_journal.ensures.told ∙ told))

pub returns-in-Group-clause-changes : goal.returns-in-Group-clause-changes
returns-in-Group-clause-changes g c = record {
  same = (cc);
  counted = search rules;
  during = λ told.
      keeps_finishing _ _ _ (c.requires.quiet told) (c.read_journal.ensures.during told)
      (c.finish_group-in-Group.ensures.changes.during (c.read_journal.ensures.told ∙ told));
}

pub returns-in-Group-clause-bytes : goal.returns-in-Group-clause-bytes
returns-in-Group-clause-bytes g c = λ told.
    midway_finishing _ _ _ (c.requires.quiet told) (c.read_journal.ensures.during told) (c.finish_group-in-Group.ensures.bytes (c.read_journal.ensures.told ∙ told))

pub returns-in_err-state-clause-files : goal.returns-in_err-state-clause-files
returns-in_err-state-clause-files g c = λ told. reading_way _ _ (c.requires.quiet told) (c.read_journal.ensures.during told)

pub returns-in-Closed-clause-files : goal.returns-in-Closed-clause-files
returns-in-Closed-clause-files g c = λ told. reading_way _ _ (c.requires.quiet told) (c.read_journal.ensures.during told)

pub returns-in-Bad-clause-files : goal.returns-in-Bad-clause-files
returns-in-Bad-clause-files g c = λ told. reading_way _ _ (c.requires.quiet told) (c.read_journal.ensures.during told)

pub returns-in-Tile-clause-files : goal.returns-in-Tile-clause-files
returns-in-Tile-clause-files g c = λ told.
    finishing_way _ _ _ (c.requires.quiet told) (c.read_journal.ensures.during told) (c.finish_group.ensures.files (c.read_journal.ensures.told ∙ told))

pub returns-in-Group-clause-files : goal.returns-in-Group-clause-files
returns-in-Group-clause-files g c = λ told.
    finishing_way _ _ _ (c.requires.quiet told) (c.read_journal.ensures.during told) (c.finish_group-in-Group.ensures.files (c.read_journal.ensures.told ∙ told))

pub returns-in_err-empty-in-Build-clause-files : goal.returns-in_err-empty-in-Build-clause-files
returns-in_err-empty-in-Build-clause-files g c = λ told.
    finishing_way _ _ _ (c.requires.quiet told) (c.read_journal.ensures.during told) (c.empty.ensures.files (c.read_journal.ensures.told ∙ told))

pub returns-in_ok-empty-in-Build-clause-files : goal.returns-in_ok-empty-in-Build-clause-files
returns-in_ok-empty-in-Build-clause-files g c = λ told.
    finishing_way _ _ _ (c.requires.quiet told) (c.read_journal.ensures.during told) (c.empty.ensures.files (c.read_journal.ensures.told ∙ told))
