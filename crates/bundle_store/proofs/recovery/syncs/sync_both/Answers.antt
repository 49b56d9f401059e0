use Rattle.std.proofs.Common.{◌∙◌, rules}
use Rattle.outside_io.specs.declared.volume.VolFile.TheVariants.{Bundle, Journal}
use Rattle.bundle_store.proofs.Keeping.{narrows_on, narrows_starts}
use Rattle.bundle_store.proofs.recovery.syncs.sync_both.Goals as goal

pub returns-in_err-sync-clause-changes : goal.returns-in_err-sync-clause-changes
returns-in_err-sync-clause-changes g c = record {
  same = (cc);
  counted = search rules;
  during = λ told.
      let old = g.V.Volume.history c.args.vol.now in
      let crash = c.sync.ensures.crash told in
      narrows_on Journal _ _ _ _ (narrows_starts old) c.sync.ensures.time crash;
}

pub returns-clause-changes : goal.returns-clause-changes
returns-clause-changes g c = record {
  same = (cc);
  counted = search rules;
  during = λ told.
      let old = g.V.Volume.history c.args.vol.now in
      let crash = c.sync.ensures.crash told in
      let one = narrows_on Journal _ _ _ _ (narrows_starts old) c.sync.ensures.time crash in
      let crash_1 = c.sync-2.ensures.crash (c.sync.ensures.told ∙ told) in
      narrows_on Bundle _ _ _ _ one c.sync-2.ensures.time crash_1;
}
