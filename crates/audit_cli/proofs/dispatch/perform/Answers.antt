use Rattle.std.proofs.Common.{◌≡◌, ◌∙◌, Err, refl, sym, ap}
use Rattle.outside_io.specs.declared.volume.VolFile.TheVariants.{Bundle}
use Rattle.outside_io.specs.volume.History.{contents}
use Rattle.opened_bundle.proofs.BundleOpening.{still}
use Rattle.program_ends.proofs.Ends.{caused}
use Rattle.program_ends.specs.Moves.{sink_move, volume_move}
use Rattle.program_ends.specs.declared.stop.Stop.TheVariants.{Output, Volume}
use Rattle.tile_audit.proofs.Still.{still_contents}
use Rattle.audit_cli.proofs.Opened.{audits_all, cut_off, stopped_so}
use Rattle.audit_cli.proofs.Performing.{both_read, counts_no_output, output_back, output_there, same_count, served_so, stops_no_output}
use Rattle.audit_cli.proofs.dispatch.perform.Goals as goal

-- the bundle is not opened

pub returns-in-Err-clause-leaves : goal.returns-in-Err-clause-leaves
returns-in-Err-clause-leaves g c =
    stopped_so c.args.command c.in-Err.stop (volume_move g.V.Volume.told g.V.Volume.history g.V.Volume.faults c.args.vol.now c.open_to_audit.new.vol) (sink_move g.K.Sink.held g.K.Sink.faults c.args.out.now c.args.out.now) c.in-Err.ensures.refused
    (caused _ _ _ _ (λ is. let same : c.in-Err.stop ≡ Volume = cc in same) (λ is. ap (λ s. Err s) is) c.in-Err.ensures.reads.counted) c.in-Err.ensures.calls refl refl

pub returns-in-Err-clause-reads : goal.returns-in-Err-clause-reads
returns-in-Err-clause-reads g c = record { told = c.in-Err.ensures.reads.same; counts = c.in-Err.ensures.reads.counted.counts; during = c.in-Err.ensures.reads.during }

pub returns-in-Err-clause-output_failed : goal.returns-in-Err-clause-output_failed
returns-in-Err-clause-output_failed g c =
    still _ _ _ refl (λ is. stops_no_output (g.V.Volume.told c.args.vol.now) (g.V.Volume.history c.args.vol.now) c.in-Err.stop c.in-Err.ensures.refused (let same : c.in-Err.stop ≡ Output = cc in same))

-- it is opened

pub audit_all-requires-clause-served : goal.audit_all-requires-clause-served
audit_all-requires-clause-served g c κs within =
    served_so g.V.Volume.told g.V.Volume.history c.in-Ok.opened.0 c.in-Ok.opened.1 c.args.vol.now c.open_to_audit.new.vol c.in-Ok.ensures.running c.in-Ok.ensures.opened c.in-Ok.ensures.reads.same c.in-Ok.ensures.reads.during

-- and audited

pub returns-in-Ok-audit_all-clause-leaves : goal.returns-in-Ok-audit_all-clause-leaves
returns-in-Ok-audit_all-clause-leaves g c =
    let h = g.V.Volume.history in
    let first = c.in-Ok.ensures.reads in
    rw c.end_of.ensures (audits_all c.args.command c.in-Ok-audit_all.totals c.damage.result (g.V.Volume.told c.open_to_audit.new.vol) (contents Bundle (h c.open_to_audit.new.vol)) (g.V.Volume.faults c.open_to_audit.new.vol)
    (volume_move g.V.Volume.told h g.V.Volume.faults c.args.vol.now c.audit_all.new.vol) (sink_move g.K.Sink.held g.K.Sink.faults c.args.out.now c.audit_all.new.out) c.in-Ok-audit_all.ensures.gave c.damage.ensures.value (λ t. first.same ∙ t)
    (λ t. still_contents (h c.args.vol.now) (h c.open_to_audit.new.vol) (first.during t)) (same_count _ _ _ (λ is. (let bad : ⊥ = cc in bad)) first.counted) (λ t. (c.in-Ok.ensures.opened t).may))

pub returns-in-Ok-audit_all-clause-reads : goal.returns-in-Ok-audit_all-clause-reads
returns-in-Ok-audit_all-clause-reads g c = both_read g.V.Volume.told g.V.Volume.history g.V.Volume.faults _ _ _ _ c.in-Ok.ensures.reads c.audit_all.ensures.reads

pub returns-in-Ok-audit_all-clause-output_failed : goal.returns-in-Ok-audit_all-clause-output_failed
returns-in-Ok-audit_all-clause-output_failed g c =
    rw c.end_of.ensures (still _ _ _ (same_count _ _ _ (λ is. (let bad : ⊥ = cc in bad)) c.in-Ok-audit_all.ensures.output_failed) (λ is. counts_no_output _ _ is))

pub returns-clause-leaves : goal.returns-clause-leaves
returns-clause-leaves g c =
    let h = g.V.Volume.history in
    let first = c.in-Ok.ensures.reads in
    rw c.audit_stop.ensures (cut_off c.args.command c.in-Err-audit_all.stop (g.V.Volume.told c.open_to_audit.new.vol) (contents Bundle (h c.open_to_audit.new.vol)) (g.V.Volume.faults c.open_to_audit.new.vol)
    (volume_move g.V.Volume.told h g.V.Volume.faults c.args.vol.now c.audit_all.new.vol) (sink_move g.K.Sink.held g.K.Sink.faults c.args.out.now c.audit_all.new.out) c.in-Err-audit_all.ensures.gave (λ t. first.same ∙ t)
    (λ t. still_contents (h c.args.vol.now) (h c.open_to_audit.new.vol) (first.during t)) (same_count _ _ _ (λ is. (let bad : ⊥ = cc in bad)) first.counted) (λ t. (c.in-Ok.ensures.opened t).may))

pub returns-clause-reads : goal.returns-clause-reads
returns-clause-reads g c = both_read g.V.Volume.told g.V.Volume.history g.V.Volume.faults _ _ _ _ c.in-Ok.ensures.reads c.audit_all.ensures.reads

pub returns-clause-output_failed : goal.returns-clause-output_failed
returns-clause-output_failed g c =
    caused _ _ _ _ (λ is. ap (λ s. Err s) (c.audit_stop.ensures ∙ output_there c.in-Err-audit_all.stop (let same = is in cc))) (λ is. ap (λ s. Err s) (output_back c.in-Err-audit_all.stop (sym c.audit_stop.ensures ∙ (let same : c.audit_stop.result ≡ Output = cc in same)))) c.in-Err-audit_all.ensures.output_failed
