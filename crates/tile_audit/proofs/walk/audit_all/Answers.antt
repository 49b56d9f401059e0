use Rattle.std.proofs.Common.{◌∙◌, inr, refl, subst}
use Rattle.outside_io.specs.declared.volume.VolFile.TheVariants.{Bundle}
use Rattle.outside_io.specs.volume.History.{contents}
use Rattle.outside_io.specs.streams.Sink.{Holds, HoldsPrefix}
use Rattle.outside_io.proofs.StreamLemmas.Gives.{HoldsPrefix_join, Holds_join}
use Rattle.tile_audit.specs.Lines.{audit_lines, total_lines}
use Rattle.tile_audit.proofs.Standing.{audit_stops, cause_of, cause_same}
use Rattle.tile_audit.proofs.walk.audit_all.Goals as goal

pub returns-in-Err-clause-gave : goal.returns-in-Err-clause-gave
returns-in-Err-clause-gave g c =
    audit_stops (g.V.Volume.told c.args.vol.now) (contents Bundle (g.V.Volume.history c.args.vol.now)) c.args.all c.in-Err.stop (g.V.Volume.faults c.args.vol.now) (g.V.Volume.faults c.give_tiles.new.vol) (g.K.Sink.held c.args.out.now) (g.K.Sink.held c.give_tiles.new.out) c.in-Err.ensures.gave

pub returns-in-Ok-give_all-clause-gave : goal.returns-in-Ok-give_all-clause-gave
returns-in-Ok-give_all-clause-gave g c =
    let (tiles, (all, (totals, gave))) = c.in-Ok.ensures.gave in
    let text = c.as_slice.ensures.value ∙ c.total_text.ensures tiles totals in
    let last = subst (Holds (g.K.Sink.held c.give_tiles.new.out) (g.K.Sink.held c.give_all.new.sink)) text c.in-Ok-give_all.ensures.ok in
    (tiles, (all, (totals, Holds_join (g.K.Sink.held c.args.out.now) (g.K.Sink.held c.give_tiles.new.out) (g.K.Sink.held c.give_all.new.sink) (audit_lines c.args.all tiles) (total_lines tiles) gave last)))

pub returns-in-Err-give_all-clause-gave : goal.returns-in-Err-give_all-clause-gave
returns-in-Err-give_all-clause-gave g c =
    let (tiles, (all, (totals, gave))) = c.in-Ok.ensures.gave in
    let text = c.as_slice.ensures.value ∙ c.total_text.ensures tiles totals in
    let last = subst (HoldsPrefix (g.K.Sink.held c.give_tiles.new.out) (g.K.Sink.held c.give_all.new.sink)) text c.in-Err-give_all.ensures.err in
    (tiles, inr (all, HoldsPrefix_join (g.K.Sink.held c.args.out.now) (g.K.Sink.held c.give_tiles.new.out) (g.K.Sink.held c.give_all.new.sink) (audit_lines c.args.all tiles) (total_lines tiles) gave last))

pub returns-in-Err-give_all-clause-output_failed : goal.returns-in-Err-give_all-clause-output_failed
returns-in-Err-give_all-clause-output_failed g c =
    let same = cause_same _ (g.K.Sink.faults c.args.out.now) (g.K.Sink.faults c.give_tiles.new.out) c.in-Ok.ensures.output_failed (λ e. (let bad : ⊥ = cc in bad)) in
    cause_of _ (g.K.Sink.faults c.args.out.now) (g.K.Sink.faults c.give_tiles.new.out) (g.K.Sink.faults c.give_all.new.sink) refl same c.in-Err-give_all.ensures.counted
