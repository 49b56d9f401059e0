use Rattle.std.proofs.Common.{sym, subst}
use Rattle.lerc_grammar.specs.declared.bands.BandsFault.{BandsFault}
use Rattle.tile_audit.specs.Sums.{SumFaultAt}
use Rattle.tile_audit.proofs.Blobs.{fault_here, front_more}
use Rattle.tile_audit.proofs.sums.first_sum_fault.Goals as goal

pub returns-in-Err : goal.returns-in-Err
returns-in-Err c =
    let f = c.in-Err.fault in
    subst (λ (g : BandsFault). SumFaultAt c.args.bytes.now g.place g.reason) (sym c.later.ensures) (fault_here c.args.bytes.now c.loop-at.at c.loop-at.count f.place f.reason c.loop-at.invariant c.in-Err.ensures.fault)

pub loop-at-preserved : goal.loop-at-preserved
loop-at-preserved c = front_more c.args.bytes.now c.loop-at.at c.loop-at.count c.in-Ok.size c.loop-at.invariant c.in-Ok.ensures.ok
