use Rattle.lerc_encode.specs.inside.Joined.{ArePlans}
use Rattle.lerc_encode.proofs.blobs.bands.plans_of.Given as goal

abbrev pub invariant-loop-k : goal.invariant-loop-k
invariant-loop-k l = ArePlans l.bands l.version l.step l.k l.plans.items l.size
