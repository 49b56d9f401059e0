use Rattle.std.proofs.Common.{subst, sym}
use Rattle.overview_tiles.specs.inside.Means.{Counted}
use Rattle.overview_tiles.proofs.Filling.{counted_all}
use Rattle.overview_tiles.proofs.halving.mark_counted.Goals as goal

pub returns-then-are_some : goal.returns-then-are_some
returns-then-are_some c =
    subst (Counted c.args.counts.now c.args.unmarked) (sym c.mark_all.ensures) (counted_all c.args.counts.now c.args.unmarked c.requires.count (c.are_some.ensures c.if-are_some.true))
