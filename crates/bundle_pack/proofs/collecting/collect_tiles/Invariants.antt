use Rattle.std.proofs.Common.{IsTrue}
use Rattle.std.specs.Prelude.{All}
use Rattle.bundle_store.specs.Build.{EachFits, map_after}
use Rattle.bundle_store.specs.Tiles.{no_tiles}
use Rattle.bundle_pack.specs.Chosen.{AreWhole}
use Rattle.bundle_pack.specs.Files.{all_bundles}
use Rattle.bundle_pack.specs.Sources.{Each}
use Rattle.bundle_pack.specs.inside.Collecting.{AreAhead, IsMergedBelow, IsStill}
use Rattle.bundle_pack.proofs.collecting.collect_tiles.Given as goal

abbrev pub invariant-loop-number : goal.invariant-loop-number
invariant-loop-number g l = record {
  still : Each (λ i v w. IsStill g.V.Volume.told g.V.Volume.history g.V.Volume.faults ⊥ v w) l.fn.from l.from;
  aheads : AreAhead g.V.Volume.told g.V.Volume.history l.from l.aheads.items;
  fits : EachFits l.tiles.items;
  so : All (λ v. IsTrue (g.V.Volume.told v)) l.fn.from → AreWhole (all_bundles g.V.Volume.history l.fn.from) l.number × IsMergedBelow (all_bundles g.V.Volume.history l.fn.from) l.number (map_after no_tiles l.tiles.items);
}
