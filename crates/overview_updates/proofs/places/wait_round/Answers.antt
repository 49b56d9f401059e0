use Rattle.std.proofs.Common.{List, subst, arith}
use Rattle.std.specs.List.{AllZip}
use Rattle.tile_updates.proofs.SoFar.{no_cause, same_count}
use Rattle.outside_io.specs.declared.volume.VolFile.TheVariants.{Bundle}
use Rattle.outside_io.specs.volume.History.{contents}
use Rattle.overview_updates.specs.declared.quarters.Four.{Four}
use Rattle.overview_updates.specs.inside.Fours.{IsHalved}
use Rattle.overview_updates.proofs.Rounds.{on_ok, round_halves, want_once, want_only}
use Rattle.overview_updates.proofs.Zips.{zip_length}
use Rattle.overview_updates.proofs.places.wait_round.Goals as goal

pub wait_halves-requires-clause-some : goal.wait_halves-requires-clause-some
wait_halves-requires-clause-some g c =
    let zip = subst (λ (fs : List Four). AllZip (IsHalved c.args.asked.now.coding.version) fs c.in-Ok-halve.halves.items) c.as_slice.ensures.value c.in-Ok-halve.ensures in
    omega (arith, c.in-Ok.ensures.some, zip_length _ _ _ zip)

pub wait_halves-requires-clause-within : goal.wait_halves-requires-clause-within
wait_halves-requires-clause-within g c =
    let zip = subst (λ (fs : List Four). AllZip (IsHalved c.args.asked.now.coding.version) fs c.in-Ok-halve.halves.items) c.as_slice.ensures.value c.in-Ok-halve.ensures in
    omega (arith, c.in-Ok.ensures.within, zip_length _ _ _ zip)

pub returns-clause-waits : goal.returns-clause-waits
returns-clause-waits g c = λ from w.
    let v = c.args.asked.now.coding.version in
    let told = g.V.Volume.told c.args.vol.now in
    let bundle = contents Bundle (g.V.Volume.history c.args.vol.now) in
    let zip = subst (λ (fs : List Four). AllZip (IsHalved v) fs c.in-Ok-halve.halves.items) c.as_slice.ensures.value c.in-Ok-halve.ensures in
    c.wait_halves.ensures.waits told bundle from w (round_halves told bundle v c.args.waiting.now.place c.in-Ok.fours.items c.in-Ok-halve.halves.items c.in-Ok.ensures.round zip)

pub returns-clause-at_once : goal.returns-clause-at_once
returns-clause-at_once g c = want_once c.wait_halves.result c.wait_halves.ensures.memory

pub returns-clause-reads : goal.returns-clause-reads
returns-clause-reads g c = record {
  same = c.read_round.ensures.reads.same;
  counted = no_cause _ (g.V.Volume.faults c.args.vol.now) (g.V.Volume.faults c.read_round.new.vol) (want_only c.wait_halves.result c.wait_halves.ensures.memory) (same_count _ (g.V.Volume.faults c.args.vol.now) (g.V.Volume.faults c.read_round.new.vol) c.in-Ok.ensures.reads.counted (λ e. let no : ⊥ = cc e in no));
  during = c.read_round.ensures.reads.during;
}

pub returns-clause-reading : goal.returns-clause-reading
returns-clause-reading g c = on_ok c.wait_halves.result c.in-Ok.ensures.reading
