use Rattle.std.proofs.Common.{ℕ, ◌+◌, length, refl, ap, ◌∙◌, arith, length-append}
use Rattle.bundle_tiles.proofs.Importing.{group_last, group_more, group_none, group_still, group_told, stream_fits}
use Rattle.bundle_tiles.proofs.RawTiles.{raw_fits}
use Rattle.bundle_tiles.proofs.taking.take_group.Goals as goal

pub loop-tile-init : goal.loop-tile-init
loop-tile-init g c = record {
  took = group_none _ c.args.at _ c.new-tiles.ensures.items;
  count = ap length c.new-tiles.ensures.items;
  place = omega arith;
  counted = refl;
}

pub loop-tile-preserved : goal.loop-tile-preserved
loop-tile-preserved g c =
    let inv = c.loop-tile.invariant in
    let took = rw c.in-Ok-Some.field-0-is at c.in-Ok-Some.ensures.ok in
    let items = c.in-Ok.ensures.items in
    let many = ap length items ∙ length-append c.loop-tile.tiles.items _ in
    record {
      took = group_more _ _ _ c.args.at c.loop-tile.end _ c.loop-tile.tiles.items _ c.in-Ok-Some.tile inv.took took items (ap (λ (n : ℕ). c.loop-tile.end + (7 + n)) c.len.ensures);
      count = omega (arith, many, inv.count);
      place = omega (arith, many, inv.place, c.len.ensures, (raw_fits took.0 c.in-Ok-Some.tile took.1.0).1);
      counted = c.in-Ok-Some.ensures.counted ∙ inv.counted;
    }

pub returns-in-Ok-None-clause-group : goal.returns-in-Ok-None-clause-group
returns-in-Ok-None-clause-group g c =
    let inv = c.loop-tile.invariant in
    let none = rw c.in-Ok-None.field-0-is at c.in-Ok-None.ensures.ok in
    record { took = group_still _ _ _ c.args.at c.loop-tile.end c.loop-tile.tiles.items none inv.took; most = omega (arith, inv.count, c.loop-tile-test.true); last = λ fewer. group_last _ _ none }

pub returns-in-Ok-None-clause-fit : goal.returns-in-Ok-None-clause-fit
returns-in-Ok-None-clause-fit g c = stream_fits _ _ c.loop-tile.invariant.took.stream

pub returns-in-Err-clause-fault : goal.returns-in-Err-clause-fault
returns-in-Err-clause-fault g c = group_told _ _ c.args.at c.loop-tile.end c.loop-tile.tiles.items c.in-Err.stop c.loop-tile.invariant.took c.in-Err.ensures.fault

pub returns-clause-group : goal.returns-clause-group
returns-clause-group g c =
    let inv = c.loop-tile.invariant in
    record { took = inv.took; most = omega (arith, inv.count); last = λ fewer. absurd (let no : ⊥ = omega (arith, inv.count, fewer) in no) }

pub returns-clause-fit : goal.returns-clause-fit
returns-clause-fit g c = stream_fits _ _ c.loop-tile.invariant.took.stream
