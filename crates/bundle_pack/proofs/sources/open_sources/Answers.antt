use Rattle.std.proofs.Common.{◌+◌, ◌∷◌, [], List, length, Err, refl, subst, sym, ap, ◌∙◌, slice_set, arith}
use Rattle.std.specs.Prelude.{Vec}
use Rattle.std.specs.declared.alloc.Global.{Global}
use Rattle.std.proofs.lemmas.List.{length-append}
use Rattle.std.proofs.lemmas.Option.{slice_get-get_or}
use Rattle.bundle_store.specs.Session.{SessionState}
use Rattle.bundle_pack.specs.Sources.{Each}
use Rattle.bundle_pack.specs.inside.Turns.{IsTurn}
use Rattle.bundle_pack.proofs.Reading.{images_same}
use Rattle.bundle_pack.proofs.Steps.{opening_answers}
use Rattle.bundle_pack.proofs.Turning.{failed_shut, first_unopened, stopped_shut, turn_fails, turn_more, turn_none, turn_stops, turns_moved, turns_open, turns_serve, turns_shut}
use Rattle.bundle_pack.proofs.sources.open_sources.Goals as goal

pub loop-at-init : goal.loop-at-init
loop-at-init g c =
    let vol = g.V.Volume in
    record {
      end = refl;
      pushed = ap length c.new-sessions.ensures.items;
      turns = subst (λ (ss : List SessionState). Each (IsTurn vol.told vol.history vol.faults ss 0) c.args.from.now c.args.from.now) (sym c.new-sessions.ensures.items)
          (turn_none vol.told vol.history vol.faults c.args.from.now (λ i v. images_same vol.told vol.history v));
    }

pub loop-at-preserved : goal.loop-at-preserved
loop-at-preserved g c =
    let vol = g.V.Volume in
    let inv = c.loop-at.invariant in
    let there = slice_get-get_or c.loop-at.from c.loop-at.at c.index-from-at.result (omega (arith, inv.end, inv.turns.many)) in
    let items = c.in-Ok-push.ensures.items in
    record {
      end = inv.end;
      pushed = ap length items ∙ length-append c.loop-at.sessions.items (c.in-Ok.session ∷ []) ∙ omega (arith, inv.pushed);
      turns = subst (λ (ss : List SessionState). Each (IsTurn vol.told vol.history vol.faults ss (c.loop-at.at + 1)) c.args.from.now (slice_set c.loop-at.from c.loop-at.at c.open_one.new.vol)) (sym items)
          (turn_more vol.told vol.history vol.faults c.loop-at.sessions.items c.loop-at.at c.args.from.now c.loop-at.from _ c.open_one.new.vol c.in-Ok.session inv.pushed there c.open_one.ensures.kept c.in-Ok.ensures.counted
          (record { running = c.in-Ok.ensures.running; opens = c.in-Ok.ensures.says; left = c.in-Ok.ensures.left; shut = c.in-Ok.ensures.shut }) inv.turns);
    }

pub returns-in-Err-push-clause-sources : goal.returns-in-Err-push-clause-sources
returns-in-Err-push-clause-sources g c =
    let vol = g.V.Volume in
    let inv = c.loop-at.invariant in
    let there = slice_get-get_or c.loop-at.from c.loop-at.at c.index-from-at.result (omega (arith, inv.end, inv.turns.many)) in
    turn_stops vol.told vol.history vol.faults c.loop-at.sessions.items c.loop-at.at c.args.from.now c.loop-at.from _ c.open_one.new.vol c.in-Ok.session _ refl there c.open_one.ensures.kept c.in-Ok.ensures.counted c.in-Ok.ensures.left inv.turns

pub returns-in-Err-clause-sources : goal.returns-in-Err-clause-sources
returns-in-Err-clause-sources g c =
    let vol = g.V.Volume in
    let inv = c.loop-at.invariant in
    let there = slice_get-get_or c.loop-at.from c.loop-at.at c.index-from-at.result (omega (arith, inv.end, inv.turns.many)) in
    turn_fails vol.told vol.history vol.faults c.loop-at.sessions.items c.loop-at.at c.args.from.now c.loop-at.from _ c.open_one.new.vol c.in-Err.fault _ (ap Err c.source_fault.ensures) there c.open_one.ensures.kept c.in-Err.ensures.counted c.in-Err.ensures.left inv.turns

pub returns-in-Err-clause-says : goal.returns-in-Err-clause-says
returns-in-Err-clause-says g c = λ all.
    let vol = g.V.Volume in
    let inv = c.loop-at.invariant in
    let there = slice_get-get_or c.loop-at.from c.loop-at.at c.index-from-at.result (omega (arith, inv.end, inv.turns.many)) in
    rw c.source_fault.ensures (first_unopened (Vec SessionState Global) vol.told vol.history vol.faults c.loop-at.sessions.items c.loop-at.at c.args.from.now c.loop-at.from _ c.in-Err.fault _ _ all there inv.turns c.in-Err.ensures.says)

pub returns-in-Err-clause-answers : goal.returns-in-Err-clause-answers
returns-in-Err-clause-answers g c =
    let inv = c.loop-at.invariant in
    rw c.source_fault.ensures (opening_answers c.loop-at.at (length c.args.from.now) c.in-Err.fault (omega (arith, inv.end)) c.in-Err.ensures.answers)

pub returns-clause-sources : goal.returns-clause-sources
returns-clause-sources g c =
    let vol = g.V.Volume in
    let inv = c.loop-at.invariant in
    turns_moved vol.told vol.history vol.faults c.loop-at.sessions.items c.loop-at.at c.args.from.now c.loop-at.from _ (omega (arith, inv.end)) (λ i is. absurd cc) inv.turns

pub returns-clause-serving : goal.returns-clause-serving
returns-clause-serving g c =
    let vol = g.V.Volume in
    let inv = c.loop-at.invariant in
    turns_serve vol.told vol.history vol.faults c.loop-at.sessions.items c.loop-at.at c.args.from.now c.loop-at.from inv.pushed (omega (arith, inv.end)) inv.turns

pub returns-clause-says : goal.returns-clause-says
returns-clause-says g c = λ all.
    let vol = g.V.Volume in
    let inv = c.loop-at.invariant in
    turns_open vol.told vol.history vol.faults c.loop-at.sessions.items c.loop-at.at c.args.from.now c.loop-at.from (omega (arith, inv.end)) all inv.turns

pub returns-in-Err-push-clause-shut : goal.returns-in-Err-push-clause-shut
returns-in-Err-push-clause-shut g c =
    let vol = g.V.Volume in
    let inv = c.loop-at.invariant in
    let there = slice_get-get_or c.loop-at.from c.loop-at.at c.index-from-at.result (omega (arith, inv.end, inv.turns.many)) in
    stopped_shut (Vec SessionState Global) vol.told vol.history vol.faults c.loop-at.sessions.items c.loop-at.at c.args.from.now c.loop-at.from _ c.open_one.new.vol there inv.turns

pub returns-in-Err-clause-shut : goal.returns-in-Err-clause-shut
returns-in-Err-clause-shut g c =
    let vol = g.V.Volume in
    let inv = c.loop-at.invariant in
    let there = slice_get-get_or c.loop-at.from c.loop-at.at c.index-from-at.result (omega (arith, inv.end, inv.turns.many)) in
    rw c.source_fault.ensures (failed_shut (Vec SessionState Global) vol.told vol.history vol.faults c.loop-at.sessions.items c.loop-at.at c.args.from.now c.loop-at.from _ c.open_one.new.vol c.in-Err.fault there inv.turns)

pub returns-clause-shut : goal.returns-clause-shut
returns-clause-shut g c =
    let vol = g.V.Volume in
    let inv = c.loop-at.invariant in
    turns_shut vol.told vol.history vol.faults c.loop-at.sessions.items c.loop-at.at c.args.from.now c.loop-at.from (omega (arith, inv.end)) inv.turns
