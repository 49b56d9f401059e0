use Rattle.std.proofs.Common.{◌≡◌, ◌-◌, length, take, drop, refl, arith, rules, ◌∙◌}
use Rattle.outside_io.proofs.StreamLemmas.Gives.{Holds_none}
use Rattle.bundle_lines.proofs.Ended.{ended_before, ended_by, ended_well, fits_still, rest_all, so_next, so_still, uncaused}
use Rattle.bundle_lines.proofs.Stepping.{stand_first}
use Rattle.bundle_lines.proofs.puts.put_all.Goals as goal

pub loop-done-init : goal.loop-done-init
loop-done-init g c = record {
  so_far = record { count = search rules; running = c.requires.serving.running; told = refl; lines = Holds_none _; stands = λ told. stand_first _ _ _ _ c.requires.none (c.requires.serving.ready told) };
  within = search rules;
  room = search rules;
  output = refl;
  volume = refl;
}

pub loop-done-preserved : goal.loop-done-preserved
loop-done-preserved g c =
    let inv = c.loop-done.invariant in
    let us = c.args.updates.now in
    let k = c.loop-done.done in
    let asked = c.next_group.ensures in
    let rest : take (length us - k) (drop k us) ≡ drop k us = rest_all us k in
    let next = rw rest at c.in-Ok.ensures.next in
    let images = rw rest at c.put_some.ensures.images in
    let still = so_still us k _ _ _ _ _ _ _ _ _ _ inv.so_far c.loop-done-test.true asked.reads.same asked.reads.during in
    let fits = fits_still us k _ _ _ _ _ _ _ _ _ _ inv.so_far c.loop-done-test.true asked.reads.same asked.reads.during c.in-Ok.count next.3 in
    record {
      so_far = so_next us k c.in-Ok.count _ _ _ _ _ _ _ _ _ _ _ _ _ still c.loop-done-test.true next.0 next.2 fits images c.put_some.ensures.told.same (rw rest at c.in-Ok-put_some.ensures.turn);
      within = search rules;
      room = search rules;
      output = uncaused _ _ _ (λ is. cc) c.in-Ok-put_some.ensures.output_failed ∙ inv.output;
      volume = uncaused _ _ _ (λ is. cc) c.in-Ok-put_some.ensures.told.counted ∙ uncaused _ _ _ (λ is. cc) c.in-Ok.ensures.reads.counted ∙ inv.volume;
    }

pub returns-in-Err-clause-ended : goal.returns-in-Err-clause-ended
returns-in-Err-clause-ended g c =
    let us = c.args.updates.now in
    let k = c.loop-done.done in
    let asked = c.next_group.ensures in
    let rest : take (length us - k) (drop k us) ≡ drop k us = rest_all us k in
    ended_before us k _ _ _ _ _ _ _ _ _ _ c.loop-done.invariant.so_far c.loop-done-test.true asked.reads.same asked.reads.during c.in-Err.stop (rw rest at c.in-Err.ensures.next)

pub returns-in-Err-put_some-clause-ended : goal.returns-in-Err-put_some-clause-ended
returns-in-Err-put_some-clause-ended g c =
    let inv = c.loop-done.invariant in
    let us = c.args.updates.now in
    let k = c.loop-done.done in
    let asked = c.next_group.ensures in
    let rest : take (length us - k) (drop k us) ≡ drop k us = rest_all us k in
    let next = rw rest at c.in-Ok.ensures.next in
    let images = rw rest at c.put_some.ensures.images in
    let still = so_still us k _ _ _ _ _ _ _ _ _ _ inv.so_far c.loop-done-test.true asked.reads.same asked.reads.during in
    let fits = fits_still us k _ _ _ _ _ _ _ _ _ _ inv.so_far c.loop-done-test.true asked.reads.same asked.reads.during c.in-Ok.count next.3 in
    ended_by us k c.in-Ok.count _ _ _ _ _ _ _ _ _ _ _ _ _ still c.loop-done-test.true next.0 next.2 fits images c.put_some.ensures.told.same c.in-Err-put_some.stop (rw rest at c.in-Err-put_some.ensures.turn)

pub returns-clause-ended : goal.returns-clause-ended
returns-clause-ended g c =
    ended_well c.args.updates.now _ _ _ _ _ _ _ _ _ c.loop-done.invariant.so_far (omega (arith, c.loop-done.invariant.within, c.loop-done-test.false))
