use Rattle.std.proofs.Common.{◌+◌, ◌%◌, ◌≤◌, ◌<◌, length, get_or, ◌∙◌, refl, arith}
use Rattle.std.proofs.lemmas.List.{length-set}
use Rattle.lane_kernels.proofs.LaneSums.{before_one, before_sixteen, summed_none, summed_one, summed_sixteen}
use Rattle.lane_kernels.proofs.running.running_sums.Goals as goal

pub loop-bytes-init : goal.loop-bytes-init
loop-bytes-init c = record { room = refl; within = omega arith; before = refl; summed = summed_none c.args.first c.args.bytes.now }

pub loop-bytes-preserved : goal.loop-bytes-preserved
loop-bytes-preserved c =
    let inv = c.loop-bytes.invariant in
    let at = c.loop-bytes.at in
    let new = c.sum_sixteen.new.bytes in
    let sixteen = c.sum_sixteen.ensures in
    let room : at + 16 ≤ length c.loop-bytes.bytes = omega (arith, inv.room, inv.within, c.loop-bytes-test.true) in
    record {
      room = c.sum_sixteen.auto.bytes ∙ inv.room;
      within = omega (arith, inv.room, room);
      before = before_sixteen c.args.first new at;
      summed = summed_sixteen c.args.first c.loop-bytes.before c.args.bytes.now c.loop-bytes.bytes new at room (omega arith) inv.before sixteen.sums sixteen.rest inv.summed;
    }

pub loop-at-preserved : goal.loop-at-preserved
loop-at-preserved c =
    let inv = c.loop-at.invariant in
    let at = c.loop-at.at in
    let bytes = c.loop-at.bytes in
    let n = (c.loop-at.before + get_or bytes at 0) % 256 in
    let room : at < length bytes = omega (arith, c.loop-at-test.true) in
    record {
      room = length-set bytes at n ∙ inv.room;
      within = omega (arith, inv.room, room);
      before = before_one c.args.first n bytes at room;
      summed = summed_one c.args.first c.loop-at.before n c.args.bytes.now bytes at room inv.before refl inv.summed;
    }

pub returns : goal.returns
returns c = λ i lt. c.loop-at.invariant.summed.done i (omega (arith, lt, c.loop-at.invariant.room, c.loop-at-test.false))
