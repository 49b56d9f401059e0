use Rattle.std.proofs.Common.{◌≡◌, ℕ, ◌+◌, ◌*◌, ◌/◌, ◌%◌, ◌<◌, ◌≤◌, arith, length, slice_index}
use Rattle.std.proofs.lemmas.Simd.{length-put_chunk}
use lib.Lanes.{put_chunk}
use Rattle.bit_stuff.specs.Stuffed.{field_at, number_of_bytes}
use Rattle.bit_stuff.proofs.LaneNumbers.{four_more}
use Rattle.bit_stuff.proofs.unpacking.unstuff_eights.Goals as goal

pub loop-done-preserved : goal.loop-done-preserved
loop-done-preserved c =
    let w = c.args.width in
    let number = number_of_bytes c.args.bytes.now in
    let done = c.loop-done.done in
    let at = c.loop-done.at in
    let place : 8 * at ≡ w * done = c.loop-done.invariant.1 in
    let room : done + 8 ≤ length c.loop-done.out = c.loop-done-test.true in
    let low = c.four_numbers-low.result in
    let first = put_chunk done c.loop-done.out low in
    let long : length first ≡ length c.loop-done.out = length-put_chunk done c.loop-done.out low in
    let half : (k : ℕ) → k < done + 4 → slice_index first k ≡ field_at w number k =
    four_more w number done (8 * at + 0) c.loop-done.out low (omega (arith, place)) (omega (arith, room)) c.four_numbers-low.ensures.four c.four_numbers-low.ensures.numbers c.loop-done.invariant.2 in (
      omega (arith, room, long, length-put_chunk (done + 4) first c.four_numbers-high.result),
      omega (arith, place),
      λ k lt.
          four_more w number (done + 4) (8 * (at + 4 * w / 8) + 4 * w % 8) first c.four_numbers-high.result (omega (arith, place)) (omega (arith, room, long))
          c.four_numbers-high.ensures.four c.four_numbers-high.ensures.numbers half k (omega (arith, lt)),
    )
