use Rattle.std.proofs.Common.{◌≢◌, ◌<◌, ◌+◌, ◌*◌, ◌∙◌, ℕ, sym, refl, length, get_or, arith, get_or-set_other, get_or-set_same, below_more}
use Rattle.std.specs.Prelude.{ℤ, pos}
use Rattle.std.proofs.lemmas.List.{ext_get_or}
use Rattle.std.proofs.lemmas.List.FromFn.{get_or-map-range_with_len, length-map-range_with_len}
use Rattle.raster_cells.specs.CellList.{values_in}
use Rattle.raster_cells.proofs.ValueBits.{same_bits}
use Rattle.raster_cells.proofs.PixelSteps.{pixel_room}
use Rattle.raster_cells.proofs.values.value_bytes.read_steps_as.Goals as goal

pub overflow_mul-pixels : goal.overflow_mul-pixels
overflow_mul-pixels c =
    let room = pixel_room {i = c.loop-i.i} {n = length c.args.out.now} c.args.pixels.first (omega arith) c.args.pixels.below c.requires.within in
    omega arith

pub overflow_add-pixels-in-loop-i : goal.overflow_add-pixels-in-loop-i
overflow_add-pixels-in-loop-i c =
    let room = pixel_room {i = c.loop-i.i} {n = length c.args.out.now} c.args.pixels.first (omega arith) c.args.pixels.below c.requires.within in
    omega arith

pub value_at-requires-clause-within : goal.value_at-requires-clause-within
value_at-requires-clause-within c =
    let room = pixel_room {i = c.loop-i.i} {n = length c.args.out.now} c.args.pixels.first (omega arith) c.args.pixels.below c.requires.within in
    omega arith

pub returns : goal.returns
returns c =
    let f : ℕ → ℤ = λ k. get_or (values_in c.args.kind c.args.count c.args.bytes.now) (k * c.args.pixels.depth + c.args.pixels.d) (pos 0) in
    let n = length c.args.out.now in
    ext_get_or (pos 0) _ _ (c.loop-i.auto.out ∙ sym (length-map-range_with_len f c.args.pixels.first n)) (λ i below.
    let less : i < n = omega (arith, c.loop-i.auto.out) in
    c.loop-i.invariant i (omega arith) ∙ sym (get_or-map-range_with_len f c.args.pixels.first n i (c.args.pixels.first + i) (pos 0) less refl))

pub overflow_add-pixels : goal.overflow_add-pixels
overflow_add-pixels c =
    let room = pixel_room {i = c.loop-i.i} {n = length c.args.out.now} c.args.pixels.first (omega arith) c.args.pixels.below c.requires.within in
    omega (arith, room.1, c.requires.few)

pub loop-i-preserved : goal.loop-i-preserved
loop-i-preserved c =
    let same = same_bits c.args.kind c.value_at.result c.value_at.ensures.in_range in
    let here = same ∙ c.value_at.ensures.value in
    below_more _ _
    (λ k h. let ne : k ≢ c.loop-i.i = omega arith in rw get_or-set_other (c.loop-i.invariant k h))
    (let lt : c.loop-i.i < length c.loop-i.out = omega (arith, c.loop-i.auto.out) in rw get_or-set_same here)
