use Rattle.std.proofs.Common.{◌≡◌, ◌≢◌, ◌<◌, ◌+◌, ◌*◌, ◌∙◌, ℕ, sym, refl, length, get_or, arith, get_or-set_other, get_or-set_same, below_more}
use Rattle.std.specs.Prelude.{pos}
use Rattle.std.proofs.lemmas.List.{ext_get_or}
use Rattle.std.proofs.lemmas.List.FromFn.{get_or-map-range_with_len, length-map-range_with_len}
use Rattle.raster_cells.specs.Distance.{distance_of}
use Rattle.raster_cells.proofs.PixelSteps.{pixel_room}
use Rattle.raster_cells.proofs.CellDistances.{few_there, bytes_within, distance_there}
use Rattle.raster_cells.proofs.values.cell_bytes.CellBytes.get_steps_as.Goals as goal

pub distance_at-requires-clause-within : goal.distance_at-requires-clause-within
distance_at-requires-clause-within c =
    let at = (c.args.pixels.first + c.loop-i.i) * c.args.pixels.depth + c.args.pixels.d in
    let room = pixel_room {i = c.loop-i.i} {n = length c.args.out.now} c.args.pixels.first (omega arith) c.args.pixels.below c.requires.within in
    bytes_within c.self.inside c.args.self.now c.args.kind at c.self.invariant c.self.view_is c.requires.kind room.0

pub loop-i-preserved : goal.loop-i-preserved
loop-i-preserved c =
    let at = (c.args.pixels.first + c.loop-i.i) * c.args.pixels.depth + c.args.pixels.d in
    let room = pixel_room {i = c.loop-i.i} {n = length c.args.out.now} c.args.pixels.first (omega arith) c.args.pixels.below c.requires.within in
    let here : c.distance_at.result ≡ distance_of c.args.self.now.kind (get_or c.args.self.now.values at (pos 0)) =
    c.distance_at.ensures ∙ distance_there c.self.inside c.args.self.now c.args.kind at c.self.view_is c.requires.kind room.0 in
    below_more _ _
    (λ k h. let ne : k ≢ c.loop-i.i = omega arith in rw get_or-set_other (c.loop-i.invariant k h))
    (let lt : c.loop-i.i < length c.loop-i.out = omega (arith, c.loop-i.auto.out) in rw get_or-set_same here)

pub returns : goal.returns
returns c =
    let f : ℕ → ℕ = λ k. distance_of c.args.self.now.kind (get_or c.args.self.now.values (k * c.args.pixels.depth + c.args.pixels.d) (pos 0)) in
    let n = length c.args.out.now in
    ext_get_or 0 _ _ (c.loop-i.auto.out ∙ sym (length-map-range_with_len f c.args.pixels.first n)) (λ i below.
    let less : i < n = omega (arith, c.loop-i.auto.out) in
    c.loop-i.invariant i (omega arith) ∙ sym (get_or-map-range_with_len f c.args.pixels.first n i (c.args.pixels.first + i) 0 less refl))

pub overflow_mul-pixels : goal.overflow_mul-pixels
overflow_mul-pixels c =
    let room = pixel_room {i = c.loop-i.i} {n = length c.args.out.now} c.args.pixels.first (omega arith) c.args.pixels.below c.requires.within in
    omega (arith, room.0, few_there c.self.inside c.args.self.now c.self.invariant c.self.view_is)

pub overflow_add-pixels : goal.overflow_add-pixels
overflow_add-pixels c =
    let room = pixel_room {i = c.loop-i.i} {n = length c.args.out.now} c.args.pixels.first (omega arith) c.args.pixels.below c.requires.within in
    omega (arith, room.1, few_there c.self.inside c.args.self.now c.self.invariant c.self.view_is)

pub overflow_add-pixels-in-loop-i : goal.overflow_add-pixels-in-loop-i
overflow_add-pixels-in-loop-i c =
    let room = pixel_room {i = c.loop-i.i} {n = length c.args.out.now} c.args.pixels.first (omega arith) c.args.pixels.below c.requires.within in
    omega (arith, room.0, few_there c.self.inside c.args.self.now c.self.invariant c.self.view_is)

pub distance_at-requires-clause-few : goal.distance_at-requires-clause-few
distance_at-requires-clause-few c =
    let room = pixel_room {i = c.loop-i.i} {n = length c.args.out.now} c.args.pixels.first (omega arith) c.args.pixels.below c.requires.within in
    omega (arith, room.0, few_there c.self.inside c.args.self.now c.self.invariant c.self.view_is)
