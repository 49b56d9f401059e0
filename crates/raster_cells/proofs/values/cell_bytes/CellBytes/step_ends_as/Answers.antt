use Rattle.std.proofs.Common.{◌≡◌, ◌+◌, ◌*◌, ◌∙◌, ℕ, map, get_or, subst, arith}
use Rattle.std.specs.Prelude.{ℤ, pos}
use Rattle.std.specs.List.{range_with_len}
use Rattle.raster_cells.specs.Distance.{distance_of}
use Rattle.raster_cells.specs.Runs.{AreEnds}
use Rattle.raster_cells.proofs.PixelSteps.{pixel_room}
use Rattle.raster_cells.proofs.CellDistances.{few_there, place_below, bytes_within, distance_there, value_fits, ends_of_one, ends_pushed}
use Rattle.raster_cells.proofs.values.cell_bytes.CellBytes.step_ends_as.Goals as goal

pub overflow_mul-pixels : goal.overflow_mul-pixels
overflow_mul-pixels c =
    let below = place_below c.args.pixels.first c.requires.some c.args.pixels.below c.requires.within in
    omega (arith, below, few_there c.self.inside c.args.self.now c.self.invariant c.self.view_is)

pub overflow_add-pixels : goal.overflow_add-pixels
overflow_add-pixels c =
    let below = place_below c.args.pixels.first c.requires.some c.args.pixels.below c.requires.within in
    omega (arith, below, few_there c.self.inside c.args.self.now c.self.invariant c.self.view_is)

pub distance_at-begin-requires-clause-few : goal.distance_at-begin-requires-clause-few
distance_at-begin-requires-clause-few c =
    let below = place_below c.args.pixels.first c.requires.some c.args.pixels.below c.requires.within in
    omega (arith, below, few_there c.self.inside c.args.self.now c.self.invariant c.self.view_is)

pub overflow_mul-pixels-in-loop-i : goal.overflow_mul-pixels-in-loop-i
overflow_mul-pixels-in-loop-i c =
    let room = pixel_room c.args.pixels.first c.loop-i-test.true c.args.pixels.below c.requires.within in
    omega (arith, room.0, few_there c.self.inside c.args.self.now c.self.invariant c.self.view_is)

pub overflow_add-pixels-in-loop-i-2 : goal.overflow_add-pixels-in-loop-i-2
overflow_add-pixels-in-loop-i-2 c =
    let room = pixel_room c.args.pixels.first c.loop-i-test.true c.args.pixels.below c.requires.within in
    omega (arith, room.0, few_there c.self.inside c.args.self.now c.self.invariant c.self.view_is)

pub distance_at-here-requires-clause-few : goal.distance_at-here-requires-clause-few
distance_at-here-requires-clause-few c =
    let room = pixel_room c.args.pixels.first c.loop-i-test.true c.args.pixels.below c.requires.within in
    omega (arith, room.0, few_there c.self.inside c.args.self.now c.self.invariant c.self.view_is)

pub distance_at-begin-requires-clause-within : goal.distance_at-begin-requires-clause-within
distance_at-begin-requires-clause-within c =
    let at = c.args.pixels.first * c.args.pixels.depth + c.args.pixels.d in
    let below = place_below c.args.pixels.first c.requires.some c.args.pixels.below c.requires.within in
    bytes_within c.self.inside c.args.self.now c.args.kind at c.self.invariant c.self.view_is c.requires.kind below

pub distance_at-here-requires-clause-within : goal.distance_at-here-requires-clause-within
distance_at-here-requires-clause-within c =
    let at = (c.args.pixels.first + c.loop-i.i) * c.args.pixels.depth + c.args.pixels.d in
    let room = pixel_room c.args.pixels.first c.loop-i-test.true c.args.pixels.below c.requires.within in
    bytes_within c.self.inside c.args.self.now c.args.kind at c.self.invariant c.self.view_is c.requires.kind room.0

pub loop-i-init : goal.loop-i-init
loop-i-init c =
    let at = c.args.pixels.first * c.args.pixels.depth + c.args.pixels.d in
    let v = get_or c.args.self.now.values at (pos 0) in
    let below = place_below c.args.pixels.first c.requires.some c.args.pixels.below c.requires.within in
    ends_of_one c.args.self.now.kind v c.distance_at-begin.result (value_fits c.self.inside c.args.self.now at c.self.invariant c.self.view_is below)
    (c.distance_at-begin.ensures ∙ distance_there c.self.inside c.args.self.now c.args.kind at c.self.view_is c.requires.kind below)

pub loop-i-preserved : goal.loop-i-preserved
loop-i-preserved c =
    let f : ℕ → ℤ = λ k. get_or c.args.self.now.values (k * c.args.pixels.depth + c.args.pixels.d) (pos 0) in
    let at = (c.args.pixels.first + c.loop-i.i) * c.args.pixels.depth + c.args.pixels.d in
    let room = pixel_room c.args.pixels.first c.loop-i-test.true c.args.pixels.below c.requires.within in
    let here : c.distance_at-here.result ≡ distance_of c.args.self.now.kind (f (c.args.pixels.first + c.loop-i.i)) =
    c.distance_at-here.ensures ∙ distance_there c.self.inside c.args.self.now c.args.kind at c.self.view_is c.requires.kind room.0 in
    ends_pushed c.args.self.now.kind f c.args.pixels.first c.loop-i.i c.loop-i.near c.loop-i.far c.distance_at-here.result c.min-near.result c.max-far.result
    (value_fits c.self.inside c.args.self.now at c.self.invariant c.self.view_is room.0) here c.min-near.ensures c.max-far.ensures c.loop-i.invariant

pub returns : goal.returns
returns c =
    let f : ℕ → ℤ = λ k. get_or c.args.self.now.values (k * c.args.pixels.depth + c.args.pixels.d) (pos 0) in
    let whole : c.loop-i.i ≡ c.args.count = omega arith in
    subst (λ n. AreEnds c.args.self.now.kind (map f (range_with_len c.args.pixels.first n)) c.loop-i.near c.loop-i.far) whole c.loop-i.invariant

pub overflow_add-pixels-in-loop-i : goal.overflow_add-pixels-in-loop-i
overflow_add-pixels-in-loop-i c =
    let room = pixel_room c.args.pixels.first c.loop-i-test.true c.args.pixels.below c.requires.within in
    omega (arith, room.1, few_there c.self.inside c.args.self.now c.self.invariant c.self.view_is)
