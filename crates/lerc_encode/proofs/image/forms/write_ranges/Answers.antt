use Rattle.std.proofs.Common.{◌≡◌, ℕ, ◌*◌, ◌<◌, sym, ◌∙◌, length, subst, arith, to_z, of_z, w64}
use Rattle.raster_cells.specs.PixelType.{bytes_of}
use Rattle.raster_values.specs.Raster.{Pixels}
use Rattle.raster_cells.specs.declared.kind.PixelType.{PixelType}
use Rattle.lerc_encode.specs.Ranges.{leasts, greatests}
use Rattle.lerc_encode.proofs.Extremes.{at_leasts, at_greatests, depth_least_fits, depth_greatest_fits, length_leasts, length_greatests}
use Rattle.lerc_encode.proofs.FirstRanges.{least_at, greatest_at}
use Rattle.lerc_encode.proofs.Forming.{as_kept, kept_fits, list_put, list_whole}
use Rattle.lerc_encode.proofs.image.forms.write_ranges.Goals as goal

-- there is room for a list, and for nothing else
room_of : (r : Pixels) (kind : PixelType) (size depth : ℕ) → size ≡ r.depth * bytes_of r.kind → kind ≡ r.kind → depth ≡ r.depth → size ≡ depth * bytes_of kind
room_of r kind size depth room same all = room ∙ (λ t. sym all t * bytes_of (sym same t))

pub write_value-requires-clause-in_range : goal.write_value-requires-clause-in_range
write_value-requires-clause-in_range g c =
    let r = (g.V.View.pixels c.args.raster.now) in
    let below = subst (λ n. c.loop-d.d < n) c.depth-d-end.ensures.value c.loop-d-test.true in
    kept_fits r.kind c.kind-kind.result c.range_at-found.result.least (least_at r c.loop-d.d) c.kind-kind.ensures.value c.range_at-found.ensures.least (depth_least_fits r c.kind-kind.ensures.sound c.loop-d.d below)

pub write_value-requires-in-loop-d-clause-in_range : goal.write_value-requires-in-loop-d-clause-in_range
write_value-requires-in-loop-d-clause-in_range g c =
    let r = (g.V.View.pixels c.args.raster.now) in
    let below = subst (λ n. c.loop-d.d < n) c.depth-d-end.ensures.value c.loop-d-test.true in
    kept_fits r.kind c.kind-kind.result c.range_at-found.result.greatest (greatest_at r c.loop-d.d) c.kind-kind.ensures.value c.range_at-found.ensures.greatest (depth_greatest_fits r c.kind-kind.ensures.sound c.loop-d.d below)

pub loop-d-preserved : goal.loop-d-preserved
loop-d-preserved g c =
    let r = (g.V.View.pixels c.args.raster.now) in
    let d = c.loop-d.d in
    let kind = c.kind-kind in
    let found = c.range_at-found in
    let below = subst (λ n. d < n) c.depth-d-end.ensures.value c.loop-d-test.true in
    let least = as_kept r.kind found.result.least (least_at r d) found.ensures.least (depth_least_fits r kind.ensures.sound d below) in
    let greatest = as_kept r.kind found.result.greatest (greatest_at r d) found.ensures.greatest (depth_greatest_fits r kind.ensures.sound d below) in
    record {
      low = list_put kind.result (leasts r) c.loop-d.low c.args.low.now c.write_value.new.out d c.bytes-size.result (to_z w64 (of_z w64 found.result.least)) (subst (λ n. d < n) (sym (length_leasts r)) below)
          (room_of r kind.result _ _ c.requires.low kind.ensures.value (length_leasts r)) c.loop-d.auto.low c.bytes-size.ensures (least ∙ sym (at_leasts r d below)) c.loop-d.invariant.low c.write_value.ensures.bytes;
      high = list_put kind.result (greatests r) c.loop-d.high c.args.high.now c.write_value-in-loop-d.new.out d c.bytes-size.result (to_z w64 (of_z w64 found.result.greatest)) (subst (λ n. d < n) (sym (length_greatests r)) below)
          (room_of r kind.result _ _ c.requires.high kind.ensures.value (length_greatests r)) c.loop-d.auto.high c.bytes-size.ensures (greatest ∙ sym (at_greatests r d below)) c.loop-d.invariant.high c.write_value-in-loop-d.ensures.bytes;
    }

pub returns-clause-least : goal.returns-clause-least
returns-clause-least g c =
    let r = (g.V.View.pixels c.args.raster.now) in
    let kind = c.kind-kind in
    let long = length_leasts r in
    let all : c.loop-d.d ≡ length (leasts r) = omega (arith, c.loop-d.auto.d-end, c.loop-d-test.false, c.depth-d-end.ensures.value, long) in
    list_whole kind.result r.kind (leasts r) c.loop-d.low c.args.low.now c.loop-d.d kind.ensures.value (room_of r kind.result _ _ c.requires.low kind.ensures.value long) all c.loop-d.invariant.low

pub returns-clause-greatest : goal.returns-clause-greatest
returns-clause-greatest g c =
    let r = (g.V.View.pixels c.args.raster.now) in
    let kind = c.kind-kind in
    let long = length_greatests r in
    let all : c.loop-d.d ≡ length (greatests r) = omega (arith, c.loop-d.auto.d-end, c.loop-d-test.false, c.depth-d-end.ensures.value, long) in
    list_whole kind.result r.kind (greatests r) c.loop-d.high c.args.high.now c.loop-d.d kind.ensures.value (room_of r kind.result _ _ c.requires.high kind.ensures.value long) all c.loop-d.invariant.high
