use Rattle.std.proofs.Common.{◌≡◌, ◌∙◌, ℕ, List, None, map, sym, ap, subst, refl, arith}
use Rattle.std.specs.Prelude.{All}
use Rattle.raster_values.specs.Raster.{Pixels}
use Rattle.lerc_encode.specs.Choice.{chosen_bands}
use Rattle.lerc_encode.specs.Encoded.{AreEncodedOnce}
use Rattle.tile_stream.specs.declared.tile.Tile.{Tile}
use Rattle.tile_updates.specs.declared.updates.SoFar.{SoFar}
use Rattle.tile_updates.specs.Stops.{TellsStop}
use Rattle.tile_updates.specs.Updates.{tile_bytes}
use Rattle.tile_updates.specs.inside.SoFar.{IsSoFar}
use Rattle.tile_updates.proofs.Adding.{all_of, blobs_of}
use Rattle.tile_updates.proofs.SoFar.{so_far_more}
use Rattle.tile_updates.proofs.Refusing.{refused_encoding}
use Rattle.tile_updates.proofs.Results.{at_ok, free_of, on_ok, there_ok}
use Rattle.tile_updates.proofs.updates.add_while_filling.Goals as goal

pub add_blobs-requires-clause-blobs : goal.add_blobs-requires-clause-blobs
add_blobs-requires-clause-blobs g c =
    let v = c.args.coding.now.version in
    let step = c.args.coding.now.step in
    let batch = c.batch.inside in
    let e = c.encode_and_fill-blobs in
    let made : c.in-Ok.blobs ≡ map (λ (t : List Pixels). chosen_bands None t v step) c.as_slice.result.now =
    at_ok e.result.0 c.in-Ok.blobs (λ (bs : List (List ℕ)). bs ≡ map (λ (t : List Pixels). chosen_bands None t v step) c.as_slice.result.now) c.in-Ok.is e.ensures.blobs in
    made ∙ ap (map (λ (t : List Pixels). chosen_bands None t v step)) c.as_slice.ensures.value
    ∙ sym (blobs_of v step batch.slots.items batch.tiles.items c.batch.invariant.long) ∙ ap (map (tile_bytes v step)) c.batch.view_is

pub returns-in-Ok-add_blobs-clause-ok : goal.returns-in-Ok-add_blobs-clause-ok
returns-in-Ok-add_blobs-clause-ok g c = λ input from s w.
    let v = c.args.coding.now.version in
    let step = c.args.coding.now.step in
    let bands = c.batch.inside.tiles.items in
    let after : SoFar = record { list = c.add_blobs.new.list; place = c.args.waiting.place } in
    let e = c.encode_and_fill-blobs in
    let each = there_ok e.result.0 c.in-Ok.blobs (All (λ (b : List Pixels). AreEncodedOnce (chosen_bands None b v step) b step) c.as_slice.result.now) c.in-Ok.is e.ensures.encoded in
    let are = subst (All (λ (b : List Pixels). AreEncodedOnce (chosen_bands None b v step) b step)) c.as_slice.ensures.value each in
    let encoded = subst (All (λ (t : Tile). AreEncodedOnce (tile_bytes v step t) t.bands step)) c.batch.view_is (all_of (λ (b : List Pixels). AreEncodedOnce (chosen_bands None b v step) b step) c.batch.inside.slots.items bands are) in
    on_ok e.result.1 (IsSoFar v step input (g.S.Source.left c.args.src.now) after)
    (so_far_more v step input from (g.S.Source.left c.args.src.now) c.args.done.now after c.args.waiting s w c.in-Ok-add_blobs.ensures.passed encoded (omega (arith, c.requires.few)) c.in-Ok-add_blobs.ensures.added refl)

pub returns-in-Ok-add_blobs-clause-refused : goal.returns-in-Ok-add_blobs-clause-refused
returns-in-Ok-add_blobs-clause-refused g c = λ input from s w. free_of c.args.coding.now.version c.args.coding.now.step input c.encode_and_fill-blobs.result.1 c.encode_and_fill-blobs.ensures.free

pub returns-in-Err-clause-refused : goal.returns-in-Err-clause-refused
returns-in-Err-clause-refused g c = λ input from s w.
    let v = c.args.coding.now.version in
    let step = c.args.coding.now.step in
    subst (TellsStop v step input) (sym c.stream_stop.ensures)
    (refused_encoding v step input from (g.S.Source.left c.args.src.now) c.args.done.now c.args.waiting c.in-Err.stop s w (omega (arith, c.requires.few)) c.in-Err.ensures.refused)
