use Rattle.std.proofs.Common.{◌∙◌, List, None, map, sym, ap, subst}
use Rattle.std.specs.Prelude.{All}
use Rattle.raster_values.specs.Raster.{Pixels}
use Rattle.lerc_encode.specs.Choice.{chosen_bands}
use Rattle.lerc_encode.specs.Encoded.{AreEncodedOnce}
use Rattle.tile_stream.specs.declared.tile.Tile.{Tile}
use Rattle.tile_updates.specs.Updates.{tile_bytes}
use Rattle.tile_updates.proofs.Adding.{all_of, blobs_of}
use Rattle.tile_updates.proofs.Results.{on_ok}
use Rattle.tile_updates.proofs.encoding.encode_batch.Goals as goal

pub add_blobs-requires-clause-blobs : goal.add_blobs-requires-clause-blobs
add_blobs-requires-clause-blobs g c =
    let v = c.args.coding.version in
    let step = c.args.coding.step in
    let slots = c.batch.inside.slots.items in
    let bands = c.batch.inside.tiles.items in
    c.in-Ok.ensures.blobs ∙ ap (map (λ (t : List Pixels). chosen_bands None t v step)) c.as_slice.ensures.value
    ∙ sym (blobs_of v step slots bands c.batch.invariant.long) ∙ ap (map (tile_bytes v step)) c.batch.view_is

pub returns-in-Ok-clause-encoded : goal.returns-in-Ok-clause-encoded
returns-in-Ok-clause-encoded g c =
    let v = c.args.coding.version in
    let step = c.args.coding.step in
    let bands = c.batch.inside.tiles.items in
    let are = subst (All (λ (b : List Pixels). AreEncodedOnce (chosen_bands None b v step) b step)) c.as_slice.ensures.value c.in-Ok.ensures.encoded in
    on_ok c.add_blobs.result (All (λ (t : Tile). AreEncodedOnce (tile_bytes v step t) t.bands step) c.args.batch)
    (subst (All (λ (t : Tile). AreEncodedOnce (tile_bytes v step t) t.bands step)) c.batch.view_is (all_of (λ (b : List Pixels). AreEncodedOnce (chosen_bands None b v step) b step) c.batch.inside.slots.items bands are))
