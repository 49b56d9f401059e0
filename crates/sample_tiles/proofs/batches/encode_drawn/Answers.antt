use Rattle.std.proofs.Common.{◌≡◌, ℕ, List, map, None, subst}
use Rattle.std.specs.Prelude.{All}
use Rattle.raster_values.specs.Raster.{Pixels}
use Rattle.lerc_header.specs.declared.header.Version.TheVariants.{V4}
use Rattle.lerc_encode.specs.Choice.{chosen_bands}
use Rattle.lerc_encode.specs.Encoded.{AreEncodedOnce}
use Rattle.sample_tiles.proofs.Batch.{their_blobs}
use Rattle.sample_tiles.proofs.batches.encode_drawn.Goals as goal

pub returns-in-Ok : goal.returns-in-Ok
returns-in-Ok g c =
    let tiles = c.args.tiles.now in
    their_blobs tiles c.in-Ok.blobs
    (subst (λ (n : ℕ). c.in-Ok.blobs ≡ map (λ (t : List Pixels). chosen_bands None t V4 n) tiles) c.of.ensures.step c.in-Ok.ensures.blobs)
    c.in-Ok.ensures.few
    (subst (λ (n : ℕ). All (λ (t : List Pixels). AreEncodedOnce (chosen_bands None t V4 n) t n) tiles) c.of.ensures.step c.in-Ok.ensures.encoded)
