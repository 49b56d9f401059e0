use Rattle.std.proofs.Common.{◌≡◌, ◌+◌, ◌%◌, ◌^◌, ◌<◌, ◌≤◌, ℕ, List, [], ◌∷◌, refl, sym, ap, subst, ◌∙◌}
use Rattle.raster_values.specs.Raster.{Pixels}
use Rattle.lerc_grammar.specs.Bands.{BandsBlob}
use Rattle.sample_tiles.specs.Drawn.{sample_tile}
use Rattle.sample_tiles.specs.Sums.{off_by}
use Rattle.sample_tiles.specs.inside.Batches.{IsFitting, IsTileLike}
use Rattle.sample_tiles.proofs.Summing.{like_sample, sums_more, tile_at}
use Rattle.sample_tiles.proofs.adding.add.Goals as goal

pub error_of-requires-clause-like : goal.error_of-requires-clause-like
error_of-requires-clause-like c =
    let one = c.requires.one in
    subst IsTileLike (sym (tile_at c.args.tile.now c.at.result.now (sample_tile one.0 one.1) one.2 c.at.ensures)) (like_sample one.0 one.1 c.args.tile.now c.len-len.ensures.sound one.2)

pub error_of-requires-clause-fitting : goal.error_of-requires-clause-fitting
error_of-requires-clause-fitting c =
    let one = c.requires.one in
    let same = tile_at c.args.tile.now c.at.result.now (sample_tile one.0 one.1) one.2 c.at.ensures in
    subst (λ (bands : List Pixels). IsFitting bands c.args.blob.now) (one.2 ∙ ap (λ (r : Pixels). r ∷ []) (sym same)) c.requires.fitting

pub returns-clause-sums : goal.returns-clause-sums
returns-clause-sums c = λ start is named sums.
    let t = c.args.sums.now.tiles in
    let same = tile_at c.args.tile.now c.at.result.now (sample_tile start t) is c.at.ensures in
    let bounds = subst (λ (x : Pixels). (r : Pixels) (k : ℕ) → BandsBlob c.args.blob.now (r ∷ []) → k < 4096 → off_by x r k ≤ c.in_ok-error.error) same c.in_ok-error.ensures.bound in
    let meets = subst (λ (x : Pixels). 0 < c.in_ok-error.error → (r : Pixels) × ((k : ℕ) × (BandsBlob c.args.blob.now (r ∷ []) × (k < 4096) × (off_by x r k ≡ c.in_ok-error.error)))) same c.in_ok-error.ensures.met in
    sums_more start c.args.sums.now _ c.args.blob.now c.in_ok-error.error named sums refl refl c.max-sums.ensures (ap (λ (n : ℕ). (c.args.sums.now.checksums + n) % 2 ^ 32) c.checksum_in.ensures) bounds meets
