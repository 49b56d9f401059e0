use Rattle.std.proofs.Common.{length, refl}
use Rattle.lerc_decode.proofs.OverWalk.{first_stop, no_other_bands_room}
use Rattle.lerc_decode.proofs.over_bands.decode_bands_over.Goals as goal

pub returns-in-Err-clause-stop : goal.returns-in-Err-clause-stop
returns-in-Err-clause-stop c = first_stop c.args.tile.now c.in-Err.fault _ c.in-Err.ensures.fault c.tile_fault.ensures

pub returns-in-Err-clause-sizes : goal.returns-in-Err-clause-sizes
returns-in-Err-clause-sizes c = (λ e. absurd (cc), λ a. absurd (c.in-Err.ensures.none a.header a.stands))

pub returns-clause-sizes : goal.returns-clause-sizes
returns-clause-sizes c = (
  λ e. absurd (c.walk_over.ensures.sizes e),
  λ a. absurd (no_other_bands_room c.args.tile.now c.in-Ok.header c.args.bands (length c.args.values.now) (length c.args.masks.now) c.in-Ok.ensures.ok (c.if-not-have_bands_room.ensures.0 refl) a),
)

pub returns-clause-kept : goal.returns-clause-kept
returns-clause-kept c = λ e. absurd (c.walk_over.ensures.sizes e)
