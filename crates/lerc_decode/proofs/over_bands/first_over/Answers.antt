use Rattle.std.proofs.Common.{◌≡◌, drop, length, rules}
use Rattle.std.proofs.lemmas.List.{take_at}
use Rattle.lerc_decode.specs.Over.{IsFaultOf}
use Rattle.lerc_decode.specs.OverBands.{band_bytes, mask_bytes}
use Rattle.lerc_decode.proofs.OverWalk.{first_stop, front_first}
use Rattle.lerc_decode.proofs.over_bands.first_over.Goals as goal

pub returns-in-Ok-clause-ok : goal.returns-in-Ok-clause-ok
returns-in-Ok-clause-ok c =
    let first = c.args.first.now in
    let own = c.decode_over.new.values in
    let mask = c.decode_over.new.mask in
    let wide : length own ≡ band_bytes first = search rules in
    let deep : length mask ≡ mask_bytes first = search rules in
    front_first c.args.tile.now first c.in-Ok.size _ _ own mask c.requires.head (take_at own (drop c.values_len-size.result c.args.values.now) (band_bytes first) wide) (take_at mask (drop c.mask_len-mask.result c.args.masks.now) (mask_bytes first) deep) c.in-Ok.ensures.ok

pub returns-in-Err-Blob-clause-fault : goal.returns-in-Err-Blob-clause-fault
returns-in-Err-Blob-clause-fault c =
    let told : IsFaultOf c.args.tile.now c.in-Err-Blob.fault = rw c.in-Err-Blob.field-0-is at c.in-Err-Blob.ensures.stop in
    first_stop c.args.tile.now c.in-Err-Blob.fault c.tile_fault.result told c.tile_fault.ensures
