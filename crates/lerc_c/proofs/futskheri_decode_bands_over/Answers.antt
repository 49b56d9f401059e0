use Rattle.lerc_grammar.specs.Bands.{BandsFaultAt}
use Rattle.lerc_c.proofs.BandHolding.{decoded_over, tells_tile}
use Rattle.lerc_c.proofs.futskheri_decode_bands_over.Goals as goal

pub returns-in-Ok-clause-ok : goal.returns-in-Ok-clause-ok
returns-in-Ok-clause-ok c = λ _. decoded_over c.args.blob.now c.args.bands c.decode_bands_over.new.values c.decode_bands_over.new.masks c.in-Ok.ensures.ok

pub returns-in-Err-Tile-clause-refused : goal.returns-in-Err-Tile-clause-refused
returns-in-Err-Tile-clause-refused c = λ _.
    let found = c.in-Err-Tile.found in
    let told : BandsFaultAt c.args.blob.now found.place found.reason = rw c.in-Err-Tile.field-0-is at c.in-Err-Tile.ensures.stop in
    tells_tile c.args.blob.now found.place found.reason c.fault_of_bands.result told c.fault_of_bands.ensures
