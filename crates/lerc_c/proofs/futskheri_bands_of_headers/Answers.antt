use Rattle.std.proofs.Common.{refl, sym, subst}
use Rattle.lerc_c.specs.HeadedBands.{IsUnheaded}
use Rattle.lerc_c.proofs.HeadedTiles.{tile_counted, tile_not_refused}
use Rattle.lerc_c.proofs.futskheri_bands_of_headers.Goals as goal

pub returns-in-Ok-clause-tile : goal.returns-in-Ok-clause-tile
returns-in-Ok-clause-tile c = λ rasters tile. (refl, tile_counted c.args.blob.now c.in-Ok.count rasters c.in-Ok.ensures.ok tile)

pub returns-in-Err-clause-tile : goal.returns-in-Err-clause-tile
returns-in-Err-clause-tile c = λ rasters tile. absurd (tile_not_refused c.args.blob.now rasters c.in-Err.found.place c.in-Err.found.reason tile c.in-Err.ensures.fault)

pub returns-in-Err-clause-refused : goal.returns-in-Err-clause-refused
returns-in-Err-clause-refused c = λ _.
    let found = c.in-Err.found in
    let told = c.fault_of.ensures in
    record {
      reason = found.reason;
      unheaded = subst (λ place. IsUnheaded c.args.blob.now place found.reason) (sym told.place_is) c.in-Err.ensures.fault;
      numbers = record { place_is = refl; reason_is = told.reason_is; stated = told.stated; found = told.found };
    }
