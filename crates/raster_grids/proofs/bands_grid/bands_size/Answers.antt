use Rattle.std.proofs.Common.{◌≡◌, ◌+◌, take, ap, ◌∙◌, arith}
use Rattle.std.specs.List.{sum_by}
use Rattle.std.proofs.lemmas.List.{take_all}
use Rattle.raster_grids.specs.inside.Sizes.{band_bytes}
use Rattle.raster_grids.proofs.BandSizes.{sizes_more, bands_grid_long, bands_small}
use Rattle.raster_grids.proofs.bands_grid.bands_size.Goals as goal

pub loop-i-preserved : goal.loop-i-preserved
loop-i-preserved c = record {
  sum = omega (arith, c.loop-i.invariant.sum, c.band_size-size.ensures.value, sizes_more c.args.bands.now c.loop-i.i c.at.result.now c.at.ensures);
  few = omega (arith, c.loop-i.invariant.few, c.band_size-size.ensures.few);
}

pub returns-clause-size : goal.returns-clause-size
returns-clause-size c =
    let bands = c.args.bands.now in
    let all : take c.loop-i.i bands ≡ bands = take_all c.loop-i.i bands (omega (arith, c.len-count.ensures.value, c.loop-i-test.false)) in
    λ grid stands. c.loop-i.invariant.sum ∙ ap (λ xs. c.front_size-size.result + sum_by band_bytes xs) all
    ∙ bands_grid_long grid bands c.front_size-size.result (λ one. c.front_size-size.ensures.one (c.len-count.ensures.value ∙ one)) (λ two. c.front_size-size.ensures.more (omega (arith, c.len-count.ensures.value, two))) stands

pub returns-clause-small : goal.returns-clause-small
returns-clause-small c =
    let bands = c.args.bands.now in
    let all : sum_by band_bytes (take c.loop-i.i bands) ≡ sum_by band_bytes bands = ap (sum_by band_bytes) (take_all c.loop-i.i bands (omega (arith, c.len-count.ensures.value, c.loop-i-test.false))) in
    omega (arith, c.loop-i.invariant.sum, all, c.front_size-size.ensures.few, bands_small bands c.len-count.ensures.sound)
