use Rattle.std.proofs.Common.{◌≤◌, sym, subst, ⊎_elim, arith}
use Rattle.std.proofs.lemmas.Bool.{cases_lt}
use Rattle.raster_values.specs.Raster.{Pixels}
use Rattle.sample_tiles.specs.Sums.{off_by}
use Rattle.sample_tiles.proofs.Summing.{like_at, near_at, same_one}
use Rattle.sample_tiles.proofs.adding.error_of.Goals as goal

pub greatest_offset-requires : goal.greatest_offset-requires
greatest_offset-requires c = record {
  shapes = (c.requires.like, like_at c.args.tile.now c.at.result.now c.args.blob.now c.in_ok-bands.bands c.requires.like c.requires.fitting c.in_ok-bands.ensures c.at.ensures);
}

pub returns-clause-bound : goal.returns-clause-bound
returns-clause-bound c = λ r k is within.
    let same = same_one c.args.tile.now c.at.result.now r c.args.blob.now c.in_ok-bands.bands c.requires.fitting c.in_ok-bands.ensures c.at.ensures is in
    subst (λ (x : Pixels). off_by c.args.tile.now x k ≤ c.greatest_offset.result) (sym same) (c.greatest_offset.ensures.bound k within)

pub returns-clause-near : goal.returns-clause-near
returns-clause-near c = ⊎_elim
    (λ above.
    let met = c.greatest_offset.ensures.met above in
    let near = near_at c.args.tile.now c.at.result.now c.args.blob.now c.in_ok-bands.bands c.requires.like c.requires.fitting c.in_ok-bands.ensures c.at.ensures met.0 met.1.0 in
    omega (arith, near, met.1.1))
    (λ none. omega (arith, none))
    (cases_lt 0 c.greatest_offset.result)
