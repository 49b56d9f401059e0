use Rattle.std.proofs.Common.{◌≡◌, ◌+◌, ◌*◌, ◌++◌, ℕ, [], ◌∷◌, List, sym, ap, subst, ◌∙◌, arith}
use Rattle.raster_values.specs.Raster.{Pixels}
use Rattle.sample_tiles.specs.Drawn.{drawn}
use Rattle.sample_tiles.specs.inside.Batches.{AreTiles}
use Rattle.sample_tiles.proofs.Batch.{one_more, starts}
use Rattle.sample_tiles.proofs.batches.draw_tiles.Goals as goal

pub loop-preserved : goal.loop-preserved
loop-preserved c = record {
  tiles = λ start first is.
      let number = c.loop.invariant.number start first is in
      let tile = c.in_ok-draw.ensures.tile start (first + c.loop.counter) number in
      let pushed = c.in_ok-push.ensures.items ∙ ap (λ (b : List Pixels). c.loop.tiles.items ++ b ∷ []) c.in_ok-of.ensures in
      subst (AreTiles start first (c.loop.counter + 1)) (sym pushed) (one_more start first c.loop.counter c.loop.tiles.items c.in_ok-draw.field-0 (c.loop.invariant.tiles start first is) tile);
  number = λ start first is.
      let number = c.in_ok-draw.ensures.number start (first + c.loop.counter) (c.loop.invariant.number start first is) in
      number ∙ ap (λ (n : ℕ). drawn start (4096 * n)) (let same : first + c.loop.counter + 1 ≡ first + (c.loop.counter + 1) = omega arith in same);
}

pub returns-clause-some : goal.returns-clause-some
returns-clause-some c =
    let all : c.loop.counter ≡ c.args.count = omega (arith, c.loop.auto.counter-end, c.loop-test.false) in
    (c.args.x.now, subst (λ (n : ℕ). AreTiles c.args.x.now 0 n c.loop.tiles.items) all (c.loop.invariant.tiles c.args.x.now 0 (starts c.args.x.now)))
