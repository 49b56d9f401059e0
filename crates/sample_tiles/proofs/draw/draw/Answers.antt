use Rattle.std.proofs.Common.{◌≡◌, ℕ, arith, subst}
use Rattle.sample_tiles.specs.inside.Drawing.{IsDrawn, IsOpenFrom}
use Rattle.sample_tiles.proofs.Drawing.{all_drawn}
use Rattle.sample_tiles.proofs.draw.draw.Goals as goal

pub returns-clause-tile : goal.returns-clause-tile
returns-clause-tile c = λ start t number.
    let all : c.loop-k.k ≡ 4096 = omega (arith, c.loop-k.auto.k-end, c.loop-k-test.false) in
    all_drawn start t c.loop-k.tile (subst (λ (k : ℕ). IsOpenFrom k c.loop-k.tile) all c.loop-k.invariant.open_from)
    (subst (λ (k : ℕ). IsDrawn start t k c.loop-k.tile) all (c.loop-k.invariant.tile start t number))
