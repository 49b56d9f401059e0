use Rattle.std.proofs.Common.{◌*◌, ◌≤◌, ◌+◌, ◌-◌, ◌/◌, subst, sym, arith}
use Rattle.std.proofs.Math.Nat.{mul-le-mul_left}
use Rattle.lerc_encode.proofs.Blocking.{count_few}
use Rattle.lerc_encode.proofs.blocks.chosen_blocks.count.Goals as goal

pub overflow_mul-result : goal.overflow_mul-result
overflow_mul-result g c =
    let h = c.args.blocks.now.header.now in
    let is = c.args.blocks.now.blocked in
    let block = (h.rows + h.side - 1) / h.side * c.across.result in
    let most = subst (λ n. (h.rows + h.side - 1) / h.side * n * h.depth ≤ 16777216) (sym c.across.ensures.value) (count_few h (g.V.View.pixels c.args.blocks.now.raster.now) is) in
    let some : 1 ≤ h.depth = subst (λ n. 1 ≤ n) (sym is.depth) (omega (arith, is.sound.shape.depth_above)) in
    let whole : block * 1 ≤ block * h.depth = mul-le-mul_left block some in
    omega (arith, most, whole)

pub overflow_mul-result-2 : goal.overflow_mul-result-2
overflow_mul-result-2 g c =
    let h = c.args.blocks.now.header.now in
    let most = subst (λ n. (h.rows + h.side - 1) / h.side * n * h.depth ≤ 16777216) (sym c.across.ensures.value) (count_few h (g.V.View.pixels c.args.blocks.now.raster.now) c.args.blocks.now.blocked) in
    omega (arith, most)

pub returns-clause-few : goal.returns-clause-few
returns-clause-few g c =
    let h = c.args.blocks.now.header.now in
    subst (λ n. (h.rows + h.side - 1) / h.side * n * h.depth ≤ 16777216) (sym c.across.ensures.value) (count_few h (g.V.View.pixels c.args.blocks.now.raster.now) c.args.blocks.now.blocked)
