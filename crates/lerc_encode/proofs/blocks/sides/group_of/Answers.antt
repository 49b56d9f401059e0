use Rattle.std.proofs.Common.{◌*◌, ◌≤◌, arith, subst, sym}
use Rattle.std.proofs.Math.Nat.{mul-le-mul}
use Rattle.lerc_encode.proofs.Blocking.{row_few}
use Rattle.lerc_encode.proofs.blocks.sides.group_of.Goals as goal

pub overflow_mul-result : goal.overflow_mul-result
overflow_mul-result g c =
    let h = c.args.blocks.now.header.now in
    let few : c.across.result * h.depth ≤ 16777216 = subst (λ n. n * h.depth ≤ 16777216) (sym c.across.ensures.value) (row_few h (g.V.View.pixels c.args.blocks.now.raster.now) c.args.blocks.now.blocked) in
    omega (arith, few)

pub overflow_add-result : goal.overflow_add-result
overflow_add-result g c =
    let h = c.args.blocks.now.header.now in
    let few : c.across.result * h.depth ≤ 16777216 = subst (λ n. n * h.depth ≤ 16777216) (sym c.across.ensures.value) (row_few h (g.V.View.pixels c.args.blocks.now.raster.now) c.args.blocks.now.blocked) in
    omega (arith, few)

pub returns-clause-some : goal.returns-clause-some
returns-clause-some g c =
    let h = c.args.blocks.now.header.now in
    let depth : 1 ≤ h.depth = subst (λ n. 1 ≤ n) (sym c.args.blocks.now.blocked.depth) (omega (arith, c.args.blocks.now.blocked.sound.shape.depth_above)) in
    let first : 1 ≤ c.across.result = omega (arith, c.across.ensures.some) in
    let some : 1 * 1 ≤ c.across.result * h.depth = mul-le-mul first depth in
    omega (arith, some)

pub returns-clause-few : goal.returns-clause-few
returns-clause-few g c =
    let h = c.args.blocks.now.header.now in
    let few : c.across.result * h.depth ≤ 16777216 = subst (λ n. n * h.depth ≤ 16777216) (sym c.across.ensures.value) (row_few h (g.V.View.pixels c.args.blocks.now.raster.now) c.args.blocks.now.blocked) in
    omega (arith, few)
