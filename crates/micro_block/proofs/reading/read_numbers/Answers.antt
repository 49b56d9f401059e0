use Rattle.std.proofs.Common.{◌≡◌, ℤ, pos, ◌∙◌, subst, sym, arith}
use Rattle.std.proofs.lemmas.Int.{ints, to_z-of_z}
use mir.Syntax.{w64}
use mir.Val.{SFits, of_z, to_z}
use Rattle.lane_kernels.specs.Kernels.{IsStepSize}
use Rattle.micro_block.proofs.BlockSteps.{reread, reread_in, step_small, steps_reread}
use Rattle.micro_block.proofs.reading.read_numbers.Goals as goal

pub returns-in-Ok : goal.returns-in-Ok
returns-in-Ok c =
    let ctx = c.args.ctx.now in
    let step = step_small ctx.step ctx.twice_error in
    let step_fits : SFits w64 c.as_signed.result = omega (arith, ints, step, c.as_signed.ensures) in
    let far : to_z w64 (of_z w64 c.as_signed.result) ≡ pos ctx.step = to_z-of_z w64 c.as_signed.result step_fits ∙ c.as_signed.ensures in
    let size : IsStepSize (pos ctx.step) = (omega (arith, ints, step), omega (arith, ints, step)) in (
      record {
        room = c.in-Ok.ensures.ok.0;
        qs = c.read_list.new.out;
        list = (c.read_list.auto.out, c.in-Ok.ensures.ok.1);
        values_are = steps_reread c.read_list.new.out (to_z w64 (of_z w64 c.args.offset)) (to_z w64 (of_z w64 c.as_signed.result)) (to_z w64 (of_z w64 ctx.top)) c.args.offset ctx.top ctx.step
            (reread ctx.kind c.args.offset c.requires.offset) far (reread ctx.kind ctx.top ctx.top_of_type);
      },
      ((reread_in ctx.kind c.args.offset c.requires.offset, reread_in ctx.kind ctx.top ctx.top_of_type), subst (λ (z : ℤ). IsStepSize z) (sym far) size),
    )
