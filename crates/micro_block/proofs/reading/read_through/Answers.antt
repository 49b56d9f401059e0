use Rattle.std.proofs.Common.{◌≡◌, ℕ, ℤ, List, length, map, pos, take, ◌∙◌, subst, sym, arith}
use Rattle.std.proofs.lemmas.Int.{ints, to_z-of_z}
use mir.Syntax.{w64}
use mir.Val.{SFits, of_z, to_z}
use Rattle.lane_kernels.specs.Kernels.{capped_sums}
use Rattle.micro_block.specs.Block.{IsBlock}
use Rattle.micro_block.specs.Frame.{frame_of}
use Rattle.micro_block.specs.ReadSteps.{stepped_values}
use Rattle.micro_block.proofs.BlockSteps.{reread}
use Rattle.micro_block.proofs.reading.read_through.Goals as goal

pub returns-in-Ok : goal.returns-in-Ok
returns-in-Ok c =
    let ctx = c.args.ctx.now in
    let s = c.in-Ok.steps in
    let numbers = c.read_steps.new.numbers in
    let size = c.in-Ok.ensures.step in
    let fits : SFits w64 s.step = omega (arith, ints, size) in
    let far : to_z w64 (of_z w64 s.step) ≡ s.step = to_z-of_z w64 s.step fits in
    let low = reread ctx.kind s.offset c.in-Ok.ensures.offset in
    let high = reread ctx.kind s.top c.in-Ok.ensures.top in
    let same : c.plus_capped_unsigned.new.out ≡ stepped_values s numbers = c.plus_capped_unsigned.ensures ∙ (λ i. capped_sums (map pos numbers) (low i) (far i) (high i)) in (
      c.in-Ok.ensures.ok.0,
      subst (λ (u : List ℤ). IsBlock (frame_of ctx (length c.args.out.now)) (take s.used c.args.bytes.now) u) (sym same)
          (subst (λ (n : ℕ). IsBlock (frame_of ctx n) (take s.used c.args.bytes.now) (stepped_values s numbers)) c.requires.room c.in-Ok.ensures.ok.1),
    )
