use Rattle.std.proofs.Common.{◌≡◌, ℕ, subst, arith}
use Rattle.huff_codes.specs.inside.Noted.{AreNotedBelow}
use Rattle.std.proofs.lemmas.List.{get_or-replicate, length-replicate}
use Rattle.std.specs.Prelude.{replicate}
use Rattle.huff_codes.specs.declared.words.prefixes.Look.TheVariants.{Nothing}
use Rattle.huff_codes.proofs.Noted.{noted_none, noted_more, noted_all}
use Rattle.huff_codes.proofs.words.prefixes.Prefixes.of.Goals as goal

pub loop-s-init : goal.loop-s-init
loop-s-init c = (length-replicate 256 Nothing, noted_none c.args.codes.now (replicate 256 Nothing) (λ b lt. get_or-replicate 256 b Nothing Nothing lt))

pub loop-s-preserved : goal.loop-s-preserved
loop-s-preserved c = (
  c.put_look.ensures.room,
  noted_more c.args.codes.now c.loop-s.s c.loop-s.looks c.put_look.new.looks c.loop-s.invariant.1
      (c.put_look.ensures.told c.args.codes.now c.know.ensures.free c.code.ensures.bits),
)

pub returns : goal.returns
returns c =
    let end : c.loop-s.s ≡ 256 = omega arith in
    noted_all c.args.codes.now c.loop-s.looks c.know.ensures.size c.loop-s.invariant.0 (subst (λ (n : ℕ). AreNotedBelow c.args.codes.now n c.loop-s.looks) end c.loop-s.invariant.1)
