use Rattle.std.proofs.Common.{◌≡◌, ◌-◌, ◌/◌, ◌%◌, ◌<◌, length, take, drop, slice_index, refl, sym, ◌∙◌, arith}
use Rattle.std.proofs.lemmas.Bool.Decides.{nat_tests}
use Rattle.std.proofs.lemmas.List.{take_rest}
use Rattle.micro_block.specs.declared.context.BlockReason.TheVariants as reasons
use Rattle.micro_block.specs.Frame.{frame_of}
use Rattle.micro_block.proofs.BlockSteps.{no_tag, other_column, tag_told, told}
use Rattle.micro_block.proofs.reading.read_form.Goals as goal

pub returns-then-is_empty : goal.returns-then-is_empty
returns-then-is_empty c =
    let none_ : ¬ (0 < length c.args.bytes.now) = λ some. grind (arith, nat_tests) in
    told c.refuse.result _ _ _ c.refuse.ensures (no_tag (frame_of c.args.ctx.now (length c.args.numbers.now)) c.args.bytes.now 0 reasons.Cut none_ refl refl)

pub returns-then-from-ctx : goal.returns-then-from-ctx
returns-then-from-ctx c =
    let there : 0 < length c.args.bytes.now = grind (arith, nat_tests) in
    let other : ¬ (slice_index c.args.bytes.now 0 / 4 % 16 ≡ c.args.ctx.now.col / 8 % 16) = λ same. c.if-from-ctx.true (c.from.ensures ∙ same) in
    told c.refuse-then-from-ctx.result _ _ _ c.refuse-then-from-ctx.ensures (other_column (frame_of c.args.ctx.now (length c.args.numbers.now)) c.args.bytes.now 0 reasons.BadTag there other refl refl)

pub returns : goal.returns
returns c =
    let bytes = c.args.bytes.now in
    let there : 0 < length bytes = grind (arith, nat_tests) in
    let column : slice_index bytes 0 / 4 % 16 ≡ c.args.ctx.now.col / 8 % 16 = sym c.from.ensures ∙ c.if-from-ctx.false in
    tag_told (frame_of c.args.ctx.now (length c.args.numbers.now)) bytes (take (length bytes - 1) (drop 1 bytes)) (slice_index bytes 0) c.read_tagged.new.numbers c.read_tagged.result there refl (take_rest bytes 1) column c.read_tagged.ensures
