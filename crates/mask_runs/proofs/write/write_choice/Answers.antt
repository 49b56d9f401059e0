use Rattle.std.proofs.Common.{◌≡◌, ◌+◌, ◌-◌, ◌≤◌, length, take, drop, subst, ap, ◌∙◌, arith}
use Rattle.std.proofs.lemmas.Int.{ints}
use Rattle.std.proofs.lemmas.List.{length-drop, length-take-le}
use Rattle.mask_runs.specs.Ending.{ending_with}
use Rattle.mask_runs.specs.inside.Steps.{count_in, size_in}
use Rattle.mask_runs.proofs.Writing.{literal_written}
use Rattle.mask_runs.proofs.write.write_choice.Goals as goal

pub returns-in-Literal : goal.returns-in-Literal
returns-in-Literal c =
    let mask = ending_with c.args.mask.now c.args.last in
    let n = c.in-Literal.count in
    let buf = c.write_i16.new.buf in
    let most : n ≤ 32767 = subst (λ choice. count_in choice ≤ 32767) c.in-Literal.is c.requires.first.most in
    let room : 2 + n ≤ length c.args.out.now = subst (λ choice. size_in choice ≤ length c.args.out.now) c.in-Literal.is c.requires.room in
    let long : length (take (2 + n - 2) (drop 2 buf)) ≡ n = length-take-le (2 + n - 2) (drop 2 buf) (omega (arith, room, c.write_i16.auto.buf, length-drop 2 buf)) ∙ omega arith in
    literal_written mask c.args.out.now buf c.copy_front.new.out c.args.choice n _ c.in-Literal.is c.requires.first c.write_i16.ensures (omega (arith, ints)) (c.copy_front.ensures ∙ ap (λ k. take k mask) long)
