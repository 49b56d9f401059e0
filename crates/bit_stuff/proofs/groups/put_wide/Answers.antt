use Rattle.std.proofs.Common.{◌≡◌, ◌+◌, ◌-◌, ◌*◌, ◌^◌, ◌<◌, ℕ, take, ap, ◌∙◌, subst, arith}
use Rattle.std.proofs.Math.Nat.{mod-eq_of_lt}
use Rattle.bit_stuff.specs.Stuffed.{number_of_bytes}
use Rattle.bit_stuff.proofs.Eights.{above_part, part-lt, parts_put}
use Rattle.bit_stuff.proofs.groups.put_wide.Goals as goal

pub put-requires-clause-fits : goal.put-requires-clause-fits
put-requires-clause-fits c = part-lt c.args.number 8

pub put-requires-then-size-gt8-clause-fits : goal.put-requires-then-size-gt8-clause-fits
put-requires-then-size-gt8-clause-fits c = above_part c.args.number c.args.size 8 c.requires.word c.requires.fits

pub returns-then-size-gt8 : goal.returns-then-size-gt8
returns-then-size-gt8 c =
    let end : c.args.at + c.args.size ≡ c.args.at + 8 + (c.args.size - 8) = omega arith in
    ap (λ (k : ℕ). number_of_bytes (take k c.put-then-size-gt8.new.out)) end
    ∙ parts_put c.args.at 8 c.args.number (number_of_bytes (take (c.args.at + 8) c.put.new.out)) (number_of_bytes (take (c.args.at + 8 + (c.args.size - 8)) c.put-then-size-gt8.new.out)) (number_of_bytes (take c.args.at c.args.out.now)) c.put.ensures c.put-then-size-gt8.ensures

pub returns-else-size-gt8 : goal.returns-else-size-gt8
returns-else-size-gt8 c =
    let eight : c.args.size ≡ 8 = omega arith in
    let small : c.args.number < 2 ^ 64 = subst (λ (k : ℕ). c.args.number < 2 ^ (8 * k)) eight c.requires.fits in
    ap (λ (k : ℕ). number_of_bytes (take (c.args.at + k) c.put.new.out)) eight ∙ c.put.ensures
    ∙ ap (λ (n : ℕ). number_of_bytes (take c.args.at c.args.out.now) + 2 ^ (8 * c.args.at) * n) (mod-eq_of_lt small)
