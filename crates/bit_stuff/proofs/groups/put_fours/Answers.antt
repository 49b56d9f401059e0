use Rattle.std.proofs.Common.{◌≡◌, ◌+◌, ◌-◌, ◌*◌, ◌/◌, ◌^◌, ◌≤◌, ℕ, take, ap, ◌∙◌, arith}
use Rattle.std.proofs.Math.Nat.{pow-le-pow_right}
use Rattle.bit_stuff.specs.Stuffed.{number_of_bytes}
use Rattle.bit_stuff.proofs.Eights.{fours_put, fours_rest}
use Rattle.bit_stuff.proofs.groups.put_fours.Goals as goal

pub overflow_add-rest : goal.overflow_add-rest
overflow_add-rest c =
    let w = c.args.width in
    let short : 8 * (w - w / 2) ≤ 128 = omega arith in
    let wider : 2 ^ (8 * (w - w / 2)) ≤ 2 ^ 128 = pow-le-pow_right (omega arith) short in
    omega (arith, wider, fours_rest w c.args.values.now c.args.i c.wide_four-low.result c.wide_four-high.result c.requires.width c.wide_four-low.ensures c.wide_four-high.ensures)

pub put_wide-requires-2-clause-fits : goal.put_wide-requires-2-clause-fits
put_wide-requires-2-clause-fits c = fours_rest c.args.width c.args.values.now c.args.i c.wide_four-low.result c.wide_four-high.result c.requires.width c.wide_four-low.ensures c.wide_four-high.ensures

pub returns : goal.returns
returns c =
    let w = c.args.width in
    let out = c.put_wide-2.new.out in
    let end : c.args.at + w ≡ c.args.at + w / 2 + (w - w / 2) = omega arith in
    ap (λ (k : ℕ). number_of_bytes (take k out)) end
    ∙ fours_put w c.args.values.now c.args.i c.args.at c.wide_four-low.result c.wide_four-high.result (number_of_bytes (take (c.args.at + w / 2) c.put_wide.new.out)) (number_of_bytes (take (c.args.at + w / 2 + (w - w / 2)) out)) (number_of_bytes (take c.args.at c.args.out.now))
    c.requires.width c.wide_four-low.ensures c.wide_four-high.ensures c.requires.place c.requires.before c.put_wide.ensures c.put_wide-2.ensures
