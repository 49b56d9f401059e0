use Rattle.std.proofs.Common.{◌-◌, arith, ap}
use Rattle.double_bits.proofs.HalfBits.{is_shifted}
use Rattle.double_bits.proofs.halves.bits_of_magnitude.Goals as goal

pub overflow_sub-fraction : goal.overflow_sub-fraction
overflow_sub-fraction c =
    let shifted = is_shifted c.args.twice (63 - c.from-top.result) c.if-twice-eq0.false c.requires (ap (λ n. 63 - n) c.from-top.ensures) in
    omega (arith, shifted.top)

pub overflow_sub-fraction-2 : goal.overflow_sub-fraction-2
overflow_sub-fraction-2 c =
    let shifted = is_shifted c.args.twice (63 - c.from-top.result) c.if-twice-eq0.false c.requires (ap (λ n. 63 - n) c.from-top.ensures) in
    omega (arith, shifted.kept, shifted.low)

pub overflow_add-result-2 : goal.overflow_add-result-2
overflow_add-result-2 c =
    let shifted = is_shifted c.args.twice (63 - c.from-top.result) c.if-twice-eq0.false c.requires (ap (λ n. 63 - n) c.from-top.ensures) in
    omega (arith, shifted.kept, shifted.low, shifted.high, shifted.top)

pub returns : goal.returns
returns c =
    let shifted = is_shifted c.args.twice (63 - c.from-top.result) c.if-twice-eq0.false c.requires (ap (λ n. 63 - n) c.from-top.ensures) in
    omega (arith, shifted.kept, shifted.low, shifted.high, shifted.top, shifted.bits)
