use Rattle.std.proofs.Common.{drop, arith}
use Rattle.huff_codes.specs.Bits.{word_bits}
use Rattle.huff_codes.specs.inside.Looking.{IsReading}
use Rattle.huff_codes.proofs.Lookups.{seen_less}
use Rattle.huff_codes.proofs.words.reading.read_ten.Goals as goal

pub returns-clause-reached : goal.returns-clause-reached
returns-clause-reached c codes before entries h =
    let bytes = c.args.bytes.now in
    let window = c.wide_window.result in
    let start : IsReading codes bytes before c.args.out.now 55 (record { window = window; bit = c.args.from.bit; count = c.args.from.count }) =
    record { reached = h; seen = seen_less 55 64 window (drop c.args.from.bit (word_bits bytes)) (omega arith) c.wide_window.ensures } in
    let one = c.step-one.ensures.reached codes bytes before 44 entries start in
    let two = c.step-two.ensures.reached codes bytes before 33 entries one in
    let three = c.step-three.ensures.reached codes bytes before 22 entries two in
    let four = c.step-four.ensures.reached codes bytes before 11 entries three in
    (c.step-five.ensures.reached codes bytes before 0 entries four).reached
