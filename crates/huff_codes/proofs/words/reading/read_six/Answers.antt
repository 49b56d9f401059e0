use Rattle.huff_codes.specs.inside.Looking.{IsReading}
use Rattle.huff_codes.proofs.words.reading.read_six.Goals as goal

pub returns-clause-reached : goal.returns-clause-reached
returns-clause-reached c codes before entries h =
    let bytes = c.args.bytes.now in
    let start : IsReading codes bytes before c.args.out.now 33 (record { window = c.window.result; bit = c.args.from.bit; count = c.args.from.count }) =
    record { reached = h; seen = c.window.ensures } in
    let one = c.step-one.ensures.reached codes bytes before 22 entries start in
    let two = c.step-two.ensures.reached codes bytes before 11 entries one in
    (c.step-three.ensures.reached codes bytes before 0 entries two).reached

pub returns-then-from-out-2-clause-reached : goal.returns-then-from-out-2-clause-reached
returns-then-from-out-2-clause-reached c codes before entries h =
    let bytes = c.args.bytes.now in
    let start : IsReading codes bytes before c.args.out.now 33 (record { window = c.window.result; bit = c.args.from.bit; count = c.args.from.count }) =
    record { reached = h; seen = c.window.ensures } in
    (c.step-one.ensures.reached codes bytes before 22 entries start).reached
