use Rattle.std.proofs.Common.{◌≡◌, ◌≤◌, length, take, arith}
use Rattle.std.proofs.lemmas.List.{length-take-le}
use Rattle.lerc_decode.specs.States.{missing_at}
use Rattle.lerc_decode.proofs.Feeding.{begins_once, begins_same, fed_once, less_work, takes_few}
use Rattle.lerc_decode.proofs.streams.from_source.feed_once.Goals as goal

pub returns-then-got-gt0-clause-fed : goal.returns-then-got-gt0-clause-fed
returns-then-got-gt0-clause-fed g c =
    let size : length (take c.in_ok-got.got c.take.new.buf) ≡ c.in_ok-got.got = length-take-le c.in_ok-got.got c.take.new.buf c.in_ok-got.ensures.within in
    let short : length (take c.in_ok-got.got c.take.new.buf) ≤ missing_at c.args.decoder.now.stage (length c.args.decoder.now.taken) = omega (arith, size, c.in_ok-got.ensures.within, c.take.auto.buf, c.requires.short) in
    fed_once c.feed.new.self.stage _ _ c.in_ok-got.got c.feed.result.used c.take.new.buf c.args.decoder.now c.feed.new.self c.in_ok-got.ensures.bytes c.feed.ensures.taken (c.feed.ensures.exact short)

pub returns-then-got-gt0-clause-less : goal.returns-then-got-gt0-clause-less
returns-then-got-gt0-clause-less g c = λ some.
    let size : length (take c.in_ok-got.got c.take.new.buf) ≡ c.in_ok-got.got = length-take-le c.in_ok-got.got c.take.new.buf c.in_ok-got.ensures.within in
    let short : length (take c.in_ok-got.got c.take.new.buf) ≤ missing_at c.args.decoder.now.stage (length c.args.decoder.now.taken) = omega (arith, size, c.in_ok-got.ensures.within, c.take.auto.buf, c.requires.short) in
    less_work c.args.decoder.now.before c.args.decoder.now.stage c.feed.new.self.stage c.args.decoder.now.taken c.feed.new.self.taken (take c.in_ok-got.got c.take.new.buf) c.feed.result.used c.requires.stands (omega (arith, size, some)) short c.feed.ensures.taken.within c.feed.ensures.taken.taken (c.feed.ensures.exact short)

pub returns-then-got-gt0-clause-begins : goal.returns-then-got-gt0-clause-begins
returns-then-got-gt0-clause-begins g c = begins_once _ _ c.in_ok-got.got c.feed.result.used c.take.new.buf c.args.decoder.now.taken c.feed.new.self.taken c.in_ok-got.ensures.bytes c.feed.ensures.taken.taken

pub returns-else-got-gt0-clause-begins : goal.returns-else-got-gt0-clause-begins
returns-else-got-gt0-clause-begins g c = begins_same _ _

pub returns-in_err-got-clause-taken : goal.returns-in_err-got-clause-taken
returns-in_err-got-clause-taken g c = takes_few _ _ c.take.result c.take.new.buf _ c.take.ensures.bytes c.take.ensures.within (omega (arith, c.take.auto.buf, c.requires.short))

pub returns-then-got-gt0-clause-taken : goal.returns-then-got-gt0-clause-taken
returns-then-got-gt0-clause-taken g c = takes_few _ _ c.take.result c.take.new.buf _ c.take.ensures.bytes c.take.ensures.within (omega (arith, c.take.auto.buf, c.requires.short))

pub returns-else-got-gt0-clause-taken : goal.returns-else-got-gt0-clause-taken
returns-else-got-gt0-clause-taken g c = takes_few _ _ c.take.result c.take.new.buf _ c.take.ensures.bytes c.take.ensures.within (omega (arith, c.take.auto.buf, c.requires.short))
