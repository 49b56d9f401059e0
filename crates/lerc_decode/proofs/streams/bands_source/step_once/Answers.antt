use Rattle.std.proofs.Common.{◌≡◌, ℕ, Ok, take, subst, arith}
use Rattle.outside_io.specs.streams.Source.{Takes}
use Rattle.lerc_decode.proofs.BandsFeeding.{reads_at, reads_more, reads_none, room_falls, some_used, used_of}
use Rattle.lerc_decode.proofs.Feeding.{takes_few}
use Rattle.lerc_decode.proofs.streams.bands_source.step_once.Goals as goal

pub returns-then-got-gt0-clause-read : goal.returns-then-got-gt0-clause-read
returns-then-got-gt0-clause-read g c = λ first read.
    let d = c.args.decoder.now in
    let e = c.step.new.self in
    let got = c.in_ok-got.got in
    let buf = c.take.new.buf in
    let why = used_of d.stage e.stage got c.step.result buf c.in_ok-got.ensures.within (omega (arith, c.take.auto.buf, c.requires.short)) c.step.ensures.used in
    reads_more first (g.S.Source.left c.args.src.now) (g.S.Source.left c.take.new.self) got c.step.result buf d e c.in_ok-got.ensures.bytes c.step.ensures.taken why
    (reads_at first (g.S.Source.left c.args.src.now) d (omega (arith, c.take.auto.buf, c.requires.short, c.in_ok-got.ensures.within, c.if-got-gt0.true)) read)

pub returns-else-got-gt0-clause-read : goal.returns-else-got-gt0-clause-read
returns-else-got-gt0-clause-read g c = λ first read.
    let none_ : c.in_ok-got.got ≡ 0 = omega (arith, c.if-got-gt0.false) in
    reads_none first (g.S.Source.left c.args.src.now) (g.S.Source.left c.take.new.self) c.take.new.buf c.args.decoder.now
    (subst (λ (n : ℕ). Takes (g.S.Source.left c.args.src.now) (g.S.Source.left c.take.new.self) (Ok n) c.take.new.buf) none_ c.in_ok-got.ensures.bytes) read

pub returns-then-got-gt0-clause-less : goal.returns-then-got-gt0-clause-less
returns-then-got-gt0-clause-less g c = λ some.
    let d = c.args.decoder.now in
    let e = c.step.new.self in
    let got = c.in_ok-got.got in
    let buf = c.take.new.buf in
    let why = used_of d.stage e.stage got c.step.result buf c.in_ok-got.ensures.within (omega (arith, c.take.auto.buf, c.requires.short)) c.step.ensures.used in
    let taken = c.state-state.ensures.some.0 in
    let old = c.state-state.ensures.some.1 in
    room_falls taken (take c.step.result (take got buf)) d e old (omega (arith, c.take.auto.buf, c.requires.short, c.in_ok-got.ensures.within, some)) (c.step.ensures.taken taken old)
    (some_used e.stage got c.step.result buf c.in_ok-got.ensures.within some why)

pub returns-in_err-got-clause-taken : goal.returns-in_err-got-clause-taken
returns-in_err-got-clause-taken g c = takes_few _ _ c.take.result c.take.new.buf _ c.take.ensures.bytes c.take.ensures.within (omega (arith, c.take.auto.buf, c.requires.short))

pub returns-then-got-gt0-clause-taken : goal.returns-then-got-gt0-clause-taken
returns-then-got-gt0-clause-taken g c = takes_few _ _ c.take.result c.take.new.buf _ c.take.ensures.bytes c.take.ensures.within (omega (arith, c.take.auto.buf, c.requires.short))

pub returns-else-got-gt0-clause-taken : goal.returns-else-got-gt0-clause-taken
returns-else-got-gt0-clause-taken g c = takes_few _ _ c.take.result c.take.new.buf _ c.take.ensures.bytes c.take.ensures.within (omega (arith, c.take.auto.buf, c.requires.short))
