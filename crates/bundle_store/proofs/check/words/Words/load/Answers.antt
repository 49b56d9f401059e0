use Rattle.std.proofs.Common.{◌≤◌, length, arith}
use Rattle.std.proofs.lemmas.List.{length-take-le}
use Rattle.bundle_store.proofs.check.words.Words.load.Goals as goal

pub returns-clause-there : goal.returns-clause-there
returns-clause-there g c = λ told.
    let got = c.in_ok-got.got in
    let buf = c.read_span.new.room in
    let count = c.in_ok-got.ensures.count told in
    let few : got ≤ length buf = omega (arith, c.in_ok-got.ensures.few, c.read_span.auto.room) in
    let long = length-take-le got buf few in
    record { from = omega arith; within = omega (arith, long, count, c.end_of_run-end.ensures, c.requires.within told) }
