use Rattle.std.proofs.Common.{◌≤◌, length, arith}
use Rattle.std.proofs.lemmas.List.{length-take-le}
use Rattle.std.proofs.lemmas.Result.{IfOk-weaker}
use Rattle.outside_io.specs.declared.volume.VolFile.TheVariants.{Bundle}
use Rattle.outside_io.specs.volume.History.{contents}
use Rattle.bundle_store.proofs.Cutting.{ahead_read}
use Rattle.bundle_store.proofs.reading.read_span.Goals as goal

pub returns-clause-bytes : goal.returns-clause-bytes
returns-clause-bytes g c = λ told.
    let b = contents Bundle (g.V.Volume.history c.args.vol.now) in
    IfOk-weaker c.read.result _ _ (λ n read. ahead_read b c.args.span.start n _ c.read.new.buf _ read) (c.read.ensures.answer told)

pub returns-clause-count : goal.returns-clause-count
returns-clause-count g c = λ told.
    let len = c.min-len.result in
    let within : len ≤ length c.args.room.now = omega arith in
    let size = length-take-le len c.args.room.now within in
    IfOk-weaker c.read.result _ _ (λ n read. omega (arith, read.count, size)) (c.read.ensures.answer told)
