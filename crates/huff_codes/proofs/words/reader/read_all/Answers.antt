use Rattle.std.proofs.Common.{[], length, arith}
use Rattle.std.proofs.lemmas.Result.{err_from_is_err_and}
use Rattle.huff_codes.proofs.words.reader.read_all.Goals as goal

pub returns-in_err-read : goal.returns-in_err-read
returns-in_err-read c =
    let p = err_from_is_err_and c.from_residual.result c.from_residual.ensures.1 in
    rw (p.1, p.2, ← c.new-reader.ensures.codes, ← c.new-reader.ensures.bytes) (c.in_err-read.ensures.fault [] c.new-reader.ensures.none (length c.read.new.out) (omega (arith, c.read.auto.out)))
