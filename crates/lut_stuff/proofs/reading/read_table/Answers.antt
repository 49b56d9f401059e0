use Rattle.std.proofs.Common.{◌≡◌, ◌-◌, ◌<◌, length, take, drop, slice_index, arith}
use Rattle.std.proofs.lemmas.Bool.Decides.{nat_tests}
use Rattle.std.proofs.lemmas.List.{take_rest}
use Rattle.lut_stuff.proofs.ReadSteps.{table_told}
use Rattle.lut_stuff.proofs.reading.read_table.Goals as goal

pub returns : goal.returns
returns c =
    let bytes = c.args.bytes.now in
    let size : c.from-size.result ≡ slice_index bytes 0 = c.from-size.ensures in
    let there : 0 < length bytes = grind (arith, nat_tests) in
    table_told (length c.args.out.now) c.args.width c.from-size.result bytes (take (length bytes - 1) (drop 1 bytes)) c.read_tabled.new.out
    c.read_tabled.result c.behind.result there size c.if-size-lt2.false (take_rest bytes 1) c.behind.ensures c.read_tabled.ensures
