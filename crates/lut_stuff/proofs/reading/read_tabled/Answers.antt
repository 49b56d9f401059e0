use Rattle.std.proofs.Common.{◌≡◌, ◌-◌, length, take, drop, sym, ◌∙◌}
use Rattle.std.proofs.lemmas.List.{length-take-le, take_rest}
use Rattle.lut_stuff.proofs.ReadSteps.{tabled_told}
use Rattle.lut_stuff.proofs.reading.read_tabled.Goals as goal

pub returns : goal.returns
returns c =
    let bytes = c.args.bytes.now in
    let used = c.in_ok-used.used in
    let long : c.args.size ≡ length c.read_entries.new.table = sym (c.read_entries.auto.table ∙ length-take-le c.args.size c.args.table.now c.requires.room) in
    tabled_told (length c.args.out.now) c.args.width used c.args.size bytes (take (length bytes - used) (drop used bytes)) c.read_entries.new.table c.read_indexes.new.out
    c.read_indexes.result c.behind.result long c.requires.some (take_rest bytes used) c.in_ok-used.ensures c.behind.ensures c.read_indexes.ensures
