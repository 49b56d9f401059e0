use Rattle.std.proofs.Common.{◌≡◌, ◌∙◌, length, arith}
use Rattle.lut_stuff.proofs.NameSets.{named_distinct}
use Rattle.micro_block.proofs.few.count_named.Goals as goal

pub returns-then-known-clause-count : goal.returns-then-known-clause-count
returns-then-known-clause-count c =
    let room = c.requires.found.room in
    let long : length c.find_names.new.found ≡ length c.args.distances.now = omega (arith, c.find_names.auto.found, room) in
    c.different_of.ensures ∙ named_distinct c.find_names.new.names c.args.distances.now c.find_names.new.found c.find_names.new.names.are long (c.find_names.ensures.known c.if-known.true)
