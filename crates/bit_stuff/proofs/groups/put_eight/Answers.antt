use Rattle.std.proofs.Common.{◌+◌, take}
use Rattle.bit_stuff.specs.Stuffed.{number_of_bytes}
use Rattle.bit_stuff.proofs.Eights.{group_put}
use Rattle.bit_stuff.proofs.groups.put_eight.Goals as goal

pub returns-then-width-le8 : goal.returns-then-width-le8
returns-then-width-le8 c =
    group_put c.args.width c.args.values.now c.args.i c.args.at c.eight.result (number_of_bytes (take c.args.at c.args.out.now)) (number_of_bytes (take (c.args.at + c.args.width) c.put.new.out)) c.requires.place c.requires.before c.eight.ensures c.put.ensures

pub returns-then-width-le16 : goal.returns-then-width-le16
returns-then-width-le16 c =
    group_put c.args.width c.args.values.now c.args.i c.args.at c.wide_eight.result (number_of_bytes (take c.args.at c.args.out.now)) (number_of_bytes (take (c.args.at + c.args.width) c.put_wide.new.out)) c.requires.place c.requires.before c.wide_eight.ensures c.put_wide.ensures
