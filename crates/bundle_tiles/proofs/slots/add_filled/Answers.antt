use Rattle.std.proofs.Common.{arith}
use Rattle.bundle_tiles.proofs.TilesBySlot.{none_filled, one_filled}
use Rattle.bundle_tiles.proofs.slots.add_filled.Goals as goal

pub returns-in_ok-push : goal.returns-in_ok-push
returns-in_ok-push c = λ bundle serves so. one_filled bundle c.args.number c.in-Some.slot c.kept_entry.result c.args.slots.now.items c.push.new.self.items c.in-Some.ensures.some (c.kept_entry.ensures.value bundle serves) so
    c.if-kept_entry-gt0.true c.in_ok-push.ensures.items

pub returns-else-kept_entry-gt0 : goal.returns-else-kept_entry-gt0
returns-else-kept_entry-gt0 c = λ bundle serves so. none_filled bundle c.args.number c.in-Some.slot c.kept_entry.result c.args.slots.now.items c.args.slots.now.items c.in-Some.ensures.some (c.kept_entry.ensures.value bundle serves) so
    (omega (arith, c.if-kept_entry-gt0.false))
