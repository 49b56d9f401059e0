use Rattle.std.proofs.Common.{◌≡◌, ◌∙◌, arith, length, sym, ap}
use Rattle.tile_updates.proofs.Tiles.{counted_push, tiles_length, view_push}
use Rattle.tile_updates.proofs.batch.Batch.push.Goals as goal

pub overflow_add-self : goal.overflow_add-self
overflow_add-self c =
    let count : length c.args.self.now ≡ length c.self.inside.tiles.items = sym (ap length c.self.view_is) ∙ tiles_length c.self.inside.slots.items c.self.inside.tiles.items c.self.invariant.long in
    omega (arith, count, c.requires, c.self.invariant.few, c.count_values-values.ensures.few)

pub invariant_of-self-2 : goal.invariant_of-self-2
invariant_of-self-2 c =
    counted_push c.self.inside.slots.items c.push.new.self.items c.self.inside.tiles.items c.push-2.new.self.items c.args.slot c.args.bands c.self.inside.values c.count_values-values.result c.self.invariant c.in_ok-push.ensures.items c.in-Ok.ensures.items
    c.count_values-values.ensures.value c.count_values-values.ensures.few

pub returns-clause-ok : goal.returns-clause-ok
returns-clause-ok c =
    view_push c.self.inside.slots.items c.push.new.self.items c.self.inside.tiles.items c.push-2.new.self.items c.args.slot c.args.bands c.args.self.now c.self.invariant.long c.self.view_is c.in_ok-push.ensures.items c.in-Ok.ensures.items
