use Rattle.std.proofs.Common.{◌≡◌, ◌∙◌, length, sym, ap}
use Rattle.tile_updates.proofs.Tiles.{tiles_length}
use Rattle.tile_updates.proofs.batch.Batch.len.Goals as goal

pub returns : goal.returns
returns c =
    let count : length c.self.inside.tiles.items ≡ length c.args.self.now = sym (tiles_length c.self.inside.slots.items c.self.inside.tiles.items c.self.invariant.long) ∙ ap length c.self.view_is in
    c.len.ensures ∙ c.self.inside.tiles.ok.0 ∙ count
