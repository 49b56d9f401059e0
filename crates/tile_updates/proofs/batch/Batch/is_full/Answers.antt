use Rattle.std.proofs.Common.{◌∙◌, ◌≡◌, ◌⊎◌, ◌↔◌, ◌*◌, ◌≤◌, IsTrue, length, sym, ap, subst}
use Rattle.tile_updates.specs.Tiles.{values_of}
use Rattle.tile_updates.proofs.Tiles.{tiles_length}
use Rattle.tile_updates.proofs.batch.Batch.is_full.Goals as goal

pub returns : goal.returns
returns c =
    let count : c.len.result ≡ length c.args.self.now = c.len.ensures ∙ c.self.inside.tiles.ok.0 ∙ sym (tiles_length c.self.inside.slots.items c.self.inside.tiles.items c.self.invariant.long) ∙ ap length c.self.view_is in
    let values : c.self.inside.values ≡ values_of c.args.self.now = c.self.invariant.values_are ∙ ap values_of c.self.view_is in
    subst (λ n. IsTrue c.are_many.result ↔ ((16 * c.args.workers ≤ length c.args.self.now) ⊎ (16777216 ≤ n))) values
    (subst (λ n. IsTrue c.are_many.result ↔ ((16 * c.args.workers ≤ n) ⊎ (16777216 ≤ c.self.inside.values))) count c.are_many.ensures)
