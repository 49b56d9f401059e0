use Rattle.std.proofs.Common.{◌≡◌, ℤ, ap, ◌∙◌}
use mir.Syntax.{w64}
use mir.Val.{to_z, of_z}
use Rattle.raster_cells.specs.Distance.{value_above}
use Rattle.micro_block.specs.inside.Sizes.{closed_sizes}
use Rattle.micro_block.proofs.Above.{above_in_range}
use Rattle.micro_block.proofs.Closed.{fewest_is}
use Rattle.micro_block.proofs.Range.{reread}
use Rattle.micro_block.proofs.choosing.fewest.Goals as goal

pub returns-clause-first : goal.returns-clause-first
returns-clause-first c =
    let kind = c.args.kind in
    let s = c.args.spread in
    let again : to_z w64 (of_z w64 c.value_of-least.result) ≡ value_above kind s.least =
    ap (λ (z : ℤ). to_z w64 (of_z w64 z)) c.value_of-least.ensures ∙ reread kind (value_above kind s.least) (above_in_range kind s.least c.requires.least) in
    let sizes = c.form_sizes-sizes.ensures ∙ ap (λ (z : ℤ). closed_sizes kind c.args.count z s.most c.args.tabled) again in
    (c.unwrap_or-place.result.0, (c.form_at.ensures, fewest_is kind c.args.count s.most (value_above kind s.least) c.args.tabled c.form_sizes-sizes.result c.first_least.result c.unwrap_or-place.result sizes c.first_least.ensures c.unwrap_or-place.ensures))
