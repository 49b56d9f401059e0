use Rattle.std.proofs.Common.{◌≡◌, ◌<◌, ap, ◌∙◌, subst, set, sym}
use mir.Syntax.{w64}
use mir.Val.{to_z, of_z}
use Rattle.raster_cells.specs.CellList.{CellList}
use Rattle.raster_cells.specs.PixelType.{InRange}
use Rattle.raster_values.specs.Raster.{Pixels, IsRaster, InShape, IsValidAt, written}
use Rattle.raster_values.specs.View.{seen, pixels_of, IsInside}
use Rattle.raster_cells.proofs.ValueBits.{same_bits}
use Rattle.raster_values.proofs.Views.{set_leaves, set_keeps, KeepsValues, sound}
use Rattle.raster_values.proofs.Changes.{set_changes}
use Rattle.raster_values.proofs.rasters.raster.Raster.set.Goals as goal

pub invariant_of-self : goal.invariant_of-self
invariant_of-self c =
    let values : KeepsValues c.self.inside c.self.inside.marks (set c.self.inside.values.values c.offset-at.result (to_z w64 (of_z w64 c.args.value))) =
    subst (λ (r : Pixels). c.args.d < r.depth → IsValidAt r c.args.row c.args.col → InRange r.kind c.args.value → KeepsValues c.self.inside c.self.inside.marks (set c.self.inside.values.values c.offset-at.result (to_z w64 (of_z w64 c.args.value)))) c.self.view_is
    (λ below valid fits. set_keeps c.self.inside c.args.row c.args.col c.args.d c.args.value _ c.self.invariant
    (ap (λ v. set c.self.inside.values.values c.offset-at.result v) (same_bits c.self.inside.values.kind c.args.value fits) ∙ ap (λ j. set c.self.inside.values.values j c.args.value) c.offset-at.ensures.value) below valid fits)
    c.requires.depth c.requires.valid c.requires.in_range in
    subst (λ (l : CellList). IsInside (record c.self.inside { values = l })) (sym c.set.ensures)
    (record { shape = c.self.invariant.shape; marks = c.self.invariant.marks; values = values.values; in_range = values.in_range; zeros = values.zeros })

pub returns-clause-after : goal.returns-clause-after
returns-clause-after c =
    ap (λ (l : CellList). record { kind = l.kind; rows = c.self.inside.rows; cols = c.self.inside.cols; depth = c.self.inside.depth; pixels = pixels_of c.self.inside.depth c.self.inside.marks l.values }) c.set.ensures ∙
    subst (λ (r : Pixels). InShape r c.args.row c.args.col → c.args.d < r.depth → IsValidAt r c.args.row c.args.col → InRange r.kind c.args.value
    → record (seen c.self.inside) { pixels = pixels_of c.self.inside.depth c.self.inside.marks (set c.self.inside.values.values c.offset-at.result (to_z w64 (of_z w64 c.args.value))) } ≡ written r c.args.row c.args.col c.args.d c.args.value) c.self.view_is
    (λ within below valid fits. set_leaves c.self.inside c.args.row c.args.col c.args.d c.args.value _ c.self.invariant
    (ap (λ v. set c.self.inside.values.values c.offset-at.result v) (same_bits c.self.inside.values.kind c.args.value fits) ∙ ap (λ j. set c.self.inside.values.values j c.args.value) c.offset-at.ensures.value) within below valid)
    c.requires.place c.requires.depth c.requires.valid c.requires.in_range

pub returns-clause-changes : goal.returns-clause-changes
returns-clause-changes c =
    set_changes c.args.self.now _ c.args.row c.args.col c.args.d c.args.value (subst IsRaster c.self.view_is (sound c.self.inside c.self.invariant))
    c.requires.place c.requires.valid c.requires.depth (returns-clause-after c)
