use Rattle.std.proofs.Common.{◌≡◌, ap, ◌∙◌, subst, replicate, length, sym, true}
use mir.Syntax.{w64}
use mir.Val.{to_z, of_z}
use Rattle.std.proofs.lemmas.List.{length-replicate}
use Rattle.raster_cells.specs.CellList.{CellList}
use Rattle.raster_cells.specs.PixelType.{InRange}
use Rattle.raster_values.specs.Raster.{Pixels, filled}
use Rattle.raster_values.specs.View.{seen, pixels_of, IsInside}
use Rattle.raster_values.proofs.Views.{fill_leaves, fill_keeps, KeepsValues}
use Rattle.raster_cells.proofs.ValueBits.{same_bits}
use Rattle.raster_values.proofs.rasters.raster.Raster.fill.Goals as goal

full : (c : goal.After-fill-2) → InRange c.self.inside.values.kind c.args.value → replicate (length c.self.inside.values.values) (to_z w64 (of_z w64 c.args.value)) ≡ replicate (length c.self.inside.values.values) c.args.value
full c fits = ap (replicate (length c.self.inside.values.values)) (same_bits c.self.inside.values.kind c.args.value fits)

pub invariant_of-self : goal.invariant_of-self
invariant_of-self c =
    let a = c.self.inside in
    let vs = replicate (length a.values.values) (to_z w64 (of_z w64 c.args.value)) in
    let values : KeepsValues a c.fill.new.self vs =
    subst (λ (r : Pixels). InRange r.kind c.args.value → KeepsValues a c.fill.new.self vs) c.self.view_is
    (λ fits. fill_keeps a c.args.value c.fill.new.self vs c.self.invariant c.fill.ensures (full c fits) fits) c.requires in
    subst (λ (l : CellList). IsInside (record a { marks = c.fill.new.self; values = l })) (sym c.fill-2.ensures)
    (record { shape = c.self.invariant.shape; marks = ap length c.fill.ensures ∙ length-replicate (length a.marks) true ∙ c.self.invariant.marks; values = values.values; in_range = values.in_range; zeros = values.zeros })

pub returns : goal.returns
returns c =
    let a = c.self.inside in
    let vs = replicate (length a.values.values) (to_z w64 (of_z w64 c.args.value)) in
    ap (λ (l : CellList). record { kind = l.kind; rows = a.rows; cols = a.cols; depth = a.depth; pixels = pixels_of a.depth c.fill.new.self l.values }) c.fill-2.ensures
    ∙ subst (λ (r : Pixels). InRange r.kind c.args.value → record (seen a) { pixels = pixels_of a.depth c.fill.new.self vs } ≡ filled r c.args.value) c.self.view_is
    (λ fits. fill_leaves a c.args.value c.fill.new.self vs c.self.invariant c.fill.ensures (full c fits)) c.requires
