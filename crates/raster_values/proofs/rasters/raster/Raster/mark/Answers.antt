use Rattle.std.proofs.Common.{◌≡◌, ◌+◌, ◌*◌, ap, ◌∙◌, sym, subst, set, length, true, false, arith}
use Rattle.std.proofs.lemmas.List.{length-set}
use Rattle.raster_cells.specs.CellList.{CellList}
use Rattle.raster_values.specs.Raster.{Pixels, IsRaster, InShape, marked}
use Rattle.raster_cells.specs.Cleared.{cleared}
use Rattle.raster_values.specs.View.{seen, pixels_of, IsInside}
use Rattle.raster_values.proofs.Views.{unmark_leaves, unmark_keeps, mark_leaves, KeepsValues, sound}
use Rattle.raster_values.proofs.Changes.{mark_changes}
use Rattle.raster_values.proofs.rasters.raster.Raster.mark.Goals as goal

pub invariant_of-self : goal.invariant_of-self
invariant_of-self c =
    let k = c.args.row * c.self.inside.cols + c.args.col in
    let zero : c.offset-at.result ≡ k * c.self.inside.depth = omega (arith, c.offset-at.ensures.value) in
    let values : KeepsValues c.self.inside (c.set.new.self) (cleared c.self.inside.values.values c.offset-at.result c.self.inside.depth) =
    subst (λ (r : Pixels). InShape r c.args.row c.args.col → KeepsValues c.self.inside (c.set.new.self) (cleared c.self.inside.values.values c.offset-at.result c.self.inside.depth)) c.self.view_is
    (unmark_keeps c.self.inside c.args.row c.args.col _ _ c.self.invariant (c.set.ensures ∙ ap (set c.self.inside.marks k) c.if-not-valid.true)
    (ap (λ j. cleared c.self.inside.values.values j c.self.inside.depth) zero)) c.requires in
    subst (λ (l : CellList). IsInside (record c.self.inside { marks = c.set.new.self; values = l })) (sym c.clear.ensures)
    (record { shape = c.self.invariant.shape; marks = ap length c.set.ensures ∙ length-set c.self.inside.marks k c.args.valid ∙ c.self.invariant.marks; values = values.values; in_range = values.in_range; zeros = values.zeros })

pub returns-then-not-valid-clause-after : goal.returns-then-not-valid-clause-after
returns-then-not-valid-clause-after c =
    let k = c.args.row * c.self.inside.cols + c.args.col in
    let zero : c.offset-at.result ≡ k * c.self.inside.depth = omega (arith, c.offset-at.ensures.value) in
    ap (λ (l : CellList). record { kind = l.kind; rows = c.self.inside.rows; cols = c.self.inside.cols; depth = c.self.inside.depth; pixels = pixels_of c.self.inside.depth (c.set.new.self) l.values }) c.clear.ensures ∙
    subst (λ (r : Pixels). InShape r c.args.row c.args.col → record (seen c.self.inside) { pixels = pixels_of c.self.inside.depth (c.set.new.self) (cleared c.self.inside.values.values c.offset-at.result c.self.inside.depth) } ≡ marked r c.args.row c.args.col false) c.self.view_is
    (unmark_leaves c.self.inside c.args.row c.args.col _ _ c.self.invariant (c.set.ensures ∙ ap (set c.self.inside.marks k) c.if-not-valid.true)
    (ap (λ j. cleared c.self.inside.values.values j c.self.inside.depth) zero)) c.requires
    ∙ ap (marked c.args.self.now c.args.row c.args.col) (sym c.if-not-valid.true)

pub returns-else-not-valid-clause-after : goal.returns-else-not-valid-clause-after
returns-else-not-valid-clause-after c =
    let k = c.args.row * c.self.inside.cols + c.args.col in
    subst (λ (r : Pixels). InShape r c.args.row c.args.col → record (seen c.self.inside) { pixels = pixels_of c.self.inside.depth (c.set.new.self) c.self.inside.values.values } ≡ marked r c.args.row c.args.col true) c.self.view_is
    (mark_leaves c.self.inside c.args.row c.args.col _ c.self.invariant (c.set.ensures ∙ ap (set c.self.inside.marks k) c.if-not-valid.false)) c.requires
    ∙ ap (marked c.args.self.now c.args.row c.args.col) (sym c.if-not-valid.false)

pub returns-then-not-valid-clause-changes : goal.returns-then-not-valid-clause-changes
returns-then-not-valid-clause-changes c =
    mark_changes c.args.self.now _ c.args.row c.args.col c.args.valid (subst IsRaster c.self.view_is (sound c.self.inside c.self.invariant)) c.requires (returns-then-not-valid-clause-after c)

pub returns-else-not-valid-clause-changes : goal.returns-else-not-valid-clause-changes
returns-else-not-valid-clause-changes c =
    mark_changes c.args.self.now _ c.args.row c.args.col c.args.valid (subst IsRaster c.self.view_is (sound c.self.inside c.self.invariant)) c.requires (returns-else-not-valid-clause-after c)
