use Rattle.std.proofs.Common.{◌≡◌, List, ℕ, ap, sym, subst}
use Rattle.raster_cells.specs.Values.{values_bytes}
use Rattle.raster_cells.specs.CellList.{values_in}
use Rattle.raster_values.specs.Raster.{values_of}
use Rattle.raster_values.specs.inside.LentCells.{CellFrame}
use Rattle.raster_values.specs.Ordered.{ChangesMarked}
use Rattle.raster_values.specs.View.{pixels_of}
use Rattle.raster_values.proofs.rasters.lent_cells.scatter_bytes_over.Goals as goal

pub returns-clause-changed : goal.returns-clause-changed
returns-clause-changed c =
    let kept = c.scatter_bytes.ensures.kept in
    let array = sym (ap (λ (f : CellFrame). f.array) kept) in
    let old = values_in c.args.kind c.args.count c.args.values.now in
    let done = subst (λ (f : CellFrame). ChangesMarked c.args.kind c.args.depth c.args.marks.now old (values_in f.kind f.count c.scatter_bytes.new.values.values.now)) kept c.scatter_bytes.ensures.changed in
    subst (λ (bytes : List ℕ). ChangesMarked c.args.kind c.args.depth c.args.marks.now old (values_in c.args.kind c.args.count bytes)) (sym (c.values-1.given.1.1 array)) done

pub returns-clause-scattered : goal.returns-clause-scattered
returns-clause-scattered c =
    let kept = c.scatter_bytes.ensures.kept in
    let array = sym (ap (λ (f : CellFrame). f.array) kept) in
    let done = subst (λ (f : CellFrame). values_bytes c.args.kind (values_of (pixels_of c.args.depth c.args.marks.now (values_in f.kind f.count c.scatter_bytes.new.values.values.now))) ≡ c.args.bytes.now) kept c.scatter_bytes.ensures.scattered in
    subst (λ (bytes : List ℕ). values_bytes c.args.kind (values_of (pixels_of c.args.depth c.args.marks.now (values_in c.args.kind c.args.count bytes))) ≡ c.args.bytes.now) (sym (c.values-1.given.1.1 array)) done
