use Rattle.std.proofs.Common.{◌≡◌, ◌*◌, ◌∙◌, ap, length, replicate, true, false, ◌≤◌, arith}
use Rattle.std.proofs.Math.Nat.{mul-le-mul_left}
use Rattle.std.proofs.lemmas.List.{length-replicate}
use Rattle.raster_values.specs.declared.rasters.raster.Raster.TheInside.{Inside}
use Rattle.raster_cells.specs.CellList.{values_in}
use Rattle.raster_values.specs.View.{IsInside}
use Rattle.raster_cells.proofs.Spelled.{AreBytes}
use Rattle.raster_values.proofs.Views.{sound}
use Rattle.raster_values.proofs.AllCells.{whole_inside, whole_puts}
use Rattle.raster_values.proofs.rasters.raster.Raster.from_cells.Goals as goal
use Rattle.raster_values.proofs.rasters.raster.Raster.from_cells.Goals.{In_ok-values}

abbrev made : In_ok-values → Inside
made c = record { rows = c.args.rows; cols = c.args.cols; depth = c.args.depth; marks = c.fill.new.self; values = c.in_ok-values.values }

marked : (c : In_ok-values) → c.fill.new.self ≡ replicate (c.args.rows * c.args.cols) true
marked c =
    let count : length c.in_ok-marks.marks ≡ c.args.rows * c.args.cols = ap length c.in_ok-marks.ensures ∙ length-replicate c.in_ok-places.places false ∙ c.in_ok-places.ensures.ok.0 in
    c.fill.ensures ∙ ap (λ n. replicate n true) count

valued : (c : In_ok-values) → c.in_ok-values.values ≡ record { kind = c.args.kind; values = values_in c.args.kind (c.args.rows * c.args.cols * c.args.depth) c.args.bytes.now }
valued c = c.in_ok-values.ensures ∙ ap (λ n. record { kind = c.args.kind; values = values_in c.args.kind (n * c.args.depth) c.args.bytes.now }) c.in_ok-places.ensures.ok.0

inside : (c : In_ok-values) → IsInside (made c)
inside c = let are : AreBytes c.args.bytes.now = λ i. omega (arith, c.type_inv.bytes i) in whole_inside (made c) c.args.kind c.args.bytes.now c.in_ok-places.ensures.ok.1 (marked c) (valued c) are

pub invariant_of-result : goal.invariant_of-result
invariant_of-result c = inside c

pub returns-clause-ok : goal.returns-clause-ok
returns-clause-ok c = (sound (made c) (inside c), whole_puts (made c) c.args.kind c.args.bytes.now (inside c) (marked c) (valued c))

pub new-requires : goal.new-requires
new-requires c =
    let shape = c.in_ok-places.ensures.ok.1 in
    let deep : c.args.rows * c.args.cols * 1 ≤ c.args.rows * c.args.cols * c.args.depth =
    mul-le-mul_left (c.args.rows * c.args.cols) shape.depth_above in
    omega (arith, deep, shape, c.in_ok-places.ensures.ok.0)
