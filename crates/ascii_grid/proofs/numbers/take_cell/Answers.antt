use Rattle.std.proofs.Common.{◌∙◌, ◌/◌, ◌%◌, sym, ap, w64, to_z, of_z}
use Rattle.std.proofs.lemmas.Int.{to_z-of_z}
use Rattle.raster_values.specs.Raster.{written}
use Rattle.ascii_grid.proofs.DigitSteps.{no_some}
use Rattle.ascii_grid.proofs.CellSteps.{cell_bad, cell_far, cell_none, cell_some, place_back}
use Rattle.ascii_grid.proofs.numbers.take_cell.Goals as goal

pub returns-in_default-clause-taken : goal.returns-in_default-clause-taken
returns-in_default-clause-taken c =
    cell_bad c.stop.result c.args.nodata c.args.token.now c.args.raster.now c.args.raster.now c.args.k (λ z is. no_some z (sym c.in_default.is ∙ (c.integer_of.ensures.value z).1 (rw c.bytes.ensures.value is))) (rw c.place.ensures at c.stop.ensures)

pub returns-then-number-nodata-clause-taken : goal.returns-then-number-nodata-clause-taken
returns-then-number-nodata-clause-taken c =
    let number = rw c.bytes.ensures.value at ((c.integer_of.ensures.value c.in-Some.number).0 c.in-Some.is) in
    let one = to_z-of_z w64 c.in-Some.number (rw c.in-Some.is at c.integer_of.ensures.fits) in
    let two = to_z-of_z w64 c.args.nodata c.ranges.nodata in
    cell_none c.args.nodata c.in-Some.number c.args.token.now c.args.raster.now c.args.k c.requires.place number (sym one ∙ ap (to_z w64) c.if-number-nodata.true ∙ two)

pub returns-then-not-is_of-clause-taken : goal.returns-then-not-is_of-clause-taken
returns-then-not-is_of-clause-taken c =
    let number = rw c.bytes.ensures.value at ((c.integer_of.ensures.value c.in-Some.number).0 c.in-Some.is) in
    let one = to_z-of_z w64 c.in-Some.number (rw c.in-Some.is at c.integer_of.ensures.fits) in
    let far = rw (c.kind.ensures.value, one) at c.if-not-is_of.ensures in
    cell_far c.stop-then-not-is_of.result c.args.nodata c.in-Some.number c.args.token.now c.args.raster.now c.args.raster.now c.args.k number (λ e. c.if-number-nodata.false (ap (of_z w64) e)) far (rw c.place-then-not-is_of.ensures at c.stop-then-not-is_of.ensures)

pub returns-clause-taken : goal.returns-clause-taken
returns-clause-taken c =
    let number = rw c.bytes.ensures.value at ((c.integer_of.ensures.value c.in-Some.number).0 c.in-Some.is) in
    let one = to_z-of_z w64 c.in-Some.number (rw c.in-Some.is at c.integer_of.ensures.fits) in
    let near = rw (c.kind.ensures.value, one) at c.if-not-is_of.ensures in
    let at = place_back c.args.k c.cols-cols.result c.args.raster.now.cols c.cols-cols.ensures.value (rw c.cols-cols.ensures.value c.cols-cols.ensures.sound.shape.cols_above) in
    let written_ = c.set.ensures.after ∙ (λ i. written (c.mark.ensures.after i) (c.args.k / c.cols-cols.result) (c.args.k % c.cols-cols.result) 0 (one i)) in
    cell_some c.args.nodata c.in-Some.number c.args.token.now c.args.raster.now c.set.new.self (c.args.k / c.cols-cols.result) (c.args.k % c.cols-cols.result) c.args.k c.requires.place c.requires.depth at number (λ e. c.if-number-nodata.false (ap (of_z w64) e)) near written_
