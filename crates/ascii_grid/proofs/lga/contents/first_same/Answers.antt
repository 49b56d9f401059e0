use Rattle.std.proofs.Common.{◌≡◌, ◌+◌, ◌*◌, ◌<◌, ℕ, w64, FitsSigned, to_z, of_z, length, ap, sym, subst, ◌∙◌, arith}
use Rattle.std.proofs.lemmas.Int.{to_z-of_z}
use Rattle.raster_values.specs.Raster.{Pixels, IsRaster}
use Rattle.ascii_grid.proofs.ContentSteps.{NoneSame, past_invalid, past_valid, same_here, valid_here, value_here}
use Rattle.ascii_grid.proofs.lga.contents.first_same.Goals.{then-is_valid+else-get-nodata, else-is_valid}
use Rattle.ascii_grid.proofs.lga.contents.first_same.Goals as goal

below : (r : Pixels) (k rows cols : ℕ) → IsRaster r → rows ≡ r.rows → cols ≡ r.cols → k < rows * cols → k < length r.pixels
below r k rows cols sound is also less =
    let area : rows * cols ≡ r.rows * r.cols = λ i. is i * also i in
    omega (arith, less, area, sound.places)

pub returns-then-get-nodata-clause-found : goal.returns-then-get-nodata-clause-found
returns-then-get-nodata-clause-found c =
    let r = c.args.raster.now in
    let fits : FitsSigned w64 c.get.result = record { sfits = c.get.type_inv } in
    let cols = c.cols-cols.ensures.value in
    same_here c.args.nodata c.get.result r.pixels c.loop-k.valid c.loop-k.k (below r c.loop-k.k c.rows.result c.cols-cols.result c.rows.ensures.sound c.rows.ensures.value cols c.loop-k-test.true)
    (valid_here r c.cols-cols.result c.loop-k.k _ _ cols c.is_valid.ensures c.if-is_valid.true) (value_here r c.cols-cols.result c.loop-k.k c.get.result cols c.get.ensures)
    (sym (to_z-of_z w64 c.get.result fits) ∙ ap (to_z w64) c.if-get-nodata.true ∙ to_z-of_z w64 c.args.nodata c.ranges.nodata)
    (rw (to_z-of_z w64 c.args.nodata c.ranges.nodata) at c.loop-k.invariant.so_far)

pub loop-k-preserved : goal.loop-k-preserved
loop-k-preserved c =
    let r = c.args.raster.now in
    let cols = c.cols-cols.ensures.value in
    let nodata = to_z w64 (of_z w64 c.args.nodata) in
    let inv = c.loop-k.invariant in
    let there = below r c.loop-k.k c.rows.result c.cols-cols.result c.rows.ensures.sound c.rows.ensures.value cols c.loop-k-test.true in
    elim c.if-is_valid.branch [
      | then-is_valid+else-get-nodata w ↦ record {
        so_far = subst (λ (n : ℕ). NoneSame nodata r.pixels n (c.loop-k.k + 1)) (sym w.valid-is)
            (past_valid nodata w.get.result r.pixels c.loop-k.valid c.loop-k.k there (valid_here r c.cols-cols.result c.loop-k.k _ _ cols c.is_valid.ensures w.if-is_valid.true) (value_here r c.cols-cols.result c.loop-k.k w.get.result cols w.get.ensures)
            (λ e. w.if-get-nodata.false (ap (of_z w64) e ∙ ap (of_z w64) (to_z-of_z w64 c.args.nodata c.ranges.nodata))) inv.so_far);
        few = omega (arith, w.valid-is, inv.few);
      }
      | else-is_valid w ↦ record {
        so_far = subst (λ (n : ℕ). NoneSame nodata r.pixels n (c.loop-k.k + 1)) (sym w.valid-is)
            (past_invalid nodata r.pixels c.loop-k.valid c.loop-k.k there (valid_here r c.cols-cols.result c.loop-k.k _ _ cols c.is_valid.ensures w.if-is_valid.false) inv.so_far);
        few = omega (arith, w.valid-is, inv.few);
      }
    ]
