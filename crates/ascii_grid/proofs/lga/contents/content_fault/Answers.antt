use Rattle.std.proofs.Common.{◌+◌, ◌*◌, w64, ap, sym, ◌∙◌, refl}
use Rattle.std.proofs.lemmas.Int.{to_z-of_z}
use Rattle.raster_cells.specs.PixelType.{bytes_of}
use Rattle.ascii_grid.specs.declared.fault.AsciiReason.TheVariants.{Collision}
use Rattle.ascii_grid.proofs.ContentSteps.{collides}
use Rattle.ascii_grid.proofs.lga.contents.content_fault.Goals as goal

pub returns-clause-found : goal.returns-clause-found
returns-clause-found c =
    collides c.args.nodata c.args.raster.now c.in_ok-valid.valid c.args.at (record { reason = Collision; place = c.args.at + (17 + c.rows.result * c.cols.result + c.in_ok-valid.valid * c.bytes.result) })
    (sym c.depth.ensures.value ∙ c.if-depth-ne1.false) (rw (to_z-of_z w64 c.args.nodata c.ranges.nodata) at c.in_ok-valid.ensures.found) refl
    (λ i. c.args.at + (17 + c.rows.ensures.value i * c.cols.ensures.value i + c.in_ok-valid.valid * (c.bytes.ensures ∙ ap bytes_of c.kind.ensures.value) i))
