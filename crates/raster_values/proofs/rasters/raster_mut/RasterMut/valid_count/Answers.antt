use Rattle.std.proofs.Common.{◌∙◌, sym, arith}
use Rattle.std.proofs.lemmas.List.Sums.{count_by-le-length}
use Rattle.raster_values.specs.RasterMut.{inside_of}
use Rattle.raster_values.proofs.Views.{count-pixels_of}
use Rattle.raster_values.proofs.rasters.raster_mut.RasterMut.valid_count.Goals as goal

pub overflow_cast-result : goal.overflow_cast-result
overflow_cast-result c =
    let a = inside_of c.args.self.now in
    let most = count_by-le-length (λ m. m) a.marks in
    omega (arith, c.args.self.now.bits.counted, most, c.args.self.now.inside.marks, c.args.self.now.bits.few)

pub returns-clause-value : goal.returns-clause-value
returns-clause-value c =
    let a = inside_of c.args.self.now in
    c.args.self.now.bits.counted ∙ sym (count-pixels_of a.depth a.marks a.values.values)

pub returns-clause-within : goal.returns-clause-within
returns-clause-within c =
    let a = inside_of c.args.self.now in
    let most = count_by-le-length (λ m. m) a.marks in
    omega (arith, c.args.self.now.bits.counted, most, c.args.self.now.inside.marks)
