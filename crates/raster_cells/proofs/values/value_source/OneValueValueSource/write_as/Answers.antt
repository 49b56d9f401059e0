use Rattle.std.proofs.Common.{◌*◌, ◌++◌, ◌∙◌, ap, sym, drop, replicate, arith}
use Rattle.std.proofs.lemmas.List.{length-replicate}
use Rattle.raster_cells.specs.PixelType.{bytes_of}
use Rattle.raster_cells.specs.Values.{values_bytes}
use Rattle.raster_cells.proofs.GivenSums.{of_type_bits}
use Rattle.raster_cells.proofs.GivenRuns.{some_copies}
use Rattle.raster_cells.proofs.values.value_source.OneValueValueSource.write_as.Goals as goal

pub returns-then-count-gt0 : goal.returns-then-count-gt0
returns-then-count-gt0 c =
    let v = c.args.self.now in
    c.write_copies.ensures
    ∙ ap (λ vs. values_bytes c.args.kind vs ++ drop (c.args.count * bytes_of c.args.kind) c.args.out.now)
    (ap (replicate c.args.count) (of_type_bits v.value v.of_a_type) ∙ sym (some_copies v.count c.args.n c.args.count v.value (omega (arith, c.requires.within, length-replicate v.count v.value))))
