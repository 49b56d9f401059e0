use Rattle.std.proofs.Common.{◌*◌, ap, ◌∙◌, drop, arith}
use Rattle.std.specs.Prelude.{unsigned_abs}
use Rattle.std.proofs.lemmas.Int.{ints}
use Rattle.std.proofs.lemmas.List.{take_rest}
use Rattle.raster_cells.specs.PixelType.{bytes_of, value_of}
use Rattle.byteorder.specs.Endian.{little_number}
use Rattle.raster_cells.specs.Distance.{distance_of}
use Rattle.raster_cells.proofs.Distances.{difference_is, difference_fits}
use Rattle.raster_cells.proofs.values.value_bytes.distance_at.Goals as goal

pub overflow_cast-result : goal.overflow_cast-result
overflow_cast-result c =
    let e = difference_is c.args.kind c.read_value.result c.least.result c.read_value.ensures.in_range c.least.ensures in
    let fits = difference_fits c.args.kind c.read_value.result c.read_value.ensures.in_range _ e in
    (omega (arith, ints, fits.0), omega (arith, ints, fits.1))

pub returns : goal.returns
returns c =
    ap unsigned_abs (difference_is c.args.kind c.read_value.result c.least.result c.read_value.ensures.in_range c.least.ensures)
    ∙ ap (distance_of c.args.kind) (c.read_value.ensures.spelled
    ∙ ap (λ xs. value_of c.args.kind (little_number (bytes_of c.args.kind) xs))
    (take_rest c.args.bytes.now (c.args.at * c.bytes.result) ∙ ap (λ n. drop (c.args.at * n) c.args.bytes.now) c.bytes.ensures))
