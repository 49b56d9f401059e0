use Rattle.std.proofs.Common.{ap, ◌∙◌, sym, drop}
use Rattle.std.proofs.lemmas.List.{take_rest}
use Rattle.byteorder.specs.Endian.{little_number}
use Rattle.raster_cells.specs.PixelType.{bytes_of, value_of}
use Rattle.raster_cells.proofs.ValueBits.{same_bits}
use Rattle.raster_cells.proofs.Spelled.{value_in-at}
use Rattle.raster_cells.proofs.values.value_bytes.value_at.Goals as goal

pub returns-clause-value : goal.returns-clause-value
returns-clause-value c =
    let kind = c.args.kind in
    same_bits kind c.read_value.result c.read_value.ensures.in_range
    ∙ c.read_value.ensures.spelled
    ∙ ap (λ xs. value_of kind (little_number (bytes_of kind) xs)) (take_rest c.args.bytes.now c.place-from.result ∙ ap (λ n. drop n c.args.bytes.now) c.place-from.ensures.value)
    ∙ sym (value_in-at kind c.args.count c.args.bytes.now c.args.at c.requires.within)
