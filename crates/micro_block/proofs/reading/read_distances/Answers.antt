use Rattle.std.proofs.Common.{◌≡◌, ◌*◌, ◌-ℤ◌, ℕ, List, drop, refl, sym, ap, ◌∙◌, arith}
use Rattle.std.specs.Prelude.{unsigned_abs}
use Rattle.std.proofs.lemmas.Int.{ints}
use Rattle.std.proofs.lemmas.List.{take_rest}
use Rattle.byteorder.specs.Endian.{little_number}
use Rattle.raster_cells.specs.PixelType.{bytes_of, type_least, value_of}
use Rattle.raster_cells.specs.Distance.{distance_of}
use Rattle.raster_cells.proofs.Distances.{difference_fits, difference_is}
use Rattle.micro_block.proofs.BlockSteps.{one_more, raw_are}
use Rattle.micro_block.proofs.reading.read_distances.Goals as goal

pub overflow_cast-numbers : goal.overflow_cast-numbers
overflow_cast-numbers c =
    let kind = c.args.kind in
    let v = c.read_value.result in
    let is = difference_is kind v c.least-least.result c.read_value.ensures.in_range c.least-least.ensures in
    let fits = difference_fits kind v c.read_value.ensures.in_range (v -ℤ type_least kind) refl in
    (omega (arith, ints, is, fits.0), omega (arith, ints, is, fits.0, fits.1))

pub loop-i-preserved : goal.loop-i-preserved
loop-i-preserved c =
    let kind = c.args.kind in
    let bytes = c.args.bytes.now in
    let i = c.loop-i.i in
    let is = difference_is kind c.read_value.result c.least-least.result c.read_value.ensures.in_range c.least-least.ensures in
    let at : ℕ → ℕ = λ (k : ℕ). distance_of kind (value_of kind (little_number (bytes_of kind) (drop (k * bytes_of kind) bytes))) in
    let spelled : c.read_value.result ≡ value_of kind (little_number (bytes_of kind) (drop (i * bytes_of kind) bytes)) =
    c.read_value.ensures.spelled ∙ ap (λ (u : List ℕ). value_of kind (little_number (bytes_of kind) u)) (take_rest bytes (i * c.bytes-size.result))
    ∙ ap (λ (n : ℕ). value_of kind (little_number (bytes_of kind) (drop (i * n) bytes))) c.bytes-size.ensures in
    one_more c.loop-i.numbers i _ 0 at (omega arith) (ap unsigned_abs is ∙ ap (distance_of kind) spelled) c.loop-i.invariant

pub returns : goal.returns
returns c =
    raw_are c.args.kind c.args.bytes.now c.loop-i.numbers (λ i. omega (arith, c.type_inv.bytes i))
    (c.requires.size ∙ ap (λ n. n * bytes_of c.args.kind) (sym c.loop-i.auto.numbers)) (λ k below. c.loop-i.invariant k (omega arith))
