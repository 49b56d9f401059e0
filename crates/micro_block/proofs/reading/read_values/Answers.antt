use Rattle.std.proofs.Common.{◌*◌, ℕ, ℤ, pos, List, drop, sym, ap, ◌∙◌, arith}
use Rattle.std.proofs.lemmas.Int.{ints, to_z-of_z}
use Rattle.std.proofs.lemmas.List.{take_rest}
use mir.Syntax.{w64}
use mir.Val.{SFits}
use Rattle.byteorder.specs.Endian.{little_number}
use Rattle.raster_cells.specs.PixelType.{bytes_of, value_of}
use Rattle.micro_block.proofs.BlockSteps.{one_more, value_small, values_in_range}
use Rattle.micro_block.proofs.reading.read_values.Goals as goal

pub loop-i-preserved : goal.loop-i-preserved
loop-i-preserved c =
    let kind = c.args.kind in
    let bytes = c.args.bytes.now in
    let i = c.loop-i.i in
    let small = value_small kind c.read_value.result c.read_value.ensures.in_range in
    let fits : SFits w64 c.read_value.result = omega (arith, ints, small) in
    let at : ℕ → ℤ = λ (k : ℕ). value_of kind (little_number (bytes_of kind) (drop (k * bytes_of kind) bytes)) in
    let spelled = c.read_value.ensures.spelled ∙ ap (λ (u : List ℕ). value_of kind (little_number (bytes_of kind) u)) (take_rest bytes (i * c.bytes-size.result))
    ∙ ap (λ (n : ℕ). value_of kind (little_number (bytes_of kind) (drop (i * n) bytes))) c.bytes-size.ensures in
    one_more c.loop-i.out i _ (pos 0) at (omega arith) (to_z-of_z w64 c.read_value.result fits ∙ spelled) c.loop-i.invariant

pub returns-clause-in_range : goal.returns-clause-in_range
returns-clause-in_range c =
    values_in_range c.args.kind c.args.bytes.now c.loop-i.out (λ i. omega (arith, c.type_inv.bytes i))
    (record { size = c.requires.size ∙ ap (λ n. n * bytes_of c.args.kind) (sym c.loop-i.auto.out); each = λ k below. c.loop-i.invariant k (omega arith) })
