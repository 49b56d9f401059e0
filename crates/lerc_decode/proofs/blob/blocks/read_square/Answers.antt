use Rattle.std.proofs.Common.{ℕ, ◌≤◌, ◌*◌, sym, ◌∙◌, arith}
use Rattle.std.proofs.lemmas.List.{length-take-le}
use Rattle.std.proofs.Math.Nat.{mul-le-mul_right}
use Rattle.lerc_decode.proofs.BlockReading.{row_begins, col_begins}
use Rattle.lerc_decode.proofs.blob.blocks.read_square.Goals as goal

-- a block has no more pixels than the room has values
few : (side count : ℕ) → side ≤ 32 → count ≤ side * side → count ≤ 1024
few side count low within =
    let most : side * side ≤ 32 * side = mul-le-mul_right side low in
    omega (arith, most, low, within)

pub overflow_mul-a : goal.overflow_mul-a
overflow_mul-a g c = omega (arith, row_begins c.args.blocks.now.header.now c.args.a c.args.blocks.now.topped.head c.requires.square.down)

pub overflow_mul-b : goal.overflow_mul-b
overflow_mul-b g c = omega (arith, col_begins c.args.blocks.now.header.now c.args.b c.args.blocks.now.topped.head c.requires.square.across)

pub slice_bounds-read_depths-end-2 : goal.slice_bounds-read_depths-end-2
slice_bounds-read_depths-end-2 g c =
    let count = c.block_valid_count-count in
    let low = few c.args.blocks.now.header.now.side count.result c.args.blocks.now.topped.head.side_below
    count.ensures.within in
    sym (length-take-le count.result c.args.room.now (omega (arith, low)))

pub read_depths-requires-clause-count : goal.read_depths-requires-clause-count
read_depths-requires-clause-count g c =
    let count = c.block_valid_count-count in
    let low = few c.args.blocks.now.header.now.side count.result c.args.blocks.now.topped.head.side_below
    count.ensures.within in
    length-take-le count.result c.args.room.now (omega (arith, low))
    ∙ count.ensures.value
