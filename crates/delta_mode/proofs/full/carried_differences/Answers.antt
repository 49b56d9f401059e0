use Rattle.std.proofs.Common.{◌+◌, ◌-◌, length, arith}
use Rattle.delta_mode.proofs.FullPieces.{cell_there}
use Rattle.delta_mode.proofs.full.carried_differences.Goals as goal

pub cell_of-before-requires : goal.cell_of-before-requires
cell_of-before-requires c =
    let test = c.if-from-out.false in
    cell_there (c.args.place + length c.args.out.now) c.args.depth c.args.d (c.args.place + c.args.from - 1) (length c.args.cells.now) c.requires.cells.below (omega (arith, test, c.requires.some)) c.requires.cells.size

pub cell_of-byte-requires : goal.cell_of-byte-requires
cell_of-byte-requires c =
    let test = c.loop-i-test.true in
    cell_there (c.args.place + length c.args.out.now) c.args.depth c.args.d (c.args.place + c.loop-i.i) (length c.args.cells.now) c.requires.cells.below (omega (arith, test, c.loop-i.invariant.room)) c.requires.cells.size
