use Rattle.std.proofs.Common.{◌-◌, arith, length}
use Rattle.bit_stuff.proofs.Buffers.{fits_bytes, last_moved}
use Rattle.bit_stuff.proofs.packing.write_last.Goals as goal

pub write_uint-requires-clause-fits : goal.write_uint-requires-clause-fits
write_uint-requires-clause-fits c =
    fits_bytes c.args.buffer.held c.args.buffer.used (length c.args.out.now - c.args.buffer.at) c.requires.buffer.0 (omega arith)

pub returns-then-count-gt0 : goal.returns-then-count-gt0
returns-then-count-gt0 c =
    last_moved c.args.out.now c.args.buffer.at c.args.buffer.held (length c.args.out.now - c.args.buffer.at) c.write_uint.new.buf (omega arith) (omega arith)
    (fits_bytes c.args.buffer.held c.args.buffer.used (length c.args.out.now - c.args.buffer.at) c.requires.buffer.0 (omega arith)) c.write_uint.ensures
