use Rattle.std.proofs.Common.{arith}
use Rattle.byteorder.proofs.Bytes.{pow256}
use Rattle.bit_stuff.proofs.Eights.{piece_put}
use Rattle.bit_stuff.proofs.groups.put.Goals as goal

pub write_uint-requires-clause-fits : goal.write_uint-requires-clause-fits
write_uint-requires-clause-fits c = rw (pow256 c.args.size) c.requires.fits

pub returns : goal.returns
returns c = piece_put c.args.out.now c.write_uint.new.buf _ c.args.at c.args.size c.args.number (omega arith) c.requires.fits c.write_uint.ensures
