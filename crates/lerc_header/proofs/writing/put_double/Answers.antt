use Rattle.std.proofs.Common.{refl}
use Rattle.byteorder.specs.Endian.{little_bytes}
use Rattle.lerc_header.proofs.LaidLemmas.{laid_at}
use Rattle.lerc_header.proofs.writing.put_double.Goals as goal

pub returns-clause-laid : goal.returns-clause-laid
returns-clause-laid c = laid_at c.args.out.now c.args.place 8 (little_bytes 8 c.args.bits) c.write_u64.new.buf c.requires refl c.write_u64.ensures
