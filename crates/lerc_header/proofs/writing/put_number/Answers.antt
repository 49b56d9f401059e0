use Rattle.std.proofs.Common.{refl}
use Rattle.byteorder.specs.Endian.{little_bytes}
use Rattle.lerc_header.proofs.LaidLemmas.{laid_at}
use Rattle.lerc_header.proofs.writing.put_number.Goals as goal

pub returns-clause-laid : goal.returns-clause-laid
returns-clause-laid c = laid_at c.args.out.now c.args.place 4 (little_bytes 4 c.args.number) c.write_u32.new.buf c.requires refl c.write_u32.ensures
