use Rattle.std.proofs.Common.{◌++◌, refl, ap, drop}
use Rattle.std.specs.Prelude.{codes}
use Rattle.lerc_header.proofs.LaidLemmas.{laid_of}
use Rattle.lerc_header.proofs.writing.put_key.Goals as goal

pub returns : goal.returns
returns c = laid_of c.args.out.now 0 6 (codes "Lerc2 ") _ c.requires refl (ap (λ xs. xs ++ drop 6 c.args.out.now) c.copy_from_slice.ensures.after)
