use Rattle.std.proofs.Common.{subst, sym}
use Rattle.lerc_cli.specs.inside.Reads.{ReadsNone}
use Rattle.lerc_cli.proofs.InputLemmas.WholeReads.{reads_none}
use Rattle.lerc_cli.proofs.inputs.blobs.read_bands.Goals as goal

pub returns-in-Err-clause-bands : goal.returns-in-Err-clause-bands
returns-in-Err-clause-bands g c =
    subst (ReadsNone (g.S.Source.left c.args.src.now)) (sym c.bands_stop.ensures) (reads_none c.in-Err.fault (g.S.Source.left c.args.src.now) c.in-Err.ensures.told)
