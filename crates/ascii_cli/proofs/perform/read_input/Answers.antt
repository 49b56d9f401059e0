use Rattle.std.proofs.Common.{subst, sym}
use Rattle.std.specs.Prelude.{IfErr}
use Rattle.ascii_cli.specs.declared.words.Command.{Command}
use Rattle.ascii_cli.specs.Run.{IsStopFor}
use Rattle.ascii_cli.proofs.Outputs.{text_refused}
use Rattle.ascii_cli.proofs.perform.read_input.Goals as goal

pub returns-in-Split-clause-refused : goal.returns-in-Split-clause-refused
returns-in-Split-clause-refused g c =
    subst (λ (x : Command). IfErr c.ascii_read.result (λ e. IsStopFor x (g.S.Source.left c.args.src.now) e)) (sym c.in-Split.is)
    (text_refused c.ascii_read.result (g.S.Source.left c.args.src.now) c.in-Split.kind c.ascii_read.ensures.read)
