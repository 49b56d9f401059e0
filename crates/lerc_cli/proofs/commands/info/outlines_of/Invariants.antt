use Rattle.std.proofs.Common.{drop}
use Rattle.lerc_cli.proofs.AnswerLemmas.EachOutlined.{Continues, Rest}
use Rattle.lerc_cli.proofs.commands.info.outlines_of.Given as goal

abbrev pub invariant-loop-i : goal.invariant-loop-i
invariant-loop-i l = record {
  rest : Rest l.before (drop l.i l.blobs);
  so_far : Continues l.blobs l.before (drop l.i l.blobs) l.outlines.items;
}
