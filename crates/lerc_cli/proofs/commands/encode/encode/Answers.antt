use Rattle.std.proofs.Common.{refl, rules, subst}
use Rattle.outside_io.specs.streams.Sink.{Holds, HoldsPrefix}
use Rattle.lerc_cli.specs.declared.words.Command.TheVariants.{Encode}
use Rattle.lerc_cli.specs.inputs.Given.{given}
use Rattle.lerc_cli.specs.inside.Grids.{input_stop_of}
use Rattle.lerc_cli.proofs.InputLemmas.GridReads.{encodes, input_cause, made, not_output, read_stop}
use Rattle.lerc_cli.proofs.AnswerLemmas.Outputs.{cut, gave, source_read, source_stopped, stopped}
use Rattle.lerc_cli.proofs.commands.encode.encode.Goals as goal

pub returns-in-Err-clause-source : goal.returns-in-Err-clause-source
returns-in-Err-clause-source g c =
    rw c.input_stop.ensures (source_stopped (Encode c.args.version c.args.error) (input_stop_of c.in-Err.stop) _ (search rules) (input_cause c.in-Err.stop _ _ c.in-Err.ensures.source) c.in-Err.ensures.taken)

pub returns-in-Err-clause-output : goal.returns-in-Err-clause-output
returns-in-Err-clause-output g c = λ files.
    let input = g.S.Source.left c.args.src.now in
    rw c.input_stop.ensures (stopped (Encode c.args.version c.args.error) (given input files) _ g.K.Sink.held g.K.Sink.faults _ _ (input_stop_of c.in-Err.stop)
    (read_stop c.args.version c.args.error input files c.in-Err.stop c.in-Err.ensures.refused c.in-Err.ensures.deep) refl (not_output c.in-Err.stop))

pub returns-in-Ok-give_all-clause-source : goal.returns-in-Ok-give_all-clause-source
returns-in-Ok-give_all-clause-source g c =
    source_read _ _ _ _ (search rules) (λ e. absurd cc) (λ e. absurd cc) c.in-Ok.ensures.source c.in-Ok.ensures.taken c.in-Ok.ensures.end

pub returns-in-Ok-give_all-clause-output : goal.returns-in-Ok-give_all-clause-output
returns-in-Ok-give_all-clause-output g c = λ files.
    let input = g.S.Source.left c.args.src.now in
    gave (Encode c.args.version c.args.error) (given input files) c.in-Ok.blobs _
    (made c.args.version c.args.error input files c.in-Ok.blobs c.in-Ok.ensures.blobs)
    (subst (Holds (g.K.Sink.held c.args.out.now) (g.K.Sink.held c.give_all.new.sink)) c.as_slice.ensures c.in-Ok-give_all.ensures.ok) c.in-Ok-give_all.ensures.counted

pub returns-in-Ok-give_all-clause-blobs : goal.returns-in-Ok-give_all-clause-blobs
returns-in-Ok-give_all-clause-blobs g c =
    let of = c.in-Ok.ensures.blobs in
    let holds = subst (Holds (g.K.Sink.held c.args.out.now) (g.K.Sink.held c.give_all.new.sink)) c.as_slice.ensures c.in-Ok-give_all.ensures.ok in
    (of.bands, (of.are, of.grid, (c.in-Ok.blobs, (encodes c.nearest_is_same.ensures c.args.version c.args.error (g.S.Source.left c.args.src.now) c.in-Ok.blobs of, holds))))

pub returns-clause-source : goal.returns-clause-source
returns-clause-source g c =
    source_read _ _ _ _ (search rules) (λ e. absurd cc) (λ e. absurd cc) c.in-Ok.ensures.source c.in-Ok.ensures.taken c.in-Ok.ensures.end

pub returns-clause-output : goal.returns-clause-output
returns-clause-output g c = λ files.
    let input = g.S.Source.left c.args.src.now in
    cut (Encode c.args.version c.args.error) (given input files) c.in-Ok.blobs _
    (made c.args.version c.args.error input files c.in-Ok.blobs c.in-Ok.ensures.blobs)
    (subst (HoldsPrefix (g.K.Sink.held c.args.out.now) (g.K.Sink.held c.give_all.new.sink)) c.as_slice.ensures c.in-Err-give_all.ensures.err) c.in-Err-give_all.ensures.counted.0 c.in-Err-give_all.ensures.counted.1
