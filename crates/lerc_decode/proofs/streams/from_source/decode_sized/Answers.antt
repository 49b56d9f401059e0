use Rattle.std.proofs.Common.{[], length, sym, ap, ◌∙◌, subst, List, ℕ, Option, None}
use Rattle.std.specs.Prelude.{IfOk}
use Rattle.raster_values.specs.Raster.{IsRaster}
use Rattle.lerc_grammar.specs.Mask.{Previous}
use Rattle.lerc_decode.specs.Decoding.{IsStageOf}
use Rattle.lerc_decode.specs.Feeding.{Begins, Follows, Joins}
use Rattle.lerc_decode.specs.inside.Feeding.{from_finished}
use Rattle.lerc_decode.specs.States.{finished_at}
use Rattle.lerc_decode.specs.FromSource.{IsSized}
use Rattle.lerc_decode.proofs.Feeding.{decoded, decoded_raster}
use Rattle.lerc_decode.proofs.streams.from_source.decode_sized.Goals as goal

pub returns-in-Ok-clause-raster : goal.returns-in-Ok-clause-raster
returns-in-Ok-clause-raster g c =
    let d = c.feed_from.new.decoder in
    let stands : IsStageOf None d.taken d.stage = subst (λ (b : Option Previous). IsStageOf b d.taken d.stage) (c.feed_from.ensures.before ∙ c.new-decoder.ensures.before) c.feed_from.ensures.stands in
    subst (λ r. IfOk r (λ x. IsRaster x.raster)) (sym (c.answer.ensures ∙ ap (λ r. from_finished r (length c.bytes-size.result.now)) c.finish.ensures)) (decoded_raster d.stage d.taken (length c.bytes-size.result.now) stands)

pub returns-in-Ok-clause-told : goal.returns-in-Ok-clause-told
returns-in-Ok-clause-told g c =
    let d = c.feed_from.new.decoder in
    let stands : IsStageOf None d.taken d.stage = subst (λ (b : Option Previous). IsStageOf b d.taken d.stage) (c.feed_from.ensures.before ∙ c.new-decoder.ensures.before) c.feed_from.ensures.stands in
    let fed : Follows d.stage (Joins (g.S.Source.left c.args.src.now) (g.S.Source.left c.feed_from.new.src) [] d.taken) =
    subst (λ (u : List ℕ). Follows d.stage (Joins (g.S.Source.left c.args.src.now) (g.S.Source.left c.feed_from.new.src) u d.taken)) c.new-decoder.ensures.taken c.in-Ok.ensures.fed in
    let first : Begins (g.S.Source.left c.args.src.now) [] d.taken = subst (λ (u : List ℕ). Begins (g.S.Source.left c.args.src.now) u d.taken) c.new-decoder.ensures.taken c.in-Ok.ensures.begins in
    subst (λ r. IsSized r (g.S.Source.left c.args.src.now) (g.S.Source.left c.feed_from.new.src)) (sym (c.answer.ensures ∙ ap (λ r. from_finished r (length c.bytes-size.result.now)) c.finish.ensures ∙ ap (λ (u : List ℕ). from_finished (finished_at d.stage d.taken) (length u)) c.bytes-size.ensures))
    (decoded d.stage d.taken (g.S.Source.left c.args.src.now) (g.S.Source.left c.feed_from.new.src) stands fed first c.in-Ok.ensures.end)
