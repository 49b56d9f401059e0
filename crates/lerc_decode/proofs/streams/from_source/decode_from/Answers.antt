use Rattle.lerc_decode.proofs.Feeding.{alone}
use Rattle.lerc_decode.proofs.streams.from_source.decode_from.Goals as goal

pub returns-in-Ok-clause-told : goal.returns-in-Ok-clause-told
returns-in-Ok-clause-told g c =
    alone c.in-Ok.decoded (g.S.Source.left c.args.src.now) (g.S.Source.left c.decode_sized.new.src) c.in-Ok.ensures.told
