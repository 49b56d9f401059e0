use Rattle.std.proofs.Common.{Err, ap, subst, ◌∙◌}
use Rattle.lerc_decode.specs.BandsStates.{IsBandsFinish}
use Rattle.lerc_decode.specs.declared.streams.bands.BandsStop.{BandsStop}
use Rattle.lerc_decode.specs.declared.streams.bands.BandsStop.TheVariants.{Fault}
use Rattle.lerc_grammar.proofs.WholeBands.{bands_or_fault}
use Rattle.sample_tiles.proofs.adding.decode_blob.Goals as goal

pub unreachable-requires : goal.unreachable-requires
unreachable-requires c =
    let f = c.in-Err-Fault.field-0-0 in
    let told : IsBandsFinish c.args.blob.now (Err (Fault f)) = subst (IsBandsFinish c.args.blob.now) (c.in-Err-Fault.is ∙ ap (λ (s : BandsStop). Err s) c.in-Err-Fault.field-0-is) c.decode_bands.ensures in
    bands_or_fault c.args.blob.now c.requires.0 f.place f.reason c.requires.1 told
