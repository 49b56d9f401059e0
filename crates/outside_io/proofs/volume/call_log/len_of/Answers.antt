use Rattle.std.proofs.Common.{◌∙◌}
use Rattle.outside_io.specs.declared.volume.call_log.Ask.TheVariants.{Look}
use Rattle.outside_io.specs.declared.volume.call_log.Call.{Call}
use Rattle.outside_io.proofs.Inside.Kept.{ends_at, length_more}
use Rattle.outside_io.proofs.volume.call_log.len_of.Goals as goal

abbrev none : Call
none = record { ask = Look; from = 0; count = 0 }

pub len_after-len-requires : goal.len_after-len-requires
len_after-len-requires c = ends_at c.args.log.now c.loop-call.call-index none c.loop-call-test.true c.requires

pub loop-call-preserved : goal.loop-call-preserved
loop-call-preserved c = λ written d pool fit first.
    c.len_after-len.ensures ∙ length_more c.args.file written c.args.log.now c.loop-call.call-index none d c.loop-call.len c.loop-call-test.true pool fit (c.loop-call.invariant written d pool fit first)
