use Rattle.std.proofs.Common.{◌≡◌, ℕ, true, false, get_or, take, sym, ◌∙◌, ap, arith}
use Rattle.outside_io.specs.declared.volume.call_log.Ask.TheVariants.{Look}
use Rattle.outside_io.specs.declared.volume.call_log.Call.{Call}
use Rattle.outside_io.specs.volume.Disk.{Disk, file_of}
use Rattle.outside_io.specs.volume.Recorded.{replay}
use Rattle.outside_io.specs.inside.Effects.{effect, effects, syncs}
use Rattle.outside_io.proofs.Inside.Kept.{base_step, base_synced, replay_more}
use Rattle.outside_io.proofs.volume.call_log.synced_by.Goals as goal
use Rattle.outside_io.proofs.volume.call_log.synced_by.Goals.{then-syncs, else-syncs}

abbrev none : Call
none = record { ask = Look; from = 0; count = 0 }

pub loop-i-preserved : goal.loop-i-preserved
loop-i-preserved c =
    let log = c.args.log.now in
    let file = c.args.file in
    let call = get_or log c.loop-i.i none in
    elim c.if-syncs.branch [
      | then-syncs w ↦ record {
        within = omega (arith, w.last-is);
        base = λ written d settled.
            let yes_is : syncs call.ask file ≡ true = sym c.syncs.ensures ∙ w.if-syncs.true in
            let more = replay_more written log c.loop-i.i none d c.loop-i-test.true in
            ap (λ (q : Disk). (file_of file q).base) more ∙ base_synced file call.ask (effect written call).bytes (replay (effects written (take c.loop-i.i log)) d) yes_is
            ∙ ap (λ (q : Disk). (file_of file q).now) (sym more) ∙ ap (λ (n : ℕ). (file_of file (replay (effects written (take n log)) d)).now) (sym w.last-is);
      }
      | else-syncs w ↦ record {
        within = omega (arith, w.last-is, c.loop-i.invariant.within);
        base = λ written d settled.
            let no_is : syncs call.ask file ≡ false = sym c.syncs.ensures ∙ w.if-syncs.false in
            let more = replay_more written log c.loop-i.i none d c.loop-i-test.true in
            ap (λ (q : Disk). (file_of file q).base) more ∙ base_step file call.ask (effect written call).bytes (replay (effects written (take c.loop-i.i log)) d) no_is
            ∙ c.loop-i.invariant.base written d settled ∙ ap (λ (n : ℕ). (file_of file (replay (effects written (take n log)) d)).now) (sym w.last-is);
      }
    ]
