use Rattle.std.proofs.Common.{◌≡◌, ℕ, List, Err, sym, subst}
use Rattle.std.specs.Prelude.{IfSome}
use Rattle.raster_values.specs.Raster.{Pixels}
use Rattle.lerc_decode.specs.declared.streams.bands.BandsStop.TheVariants.{OutOfMemory, Fault}
use Rattle.lerc_decode.specs.declared.streams.bands_source.BandsFromFault.{BandsFromFault}
use Rattle.lerc_grammar.specs.declared.bands.BandReason.{BandReason}
use Rattle.lerc_decode.specs.Reading.{NoMemory, Wrong}
use Rattle.lerc_decode.specs.BandsSource.{IsNoBands, LeavesRest}
use Rattle.lerc_decode.proofs.BandsRead.{came, ok_end, ok_left, ok_told, same_stop, stop_left, stop_told}
use Rattle.lerc_decode.proofs.streams.bands_source.decode_bands_from.Goals as goal

pub returns-in-Ok-finish-clause-told : goal.returns-in-Ok-finish-clause-told
returns-in-Ok-finish-clause-told g c =
    let first = g.S.Source.left c.args.src.now in
    let new = g.S.Source.left c.step_all.new.src in
    let d = c.step_all.new.decoder in
    let end = came first new d c.in-Ok.ensures.read c.in-Ok.ensures.end in
    let ok = ok_end first new d end (λ p r is. let e = c.in-Ok-finish.ensures.refused p r is in cc) (λ is. let e = c.in-Ok-finish.ensures.memory.1 is in cc) in
    ok_told first new d c.in-Ok-finish.bands ok.1 c.in-Ok-finish.ensures.verdict

pub returns-in-Ok-finish-clause-left : goal.returns-in-Ok-finish-clause-left
returns-in-Ok-finish-clause-left g c =
    let first = g.S.Source.left c.args.src.now in
    let new = g.S.Source.left c.step_all.new.src in
    let d = c.step_all.new.decoder in
    let end = came first new d c.in-Ok.ensures.read c.in-Ok.ensures.end in
    let ok = ok_end first new d end (λ p r is. let e = c.in-Ok-finish.ensures.refused p r is in cc) (λ is. let e = c.in-Ok-finish.ensures.memory.1 is in cc) in
    ok_left first new d ok.1

pub returns-in-Err-finish-clause-told : goal.returns-in-Err-finish-clause-told
returns-in-Err-finish-clause-told g c =
    let first = g.S.Source.left c.args.src.now in
    let new = g.S.Source.left c.step_all.new.src in
    let d = c.step_all.new.decoder in
    let end = came first new d c.in-Ok.ensures.read c.in-Ok.ensures.end in
    let stop = c.in-Err-finish.stop in
    let memory : d.stage ≡ NoMemory → stop ≡ OutOfMemory = λ is. same_stop c.finish.result stop OutOfMemory c.in-Err-finish.is (c.finish.ensures.memory.1 is) in
    let refused : (p : ℕ) (r : BandReason) → d.stage ≡ Wrong p r → stop ≡ Fault (record { reason = r; place = p }) = λ p r is. same_stop c.finish.result stop (Fault (record { reason = r; place = p })) c.in-Err-finish.is (c.finish.ensures.refused p r is) in
    subst (λ (w : BandsFromFault). IfSome first (IsNoBands w)) (sym c.why.ensures) (stop_told first new d stop end c.in-Err-finish.ensures.verdict memory refused)

pub returns-in-Err-finish-clause-left : goal.returns-in-Err-finish-clause-left
returns-in-Err-finish-clause-left g c =
    let first = g.S.Source.left c.args.src.now in
    let new = g.S.Source.left c.step_all.new.src in
    let d = c.step_all.new.decoder in
    let end = came first new d c.in-Ok.ensures.read c.in-Ok.ensures.end in
    let stop = c.in-Err-finish.stop in
    let memory : d.stage ≡ NoMemory → stop ≡ OutOfMemory = λ is. same_stop c.finish.result stop OutOfMemory c.in-Err-finish.is (c.finish.ensures.memory.1 is) in
    let refused : (p : ℕ) (r : BandReason) → d.stage ≡ Wrong p r → stop ≡ Fault (record { reason = r; place = p }) = λ p r is. same_stop c.finish.result stop (Fault (record { reason = r; place = p })) c.in-Err-finish.is (c.finish.ensures.refused p r is) in
    subst (λ (w : BandsFromFault). LeavesRest {X = List Pixels} (Err w) first new) (sym c.why.ensures) (stop_left (List Pixels) first new d stop end memory refused)
