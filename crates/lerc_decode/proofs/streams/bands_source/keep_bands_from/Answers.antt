use Rattle.std.proofs.Common.{◌≡◌, ℕ, List, Err, sym, subst}
use Rattle.std.specs.Prelude.{IfSome}
use Rattle.lerc_decode.specs.declared.streams.bands.BandsStop.TheVariants.{OutOfMemory, Fault}
use Rattle.lerc_decode.specs.declared.streams.bands_source.BandsFromFault.{BandsFromFault}
use Rattle.lerc_grammar.specs.declared.bands.BandReason.{BandReason}
use Rattle.lerc_decode.specs.Reading.{NoMemory, Wrong}
use Rattle.lerc_decode.specs.BandsSource.{IsNoBands, LeavesRest}
use Rattle.lerc_decode.specs.inside.Kept.{IsKeeping}
use Rattle.lerc_decode.proofs.BandsRead.{came, kept_stop, none_kept, ok_end, ok_held, same_stop, stop_left, stop_told}
use Rattle.lerc_decode.proofs.streams.bands_source.keep_bands_from.Goals as goal

pub unreachable-requires : goal.unreachable-requires
unreachable-requires g c =
    let first = g.S.Source.left c.args.src.now in
    let new = g.S.Source.left c.step_all.new.src in
    let d = c.step_all.new.decoder in
    let end = came first new d c.in-Ok.ensures.read c.in-Ok.ensures.end in
    let ok = ok_end first new d end (λ p r is. let e = c.in-Ok-finish_kept.ensures.refused p r is in cc) (λ is. let e = c.in-Ok-finish_kept.ensures.memory.1 is in cc) in
    none_kept first new d c.in-Ok-finish_kept.found c.in-None.is (c.step_all.ensures.keeps (subst IsKeeping (sym c.new_keeping-decoder.ensures.kept) tt)) ok.1 c.in-Ok-finish_kept.ensures.verdict

pub returns-in-Some-clause-told : goal.returns-in-Some-clause-told
returns-in-Some-clause-told g c =
    let first = g.S.Source.left c.args.src.now in
    let new = g.S.Source.left c.step_all.new.src in
    let d = c.step_all.new.decoder in
    let end = came first new d c.in-Ok.ensures.read c.in-Ok.ensures.end in
    let ok = ok_end first new d end (λ p r is. let e = c.in-Ok-finish_kept.ensures.refused p r is in cc) (λ is. let e = c.in-Ok-finish_kept.ensures.memory.1 is in cc) in
    ok_held first new d d.front.kept c.in-Ok-finish_kept.found c.in-Some.kept c.in-Some.is ok.1 c.in-Ok-finish_kept.ensures.verdict

pub returns-in-Err-finish_kept-clause-told : goal.returns-in-Err-finish_kept-clause-told
returns-in-Err-finish_kept-clause-told g c =
    let first = g.S.Source.left c.args.src.now in
    let new = g.S.Source.left c.step_all.new.src in
    let d = c.step_all.new.decoder in
    let end = came first new d c.in-Ok.ensures.read c.in-Ok.ensures.end in
    let stop = c.in-Err-finish_kept.stop in
    let memory : d.stage ≡ NoMemory → stop ≡ OutOfMemory = λ is. same_stop c.finish_kept.result stop OutOfMemory c.in-Err-finish_kept.is (c.finish_kept.ensures.memory.1 is) in
    let refused : (p : ℕ) (r : BandReason) → d.stage ≡ Wrong p r → stop ≡ Fault (record { reason = r; place = p }) = λ p r is. same_stop c.finish_kept.result stop (Fault (record { reason = r; place = p })) c.in-Err-finish_kept.is (c.finish_kept.ensures.refused p r is) in
    subst (λ (w : BandsFromFault). IfSome first (IsNoBands w)) (sym c.why.ensures) (stop_told first new d stop end (λ taken is. kept_stop taken d.front.kept stop (c.in-Err-finish_kept.ensures.verdict taken is)) memory refused)

pub returns-in-Err-finish_kept-clause-left : goal.returns-in-Err-finish_kept-clause-left
returns-in-Err-finish_kept-clause-left g c =
    let first = g.S.Source.left c.args.src.now in
    let new = g.S.Source.left c.step_all.new.src in
    let d = c.step_all.new.decoder in
    let end = came first new d c.in-Ok.ensures.read c.in-Ok.ensures.end in
    let stop = c.in-Err-finish_kept.stop in
    let memory : d.stage ≡ NoMemory → stop ≡ OutOfMemory = λ is. same_stop c.finish_kept.result stop OutOfMemory c.in-Err-finish_kept.is (c.finish_kept.ensures.memory.1 is) in
    let refused : (p : ℕ) (r : BandReason) → d.stage ≡ Wrong p r → stop ≡ Fault (record { reason = r; place = p }) = λ p r is. same_stop c.finish_kept.result stop (Fault (record { reason = r; place = p })) c.in-Err-finish_kept.is (c.finish_kept.ensures.refused p r is) in
    subst (λ (w : BandsFromFault). LeavesRest {X = List (List ℕ)} (Err w) first new) (sym c.why.ensures) (stop_left (List (List ℕ)) first new d stop end memory refused)
