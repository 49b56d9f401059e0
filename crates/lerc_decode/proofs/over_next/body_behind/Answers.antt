use Rattle.std.proofs.Common.{◌≡◌, length, sym, subst}
use Rattle.std.specs.Prelude.{IfErr, OnOk}
use Rattle.lerc_header.specs.declared.header.Header.{Header}
use Rattle.lerc_decode.specs.Over.{HaveRoom}
use Rattle.lerc_decode.specs.inside.OverNext.{IsFaultBehind, IsHeldBehind}
use Rattle.lerc_decode.proofs.over_next.body_behind.Goals as goal

pub summed_behind-requires : goal.summed_behind-requires
summed_behind-requires c =
    record { room = subst (λ (h : Header). HaveRoom h (length c.args.values.now) (length c.args.mask.now)) (sym c.in-Ok.ensures.ok.1) c.requires.room }

pub returns-in-Ok-clause-ok : goal.returns-in-Ok-clause-ok
returns-in-Ok-clause-ok c =
    let is = c.in-Ok.ensures.ok in
    let same : (OnOk c.summed_behind.result (IsHeldBehind c.in-Ok.summed.header c.in-Ok.summed.bytes.now c.args.mask.now c.summed_behind.new.values c.summed_behind.new.mask))
    ≡ (OnOk c.summed_behind.result (IsHeldBehind c.args.header.now c.args.blob.now c.args.mask.now c.summed_behind.new.values c.summed_behind.new.mask)) =
    λ i. OnOk c.summed_behind.result (IsHeldBehind (is.1 i) (is.0 i) c.args.mask.now c.summed_behind.new.values c.summed_behind.new.mask) in
    subst (λ (T : Type 0). T) same c.summed_behind.ensures.ok

pub returns-in-Ok-clause-fault : goal.returns-in-Ok-clause-fault
returns-in-Ok-clause-fault c =
    let is = c.in-Ok.ensures.ok in
    let same : (IfErr c.summed_behind.result (IsFaultBehind c.in-Ok.summed.header c.in-Ok.summed.bytes.now c.args.mask.now))
    ≡ (IfErr c.summed_behind.result (IsFaultBehind c.args.header.now c.args.blob.now c.args.mask.now)) =
    λ i. IfErr c.summed_behind.result (IsFaultBehind (is.1 i) (is.0 i) c.args.mask.now) in
    subst (λ (T : Type 0). T) same c.summed_behind.ensures.fault

pub returns-in-Err-clause-fault : goal.returns-in-Err-clause-fault
returns-in-Err-clause-fault c = λ before b. c.in-Err.ensures.fault before
