use Rattle.std.proofs.Common.{refl, arith}
use Rattle.lerc_decode.proofs.CallersArrays.{head_taken}
use Rattle.lerc_decode.proofs.OverBands.{next_cut, next_done, next_headless, next_unlike, next_wrong}
use Rattle.lerc_decode.proofs.over_next.next_over.Goals as goal

pub returns-in-Err-clause-fault : goal.returns-in-Err-clause-fault
returns-in-Err-clause-fault c = λ bands may. next_headless bands c.args.rest.now c.in-Err.fault _ c.in-Err.ensures.fault c.in-Err.ensures.none c.tile_fault.ensures

pub returns-in-Some-clause-fault : goal.returns-in-Some-clause-fault
returns-in-Some-clause-fault c = λ bands may. next_unlike bands c.args.first.now c.in-Ok.header c.args.rest.now c.args.mask.now c.in-Some.place may c.in-Ok.ensures.ok c.in-Some.ensures.place

pub returns-then-rest-size-clause-fault : goal.returns-then-rest-size-clause-fault
returns-then-rest-size-clause-fault c = λ bands may.
    next_cut bands c.args.first.now c.in-Ok.header c.args.rest.now c.args.mask.now c.cut_fault.result _ may c.in-Ok.ensures.ok (c.in_default.ensures.none refl) (omega (arith, c.if-rest-size.true)) c.cut_fault.ensures c.tile_fault-then-rest-size.ensures

pub body_behind-requires-clause-head : goal.body_behind-requires-clause-head
body_behind-requires-clause-head c = head_taken c.args.rest.now c.in-Ok.header c.in-Ok.ensures.ok (omega (arith, c.if-rest-size.false))

pub returns-in-Ok-body_behind-clause-ok : goal.returns-in-Ok-body_behind-clause-ok
returns-in-Ok-body_behind-clause-ok c = λ bands may.
    next_done bands c.args.first.now c.in-Ok.header c.args.rest.now c.body_behind.new.values c.body_behind.new.mask c.args.mask.now may c.in-Ok.ensures.ok (c.in_default.ensures.none refl) (omega (arith, c.if-rest-size.false)) c.in-Ok-body_behind.ensures.ok

pub returns-in-Err-body_behind-clause-fault : goal.returns-in-Err-body_behind-clause-fault
returns-in-Err-body_behind-clause-fault c = λ bands may.
    next_wrong bands c.args.first.now c.in-Ok.header c.args.rest.now c.args.mask.now c.in-Err-body_behind.fault _ may c.in-Ok.ensures.ok (c.in_default.ensures.none refl) (omega (arith, c.if-rest-size.false)) c.in-Err-body_behind.ensures.fault c.tile_fault-in-Err-body_behind.ensures
