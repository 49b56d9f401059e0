use Rattle.std.proofs.Common.{◌≡◌, ◌+◌, refl, length, ◌∙◌, ap, sym, subst, arith, rules, length-append}
use Rattle.outside_io.specs.inside.Effects.{AllEndWithin, AllInPool, effects}
use Rattle.outside_io.proofs.Inside.Octets.{octets-append}
use Rattle.outside_io.specs.volume.Disk.{AreBytes}
use Rattle.outside_io.proofs.Inside.Kept.{all_end_within-push, all_in_pool-push, effects-push}
use Rattle.outside_io.proofs.volume.call_log.append.Goals as goal

pub returns-clause-effects : goal.returns-clause-effects
returns-clause-effects c =
    let from : c.len-from.result ≡ length c.args.written.now.items = search rules in
    (λ i. effects (c.push_bytes.ensures.items i) (c.push_call.ensures.items i))
    ∙ effects-push c.args.written.now.items c.args.bytes.now c.args.log.now.items c.args.ask c.len-from.result (length c.args.bytes.now) c.requires.pool from refl

pub returns-clause-pool : goal.returns-clause-pool
returns-clause-pool c =
    let from : c.len-from.result ≡ length c.args.written.now.items = search rules in
    let long : length c.push_bytes.new.written.items ≡ length c.args.written.now.items + length c.args.bytes.now = ap length c.push_bytes.ensures.items ∙ length-append c.args.written.now.items c.args.bytes.now in
    subst (AllInPool (length c.push_bytes.new.written.items)) (sym c.push_call.ensures.items)
    (all_in_pool-push _ _ c.args.log.now.items (record { ask = c.args.ask; from = c.len-from.result; count = length c.args.bytes.now }) (omega arith) c.requires.pool (omega arith))

pub returns-clause-ends : goal.returns-clause-ends
returns-clause-ends c = subst AllEndWithin (sym c.push_call.ensures.items) (all_end_within-push c.args.log.now.items (record { ask = c.args.ask; from = c.len-from.result; count = length c.args.bytes.now }) c.requires.ends c.requires.end)

pub returns-clause-octets : goal.returns-clause-octets
returns-clause-octets c = subst AreBytes (sym c.push_bytes.ensures.items) (octets-append c.args.written.now.items c.args.bytes.now c.requires.octets c.push_bytes.ensures.octets)
