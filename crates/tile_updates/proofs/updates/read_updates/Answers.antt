use Rattle.std.proofs.Common.{◌≡◌, ◌≤◌, ◌∙◌, List, length, sym, ap, subst, refl, arith}
use Rattle.std.specs.Prelude.{Err}
use Rattle.bundle_store.specs.declared.tile_rec.TileRec.{TileRec}
use Rattle.bundle_store.specs.Build.{EachFits}
use Rattle.tile_updates.specs.declared.stop.StreamStop.TheVariants.{Source}
use Rattle.tile_updates.specs.Updates.{AreEncoded, IsUpdates, OfBytes}
use Rattle.tile_updates.proofs.SoFar.{all_encoded, all_fit, all_read, asked_read, no_cause, none_more, same_count, some_read}
use Rattle.tile_updates.proofs.Asked.{failure_asked}
use Rattle.tile_updates.proofs.Held.{held_few, held_more, held_next, held_place, held_read, held_start, made_end, made_more, made_refused, no_room, refused_no_source}
use Rattle.tile_updates.proofs.Refusing.{too_many}
use Rattle.tile_updates.proofs.updates.read_updates.Goals as goal

pub loop-next-init : goal.loop-next-init
loop-next-init g c = (
  held_start c.args.coding.version c.args.coding.step (g.S.Source.left c.args.src.now) (g.S.Source.left c.fill.new.src) (record { list = c.new.result; place = 0 }) c.in-Ok.filled.0 c.in-Ok.filled.1 c.new.ensures refl c.in-Ok.ensures.ok c.in-Ok.ensures.some,
  same_count _ (g.S.Source.faults c.args.src.now) (g.S.Source.faults c.fill.new.src) c.in-Ok.ensures.counted (λ e. let no : ⊥ = cc e in no),
)

pub loop-next-preserved : goal.loop-next-preserved
loop-next-preserved g c =
    let v = c.args.coding.version in
    let step = c.args.coding.step in
    let old = g.S.Source.left c.args.src.now in
    let mid = g.S.Source.left c.loop-next.src in
    let now = g.S.Source.left c.add_and_fill.new.src in
    let h = c.loop-next.invariant.0 in
    let more = held_more v step old mid c.loop-next.done c.loop-next.waiting c.loop-next.next h (c.may_follow.ensures.0 c.loop-next-test.true).0 in
    let s = c.in-Ok-add_and_fill.ensures.ok old h.from h.so_far more.0 in (
      held_next v step old mid now c.loop-next.done c.add_and_fill.new.done c.loop-next.waiting c.in-Ok-add_and_fill.filled.0 c.loop-next.next c.in-Ok-add_and_fill.filled.1 h s c.in-Ok-add_and_fill.ensures.grows c.in-Ok-add_and_fill.ensures.place c.in-Ok-add_and_fill.ensures.filled c.in-Ok-add_and_fill.ensures.some,
      same_count _ (g.S.Source.faults c.loop-next.src) (g.S.Source.faults c.add_and_fill.new.src) c.in-Ok-add_and_fill.ensures.counted (λ e. let no : ⊥ = cc e in no) ∙ c.loop-next.invariant.1,
    )

pub loop-next-smaller : goal.loop-next-smaller
loop-next-smaller g c =
    let v = c.args.coding.version in
    let step = c.args.coding.step in
    let old = g.S.Source.left c.args.src.now in
    let mid = g.S.Source.left c.loop-next.src in
    let h = c.loop-next.invariant.0 in
    let some = (held_more v step old mid c.loop-next.done c.loop-next.waiting c.loop-next.next h (c.may_follow.ensures.0 c.loop-next-test.true).0).1 in
    let few = held_few v step old mid c.loop-next.done c.loop-next.waiting c.loop-next.next h in
    omega (arith, some, few, c.in-Ok-add_and_fill.ensures.grows)

pub add_and_fill-requires-clause-few : goal.add_and_fill-requires-clause-few
add_and_fill-requires-clause-few g c =
    let less = (c.may_follow.ensures.0 c.loop-next-test.true).1 in
    omega (arith, less, c.len.ensures.value, c.len-in-loop-next.ensures)

pub add_and_fill-requires-clause-flat : goal.add_and_fill-requires-clause-flat
add_and_fill-requires-clause-flat g c = λ κs lft. c.loop-next.invariant.0.filled.waiting.flat

pub add_and_fill-requires-clause-place : goal.add_and_fill-requires-clause-place
add_and_fill-requires-clause-place g c =
    let v = c.args.coding.version in
    let step = c.args.coding.step in
    let old = g.S.Source.left c.args.src.now in
    let mid = g.S.Source.left c.loop-next.src in
    let h = c.loop-next.invariant.0 in
    omega (arith, held_few v step old mid c.loop-next.done c.loop-next.waiting c.loop-next.next h, held_place v step old mid c.loop-next.done c.loop-next.waiting c.loop-next.next h)

pub returns-in-Err-clause-refused : goal.returns-in-Err-clause-refused
returns-in-Err-clause-refused g c = c.in-Err.ensures.free c.args.coding.step (g.S.Source.left c.args.src.now)

pub returns-in-Err-add_and_fill-clause-refused : goal.returns-in-Err-add_and_fill-clause-refused
returns-in-Err-add_and_fill-clause-refused g c =
    let h = c.loop-next.invariant.0 in
    let more = held_more c.args.coding.version c.args.coding.step (g.S.Source.left c.args.src.now) (g.S.Source.left c.loop-next.src) c.loop-next.done c.loop-next.waiting c.loop-next.next h (c.may_follow.ensures.0 c.loop-next-test.true).0 in
    c.in-Err-add_and_fill.ensures.refused (g.S.Source.left c.args.src.now) h.from h.so_far more.0

pub returns-in-Err-add_and_fill-clause-taken : goal.returns-in-Err-add_and_fill-clause-taken
returns-in-Err-add_and_fill-clause-taken g c =
    held_read c.args.coding.version c.args.coding.step (g.S.Source.left c.args.src.now) (g.S.Source.left c.loop-next.src) (g.S.Source.left c.add_and_fill.new.src) c.loop-next.done c.loop-next.waiting c.loop-next.next c.loop-next.invariant.0 c.in-Err-add_and_fill.ensures.some

pub add_last-requires-clause-flat : goal.add_last-requires-clause-flat
add_last-requires-clause-flat g c = λ κs lft. c.loop-next.invariant.0.filled.waiting.flat

pub add_last-requires-clause-few : goal.add_last-requires-clause-few
add_last-requires-clause-few g c = λ κs lft.
    held_few c.args.coding.version c.args.coding.step (g.S.Source.left c.args.src.now) (g.S.Source.left c.loop-next.src) c.loop-next.done c.loop-next.waiting c.loop-next.next c.loop-next.invariant.0

pub returns-in-Err-add_last-clause-refused : goal.returns-in-Err-add_last-clause-refused
returns-in-Err-add_last-clause-refused g c =
    let h = c.loop-next.invariant.0 in
    c.in-Err-add_last.ensures.refused (g.S.Source.left c.args.src.now) h.from h.filled.mid h.so_far h.filled.waiting

pub returns-in-Err-add_last-clause-taken : goal.returns-in-Err-add_last-clause-taken
returns-in-Err-add_last-clause-taken g c = c.loop-next.invariant.0.some

pub returns-in-Err-add_last-clause-counted : goal.returns-in-Err-add_last-clause-counted
returns-in-Err-add_last-clause-counted g c =
    no_cause _ (g.S.Source.faults c.args.src.now) (g.S.Source.faults c.loop-next.src)
    (λ e. let so : c.in-Err-add_last.stop ≡ Source = cc e in c.in-Err-add_last.ensures.source (ap Err so)) c.loop-next.invariant.1

pub returns-in-AtEnd-clause-ok : goal.returns-in-AtEnd-clause-ok
returns-in-AtEnd-clause-ok g c =
    let v = c.args.coding.version in
    let step = c.args.coding.step in
    let old = g.S.Source.left c.args.src.now in
    let mid = g.S.Source.left c.loop-next.src in
    let all = made_end v step old mid c.loop-next.done c.add_last.new.done c.loop-next.waiting c.loop-next.next c.loop-next.invariant.0 c.in-Ok-add_last.ensures.ok c.in-AtEnd.is in
    subst (λ (us : List TileRec). OfBytes old (λ bytes. IsUpdates v step bytes us)) (sym c.into_vec.ensures) (all_read v step old mid c.add_last.new.done all.so_far all.end)

pub returns-in-AtEnd-clause-end : goal.returns-in-AtEnd-clause-end
returns-in-AtEnd-clause-end g c =
    let v = c.args.coding.version in
    let step = c.args.coding.step in
    let old = g.S.Source.left c.args.src.now in
    let mid = g.S.Source.left c.loop-next.src in
    (made_end v step old mid c.loop-next.done c.add_last.new.done c.loop-next.waiting c.loop-next.next c.loop-next.invariant.0 c.in-Ok-add_last.ensures.ok c.in-AtEnd.is).end

pub returns-in-AtEnd-clause-encoded : goal.returns-in-AtEnd-clause-encoded
returns-in-AtEnd-clause-encoded g c =
    let v = c.args.coding.version in
    let step = c.args.coding.step in
    let old = g.S.Source.left c.args.src.now in
    let mid = g.S.Source.left c.loop-next.src in
    let all = made_end v step old mid c.loop-next.done c.add_last.new.done c.loop-next.waiting c.loop-next.next c.loop-next.invariant.0 c.in-Ok-add_last.ensures.ok c.in-AtEnd.is in
    subst (AreEncoded v step) (sym c.into_vec.ensures) (all_encoded v step old mid c.add_last.new.done all.so_far)

pub returns-in-AtEnd-clause-few : goal.returns-in-AtEnd-clause-few
returns-in-AtEnd-clause-few g c =
    let few = held_few c.args.coding.version c.args.coding.step (g.S.Source.left c.args.src.now) (g.S.Source.left c.loop-next.src) c.loop-next.done c.loop-next.waiting c.loop-next.next c.loop-next.invariant.0 in
    omega (arith, few, c.in-Ok-add_last.ensures.grows, ap length c.into_vec.ensures)

pub returns-in-AtEnd-clause-fits : goal.returns-in-AtEnd-clause-fits
returns-in-AtEnd-clause-fits g c =
    let v = c.args.coding.version in
    let step = c.args.coding.step in
    let old = g.S.Source.left c.args.src.now in
    let mid = g.S.Source.left c.loop-next.src in
    let all = made_end v step old mid c.loop-next.done c.add_last.new.done c.loop-next.waiting c.loop-next.next c.loop-next.invariant.0 c.in-Ok-add_last.ensures.ok c.in-AtEnd.is in
    subst EachFits (sym c.into_vec.ensures) (all_fit v step old mid c.add_last.new.done all.so_far)

pub returns-in-AtEnd-clause-taken : goal.returns-in-AtEnd-clause-taken
returns-in-AtEnd-clause-taken g c = c.loop-next.invariant.0.some

pub returns-in-Refused-clause-refused : goal.returns-in-Refused-clause-refused
returns-in-Refused-clause-refused g c =
    let v = c.args.coding.version in
    let step = c.args.coding.step in
    let old = g.S.Source.left c.args.src.now in
    let mid = g.S.Source.left c.loop-next.src in
    made_refused v step old mid c.loop-next.done c.add_last.new.done c.loop-next.waiting c.loop-next.next c.in-Refused.stop c.loop-next.invariant.0 c.in-Ok-add_last.ensures.ok c.in-Ok-add_last.ensures.grows c.in-Ok-add_last.ensures.place c.in-Refused.is

pub returns-in-Refused-clause-taken : goal.returns-in-Refused-clause-taken
returns-in-Refused-clause-taken g c = c.loop-next.invariant.0.some

pub returns-in-Refused-clause-counted : goal.returns-in-Refused-clause-counted
returns-in-Refused-clause-counted g c =
    let v = c.args.coding.version in
    let step = c.args.coding.step in
    let old = g.S.Source.left c.args.src.now in
    let mid = g.S.Source.left c.loop-next.src in
    no_cause _ (g.S.Source.faults c.args.src.now) (g.S.Source.faults c.loop-next.src)
    (λ e. refused_no_source v step old mid c.loop-next.done c.loop-next.waiting c.loop-next.next c.in-Refused.stop c.loop-next.invariant.0 c.in-Refused.is (let so : c.in-Refused.stop ≡ Source = cc e in so)) c.loop-next.invariant.1

pub returns-in-Ok-true-clause-refused : goal.returns-in-Ok-true-clause-refused
returns-in-Ok-true-clause-refused g c =
    let v = c.args.coding.version in
    let step = c.args.coding.step in
    let old = g.S.Source.left c.args.src.now in
    let mid = g.S.Source.left c.loop-next.src in
    let s = made_more v step old mid c.loop-next.done c.add_last.new.done c.loop-next.waiting c.loop-next.next c.loop-next.invariant.0 c.in-Ok-add_last.ensures.ok c.in-More.is in
    let full : 1048576 ≤ length c.add_last.new.done.list =
    omega (arith, no_room c.loop-next.next _ c.may_follow.result c.may_follow.ensures c.loop-next-test.false c.in-More.is, c.in-Ok-add_last.ensures.grows, c.len.ensures.value, c.len-in-loop-next.ensures) in
    too_many v step old mid (g.S.Source.left c.has_more.new.src) c.add_last.new.done c.in-Ok-true.field-0 s full c.in-Ok-true.field-0-test c.in-Ok-true.ensures.asks

pub returns-in-Ok-true-clause-taken : goal.returns-in-Ok-true-clause-taken
returns-in-Ok-true-clause-taken g c =
    let v = c.args.coding.version in
    let step = c.args.coding.step in
    let old = g.S.Source.left c.args.src.now in
    let mid = g.S.Source.left c.loop-next.src in
    let s = made_more v step old mid c.loop-next.done c.add_last.new.done c.loop-next.waiting c.loop-next.next c.loop-next.invariant.0 c.in-Ok-add_last.ensures.ok c.in-More.is in
    asked_read v step old mid (g.S.Source.left c.has_more.new.src) c.add_last.new.done c.in-Ok-true.field-0 s c.in-Ok-true.field-0-test c.in-Ok-true.ensures.asks

pub returns-in-Ok-false-clause-ok : goal.returns-in-Ok-false-clause-ok
returns-in-Ok-false-clause-ok g c =
    let v = c.args.coding.version in
    let step = c.args.coding.step in
    let old = g.S.Source.left c.args.src.now in
    let mid = g.S.Source.left c.loop-next.src in
    let new = g.S.Source.left c.has_more.new.src in
    let s = made_more v step old mid c.loop-next.done c.add_last.new.done c.loop-next.waiting c.loop-next.next c.loop-next.invariant.0 c.in-Ok-add_last.ensures.ok c.in-More.is in
    let at = none_more v step old mid new c.add_last.new.done c.in-Ok-false.field-0 s c.in-Ok-false.field-0-test c.in-Ok-false.ensures.asks in
    subst (λ (us : List TileRec). OfBytes old (λ bytes. IsUpdates v step bytes us)) (sym c.into_vec-in-Ok-false.ensures) (all_read v step old new c.add_last.new.done at.so_far at.end)

pub returns-in-Ok-false-clause-end : goal.returns-in-Ok-false-clause-end
returns-in-Ok-false-clause-end g c =
    let v = c.args.coding.version in
    let step = c.args.coding.step in
    let old = g.S.Source.left c.args.src.now in
    let mid = g.S.Source.left c.loop-next.src in
    let new = g.S.Source.left c.has_more.new.src in
    let s = made_more v step old mid c.loop-next.done c.add_last.new.done c.loop-next.waiting c.loop-next.next c.loop-next.invariant.0 c.in-Ok-add_last.ensures.ok c.in-More.is in
    (none_more v step old mid new c.add_last.new.done c.in-Ok-false.field-0 s c.in-Ok-false.field-0-test c.in-Ok-false.ensures.asks).end

pub returns-in-Ok-false-clause-encoded : goal.returns-in-Ok-false-clause-encoded
returns-in-Ok-false-clause-encoded g c =
    let v = c.args.coding.version in
    let step = c.args.coding.step in
    let old = g.S.Source.left c.args.src.now in
    let mid = g.S.Source.left c.loop-next.src in
    let s = made_more v step old mid c.loop-next.done c.add_last.new.done c.loop-next.waiting c.loop-next.next c.loop-next.invariant.0 c.in-Ok-add_last.ensures.ok c.in-More.is in
    subst (AreEncoded v step) (sym c.into_vec-in-Ok-false.ensures) (all_encoded v step old mid c.add_last.new.done s)

pub returns-in-Ok-false-clause-few : goal.returns-in-Ok-false-clause-few
returns-in-Ok-false-clause-few g c =
    let few = held_few c.args.coding.version c.args.coding.step (g.S.Source.left c.args.src.now) (g.S.Source.left c.loop-next.src) c.loop-next.done c.loop-next.waiting c.loop-next.next c.loop-next.invariant.0 in
    omega (arith, few, c.in-Ok-add_last.ensures.grows, ap length c.into_vec-in-Ok-false.ensures)

pub returns-in-Ok-false-clause-fits : goal.returns-in-Ok-false-clause-fits
returns-in-Ok-false-clause-fits g c =
    let v = c.args.coding.version in
    let step = c.args.coding.step in
    let old = g.S.Source.left c.args.src.now in
    let mid = g.S.Source.left c.loop-next.src in
    let s = made_more v step old mid c.loop-next.done c.add_last.new.done c.loop-next.waiting c.loop-next.next c.loop-next.invariant.0 c.in-Ok-add_last.ensures.ok c.in-More.is in
    subst EachFits (sym c.into_vec-in-Ok-false.ensures) (all_fit v step old mid c.add_last.new.done s)

pub returns-in-Ok-false-clause-taken : goal.returns-in-Ok-false-clause-taken
returns-in-Ok-false-clause-taken g c =
    let v = c.args.coding.version in
    let step = c.args.coding.step in
    let old = g.S.Source.left c.args.src.now in
    let mid = g.S.Source.left c.loop-next.src in
    let new = g.S.Source.left c.has_more.new.src in
    let s = made_more v step old mid c.loop-next.done c.add_last.new.done c.loop-next.waiting c.loop-next.next c.loop-next.invariant.0 c.in-Ok-add_last.ensures.ok c.in-More.is in
    let at = none_more v step old mid new c.add_last.new.done c.in-Ok-false.field-0 s c.in-Ok-false.field-0-test c.in-Ok-false.ensures.asks in
    some_read v step old new c.add_last.new.done at.so_far

pub returns-in-Err-has_more-clause-taken : goal.returns-in-Err-has_more-clause-taken
returns-in-Err-has_more-clause-taken g c =
    let v = c.args.coding.version in
    let step = c.args.coding.step in
    let old = g.S.Source.left c.args.src.now in
    let mid = g.S.Source.left c.loop-next.src in
    let new = g.S.Source.left c.has_more.new.src in
    held_read v step old mid new c.loop-next.done c.loop-next.waiting c.loop-next.next c.loop-next.invariant.0 (failure_asked _ mid new c.in-Err-has_more.ensures.asks)
