use Rattle.std.proofs.Common.{◌≡◌, ◌<◌, length, get_or, sym, ap, subst, ◌∙◌, arith, rules}
use Rattle.std.proofs.lemmas.Option.{get_or_from_slice_get}
use Rattle.bundle_index.specs.Entry.{IsEntry, entry_bytes, place_of}
use Rattle.side_journal.specs.Groups.{NewEntry}
use Rattle.bundle_store.proofs.GroupWrites.{IsLaying, all_done, all_synced, entry_during, entry_on, header_during, header_on, new_at, new_slots}
use Rattle.bundle_store.proofs.put.overlay.write_all_over.Goals as goal

pub loop-i-init : goal.loop-i-init
loop-i-init g c = record {
  so_far = λ told.
      let front : length c.bytes-front.result ≡ 64 = search rules in
      rw (← c.bytes-front.ensures) (header_on c.bytes-front.result c.args.group.now front (new_slots c.args.group.now c.requires.new) (g.V.Volume.history c.args.vol.now) (c.requires.settled told) (c.requires.long told) _ c.write.result
      c.write.ensures.time (c.write.ensures.crash told) (c.in_ok-write.ensures.ok told));
  told = c.write.ensures.told;
  counted = search rules;
}

pub returns-in_err-write-clause-changes : goal.returns-in_err-write-clause-changes
returns-in_err-write-clause-changes g c = record {
  same = (cc);
  counted = search rules;
  during = λ told.
      let front : length c.bytes-front.result ≡ 64 = search rules in
      rw (← c.bytes-front.ensures) (header_during c.bytes-front.result c.args.group.now front (new_slots c.args.group.now c.requires.new) (g.V.Volume.history c.args.vol.now) (c.requires.settled told) (c.requires.long told) _ c.write.result
      c.write.ensures.time (c.write.ensures.crash told));
}

pub spell_entry-word-requires : goal.spell_entry-word-requires
spell_entry-word-requires g c =
    let e : NewEntry = c.at-slot.result in
    let less : c.loop-i.i < length c.args.group.now = omega (arith, c.loop-i-test.true, c.len-i-end.ensures.value) in
    let is : get_or c.args.group.now c.loop-i.i e ≡ e = get_or_from_slice_get c.args.group.now c.loop-i.i e e c.at-slot.ensures in
    subst (λ (x : NewEntry). IsEntry x.1) is (new_at c.args.group.now c.loop-i.i e c.requires.new less).1

pub returns-in_err-write-2-clause-changes : goal.returns-in_err-write-2-clause-changes
returns-in_err-write-2-clause-changes g c = record {
  same = (cc);
  counted = search rules;
  during = λ told.
      let front : length c.bytes-front.result ≡ 64 = search rules in
      let size : length c.args.header.now ≡ 64 = ap length (sym c.bytes-front.ensures) ∙ front in
      let inv = c.loop-i.invariant in
      let e : NewEntry = c.at-slot.result in
      let less : c.loop-i.i < length c.args.group.now = omega (arith, c.loop-i-test.true, c.len-i-end.ensures.value) in
      let is : get_or c.args.group.now c.loop-i.i e ≡ e = get_or_from_slice_get c.args.group.now c.loop-i.i e e c.at-slot.ensures in
      entry_during c.args.header.now c.args.group.now size (new_slots c.args.group.now c.requires.new) (g.V.Volume.history c.args.vol.now) (c.requires.settled told) (c.requires.long told)
      _ c.loop-i.i c.entry_place-place.result c.spell_entry-word.result e (inv.so_far told) less (c.entry_place-place.ensures.value ∙ ap (λ (x : NewEntry). place_of x.0) (sym is)) (c.spell_entry-word.ensures ∙ ap (λ (x : NewEntry). entry_bytes x.1) (sym is))
      _ c.write-in-loop-i.result c.write-in-loop-i.ensures.time (c.write-in-loop-i.ensures.crash (inv.told ∙ told));
}

pub loop-i-preserved : goal.loop-i-preserved
loop-i-preserved g c =
    let front : length c.bytes-front.result ≡ 64 = search rules in
    let size : length c.args.header.now ≡ 64 = ap length (sym c.bytes-front.ensures) ∙ front in
    let inv = c.loop-i.invariant in
    let e : NewEntry = c.at-slot.result in
    let less : c.loop-i.i < length c.args.group.now = omega (arith, c.loop-i-test.true, c.len-i-end.ensures.value) in
    let is : get_or c.args.group.now c.loop-i.i e ≡ e = get_or_from_slice_get c.args.group.now c.loop-i.i e e c.at-slot.ensures in
    record {
      so_far = λ told. entry_on c.args.header.now c.args.group.now size (new_slots c.args.group.now c.requires.new) (g.V.Volume.history c.args.vol.now) (c.requires.settled told) (c.requires.long told)
          _ c.loop-i.i c.entry_place-place.result c.spell_entry-word.result e (inv.so_far told) less (c.entry_place-place.ensures.value ∙ ap (λ (x : NewEntry). place_of x.0) (sym is)) (c.spell_entry-word.ensures ∙ ap (λ (x : NewEntry). entry_bytes x.1) (sym is))
          _ c.write-in-loop-i.result c.write-in-loop-i.ensures.time (c.write-in-loop-i.ensures.crash (inv.told ∙ told)) (c.in_ok-write-2.ensures.ok (inv.told ∙ told));
      told = c.write-in-loop-i.ensures.told ∙ inv.told;
      counted = search rules;
    }

pub returns-clause-changes : goal.returns-clause-changes
returns-clause-changes g c = record {
  same = (cc);
  counted = search rules;
  during = λ told.
      let front : length c.bytes-front.result ≡ 64 = search rules in
      let size : length c.args.header.now ≡ 64 = ap length (sym c.bytes-front.ensures) ∙ front in
      let inv = c.loop-i.invariant in
      let all : c.loop-i.i ≡ length c.args.group.now = omega (arith, c.loop-i-test.false, c.loop-i.auto.i-end, c.len-i-end.ensures.value) in
      all_synced c.args.header.now c.args.group.now size (new_slots c.args.group.now c.requires.new) (g.V.Volume.history c.args.vol.now) (c.requires.settled told) (c.requires.long told)
      _ _ c.sync.result (subst (IsLaying c.args.header.now c.args.group.now (g.V.Volume.history c.args.vol.now) _) all (inv.so_far told)) c.sync.ensures.time (c.sync.ensures.crash (inv.told ∙ told));
}

pub returns-clause-done : goal.returns-clause-done
returns-clause-done g c = λ told.
    let front : length c.bytes-front.result ≡ 64 = search rules in
    let size : length c.args.header.now ≡ 64 = ap length (sym c.bytes-front.ensures) ∙ front in
    let inv = c.loop-i.invariant in
    let all : c.loop-i.i ≡ length c.args.group.now = omega (arith, c.loop-i-test.false, c.loop-i.auto.i-end, c.len-i-end.ensures.value) in
    all_done c.args.header.now c.args.group.now size (new_slots c.args.group.now c.requires.new) (g.V.Volume.history c.args.vol.now) (c.requires.settled told) (c.requires.long told)
    _ _ c.sync.result (subst (IsLaying c.args.header.now c.args.group.now (g.V.Volume.history c.args.vol.now) _) all (inv.so_far told)) c.sync.ensures.time (c.sync.ensures.ok (inv.told ∙ told))
