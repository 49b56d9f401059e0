use Rattle.std.proofs.Common.{◌≡◌, ◌+◌, ℕ, List, ◌++◌, refl, length, take, sym, ap, subst, ◌∙◌, arith, rules, length-append}
use Rattle.std.proofs.lemmas.List.{append_assoc, take_all}
use Rattle.byteorder.specs.Endian.{little_bytes}
use Rattle.outside_io.specs.volume.History.{contents}
use Rattle.outside_io.specs.declared.volume.VolFile.TheVariants.{Bundle}
use Rattle.bundle_store.specs.Build.{bytes_at}
use Rattle.bundle_store.specs.GroupPuts.{group_records}
use Rattle.bundle_store.specs.Layout.{record_bytes}
use Rattle.bundle_store.proofs.GroupWrites.{Appending, append_done, append_during, append_on, append_synced, appending_none, records_next, records_within}
use Rattle.bundle_store.proofs.put.append.append_records.Goals as goal

pub loop-i-init : goal.loop-i-init
loop-i-init g c = record {
  at = omega arith;
  so_far = λ told. appending_none (g.V.Volume.history c.args.vol.now) (c.requires.settled told);
  told = refl;
  counted = refl;
}

pub write-requires-clause-end : goal.write-requires-clause-end
write-requires-clause-end g c =
    let four : length c.to_le_bytes-size.result ≡ 4 = search rules in
    omega (arith, four, c.loop-i.invariant.at, c.requires.room, records_within c.args.tiles.now c.loop-i.i (omega (arith, c.loop-i-test.true, c.len-i-end.ensures)))

pub returns-in_err-write-clause-changes : goal.returns-in_err-write-clause-changes
returns-in_err-write-clause-changes g c = record {
  same = (cc);
  counted = search rules;
  during = λ told.
      let inv = c.loop-i.invariant in
      let old = g.V.Volume.history c.args.vol.now in
      let more = group_records (take c.loop-i.i c.args.tiles.now) in
      append_during old _ _ more c.to_le_bytes-size.result c.loop-i.at c.write.result (inv.so_far told) (omega (arith, inv.at, c.requires.end told, length-append (contents Bundle old) more))
      c.write.ensures.time (c.write.ensures.crash (inv.told ∙ told));
}

pub overflow_add-at : goal.overflow_add-at
overflow_add-at g c = omega (arith, c.loop-i.invariant.at, c.requires.room, records_within c.args.tiles.now c.loop-i.i (omega (arith, c.loop-i-test.true, c.len-i-end.ensures)))

pub write-requires-in-loop-i-clause-end : goal.write-requires-in-loop-i-clause-end
write-requires-in-loop-i-clause-end g c =
    let item : c.bytes-tile.result.now ≡ bytes_at c.args.tiles.now c.loop-i.i = c.bytes-tile.ensures in
    omega (arith, ap length item, c.loop-i.invariant.at, c.requires.room, records_within c.args.tiles.now c.loop-i.i (omega (arith, c.loop-i-test.true, c.len-i-end.ensures)))

pub write-requires-in-loop-i-clause-within : goal.write-requires-in-loop-i-clause-within
write-requires-in-loop-i-clause-within g c = λ told_1.
    let inv = c.loop-i.invariant in
    let told = sym inv.told ∙ sym c.write.ensures.told ∙ told_1 in
    let old = g.V.Volume.history c.args.vol.now in
    let more = group_records (take c.loop-i.i c.args.tiles.now) in
    let end : c.loop-i.at ≡ length (contents Bundle old ++ more) = omega (arith, inv.at, c.requires.end told, length-append (contents Bundle old) more) in
    let one = append_on old _ _ more c.to_le_bytes-size.result c.loop-i.at c.write.result (inv.so_far told) end c.write.ensures.time (c.write.ensures.crash (inv.told ∙ told)) (c.in_ok-write.ensures.ok (inv.told ∙ told)) in
    let four : length c.to_le_bytes-size.result ≡ 4 = search rules in
    omega (arith, ap length one.is, four, end, length-append (contents Bundle old) (more ++ c.to_le_bytes-size.result), length-append more c.to_le_bytes-size.result, length-append (contents Bundle old) more)

pub returns-in_err-write-2-clause-changes : goal.returns-in_err-write-2-clause-changes
returns-in_err-write-2-clause-changes g c = record {
  same = (cc);
  counted = search rules;
  during = λ told.
      let inv = c.loop-i.invariant in
      let old = g.V.Volume.history c.args.vol.now in
      let more = group_records (take c.loop-i.i c.args.tiles.now) in
      let told_1 = inv.told ∙ told in
      let end : c.loop-i.at ≡ length (contents Bundle old ++ more) = omega (arith, inv.at, c.requires.end told, length-append (contents Bundle old) more) in
      let one = append_on old _ _ more c.to_le_bytes-size.result c.loop-i.at c.write.result (inv.so_far told) end c.write.ensures.time (c.write.ensures.crash told_1) (c.in_ok-write.ensures.ok told_1) in
      let four : length c.to_le_bytes-size.result ≡ 4 = search rules in
      append_during old _ _ (more ++ c.to_le_bytes-size.result) c.bytes-tile.result.now (c.loop-i.at + 4) c.write-in-loop-i.result one
      (omega (arith, four, end, length-append (contents Bundle old) (more ++ c.to_le_bytes-size.result), length-append more c.to_le_bytes-size.result, length-append (contents Bundle old) more))
      c.write-in-loop-i.ensures.time (c.write-in-loop-i.ensures.crash (c.write.ensures.told ∙ told_1));
}

pub overflow_add-at-in-loop-i-2 : goal.overflow_add-at-in-loop-i-2
overflow_add-at-in-loop-i-2 g c =
    let item : c.bytes-tile.result.now ≡ bytes_at c.args.tiles.now c.loop-i.i = c.bytes-tile.ensures in
    omega (arith, ap length item, c.loop-i.invariant.at, c.requires.room, records_within c.args.tiles.now c.loop-i.i (omega (arith, c.loop-i-test.true, c.len-i-end.ensures)))

pub loop-i-preserved : goal.loop-i-preserved
loop-i-preserved g c =
    let inv = c.loop-i.invariant in
    let old = g.V.Volume.history c.args.vol.now in
    let i = c.loop-i.i in
    let more = group_records (take i c.args.tiles.now) in
    let bytes = c.bytes-tile.result.now in
    let item : bytes ≡ bytes_at c.args.tiles.now i = c.bytes-tile.ensures in
    let size : c.to_le_bytes-size.result ≡ little_bytes 4 (length bytes) = search rules in
    let four : length c.to_le_bytes-size.result ≡ 4 = search rules in
    let next : group_records (take (i + 1) c.args.tiles.now) ≡ (more ++ c.to_le_bytes-size.result) ++ bytes =
    records_next c.args.tiles.now i (omega (arith, c.loop-i-test.true, c.len-i-end.ensures)) ∙ ap (λ (l : List ℕ). more ++ record_bytes l) (sym item) ∙ ap (λ (w : List ℕ). more ++ (w ++ bytes)) (sym size) ∙ sym (append_assoc more c.to_le_bytes-size.result bytes) in
    record {
      at = omega (arith, inv.at, ap length next, length-append (more ++ c.to_le_bytes-size.result) bytes, length-append more c.to_le_bytes-size.result, four);
      so_far = λ told.
          let told_1 = inv.told ∙ told in
          let end : c.loop-i.at ≡ length (contents Bundle old ++ more) = omega (arith, inv.at, c.requires.end told, length-append (contents Bundle old) more) in
          let one = append_on old _ _ more c.to_le_bytes-size.result c.loop-i.at c.write.result (inv.so_far told) end c.write.ensures.time (c.write.ensures.crash told_1) (c.in_ok-write.ensures.ok told_1) in
          let told_2 = c.write.ensures.told ∙ told_1 in
          let two = append_on old _ _ (more ++ c.to_le_bytes-size.result) bytes (c.loop-i.at + 4) c.write-in-loop-i.result one
          (omega (arith, four, end, length-append (contents Bundle old) (more ++ c.to_le_bytes-size.result), length-append more c.to_le_bytes-size.result, length-append (contents Bundle old) more))
          c.write-in-loop-i.ensures.time (c.write-in-loop-i.ensures.crash told_2) (c.in_ok-write-2.ensures.ok told_2) in
          subst (Appending old _) (sym next) two;
      told = c.write-in-loop-i.ensures.told ∙ c.write.ensures.told ∙ inv.told;
      counted = search rules;
    }

pub returns-clause-done : goal.returns-clause-done
returns-clause-done g c = λ told.
    let inv = c.loop-i.invariant in
    let all : group_records (take c.loop-i.i c.args.tiles.now) ≡ group_records c.args.tiles.now = ap group_records (take_all c.loop-i.i c.args.tiles.now (omega (arith, c.loop-i-test.false, c.len-i-end.ensures))) in
    append_done (g.V.Volume.history c.args.vol.now) _ _ (group_records c.args.tiles.now) c.sync.result (subst (Appending (g.V.Volume.history c.args.vol.now) _) all (inv.so_far told)) c.sync.ensures.time (c.sync.ensures.ok (inv.told ∙ told))

pub returns-clause-changes : goal.returns-clause-changes
returns-clause-changes g c = record {
  same = (cc);
  counted = search rules;
  during = λ told.
      let inv = c.loop-i.invariant in
      append_synced (g.V.Volume.history c.args.vol.now) _ _ (group_records (take c.loop-i.i c.args.tiles.now)) c.sync.result (inv.so_far told) c.sync.ensures.time (c.sync.ensures.crash (inv.told ∙ told));
}
