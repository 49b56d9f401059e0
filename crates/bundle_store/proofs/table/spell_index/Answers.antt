use Rattle.std.proofs.Common.{◌≡◌, ◌<◌, refl, ℕ, ◌+◌, ◌-◌, ◌*◌, ◌++◌, length, take, sym, ap, ◌∙◌, arith}
use Rattle.bundle_store.specs.inside.Table.{entry_of_size, table_map}
use Rattle.bundle_store.specs.Layout.{entries, size_of}
use Rattle.bundle_store.proofs.Layouts.{length-records}
use Rattle.bundle_store.proofs.Building.{entries_none, entries_step, length_mid, part_step, records_next, records_none, word_bytes}
use Rattle.std.proofs.lemmas.List.{take_all}
use borrow.Rule.Slice.PartMut.{put_mid}
use Rattle.byteorder.specs.Endian.{little_bytes}
use Rattle.bundle_index.specs.Entry.{entry_bytes, word_of}
use Rattle.bundle_index.specs.Header.{bytes_left_behind}
use Rattle.bundle_store.proofs.table.spell_index.Goals as goal

pub loop-i-init : goal.loop-i-init
loop-i-init c =
    let map = table_map c.args.tiles.now c.args.table.now in
    record {
      long = c.requires.long;
      spelled = entries_none map;
      end = sym (ap length (records_none map));
    }

pub entry_for-requires-clause-room : goal.entry_for-requires-clause-room
entry_for-requires-clause-room c = omega (arith, c.loop-i.invariant.end, length-records (table_map c.args.tiles.now c.args.table.now) c.loop-i.i c.requires.table.are_tiles)

pub loop-i-preserved : goal.loop-i-preserved
loop-i-preserved c =
    let map = table_map c.args.tiles.now c.args.table.now in
    let are = c.requires.table.are_tiles in
    let i = c.loop-i.i in
    let inv = c.loop-i.invariant in
    let room = length c.loop-i.index in
    let w = little_bytes 8 c.pack-word.result in
    let twice : 8 * i + 8 ≡ 8 * (i + 1) = omega arith in
    let less : i < 16384 = c.loop-i-test.true in
    let size : length c.loop-i.index ≡ 8 * i + (room - 8 * i) = omega (arith, inv.long, less) in
    let word : w ≡ entry_bytes (entry_of_size c.loop-i.end (size_of (map i))) = word_bytes (entry_of_size c.loop-i.end (size_of (map i))) c.pack-word.result (c.pack-word.ensures.value ∙ ap word_of (c.entry_for.ensures.value ∙ ap (entry_of_size c.loop-i.end) c.len_at-len.ensures)) in
    let step = part_step (8 * i) (room - 8 * i) c.loop-i.index c.write_u64.new.buf w size refl (omega (arith, inv.long, less)) c.write_u64.ensures in
    let whole = put_mid (8 * i) (room - 8 * i) c.loop-i.index c.write_u64.new.buf in
    record {
      long = length_mid (8 * i) (room - 8 * i) c.loop-i.index c.write_u64.new.buf w size refl (omega (arith, inv.long, less)) c.write_u64.ensures ∙ omega (arith, inv.long, less);
      spelled = entries_step map i c.loop-i.end are inv.end ∙ (λ t. inv.spelled t ++ (sym word) t)
          ∙ sym step ∙ ap (λ (m : ℕ). take m whole) twice;
      end = omega (arith, records_next map i are, inv.end, c.record_len-end.ensures, ap bytes_left_behind c.len_at-len.ensures);
    }

pub returns : goal.returns
returns c =
    let map = table_map c.args.tiles.now c.args.table.now in
    let i : c.loop-i.i ≡ 16384 = let low = c.loop-i-test.false in let high = c.loop-i.auto.i-end in omega arith in
    sym (ap (entries map) (sym i) ∙ c.loop-i.invariant.spelled ∙ ap (λ (n : ℕ). take (8 * n) c.loop-i.index) i
    ∙ take_all 131072 c.loop-i.index (omega (arith, c.loop-i.invariant.long)))
