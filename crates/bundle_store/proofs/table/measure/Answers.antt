use Rattle.std.proofs.Common.{length, sym, ap, arith}
use Rattle.bundle_index.specs.Header.{bytes_left_behind}
use Rattle.bundle_store.specs.inside.Table.{table_map}
use Rattle.bundle_store.proofs.Layouts.{length-records}
use Rattle.bundle_store.proofs.Building.{greatest_below, greatest_more, greatest_none, left_below, records_next, records_none, size_below}
use Rattle.bundle_store.proofs.table.measure.Goals as goal

pub loop-slot-init : goal.loop-slot-init
loop-slot-init c = record { most = sym (greatest_none (table_map c.args.tiles.now c.args.table.now)); total = sym (ap length (records_none (table_map c.args.tiles.now c.args.table.now))) }

pub overflow_add-total : goal.overflow_add-total
overflow_add-total c =
    let map = table_map c.args.tiles.now c.args.table.now in
    omega (arith, c.loop-slot.invariant.total, length-records map c.loop-slot.slot c.requires.table.are_tiles, c.record_len-total.ensures, left_below c.len_at-len.result (omega (arith, c.len_at-len.ensures, size_below map c.loop-slot.slot c.requires.table.are_tiles)))

pub loop-slot-preserved : goal.loop-slot-preserved
loop-slot-preserved c =
    let map = table_map c.args.tiles.now c.args.table.now in
    let n = c.loop-slot.slot in
    record {
      most = omega (arith, greatest_more map n, c.max-most.ensures, c.loop-slot.invariant.most, c.len_at-len.ensures);
      total = omega (arith, records_next map n c.requires.table.are_tiles, c.loop-slot.invariant.total, c.record_len-total.ensures, ap bytes_left_behind c.len_at-len.ensures);
    }

pub overflow_cast-result : goal.overflow_cast-result
overflow_cast-result c = omega (arith, c.loop-slot.invariant.most, greatest_below (table_map c.args.tiles.now c.args.table.now) c.loop-slot.slot c.requires.table.are_tiles)

pub returns-clause-room : goal.returns-clause-room
returns-clause-room c = omega (arith, c.loop-slot.invariant.total, length-records (table_map c.args.tiles.now c.args.table.now) c.loop-slot.slot c.requires.table.are_tiles)
