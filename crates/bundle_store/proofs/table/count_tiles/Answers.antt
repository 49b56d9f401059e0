use Rattle.std.proofs.Common.{arith, sym}
use Rattle.bundle_store.specs.inside.Table.{table_map}
use Rattle.bundle_store.proofs.Filling.{filled_more, filled_none, filled_same}
use Rattle.bundle_store.proofs.table.count_tiles.Goals.{then-len_at-gt0, else-len_at-gt0}
use Rattle.bundle_store.proofs.table.count_tiles.Goals as goal

pub loop-slot-init : goal.loop-slot-init
loop-slot-init c = record { count = sym (filled_none (table_map c.args.tiles.now c.args.table.now)); few = omega arith }

pub loop-slot-preserved : goal.loop-slot-preserved
loop-slot-preserved c =
    let map = table_map c.args.tiles.now c.args.table.now in
    let n = c.loop-slot.slot in
    elim c.if-len_at-gt0.branch [
      | then-len_at-gt0 w ↦ record {
        count = omega (arith, w.count-is, c.loop-slot.invariant.count, filled_more map n (omega (arith, c.len_at.ensures, w.if-len_at-gt0)));
        few = omega (arith, w.count-is, c.loop-slot.invariant.few);
      }
      | else-len_at-gt0 w ↦ record {
        count = omega (arith, w.count-is, c.loop-slot.invariant.count, filled_same map n c.requires.table.are_tiles (omega (arith, c.len_at.ensures, w.if-len_at-gt0)));
        few = omega (arith, w.count-is, c.loop-slot.invariant.few);
      }
    ]
