use Rattle.std.proofs.Common.{◌≡◌, ◌*◌, length}
use Rattle.raster_grids.specs.Taken.{TookBytes}
use Rattle.tiles_cli.proofs.slot_list.take_text.Given as goal

abbrev pub invariant-loop-piece : goal.invariant-loop-piece
invariant-loop-piece g l = record {
  took : TookBytes (g.S.Source.left l.fn.src) (g.S.Source.left l.src) l.text.items;
  long : length l.text.items ≡ 4096 * l._piece;
  counted : g.S.Source.faults l.src ≡ g.S.Source.faults l.fn.src;
}
