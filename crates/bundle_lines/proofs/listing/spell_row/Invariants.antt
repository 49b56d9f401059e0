use Rattle.std.proofs.Common.{◌≡◌, ◌*◌, ◌≤◌, length, IsTrue}
use Rattle.outside_io.specs.volume.History.{contents}
use Rattle.outside_io.specs.declared.volume.VolFile.TheVariants.{Bundle}
use Rattle.bundle_lines.specs.inside.Rows.{row_lines}
use Rattle.bundle_lines.proofs.listing.spell_row.Given as goal

abbrev pub invariant-loop-col : goal.invariant-loop-col
invariant-loop-col g l = record {
  lines : IsTrue (g.V.Volume.told l.fn.vol) → l.lines.items ≡ row_lines (contents Bundle (g.V.Volume.history l.fn.vol)) l.row l.col;
  short : length l.lines.items ≤ 84 * l.col;
  same : l.vol ≡ l.fn.vol;
}
