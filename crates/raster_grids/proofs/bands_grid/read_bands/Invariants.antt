use Rattle.std.proofs.Common.{◌≡◌, ◌+◌, ◌-◌, ◌*◌, ◌≤◌, ℕ, List, length}
use Rattle.first_fault.specs.Faults.{Numbered}
use Rattle.raster_grids.specs.Taken.{TookBytes}
use Rattle.raster_grids.specs.BandsGrid.{IsBandGrid}
use Rattle.raster_grids.proofs.bands_grid.read_bands.Given as goal

abbrev pub invariant-loop-alloc : goal.invariant-loop-alloc
invariant-loop-alloc g l = record {
  read : List ℕ;
  took : TookBytes (g.S.Source.left l.fn.src) (g.S.Source.left l.src) read;
  stand : Numbered (λ k. IsBandGrid l.fn.head) 0 read l.bands;
  at : l.place ≡ l.fn.at + length read;
  small : length read ≤ length l.bands * 83886080;
  fewer : length l.bands ≤ l.fn.count;
  faults : g.S.Source.faults l.src ≡ g.S.Source.faults l.fn.src;
}

abbrev pub decreases-loop-alloc : goal.decreases-loop-alloc
decreases-loop-alloc g l = l.fn.count - length l.bands
