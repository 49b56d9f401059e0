use Rattle.std.proofs.Common.{◌≤◌, ◌-◌, length}
use Rattle.lerc_c.specs.BandArrays.{AreGivenFrom}
use Rattle.lerc_c.proofs.band_encoding.given_bands.Given as goal

abbrev pub invariant-loop-alloc : goal.invariant-loop-alloc
invariant-loop-alloc l = record {
  given : AreGivenFrom l.fn.fit.arrays.kind l.fn.fit.arrays.rows l.fn.fit.arrays.cols l.fn.fit.arrays.depth l.fn.fit.arrays.values.now l.fn.fit.arrays.masks.now 0 l.bands;
  fewer : length l.bands ≤ l.fn.fit.arrays.count;
}

abbrev pub decreases-loop-alloc : goal.decreases-loop-alloc
decreases-loop-alloc l = l.fn.fit.arrays.count - length l.bands
