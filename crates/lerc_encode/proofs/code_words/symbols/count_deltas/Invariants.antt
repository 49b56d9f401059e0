use Rattle.std.proofs.Common.{◌≡◌, sum, take}
use Rattle.delta_mode.specs.EncodeStates.{IsOn, deltas_of_all, left_over}
use Rattle.huff_codes.specs.Counts.{counts_of}
use Rattle.lerc_encode.proofs.code_words.symbols.count_deltas.Given as goal

abbrev pub invariant-loop-state : goal.invariant-loop-state
invariant-loop-state g l = record {
  state : IsOn (g.V.View.pixels l.bytes.raster.now) l.state;
  counts : l.counter ≡ counts_of (take l.state.given (deltas_of_all (g.V.View.pixels l.bytes.raster.now)));
  sum_is : sum l.counter ≡ l.state.given;
}

abbrev pub decreases-loop-state : goal.decreases-loop-state
decreases-loop-state g l = left_over (g.V.View.pixels l.bytes.raster.now) l.state
