use Rattle.std.proofs.Common.{◌≡◌, ◌-◌, ◌*◌, sum, take}
use Rattle.delta_mode.specs.Deltas.{plain}
use Rattle.delta_mode.specs.PlainStates.{IsOnPlain}
use Rattle.huff_codes.specs.Counts.{counts_of}
use Rattle.lerc_encode.proofs.code_words.symbols.count_plain_by_piece.Given as goal

abbrev pub invariant-loop-state : goal.invariant-loop-state
invariant-loop-state g l = record {
  state : IsOnPlain (g.V.View.pixels l.bytes.raster.now) l.state;
  counts : l.counter ≡ counts_of (take l.state.given (plain (g.V.View.pixels l.bytes.raster.now)));
  sum_is : sum l.counter ≡ l.state.given;
}

abbrev pub decreases-loop-state : goal.decreases-loop-state
decreases-loop-state g l = (g.V.View.pixels l.bytes.raster.now).rows * (g.V.View.pixels l.bytes.raster.now).cols - l.state.place
