use Rattle.std.proofs.Common.{◌≡◌, ◌-◌, ◌*◌, length, take}
use Rattle.delta_mode.specs.Deltas.{plain}
use Rattle.delta_mode.specs.PlainStates.{IsOnPlain}
use Rattle.huff_codes.specs.Codes.{canonical_codes}
use Rattle.huff_codes.specs.Pieces.{AreBegun}
use Rattle.lerc_encode.proofs.code_words.symbols.write_plain_by_piece.Given as goal

abbrev pub invariant-loop-state : goal.invariant-loop-state
invariant-loop-state g l = record {
  state : IsOnPlain (g.V.View.pixels l.bytes.raster.now) l.state;
  room_is : length l.out ≡ length l.fn.out;
  codes_are : l.writer.codes ≡ canonical_codes l.lengths;
  begun : AreBegun l.writer l.out (take l.state.given (plain (g.V.View.pixels l.bytes.raster.now)));
}

abbrev pub decreases-loop-state : goal.decreases-loop-state
decreases-loop-state g l = (g.V.View.pixels l.bytes.raster.now).rows * (g.V.View.pixels l.bytes.raster.now).cols - l.state.place
