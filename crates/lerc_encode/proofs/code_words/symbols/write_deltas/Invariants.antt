use Rattle.std.proofs.Common.{◌≡◌, length, take}
use Rattle.delta_mode.specs.EncodeStates.{IsOn, deltas_of_all, left_over}
use Rattle.huff_codes.specs.Codes.{canonical_codes}
use Rattle.huff_codes.specs.Pieces.{AreBegun}
use Rattle.lerc_encode.proofs.code_words.symbols.write_deltas.Given as goal

abbrev pub invariant-loop-state : goal.invariant-loop-state
invariant-loop-state g l = record {
  state : IsOn (g.V.View.pixels l.bytes.raster.now) l.state;
  room_is : length l.out ≡ length l.fn.out;
  codes_are : l.writer.codes ≡ canonical_codes l.lengths;
  begun : AreBegun l.writer l.out (take l.state.given (deltas_of_all (g.V.View.pixels l.bytes.raster.now)));
}

abbrev pub decreases-loop-state : goal.decreases-loop-state
decreases-loop-state g l = left_over (g.V.View.pixels l.bytes.raster.now) l.state
