use Rattle.std.proofs.Common.{◌≡◌}
use Rattle.outside_io.specs.streams.Source.{TakesUpTo}
use Rattle.lerc_decode.specs.inside.BandsFeeding.{HasRead, room_of}
use Rattle.lerc_decode.specs.inside.Kept.{IsKeeping}
use Rattle.lerc_decode.proofs.streams.bands_source.step_all.Given as goal

abbrev pub invariant-loop-got : goal.invariant-loop-got
invariant-loop-got g l = record {
  read : HasRead (g.S.Source.left l.fn.src) (g.S.Source.left l.src) l.decoder;
  few : TakesUpTo 2147483649 (g.S.Source.left l.fn.src) (g.S.Source.left l.src);
  faults : g.S.Source.faults l.src ≡ g.S.Source.faults l.fn.src;
  keeps : IsKeeping l.fn.decoder.front.kept → IsKeeping l.decoder.front.kept;
}

abbrev pub decreases-loop-got : goal.decreases-loop-got
decreases-loop-got g l = room_of l.decoder
