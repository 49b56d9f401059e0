use Rattle.std.proofs.Common.{arith}
use Rattle.outside_io.proofs.volume.mem_volume.MemVolume.call.Goals as goal

pub returns-clause-time : goal.returns-clause-time
returns-clause-time c = record {
  later = omega (arith, c.note.ensures.time);
  clock = omega (arith, c.note.ensures.time, c.note.ensures.room);
  past = c.note.ensures.past;
  room = c.note.ensures.room;
}
