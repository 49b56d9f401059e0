use Rattle.std.proofs.Common.{refl}
use Rattle.outside_io.proofs.Inside.Picked.{kept_new}
use Rattle.outside_io.proofs.volume.mem_volume.MemVolume.new.Goals as goal

pub invariant_of-result : goal.invariant_of-result
invariant_of-result c = kept_new _ c.in_ok-log.ensures.items c.in_ok-written.ensures.items c.len-bundle_len.ensures c.len-journal_len.ensures refl c.in_ok-log.ensures.capacity c.in_ok-written.ensures.capacity
