use Rattle.outside_io.specs.Present.{sound_recorded}
use Rattle.outside_io.proofs.Inside.Struck.{struck_sync}
use Rattle.outside_io.proofs.volume.mem_volume.MemVolumeVolume.sync.Goals as goal

pub returns-clause-crash : goal.returns-clause-crash
returns-clause-crash c = struck_sync c.args.file _ _ c.call.result (sound_recorded c.args.self.now c.args.self.now.clock) c.call.ensures.ok c.call.ensures.err
