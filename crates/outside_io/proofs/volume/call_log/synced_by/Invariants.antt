use Rattle.std.proofs.Common.{◌≡◌, ◌≤◌, ℕ, List, take}
use Rattle.outside_io.specs.volume.Disk.{Disk, file_of}
use Rattle.outside_io.specs.volume.Recorded.{replay}
use Rattle.outside_io.specs.inside.Effects.{effects}
use Rattle.outside_io.proofs.volume.call_log.synced_by.Given as goal

abbrev pub invariant-loop-i : goal.invariant-loop-i
invariant-loop-i l = record {
  within : l.last ≤ l.i;
  base : (written : List ℕ) (d : Disk) → (file_of l.file d).base ≡ (file_of l.file d).now
      → (file_of l.file (replay (effects written (take l.i l.log)) d)).base ≡ (file_of l.file (replay (effects written (take l.last l.log)) d)).now;
}
