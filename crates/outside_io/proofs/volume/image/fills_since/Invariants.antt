use Rattle.std.proofs.Common.{◌≡◌, ℕ, List, [], length, take}
use Rattle.outside_io.specs.volume.Disk.{Disk, file_of}
use Rattle.outside_io.specs.inside.Fills.{fills}
use Rattle.outside_io.specs.volume.Pieces.{pieces_of}
use Rattle.outside_io.specs.inside.Effects.{AllFit, AllInPool, effects}
use Rattle.outside_io.specs.volume.Recorded.{replay}
use Rattle.outside_io.proofs.volume.image.fills_since.Given as goal

abbrev pub invariant-loop-call : goal.invariant-loop-call
invariant-loop-call l = (written : List ℕ) (d : Disk) → AllInPool (length written) l.log → AllFit (effects written l.log) d → (file_of l.file d).touched ≡ []
    → pieces_of l.pieces.items ≡ fills l.fill (file_of l.file (replay (effects written (take l.call-index l.log)) d)).touched
