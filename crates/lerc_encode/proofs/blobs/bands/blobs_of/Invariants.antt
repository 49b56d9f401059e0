use Rattle.std.proofs.Common.{◌≡◌, length, take, None}
use Rattle.lerc_encode.specs.Choice.{chosen_bands}
use Rattle.lerc_encode.proofs.blobs.bands.blobs_of.Given as goal

abbrev pub invariant-loop-k : goal.invariant-loop-k
invariant-loop-k l =
    (l.place ≡ length (chosen_bands None (take l.k l.bands) l.fn.version l.step))
    × (take l.place l.out ≡ chosen_bands None (take l.k l.bands) l.fn.version l.step)
