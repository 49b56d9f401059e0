use Rattle.std.proofs.Common.{◌≡◌, ℕ, ◌≤◌, ◌-◌, List, All, length, take}
use Rattle.std.specs.List.{concat}
use Rattle.tile_audit.specs.Sums.{IsSummed}
use Rattle.tile_audit.proofs.sums.first_sum_fault.Given as goal

-- the blobs in front of the place, none where it is the first
abbrev pub invariant-loop-at : goal.invariant-loop-at
invariant-loop-at l = (blobs : List (List ℕ)) × ((take l.at l.bytes ≡ concat blobs) × (All IsSummed blobs
    × ((length blobs ≡ l.count) × ((l.at ≤ length l.bytes) × ((l.count ≤ 16) × (l.count ≡ 0 → l.at ≡ 0))))))

abbrev pub decreases-loop-at : goal.decreases-loop-at
decreases-loop-at l = length l.bytes - l.at
