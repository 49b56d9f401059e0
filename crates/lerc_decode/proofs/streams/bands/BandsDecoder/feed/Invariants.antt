use Rattle.std.proofs.Common.{length, ◌-◌, ◌+◌, ◌≡◌, ◌≤◌, ◌++◌, ℕ, List, take}
use Rattle.lerc_decode.specs.Reading.{HasEndedAt, IsAfter}
use Rattle.lerc_decode.specs.inside.BandsFeeding.{live_at}
use Rattle.lerc_decode.proofs.streams.bands.BandsDecoder.feed.Given as goal

abbrev pub invariant-loop-used : goal.invariant-loop-used
invariant-loop-used l = record {
  within : l.used ≤ length l.piece;
  taken : (taken : List ℕ) → IsAfter taken l.fn.self → IsAfter (taken ++ take l.used l.piece) l.self;
  ended : HasEndedAt l.fn.self.stage → (l.self ≡ l.fn.self) × (l.used ≡ 0);
}

abbrev pub decreases-loop-used : goal.decreases-loop-used
decreases-loop-used l = (length l.piece - l.used) + live_at l.self.stage
