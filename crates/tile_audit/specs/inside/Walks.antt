-- An audit under way: the tiles of a batch, and what was given of those before it.
use Rattle.std.specs.Prelude.{◌≡◌, ◌⊎◌, ℕ, ◌+◌, ◌-◌, ◌<◌, ◌≤◌, nat_lt, Bool, IsTrue, List, ◌++◌, length, filter, count_by, All, AllPairs, Option, Result, Ok, Err}
use Rattle.std.specs.List.{AllZip, range_with_len}
use Rattle.outside_io.specs.streams.Sink.{Holds, HoldsPrefix}
use Rattle.bundle_index.specs.Entry.{entry_at}
use Rattle.tile_audit.specs.declared.batch.Waiting.{Waiting}
use Rattle.tile_audit.specs.declared.stop.AuditStop.{AuditStop}
use Rattle.tile_audit.specs.declared.stop.AuditStop.TheVariants.{Output, OutOfMemory}
use Rattle.tile_audit.specs.declared.told.AuditedTile.{AuditedTile}
use Rattle.tile_audit.specs.declared.totals.Totals.{Totals}
use Rattle.tile_audit.specs.Gave.{AreTotals, AuditEnd, IsAuditOfAll, IsFrontOf}
use Rattle.tile_audit.specs.Lines.{audit_lines}
use Rattle.tile_audit.specs.inside.Waits.{IsTileOf, IsWaiting, MayWait, is_unreadable}

-- the slots from one number on, below another, that have a tile
abbrev pub slots_between : List ℕ → ℕ → ℕ → List ℕ
slots_between bundle from to =
    filter (λ slot. nat_lt 0 (entry_at bundle slot).size) (range_with_len from (to - from))

-- a slot from the one number on, below the other
abbrev pub IsBetween : ℕ → ℕ → Waiting → Type 0
IsBetween from to w = (from ≤ w.slot) × (w.slot < to)

-- The tiles of these slots wait; for each that was not read the volume's count of faults, which
-- went from the one number to the other, rose, and it rose only for such.
pub record AreWaiting (told : Bool) (bundle : List ℕ) (from to : ℕ) (waiting : List Waiting)
    (old new : ℕ) : Type 0 where
  pub waits : IsTrue told → AllZip (IsWaiting bundle) (slots_between bundle from to) waiting
  pub few : from + length waiting ≤ to
  pub may_be : All MayWait waiting
  pub between : All (IsBetween from to) waiting
  pub rising : AllPairs (λ v w. v.slot < w.slot) waiting
  pub counts : old ≤ new
  pub failed : (count_by is_unreadable waiting ≤ new - old) ⊎ (18446744073709551615 ≤ new)
  pub rose : old < new → 0 < count_by is_unreadable waiting

-- What the output and the totals have gained of a batch: the lines of its tiles; a prefix of them
-- where the output failed; nothing where memory was refused.
abbrev pub BatchGave : Bool → List Waiting → Result (Unit {0}) AuditStop → Totals → Totals →
    Option (List ℕ) → Option (List ℕ) → Type 0
BatchGave all waiting (Ok x) before after held gained = (tiles : List AuditedTile)
    × (AllZip IsTileOf waiting tiles × (Holds held gained (audit_lines all tiles)
    × ((others : List AuditedTile) → AreTotals others before → AreTotals (others ++ tiles) after)))
BatchGave all waiting (Err OutOfMemory) before after held gained = gained ≡ held
BatchGave all waiting (Err Output) before after held gained = (tiles : List AuditedTile)
    × (AllZip IsTileOf waiting tiles × HoldsPrefix held gained (audit_lines all tiles))

-- What it has gained of the tiles of all slots, in front of the totals.
abbrev pub WalkGave : Bool → List ℕ → Bool → AuditEnd → ℕ → ℕ → Option (List ℕ) →
    Option (List ℕ) → Type 0
WalkGave told bundle all (Ok totals) old new held gained = (tiles : List AuditedTile)
    × (IsAuditOfAll told bundle tiles old new
    × (AreTotals tiles totals × Holds held gained (audit_lines all tiles)))
WalkGave told bundle all (Err OutOfMemory) old new held gained = (tiles : List AuditedTile)
    × (IsFrontOf told bundle tiles old new × Holds held gained (audit_lines all tiles))
WalkGave told bundle all (Err Output) old new held gained = (tiles : List AuditedTile)
    × (IsFrontOf told bundle tiles old new × HoldsPrefix held gained (audit_lines all tiles))
