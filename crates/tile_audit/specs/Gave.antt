-- What an audit of a bundle has given when it ends.
use Rattle.std.specs.Prelude.{◌≡◌, ◌⊎◌, ℕ, ◌<◌, ◌≤◌, Bool, false, IsTrue, List, length, Option, Result, Ok, Err}
use Rattle.outside_io.specs.streams.Sink.{Holds, HoldsPrefix}
use Rattle.bundle_index.specs.Sizes.{slot_count}
use Rattle.tile_audit.specs.declared.stop.AuditStop.{AuditStop}
use Rattle.tile_audit.specs.declared.stop.AuditStop.TheVariants.{Output, OutOfMemory}
use Rattle.tile_audit.specs.declared.told.AuditedTile.{AuditedTile}
use Rattle.tile_audit.specs.declared.totals.Totals.{Totals}
use Rattle.tile_audit.specs.Audit.{CountsFailed, IsAuditBelow, MayBeAudit, count_of, is_damaged, is_failed, is_foreign, is_summed, is_unread, is_whole}
use Rattle.tile_audit.specs.Lines.{audit_lines, audit_output, byte_count, pixel_count}

-- the numbers of these tiles
pub record AreTotals (tiles : List AuditedTile) (totals : Totals) : Type 0 where
  pub tiles_are : totals.tiles ≡ length tiles
  pub bytes : totals.bytes ≡ byte_count tiles
  pub whole : totals.whole ≡ count_of is_whole tiles
  pub summed : totals.summed ≡ count_of is_summed tiles
  pub foreign : totals.foreign ≡ count_of is_foreign tiles
  pub unread : totals.unread ≡ count_of is_unread tiles
  pub damaged : totals.damaged ≡ count_of (is_damaged false) tiles
  pub pixels : totals.pixels ≡ pixel_count tiles

-- Where the volume tells its bundle, these are the tiles of the slots below a number, as an audit
-- has them. Of every volume they are tiles by slot, and those that were not read are its failures,
-- whose count was the first number, and then the second.
pub record IsAuditOf (told : Bool) (bundle : List ℕ) (end : ℕ) (tiles : List AuditedTile)
    (old new : ℕ) : Type 0 where
  pub audit : IsTrue told → IsAuditBelow bundle end tiles
  pub may_be : MayBeAudit tiles
  pub failed : CountsFailed tiles old new

-- the same of some of the first slots
abbrev pub IsFrontOf : Bool → List ℕ → List AuditedTile → ℕ → ℕ → Type 0
IsFrontOf told bundle tiles old new =
    (end : ℕ) × ((end ≤ slot_count) × IsAuditOf told bundle end tiles old new)

-- the tiles of all slots; the volume's count rose only where one of them was not read
pub record IsAuditOfAll (told : Bool) (bundle : List ℕ) (tiles : List AuditedTile) (old new : ℕ)
    : Type 0 where
  pub audit : IsAuditOf told bundle slot_count tiles old new
  pub rose : old < new → 0 < count_of is_failed tiles

-- how an audit ends: with its totals, or its stop
abbrev pub AuditEnd : Type 0
AuditEnd = Result Totals AuditStop

-- What the output has gained of an audit of a bundle, in which the volume's count of faults went
-- from the first number to the second. All lines and the totals; where memory was refused, the
-- lines of some of the first slots; where the output failed, a prefix of such lines, or of all with
-- the totals.
abbrev pub AuditGave : Bool → List ℕ → Bool → AuditEnd → ℕ → ℕ → Option (List ℕ) →
    Option (List ℕ) → Type 0
AuditGave told bundle all (Ok totals) old new held gained = (tiles : List AuditedTile)
    × (IsAuditOfAll told bundle tiles old new
    × (AreTotals tiles totals × Holds held gained (audit_output all tiles)))
AuditGave told bundle all (Err OutOfMemory) old new held gained = (tiles : List AuditedTile)
    × (IsFrontOf told bundle tiles old new × Holds held gained (audit_lines all tiles))
AuditGave told bundle all (Err Output) old new held gained = (tiles : List AuditedTile)
    × ((IsFrontOf told bundle tiles old new × HoldsPrefix held gained (audit_lines all tiles))
    ⊎ (IsAuditOfAll told bundle tiles old new
    × HoldsPrefix held gained (audit_output all tiles)))
