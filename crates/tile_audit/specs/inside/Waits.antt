-- Tiles that wait for their verdicts, and what is told of them.
use Rattle.std.specs.Prelude.{◌≡◌, ℕ, ◌-◌, ◌<◌, ◌≤◌, Bool, true, false, IsTrue, List, [], ◌∷◌, ◌++◌, drop, length, Option, Some, None, IfSome, Result, Ok, Err}
use Rattle.outside_io.specs.streams.Faults.{FailedBetween}
use Rattle.lerc_header.specs.Checksum.{sum_of}
use Rattle.bundle_index.specs.Entry.{entry_at}
use Rattle.bundle_index.specs.Sizes.{slot_count}
use Rattle.bundle_store.specs.Check.{is_bad}
use Rattle.bundle_store.specs.Session.{GetGives}
use Rattle.tile_audit.specs.declared.batch.Content.{Content}
use Rattle.tile_audit.specs.declared.batch.Content.TheVariants as taken
use Rattle.tile_audit.specs.declared.batch.Waiting.{Waiting}
use Rattle.tile_audit.specs.declared.judged.Judged.{Judged}
use Rattle.tile_audit.specs.declared.told.AuditedTile.{AuditedTile}
use Rattle.tile_audit.specs.declared.told.Finding.{Finding}
use Rattle.tile_audit.specs.declared.told.Finding.TheVariants.{Failed, Beyond, Read}
use Rattle.tile_audit.specs.Lines.{no_field, number_field}
use Rattle.tile_audit.specs.Verdicts.{IsJudged}

-- the field of a number, or of none
abbrev pub place_field : Option ℕ → List ℕ
place_field None = no_field
place_field (Some n) = number_field n

-- ---- what was read

abbrev pub IsContent : List ℕ → ℕ → Content → Type 0
IsContent bundle slot taken.Failed = Unit {0}
IsContent bundle slot (taken.Beyond got) =
    (got ≡ length bundle - (entry_at bundle slot).offset)
    × (got < (entry_at bundle slot).size)
IsContent bundle slot (taken.Tile tile bad) =
    GetGives bundle slot tile × (bad ≡ is_bad bundle (entry_at bundle slot))

-- the slot's tile, its entry, and what was read of it
pub record IsWaiting (bundle : List ℕ) (slot : ℕ) (w : Waiting) : Type 0 where
  pub slot_is : w.slot ≡ slot
  pub entry_is : w.entry ≡ entry_at bundle slot
  pub content : IsContent bundle slot w.content

-- of whatever volume
abbrev pub FitsContent : ℕ → Content → Type 0
FitsContent size (taken.Beyond got) = got < size
FitsContent size _ = Unit {0}

pub record MayWait (w : Waiting) : Type 0 where
  pub slot : w.slot < slot_count
  pub some : 0 < w.entry.size
  pub content : FitsContent w.entry.size w.content

-- the machine did not read it
abbrev pub has_failed : Content → Bool
has_failed taken.Failed = true
has_failed _ = false

abbrev pub is_unreadable : Waiting → Bool
is_unreadable w = has_failed w.content

-- ---- one slot

-- it has no tile, or this one
abbrev pub IsLookedAt : List ℕ → ℕ → Option Waiting → Type 0
IsLookedAt bundle slot None = (entry_at bundle slot).size ≡ 0
IsLookedAt bundle slot (Some w) = (0 < (entry_at bundle slot).size) × IsWaiting bundle slot w

-- where the machine did not read it, the volume's count of faults rose or stands at its end, and
-- else it is as it was
abbrev pub CountsContent : Content → ℕ → ℕ → Type 0
CountsContent taken.Failed old new = (old ≤ new) × FailedBetween old new
CountsContent _ old new = new ≡ old

abbrev pub CountsLook : {E : Type 0} → Result (Option Waiting) E → ℕ → ℕ → Type 0
CountsLook (Ok None) old new = new ≡ old
CountsLook (Ok (Some w)) old new = CountsContent w.content old new
CountsLook (Err e) old new = new ≡ old

-- a tile that was found, behind others
abbrev pub with_found : List Waiting → Option Waiting → List Waiting
with_found waiting None = waiting
with_found waiting (Some w) = waiting ++ w ∷ []

-- The slot was looked at, and its tile, where it has one, waits behind the others.
pub record HasLooked (told : Bool) (bundle : List ℕ) (slot : ℕ) (before after : List Waiting)
    (old new : ℕ) : Type 0 where
  pub found : Option Waiting
  pub looked : IsTrue told → IsLookedAt bundle slot found
  pub may_wait : IfSome found (λ w. (w.slot ≡ slot) × MayWait w)
  pub counts : CountsLook {E = Unit {0}} (Ok found) old new
  pub waits : after ≡ with_found before found

-- ---- verdicts

-- what is found of a tile of which this was read
abbrev pub IsFound : Content → Finding → Type 0
IsFound taken.Failed finding = finding ≡ Failed
IsFound (taken.Beyond got) finding = finding ≡ Beyond got
IsFound (taken.Tile tile bad) finding = (judged : Judged)
    × (IsJudged tile judged × (finding ≡ Read judged (sum_of (drop 14 tile)) bad))

-- what is told of a tile that waits
pub record IsTileOf (w : Waiting) (tile : AuditedTile) : Type 0 where
  pub slot : tile.slot ≡ w.slot
  pub entry : tile.entry ≡ w.entry
  pub finding : IsFound w.content tile.finding
