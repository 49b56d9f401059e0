-- An audit of a bundle: what is told of each of its tiles.
use Rattle.std.specs.Prelude.{◌≡◌, ◌⊎◌, ℕ, ◌-◌, ◌<◌, ◌≤◌, nat_lt, Bool, true, false, List, drop, length, filter, count_by, All, AllPairs}
use Rattle.std.specs.List.{AllZip, range_with_len}
use Rattle.lerc_header.specs.Checksum.{sum_of}
use Rattle.bundle_index.specs.Entry.{entry_at}
use Rattle.bundle_index.specs.Sizes.{slot_count}
use Rattle.bundle_store.specs.Check.{is_bad}
use Rattle.bundle_store.specs.Session.{GetGives}
use Rattle.tile_audit.specs.declared.judged.Judged.{Judged}
use Rattle.tile_audit.specs.declared.judged.Judged.TheVariants.{Whole, Summed, Foreign, Unread, Damaged}
use Rattle.tile_audit.specs.declared.told.AuditedTile.{AuditedTile}
use Rattle.tile_audit.specs.declared.told.Finding.{Finding}
use Rattle.tile_audit.specs.declared.told.Finding.TheVariants.{Failed, Beyond, Read}
use Rattle.tile_audit.specs.Verdicts.{IsJudged}

-- ---- one tile

-- What is found of the tile of a slot: nothing, where the machine did not read it; that the bundle
-- has only so many of its bytes; or its verdict, its checksum, and whether its entry is bad.
abbrev pub IsFinding : List ℕ → ℕ → Finding → Type 0
IsFinding bundle slot Failed = Unit {0}
IsFinding bundle slot (Beyond got) = (got ≡ length bundle - (entry_at bundle slot).offset)
    × (got < (entry_at bundle slot).size)
IsFinding bundle slot (Read judged sum bad) = (tile : List ℕ) × (GetGives bundle slot tile
    × (IsJudged tile judged × ((sum ≡ sum_of (drop 14 tile))
    × (bad ≡ is_bad bundle (entry_at bundle slot)))))

-- the slot's tile, its entry, and what is found
pub record IsAudited (bundle : List ℕ) (slot : ℕ) (tile : AuditedTile) : Type 0 where
  pub slot_is : tile.slot ≡ slot
  pub entry_is : tile.entry ≡ entry_at bundle slot
  pub finding : IsFinding bundle slot tile.finding

-- ---- all tiles

-- the slots below a number that have a tile, in their order
abbrev pub slots_below : List ℕ → ℕ → List ℕ
slots_below bundle end =
    filter (λ slot. nat_lt 0 (entry_at bundle slot).size) (range_with_len 0 end)

-- their tiles
abbrev pub IsAuditBelow : List ℕ → ℕ → List AuditedTile → Type 0
IsAuditBelow bundle end tiles = AllZip (IsAudited bundle) (slots_below bundle end) tiles

-- the tiles of a bundle
abbrev pub IsAudit : List ℕ → List AuditedTile → Type 0
IsAudit bundle tiles = IsAuditBelow bundle slot_count tiles

-- ---- of whatever volume

-- so many bytes are fewer than the entry names
abbrev pub FitsEntry : ℕ → Finding → Type 0
FitsEntry size (Beyond got) = got < size
FitsEntry size _ = Unit {0}

pub record MayBeTile (tile : AuditedTile) : Type 0 where
  pub slot : tile.slot < slot_count
  pub some : 0 < tile.entry.size
  pub finding : FitsEntry tile.entry.size tile.finding

-- tiles of different slots, in their order
pub record MayBeAudit (tiles : List AuditedTile) : Type 0 where
  pub each : All MayBeTile tiles
  pub rising : AllPairs (λ s t. s.slot < t.slot) tiles

-- ---- verdicts, as they are counted and told

-- whether it is damage: where that is strict, another format and another version are, too
abbrev pub is_damage : Bool → Judged → Bool
is_damage strict (Whole s) = false
is_damage strict Summed = false
is_damage strict Foreign = strict
is_damage strict Unread = strict
is_damage strict (Damaged f) = true

abbrev pub is_damaged : Bool → Finding → Bool
is_damaged strict Failed = true
is_damaged strict (Beyond got) = true
is_damaged strict (Read judged sum true) = true
is_damaged strict (Read judged sum false) = is_damage strict judged

-- the tile is whole, and its entry is good; and so on
abbrev pub is_whole : Finding → Bool
is_whole (Read (Whole s) sum false) = true
is_whole _ = false

abbrev pub is_summed : Finding → Bool
is_summed (Read Summed sum false) = true
is_summed _ = false

abbrev pub is_foreign : Finding → Bool
is_foreign (Read Foreign sum false) = true
is_foreign _ = false

abbrev pub is_unread : Finding → Bool
is_unread (Read Unread sum false) = true
is_unread _ = false

-- the machine did not read it
abbrev pub is_failed : Finding → Bool
is_failed Failed = true
is_failed _ = false

-- how many tiles are such
abbrev pub count_of : (Finding → Bool) → List AuditedTile → ℕ
count_of test tiles = count_by (λ t. test t.finding) tiles

abbrev pub damaged_count : Bool → List AuditedTile → ℕ
damaged_count strict tiles = count_of (is_damaged strict) tiles

-- ---- failures

-- For each tile that was not read the volume's count of faults rose, which never falls; unless it
-- has come to its end, 2^64 - 1.
pub record CountsFailed (tiles : List AuditedTile) (old new : ℕ) : Type 0 where
  pub counts : old ≤ new
  pub failed : (count_of is_failed tiles ≤ new - old) ⊎ (18446744073709551615 ≤ new)
