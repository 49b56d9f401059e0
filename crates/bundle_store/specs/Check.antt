-- What a check of a bundle finds.
use Rattle.std.specs.Prelude.{◌≡◌, ℕ, zero, suc, ◌+◌, ◌-◌, ◌<◌, ◌==◌, nat_lt, Bool, true, false, if◌then◌else◌, List, length, Option, Some, None}
use Rattle.bundle_index.specs.Sizes.{index_end}
use Rattle.bundle_index.specs.Entry.{entry_at}
use Rattle.bundle_index.specs.Numbers.{u32_at}
use Rattle.bundle_index.specs.declared.entry.Entry.{Entry}
use Rattle.bundle_store.specs.declared.check.CheckReport.{CheckReport}

-- An entry that names a tile is bad where the tile begins in front of the place of the first one,
-- or ends behind the file, or where the number in front of the tile is not its size.
abbrev pub is_bad : List ℕ → Entry → Bool
is_bad bundle e =
    if e.size == 0 then false
    else (if nat_lt e.offset (index_end + 4) then true
    else (if nat_lt (length bundle) (e.offset + e.size) then true
    else (if u32_at bundle (e.offset - 4) == e.size then false else true)))

-- how many of the slots below a number have a tile
unfoldable pub tile_count : List ℕ → ℕ → ℕ
tile_count bundle zero = 0
tile_count bundle (suc slot) =
    tile_count bundle slot + (if (entry_at bundle slot).size == 0 then 0 else 1)

-- how many bytes these tiles have
unfoldable pub byte_count : List ℕ → ℕ → ℕ
byte_count bundle zero = 0
byte_count bundle (suc slot) = byte_count bundle slot + (entry_at bundle slot).size

-- how many of these slots have a bad entry
unfoldable pub bad_count : List ℕ → ℕ → ℕ
bad_count bundle zero = 0
bad_count bundle (suc slot) =
    bad_count bundle slot + (if is_bad bundle (entry_at bundle slot) then 1 else 0)

-- the first slot below a number whose entry is bad, if there is one
abbrev pub IsFirstBad : List ℕ → ℕ → Option ℕ → Type 0
IsFirstBad bundle end None = (slot : ℕ) → slot < end → is_bad bundle (entry_at bundle slot) ≡ false
IsFirstBad bundle end (Some first) = (first < end) × (is_bad bundle (entry_at bundle first) ≡ true)
    × ((slot : ℕ) → slot < first → is_bad bundle (entry_at bundle slot) ≡ false)

-- what a check of the slots below a number reports
pub record Reports (bundle : List ℕ) (end : ℕ) (report : CheckReport) : Type 0 where
  pub tiles : report.tiles ≡ tile_count bundle end
  pub bytes : report.bytes ≡ byte_count bundle end
  pub bad : report.bad ≡ bad_count bundle end
  pub first_bad : IsFirstBad bundle end report.first_bad
