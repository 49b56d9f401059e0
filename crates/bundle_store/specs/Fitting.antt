-- How many tiles there is room for.
use Rattle.std.specs.Prelude.{◌≡◌, ◌⊎◌, ℕ, ◌+◌, ◌^◌, ◌<◌, ◌≤◌, List, length, take}
use Rattle.bundle_store.specs.declared.tile_rec.TileRec.{TileRec}
use Rattle.bundle_store.specs.Build.{bytes_at}
use Rattle.bundle_store.specs.GroupPuts.{AreTilesIn, group_records}

-- there is room for the first n tiles, one behind the other, behind so many bytes, and they have
-- slots
pub record HasRoomFirst (len : ℕ) (us : List TileRec) (n : ℕ) : Type 0 where
  pub room : (i : ℕ) → i < n
      → len + length (group_records (take i us)) + 4 + length (bytes_at us i) ≤ 2 ^ 40
  pub tiles : AreTilesIn (take n us)

-- of the first few tiles there is room for so many
pub record IsFitting (len : ℕ) (us : List TileRec) (most n : ℕ) : Type 0 where
  pub within : n ≤ most
  pub first : HasRoomFirst len us n
  pub ends : (n ≡ most)
      ⊎ (2 ^ 40 < len + length (group_records (take n us)) + 4 + length (bytes_at us n))
