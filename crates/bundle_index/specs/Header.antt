-- The 64 bytes at the front of a bundle.
use Rattle.std.specs.Prelude.{◌≡◌, ℕ, ◌+◌, ◌-◌, ◌<◌, ◌≤◌, ◌^◌, ◌==◌, max, min, List, ◌++◌, length, take, drop, slice_index, Option, Some, None, if◌then◌else◌}
use Rattle.byteorder.specs.Endian.{little_bytes}
use Rattle.bundle_index.specs.Numbers.{u32_at, u64_at}
use Rattle.bundle_index.specs.Sizes.{slot_count}
use Rattle.bundle_index.specs.declared.header.HeaderFault.{HeaderFault}

-- what a reader requires of the front of a bundle: version 3, 16,384 records, offsets of 5 bytes
pub record HasHeader (bundle : List ℕ) : Type 0 where
  pub version : u32_at bundle 0 ≡ 3
  pub records : u32_at bundle 4 ≡ slot_count
  pub offset_bytes : u32_at bundle 12 ≡ 5

-- the first of these that fails: its place, and the number that stands there
abbrev pub header_fault : List ℕ → Option HeaderFault
header_fault bundle =
    if u32_at bundle 0 == 3
    then (if u32_at bundle 4 == slot_count
    then (if u32_at bundle 12 == 5
    then None
    else Some (record { place = 12; found = u32_at bundle 12 }))
    else Some (record { place = 4; found = u32_at bundle 4 }))
    else Some (record { place = 0; found = u32_at bundle 0 })

-- The fields of a new bundle's header, each at its place. Those from byte 32 on are looked at by
-- readers other than this one, too.
pub record HasFreshFields (header : List ℕ) (greatest size : ℕ) : Type 0 where
  pub long : length header ≡ 64
  pub version : u32_at header 0 ≡ 3
  pub records : u32_at header 4 ≡ slot_count
  pub greatest_tile : u32_at header 8 ≡ greatest
  pub offset_bytes : u32_at header 12 ≡ 5
  pub slack : u64_at header 16 ≡ 0
  pub file_size : u64_at header 24 ≡ size
  pub user_header_offset : u64_at header 32 ≡ 40
  pub user_header_size : u32_at header 40 ≡ 131092
  pub first_legacy : u32_at header 44 ≡ 3
  pub second_legacy : u32_at header 48 ≡ 16
  pub third_legacy : u32_at header 52 ≡ 16384
  pub fourth_legacy : u32_at header 56 ≡ 5
  pub index_size : u32_at header 60 ≡ 131072

-- the bytes of these fields, and so the header of a new bundle
unfoldable pub fresh_header : ℕ → ℕ → List ℕ
fresh_header greatest size =
    little_bytes 4 3 ++ (little_bytes 4 slot_count ++ (little_bytes 4 greatest ++ (little_bytes 4 5
    ++ (little_bytes 8 0 ++ (little_bytes 8 size
    ++ (little_bytes 8 40 ++ (little_bytes 4 131092
    ++ (little_bytes 4 3 ++ (little_bytes 4 16 ++ (little_bytes 4 16384
    ++ (little_bytes 4 5 ++ little_bytes 4 131072)))))))))))

-- the bytes that a tile leaves behind where another one takes its slot, its size field among them
abbrev pub bytes_left_behind : ℕ → ℕ
bytes_left_behind size = if size == 0 then 0 else size + 4

-- the slack after a tile of `old` bytes is left behind
abbrev pub slack_after : List ℕ → ℕ → ℕ
slack_after header old = min (u64_at header 16 + bytes_left_behind old) (2 ^ 64 - 1)

-- The header after a put of `size` bytes into a slot that had a tile of `old` bytes, 0 for none,
-- `length` being the new length of the file.
unfoldable pub header_after : List ℕ → ℕ → ℕ → ℕ → List ℕ
header_after header old size length =
    take 8 header ++ (little_bytes 4 (max (u32_at header 8) size)
    ++ (take 4 (drop 12 header) ++ (little_bytes 8 (slack_after header old)
    ++ (little_bytes 8 length ++ drop 32 header))))

-- the same by its fields: three of them change, and every other byte stays
pub record IsHeaderAfter (header : List ℕ) (old size end : ℕ) (now : List ℕ) : Type 0 where
  pub long : length now ≡ 64
  pub greatest : u32_at now 8 ≡ max (u32_at header 8) size
  pub slack : u64_at now 16 ≡ slack_after header old
  pub file_size : u64_at now 24 ≡ end
  pub front : (i : ℕ) → i < 8 → slice_index now i ≡ slice_index header i
  pub offset_bytes : (i : ℕ) → 12 ≤ i → i < 16 → slice_index now i ≡ slice_index header i
  pub rest : (i : ℕ) → 32 ≤ i → slice_index now i ≡ slice_index header i
