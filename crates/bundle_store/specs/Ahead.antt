-- Bytes of a bundle that were read at once, so that several tiles are cut from them.
use Rattle.std.specs.Prelude.{◌≡◌, ℕ, ◌+◌, ◌≤◌, List, length, take, drop}
use Rattle.bundle_index.specs.declared.entry.Entry.{Entry}

-- bytes from a place on
pub record AheadBytes : Type 0 where
  pub start : ℕ
  pub bytes : List ℕ

-- they are those that the bundle has there
abbrev pub IsAheadOf : List ℕ → AheadBytes → Type 0
IsAheadOf bundle a = a.bytes ≡ take (length a.bytes) (drop a.start bundle)

-- the bytes that an entry names are all among them
pub record HasPart (a : AheadBytes) (e : Entry) : Type 0 where
  pub from : a.start ≤ e.offset
  pub within : e.offset + e.size ≤ a.start + length a.bytes
