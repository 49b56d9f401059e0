-- One group after the other, and all so far.
use Rattle.std.specs.Prelude.{◌≡◌, ◌⊎◌, ℕ, ◌+◌, ◌^◌, ◌<◌, ◌≤◌, ◌==◌, if◌then◌else◌, List, ◌++◌, length, replicate, take, Option, Bool, false, IsTrue, Result, Ok, Err}
use Rattle.outside_io.specs.declared.volume.VolFile.TheVariants.{Bundle}
use Rattle.outside_io.specs.streams.Sink.{Holds, HoldsPrefix}
use Rattle.outside_io.specs.volume.History.{History, contents, current}
use Rattle.bundle_index.specs.Sizes.{index_end}
use Rattle.bundle_store.specs.declared.fault.StoreFault.{StoreFault}
use Rattle.bundle_store.specs.declared.fault.StoreFault.TheVariants.{Full as StoreFull}
use Rattle.bundle_store.specs.declared.tile_rec.TileRec.{TileRec}
use Rattle.bundle_store.specs.Build.{bytes_at, map_after}
use Rattle.bundle_store.specs.Fitting.{HasRoomFirst}
use Rattle.bundle_store.specs.GroupPuts.{bundle_after_puts, group_records}
use Rattle.bundle_store.specs.Images.{HoldsClosed}
use Rattle.bundle_store.specs.Session.{IsReadyToPut, SessionState}
use Rattle.bundle_store.specs.Tiles.{IsReadable, tiles}
use Rattle.bundle_lines.specs.declared.stop.PutStop.{PutStop}
use Rattle.bundle_lines.specs.declared.stop.PutStop.TheVariants.{Output, Volume, Full}
use Rattle.bundle_lines.specs.Gave.{PutEnd}
use Rattle.bundle_lines.specs.Lines.{put_lines}
use Rattle.bundle_lines.specs.Puts.{AreMarks, AreWhole, HaveRoom, PutsKeep}

-- why puts end where the store refuses one
abbrev pub stop_of : StoreFault → PutStop
stop_of (StoreFull len) = Full len
stop_of fault = Volume

-- where the first record behind a bundle of so many bytes stands: an empty one gets a header and an
-- index first
abbrev pub end_of : ℕ → ℕ
end_of len = if len == 0 then index_end else len

-- So many of the tiles are put at once behind a bundle of so many bytes, 64 at most.
pub record IsFitting (len : ℕ) (updates : List TileRec) (n : ℕ) : Type 0 where
  pub most : n ≤ 64
  pub within : n ≤ length updates
  pub first : HasRoomFirst (end_of len) updates n
  pub ends : (n ≡ 64) ⊎ ((n ≡ length updates)
      ⊎ (2 ^ 40 < end_of len + length (group_records (take n updates)) + 4 + length
      (bytes_at updates n)))

-- How many of the tiles are put next: some, behind a bundle of so many bytes where the volume tells
-- it, or there is no room for the first.
abbrev pub IsNext : Result ℕ PutStop → List TileRec → Bool → ℕ → Type 0
IsNext (Ok n) updates told size =
    (0 < n) × (n ≤ 64) × (n ≤ length updates) × (IsTrue told → IsFitting size updates n)
IsNext (Err Output) updates told size = ⊥
IsNext (Err Volume) updates told size = Unit {0}
IsNext (Err (Full len)) updates told size =
    (2 ^ 40 < len + 4 + length (bytes_at updates 0)) × (IsTrue told → len ≡ size)

-- a group was put
pub record IsPut (group : List TileRec) (s : SessionState) (told : Bool) (old new : History)
    : Type 0 where
  pub running : s.stopped ≡ false
  pub holds : IsTrue told →
      HoldsClosed (bundle_after_puts (contents Bundle old) group) (current new)
  pub ready : IsTrue told → IsReadyToPut s (current new)

-- there was no room for a tile of the group, over a volume that tells nothing
pub record IsNotPut (len : ℕ) (group : List TileRec) (s : SessionState) (told : Bool) : Type 0 where
  pub running : s.stopped ≡ false
  pub number : ℕ
  pub within : number < length group
  pub full : 2 ^ 40 < len + 4 + length (bytes_at group number)
  pub untold : IsTrue told → ⊥

abbrev pub Commits : PutEnd → List TileRec → SessionState → Bool → History → History → Type 0
Commits (Ok x) group s told old new = IsPut group s told old new
Commits (Err Output) group s told old new = ⊥
Commits (Err Volume) group s told old new = Unit {0}
Commits (Err (Full len)) group s told old new = IsNotPut len group s told

-- The group was put, each of its tiles has the same mark, and then their lines were given or cut
-- short; or there is neither mark nor line of it.
abbrev pub Turns : PutEnd → List TileRec → SessionState → List ℕ → List ℕ → Bool → History → History
    → Option (List ℕ) → Option (List ℕ) → Type 0
Turns (Ok x) group s marks marks_new told old new held held_new =
    (marks_new ≡ marks ++ replicate (length group) new.moment) × IsPut group s told old new
    × Holds held held_new (put_lines group)
Turns (Err Output) group s marks marks_new told old new held held_new =
    (marks_new ≡ marks ++ replicate (length group) new.moment) × IsPut group s told old new
    × HoldsPrefix held held_new (put_lines group)
Turns (Err Volume) group s marks marks_new told old new held held_new =
    (marks_new ≡ marks) × (held_new ≡ held)
Turns (Err (Full len)) group s marks marks_new told old new held held_new =
    (marks_new ≡ marks) × (held_new ≡ held) × IsNotPut len group s told

-- what a volume that tells its files has after the first k updates
pub record PutsStand (updates : List TileRec) (k : ℕ) (marks : List ℕ) (s : SessionState)
    (old new : History) : Type 0 where
  pub ready : IsReadyToPut s (current new)
  pub holds : HoldsClosed (bundle_after_puts (contents Bundle old) (take k updates)) (current new)
  pub room : HaveRoom (contents Bundle old) updates k
  pub later : old.moment ≤ new.moment
  pub marks_are : AreMarks marks old.moment new.moment
  pub groups : AreWhole (contents Bundle old) updates marks
  pub readable : IsReadable (contents Bundle old) →
      IsReadable (bundle_after_puts (contents Bundle old) (take k updates))
  pub map_is : IsReadable (contents Bundle old) →
      tiles (bundle_after_puts (contents Bundle old) (take k updates))
      ≡ map_after (tiles (contents Bundle old)) (take k updates)
  pub images : IsReadable (contents Bundle old) →
      PutsKeep (contents Bundle old) (tiles (contents Bundle old)) updates marks old new

-- the first k updates are done, with their marks and lines
pub record PutsSoFar (updates : List TileRec) (k : ℕ) (marks : List ℕ) (s : SessionState)
    (told_old told_new : Bool) (old new : History) (held_old held_new : Option (List ℕ))
    : Type 0 where
  pub count : length marks ≡ k
  pub running : s.stopped ≡ false
  pub told : told_new ≡ told_old
  pub lines : Holds held_old held_new (put_lines (take k updates))
  pub stands : IsTrue told_old → PutsStand updates k marks s old new
