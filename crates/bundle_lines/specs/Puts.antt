-- Puts one after the other, in groups: what the bundle reads as, whether there is room, which
-- groups they are, what a crash leaves at each moment, by the marks of those that were
-- acknowledged, and how they end.
use Rattle.std.specs.Prelude.{◌≡◌, ◌⊎◌, ℕ, ◌+◌, ◌^◌, ◌<◌, ◌≤◌, nat_le, List, [], ◌∷◌, ◌++◌, length, take, replicate, slice_index, Option, Bool, true, IsTrue, IsErrOf, Ok, Err}
use Rattle.std.specs.List.{count_by}
use Rattle.outside_io.specs.declared.volume.VolFile.TheVariants.{Bundle}
use Rattle.outside_io.specs.volume.Disk.{Disk}
use Rattle.outside_io.specs.volume.History.{History, DuringAt, contents, current}
use Rattle.bundle_store.specs.declared.tile_rec.TileRec.{TileRec}
use Rattle.bundle_store.specs.Build.{bytes_at, map_after}
use Rattle.bundle_store.specs.Images.{EachImage, HoldsClosed}
use Rattle.bundle_store.specs.Session.{IsReadyToPut, SessionState}
use Rattle.bundle_store.specs.Starts.{CouldBe}
use Rattle.bundle_store.specs.Tiles.{IsReadable, TileMap, tiles}
use Rattle.bundle_lines.specs.declared.stop.PutStop.TheVariants.{Output, Volume, Full}
use Rattle.bundle_lines.specs.Gave.{PutEnd, PutGave, UnlessVolume}
-- ---- the bundle

-- the bundle after the updates were put one after the other
pub use Rattle.bundle_store.specs.GroupPuts.{bundle_after_puts}

-- the length of the bundle as update number i is put, which the updates before it leave
abbrev pub length_before : List ℕ → List TileRec → ℕ → ℕ
length_before bundle updates i = length (bundle_after_puts bundle (take i updates))

-- there is room for each of the first n updates, as it is put
abbrev pub HaveRoom : List ℕ → List TileRec → ℕ → Type 0
HaveRoom bundle updates n =
    (i : ℕ) → i < n → length_before bundle updates i + 4 + length (bytes_at updates i) ≤ 2 ^ 40

-- update number n is the first for which there is none, and this is the length then
pub record IsFirstFull (bundle : List ℕ) (updates : List TileRec) (n len : ℕ) : Type 0 where
  pub len_is : len ≡ length_before bundle updates n
  pub full : 2 ^ 40 < len + 4 + length (bytes_at updates n)
  pub before : HaveRoom bundle updates n

-- what the end of the puts, n of which have a mark, says of the room
abbrev pub EndsByRoom : PutEnd → List ℕ → List TileRec → ℕ → Type 0
EndsByRoom (Ok x) bundle updates n = HaveRoom bundle updates n
EndsByRoom (Err Output) bundle updates n = HaveRoom bundle updates n
EndsByRoom (Err Volume) bundle updates n = HaveRoom bundle updates n
EndsByRoom (Err (Full len)) bundle updates n = IsFirstFull bundle updates n len

-- the length leaves no room for an update that is none of the first n
abbrev pub LeavesNoRoom : ℕ → List TileRec → ℕ → Type 0
LeavesNoRoom len updates n = (i : ℕ)
    × ((n ≤ i) × (i < length updates) × (2 ^ 40 < len + 4 + length (bytes_at updates i)))

-- The kept length leaves no room for an update without a mark, whatever the volume tells. Where it
-- tells its files, this is update number n.
abbrev pub KeepsFullLength : PutEnd → List TileRec → ℕ → Type 0
KeepsFullLength (Ok x) updates n = Unit {0}
KeepsFullLength (Err Output) updates n = Unit {0}
KeepsFullLength (Err Volume) updates n = Unit {0}
KeepsFullLength (Err (Full len)) updates n = LeavesNoRoom len updates n

-- ---- groups

-- From update number k on, n are put at once: there is room for each of them, they are 64 at most,
-- and no more could be, since they are 64, or the last, or there is no room for the next.
pub record IsNextGroup (bundle : List ℕ) (updates : List TileRec) (k n : ℕ) : Type 0 where
  pub most : n ≤ 64
  pub within : k + n ≤ length updates
  pub room : (i : ℕ) → k ≤ i → i < k + n
      → length_before bundle updates i + 4 + length (bytes_at updates i) ≤ 2 ^ 40
  pub ends : (n ≡ 64) ⊎ ((k + n ≡ length updates)
      ⊎ (2 ^ 40 < length_before bundle updates (k + n) + 4 + length (bytes_at updates (k + n))))

-- groups of these sizes, none of them empty, one behind the other from update number k on
abbrev pub AreGroups : List ℕ → List TileRec → ℕ → List ℕ → Type 0
AreGroups bundle updates k [] = Unit {0}
AreGroups bundle updates k (n ∷ ns) =
    (0 < n) × IsNextGroup bundle updates k n × AreGroups bundle updates (k + n) ns

-- marks of groups of these sizes, one behind the other, equal within one
abbrev pub InRuns : List ℕ → List ℕ → Type 0
InRuns [] marks = marks ≡ []
InRuns (n ∷ ns) marks = (mark : ℕ) × ((rest : List ℕ)
    × ((marks ≡ replicate n mark ++ rest) × InRuns ns rest))

-- the updates with a mark are whole groups, and those of one have one mark
pub record AreWhole (bundle : List ℕ) (updates : List TileRec) (marks : List ℕ) : Type 0 where
  pub sizes : List ℕ
  pub groups : AreGroups bundle updates 0 sizes
  pub runs : InRuns sizes marks

-- ---- marks

-- how many marks are not later than a moment
abbrev pub marked : List ℕ → ℕ → ℕ
marked marks t = count_by (λ mark. nat_le mark t) marks

-- they never fall, none is earlier than the start, and none is later than the end
pub record AreMarks (marks : List ℕ) (from to : ℕ) : Type 0 where
  pub rising : (i j : ℕ) → i ≤ j → j < length marks → slice_index marks i ≤ slice_index marks j
  pub within : (i : ℕ) → i < length marks
      → (from ≤ slice_index marks i) × (slice_index marks i ≤ to)

-- ---- crashes

-- The map at the start with the first few updates done: those acknowledged by this moment, or also
-- the next group, whole. The bundle is the one at the start.
pub record IsAfterSome (bundle : List ℕ) (start : TileMap) (updates : List TileRec)
    (marks : List ℕ) (t : ℕ) (map : TileMap) : Type 0 where
  pub count : ℕ
  pub count_is : (count ≡ marked marks t) ⊎ ((n : ℕ)
      × (IsNextGroup bundle updates (marked marks t) n × (count ≡ marked marks t + n)))
  pub map_is : map ≡ map_after start (take count updates)

-- at each moment each image is sound and stands for such a map
abbrev pub PutsKeep : List ℕ → TileMap → List TileRec → List ℕ → History → History → Type 0
PutsKeep bundle start updates marks old new =
    DuringAt (λ t d. EachImage (IsAfterSome bundle start updates marks t) d) old new

-- A map that some image stood for first, as long as no update has a mark; or such a one with
-- updates done.
abbrev pub KeptOr : Disk → List ℕ → ℕ → Type 0 → TileMap → Type 0
KeptOr first marks t Done map = (CouldBe first map × (marked marks t ≡ 0)) ⊎ Done

-- The same of puts behind a recovery, whatever is pending as that starts: what was read then stands
-- for this map, and the bundle is what the recovery left.
abbrev pub PutsKeepFrom : List ℕ → TileMap → List TileRec → List ℕ → History → History → Type 0
PutsKeepFrom bundle start updates marks old new = DuringAt (λ t d. EachImage (λ map.
    KeptOr (current old) marks t (IsAfterSome bundle start updates marks t map) map) d) old new

-- ---- the end

-- What a volume that tells its files has behind the puts that have a mark. Unless it failed,
-- nothing is pending, the journal is not open, and the session may put again.
pub record PutsLeave (end : PutEnd) (updates : List TileRec) (marks : List ℕ) (s : SessionState)
    (old new : History) : Type 0 where
  pub reads : UnlessVolume end (HoldsClosed
      (bundle_after_puts (contents Bundle old) (take (length marks) updates)) (current new))
  pub room : EndsByRoom end (contents Bundle old) updates (length marks)
  pub images : IsReadable (contents Bundle old)
      → PutsKeep (contents Bundle old) (tiles (contents Bundle old)) updates marks old new
  pub tiles_are : IsReadable (contents Bundle old) → UnlessVolume end (EachImage
      (λ map. map ≡ map_after (tiles (contents Bundle old)) (take (length marks) updates))
      (current new))
  pub later : old.moment ≤ new.moment
  pub marks_are : AreMarks marks old.moment new.moment
  pub groups : AreWhole (contents Bundle old) updates marks
  pub ready : UnlessVolume end (IsReadyToPut s (current new))

-- How puts end, and what they leave. The session is stopped only where the volume failed.
pub record PutsEnd (end : PutEnd) (updates : List TileRec) (marks : List ℕ) (s : SessionState)
    (told : Bool) (old new : History) (held_old held_new : Option (List ℕ)) : Type 0 where
  pub gave : PutGave end updates (length marks) held_old held_new
  pub full : KeepsFullLength end updates (length marks)
  pub stops : s.stopped ≡ true → IsErrOf end Volume
  pub leaves : IsTrue told → PutsLeave end updates marks s old new
