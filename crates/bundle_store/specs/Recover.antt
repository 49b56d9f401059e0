-- What recovery answers and leaves.
use Rattle.std.specs.Prelude.{◌≡◌, ◌⊎◌, ◌∷◌, ℕ, ◌<◌, ◌≤◌, List, [], drop, length, Result, Ok, Err}
use Rattle.outside_io.specs.volume.Disk.{Disk, IsImage, IsQuiet, settled}
use Rattle.side_journal.specs.Says.{Fails, IsOpen, IsWrongAt, SaysBody, SaysBuild}
use Rattle.side_journal.specs.Steps.{SameBehindGate}
use Rattle.side_journal.specs.declared.body.Body.{Body}
use Rattle.bundle_store.specs.declared.fault.StoreFault.{StoreFault}
use Rattle.bundle_store.specs.declared.fault.StoreFault.TheVariants.{Device, BadJournal}
use Rattle.bundle_store.specs.declared.recovery.Recovery.{Recovery}
use Rattle.bundle_store.specs.declared.recovery.Recovery.TheVariants.{Closed, Applied, Emptied}
use Rattle.bundle_store.specs.Images.{StandsFor}
use Rattle.bundle_store.specs.LaidOver.{IsOfTiles, size_in, size_place, with_body}
use Rattle.bundle_store.specs.Tiles.{TileMap}

-- an open journal of tiles, the bundle being long enough
pub record AppliesTo (bundle journal : List ℕ) : Type 0 where
  pub opened : IsOpen journal
  pub body : Body
  pub says : SaysBody journal body
  pub tiles : IsOfTiles body
  pub within : size_in body ≤ length bundle

-- an open journal of tiles that names, at this place, a length beyond the bundle's
pub record IsTooShort (bundle journal : List ℕ) (place found : ℕ) : Type 0 where
  pub body : Body
  pub says : SaysBody journal body
  pub tiles : IsOfTiles body
  pub at : place ≡ size_place body
  pub is : found ≡ size_in body
  pub short : length bundle < found

-- the first test that an open journal beside this bundle fails
abbrev pub Refuses : List ℕ → List ℕ → ℕ → ℕ → Type 0
Refuses bundle journal place found = IsOpen journal ×
    (Fails journal place found ⊎ IsTooShort bundle journal place found)

-- What each answer says of both files, as they are read after the syncs. No two hold of the same
-- files.
abbrev pub RecoverySays : List ℕ → List ℕ → Result Recovery StoreFault → Type 0
RecoverySays bundle journal (Ok Closed) = ¬ IsOpen journal
RecoverySays bundle journal (Ok Applied) = AppliesTo bundle journal
RecoverySays bundle journal (Ok Emptied) = IsOpen journal × SaysBuild journal
RecoverySays bundle journal (Err Device) = Unit {0}
RecoverySays bundle journal (Err (BadJournal place found)) = Refuses bundle journal place found
RecoverySays bundle journal (Err _) = ⊥

-- What a recovery that is not refused has done with these files, and the bundle that it leaves.
abbrev pub Leaves : List ℕ → List ℕ → Recovery → List ℕ → Type 0
Leaves bundle journal Closed left = (¬ IsOpen journal) × (left ≡ bundle)
Leaves bundle journal Applied left =
    (a : AppliesTo bundle journal) × (left ≡ with_body a.body bundle)
Leaves bundle journal Emptied left = IsOpen journal × SaysBuild journal × (left ≡ [])

-- nothing is pending on either file, which hold what they held
abbrev pub synced_disk : Disk → Disk
synced_disk d = record { bundle = settled d.bundle.now; journal = settled d.journal.now }

-- An image stands for what one of the images of this disk stood for, if that one was sound.
pub record StandsForOneOf (old : Disk) (b j : List ℕ) : Type 0 where
  pub bundle : List ℕ
  pub journal : List ℕ
  pub bundle_is : IsImage old.bundle bundle
  pub journal_is : IsImage old.journal journal
  pub same : (map : TileMap) → StandsFor bundle journal map → StandsFor b j map

-- each image does
abbrev pub EachStandsForOneOf : Disk → Disk → Type 0
EachStandsForOneOf old now = (b j : List ℕ) → IsImage now.bundle b → IsImage now.journal j →
    StandsForOneOf old b j

-- The bundle with the tiles of an open journal put in part: it is as long, and all put leave of it
-- what they leave of the bundle. So it differs from that under the header and the entries alone.
pub record IsPutInPart (bundle journal now : List ℕ) : Type 0 where
  pub applies : AppliesTo bundle journal
  pub size : length now ≡ length bundle
  pub all : with_body applies.body now ≡ with_body applies.body bundle

-- What a recovery of these files makes of the bundle before it ends: nothing, or one whose tiles
-- are put in part, or an empty one where it was being built.
abbrev pub IsMidway : List ℕ → List ℕ → List ℕ → Type 0
IsMidway bundle journal now = (now ≡ bundle) ⊎ (IsPutInPart bundle journal now
    ⊎ (IsOpen journal × (SaysBuild journal × (now ≡ []))))

-- What a crash may leave of the bundle is what it might leave of it on this disk, or what a
-- recovery makes of it as it is read there.
abbrev pub EachBundleMidway : Disk → Disk → Type 0
EachBundleMidway old now = (b : List ℕ) → IsImage now.bundle b →
    IsImage old.bundle b ⊎ IsMidway old.bundle.now old.journal.now b

-- the work of an open journal is done: its tiles are put, or the bundle that was being built is
-- empty
abbrev pub IsWorkDone : List ℕ → List ℕ → List ℕ → Type 0
IsWorkDone bundle journal now =
    ((a : AppliesTo bundle journal) × (now ≡ with_body a.body bundle))
    ⊎ (IsOpen journal × (SaysBuild journal × (now ≡ [])))

-- What a recovery makes of both files, nothing being pending: the journal as it is, beside a bundle
-- that is midway; or the journal but for its gate, beside the bundle once its work is done.
abbrev pub IsOnTheWay : List ℕ → List ℕ → List ℕ → List ℕ → Type 0
IsOnTheWay bundle journal b j = (IsMidway bundle journal b × (j ≡ journal))
    ⊎ (IsWorkDone bundle journal b × SameBehindGate journal j)

-- each image is such a pair
abbrev pub EachOnTheWay : List ℕ → List ℕ → Disk → Type 0
EachOnTheWay bundle journal now = (b j : List ℕ) → IsImage now.bundle b → IsImage now.journal j →
    IsOnTheWay bundle journal b j

-- each image is one of the disk at the start, or such a pair of what was read there
abbrev pub EachKeptOrOnTheWay : Disk → Disk → Type 0
EachKeptOrOnTheWay old now = (b j : List ℕ) → IsImage now.bundle b → IsImage now.journal j →
    (IsImage old.bundle b × IsImage old.journal j)
    ⊎ IsOnTheWay old.bundle.now old.journal.now b j

-- Beside a journal that is not open nothing is on the way but what is read.
abbrev pub ClosedStays : Type 0
ClosedStays = (bundle journal b j : List ℕ) → ¬ IsOpen journal → IsOnTheWay bundle journal b j →
    (b ≡ bundle) × (j ≡ journal)

-- the journal that a recovery leaves: as it is, or with its gate closed
abbrev pub LeavesJournal : List ℕ → Recovery → List ℕ → Type 0
LeavesJournal journal Closed left = left ≡ journal
LeavesJournal journal Applied left = left ≡ 0 ∷ drop 1 journal
LeavesJournal journal Emptied left = left ≡ 0 ∷ drop 1 journal

-- nothing is pending, the journal does not count, and the disk stands for what these files stood
-- for
pub record IsRecovered (bundle journal : List ℕ) (d : Disk) : Type 0 where
  pub quiet : IsQuiet d
  pub closed : ¬ IsOpen d.journal.now
  pub same : (map : TileMap) → StandsFor bundle journal map →
      StandsFor d.bundle.now d.journal.now map

-- where recovery is refused for the journal
abbrev pub OnBadJournal : {X : Type 0} → Result X StoreFault → Type 0 → Type 0
OnBadJournal (Err (BadJournal place found)) P = P
OnBadJournal _ P = Unit {0}

-- where recovery finds a journal that does not count
abbrev pub OnClosed : Result Recovery StoreFault → Type 0 → Type 0
OnClosed (Ok Closed) P = P
OnClosed _ P = Unit {0}

-- The kept numbers of a refusal of a recovery fail the test of their place, over whatever volume.
-- That the bundle is shorter than the length found at 16 or 24 is said only where the volume tells
-- its contents.
abbrev pub RecoverFails : StoreFault → Type 0
RecoverFails Device = Unit {0}
RecoverFails (BadJournal place found) = IsWrongAt place found ⊎ ((place ≡ 16) ⊎ (place ≡ 24))
RecoverFails _ = ⊥
