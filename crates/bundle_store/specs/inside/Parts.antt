-- What the parts of a put, a build and a recovery leave.
use Rattle.std.specs.Prelude.{◌≡◌, ◌⊎◌, ℕ, List, [], ◌++◌}
use Rattle.outside_io.specs.volume.Disk.{Disk, IsImage, IsQuiet, IsSettled}
use Rattle.side_journal.specs.Says.{IsOpen, SaysBuild}
use Rattle.bundle_store.specs.Images.{StandsFor}
use Rattle.bundle_store.specs.Kept.{FrontBytes, Keeps}
use Rattle.bundle_store.specs.Recover.{IsMidway}
use Rattle.bundle_store.specs.Tiles.{Opens, TileMap}

-- the bytes begin with these
pub record BeginsWith (front bytes : List ℕ) : Type 0 where
  pub rest : List ℕ
  pub is : bytes ≡ front ++ rest

-- the journal is as it was, and a crash leaves a bundle that begins with the old one
pub record KeepsFront (old now : Disk) : Type 0 where
  pub journal : now.journal ≡ old.journal
  pub bundle : (c : List ℕ) → IsImage now.bundle c → BeginsWith old.bundle.now c

-- the journal is as it was, whatever the bundle holds
pub record KeepsJournal (old now : Disk) : Type 0 where
  pub journal : now.journal ≡ old.journal

-- a crash leaves of the bundle these bytes, or none
abbrev pub EachWholeOrNone : List ℕ → Disk → Type 0
EachWholeOrNone bundle now = (c : List ℕ) → IsImage now.bundle c → (c ≡ bundle) ⊎ (c ≡ [])

-- a crash leaves of the bundle what a recovery of these files makes of it before it ends
abbrev pub EachMidway : List ℕ → List ℕ → Disk → Type 0
EachMidway bundle journal now = (c : List ℕ) → IsImage now.bundle c → IsMidway bundle journal c

-- a crash leaves nothing that it would not have left before
pub record Narrows (old now : Disk) : Type 0 where
  pub bundle : (c : List ℕ) → IsImage now.bundle c → IsImage old.bundle c
  pub journal : (c : List ℕ) → IsImage now.journal c → IsImage old.journal c

-- the journal is as it was, and a read of the bundle gives these bytes behind the old ones
pub record Extends (old now : Disk) (more : List ℕ) : Type 0 where
  pub journal : now.journal ≡ old.journal
  pub bundle : now.bundle.now ≡ old.bundle.now ++ more

-- The journal is as it was, and what a read of the bundle gives and the bytes that wait behind it
-- are those of before and these more.
pub record Gathers (old now : Disk) (waited waits more : List ℕ) : Type 0 where
  pub journal : now.journal ≡ old.journal
  pub bundle : now.bundle.now ++ waits ≡ (old.bundle.now ++ waited) ++ more

-- nothing is pending, and the journal is not open
pub record IsIdle (d : Disk) : Type 0 where
  pub quiet : IsQuiet d
  pub closed : ¬ IsOpen d.journal.now

-- nothing is pending on a journal that counts, of a bundle that is being built
pub record IsBegun (d : Disk) : Type 0 where
  pub journal : IsSettled d.journal
  pub opened : IsOpen d.journal.now
  pub says : SaysBuild d.journal.now

-- each image stands for what this one stands for, if it is sound
abbrev pub EachKeeps : List ℕ → List ℕ → Disk → Type 0
EachKeeps bundle journal now = (b j : List ℕ) → IsImage now.bundle b → IsImage now.journal j →
    (map : TileMap) → StandsFor bundle journal map → StandsFor b j map

-- a session that keeps this can serve the bundle, nothing is pending, and the journal is not open
pub record IsAtRest (front : FrontBytes) (d : Disk) : Type 0 where
  pub opens : Opens d.bundle.now
  pub keeps : Keeps front d.bundle.now
  pub quiet : IsQuiet d
  pub closed : ¬ IsOpen d.journal.now
