-- What a run may find: what a crash might leave as it starts, and what a kill or a crash hands on
-- to it.
use Rattle.std.specs.Prelude.{◌≡◌, ℕ, List}
use Rattle.outside_io.specs.volume.Disk.{Disk, IsDiskImage, settled}
use Rattle.outside_io.specs.volume.History.{During, History, current}
use Rattle.bundle_store.specs.Images.{EachImage, StandsFor}
use Rattle.bundle_store.specs.Tiles.{TileMap}

-- each image is sound
abbrev pub EachIsSound : Disk → Type 0
EachIsSound d = EachImage (λ map. Unit {0}) d

-- an image of the disk stands for this map
pub record CouldBe (d : Disk) (map : TileMap) : Type 0 where
  pub bundle : List ℕ
  pub journal : List ℕ
  pub image : IsDiskImage d bundle journal
  pub stands : StandsFor bundle journal map

-- at each moment each image stands for a map that one stood for at the start
abbrev pub KeepsStart : History → History → Type 0
KeepsStart old new = During (EachImage (CouldBe (current old))) old new

-- The machine stopped: one image of both files is left, and nothing is pending on it.
pub record IsCrashOf (old new : Disk) : Type 0 where
  pub bundle : List ℕ
  pub journal : List ℕ
  pub image : IsDiskImage old bundle journal
  pub left : new
      ≡ (let d : Disk = record { bundle = settled bundle; journal = settled journal } in d)

-- The process alone ended: both files read as they did, and a crash leaves nothing that it would
-- not have left then. Of what is pending the machine may have synced some meanwhile.
pub record IsKillOf (old new : Disk) : Type 0 where
  pub bundle : new.bundle.now ≡ old.bundle.now
  pub journal : new.journal.now ≡ old.journal.now
  pub images : (b j : List ℕ) → IsDiskImage new b j → IsDiskImage old b j

-- how a run was cut off
pub data Cut : Type 0 where
  Crashed : Cut
  Killed : Cut

-- what the cut handed on of a disk
abbrev pub IsCutOf : Cut → Disk → Disk → Type 0
IsCutOf Crashed old new = IsCrashOf old new
IsCutOf Killed old new = IsKillOf old new
