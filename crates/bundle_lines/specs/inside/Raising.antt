-- What the store answers of a build.
use Rattle.std.specs.Prelude.{◌≡◌, ℕ, ◌<◌, List, [], length, Bool, IsTrue, Ok, Err}
use Rattle.outside_io.specs.declared.volume.VolFile.TheVariants.{Bundle}
use Rattle.outside_io.specs.volume.History.{History, contents, current}
use Rattle.bundle_store.specs.declared.fault.StoreFault.{StoreFault}
use Rattle.bundle_store.specs.declared.fault.StoreFault.TheVariants.{NotEmpty as StoreNotEmpty, OutOfMemory as StoreMemory}
use Rattle.bundle_store.specs.declared.tile_rec.TileRec.{TileRec}
use Rattle.bundle_store.specs.Build.{last_tiles}
use Rattle.bundle_store.specs.Built.{HoldsTiles}
use Rattle.bundle_store.specs.Images.{HoldsClosed}
use Rattle.bundle_store.specs.Layout.{layout}
use Rattle.bundle_lines.specs.declared.stop.BuildStop.{BuildStop}
use Rattle.bundle_lines.specs.declared.stop.BuildStop.TheVariants.{Output, Volume, NotEmpty, OutOfMemory}
use Rattle.bundle_lines.specs.Builds.{BuildEnd}

-- why a build ends where the store refuses it
abbrev pub build_stop_of : StoreFault → BuildStop
build_stop_of (StoreNotEmpty len) = NotEmpty len
build_stop_of StoreMemory = OutOfMemory
build_stop_of fault = Volume

-- a bundle was built in the place of an empty file
pub record IsRaised (updates : List TileRec) (old new : History) : Type 0 where
  pub empty : contents Bundle old ≡ []
  pub holds : HoldsClosed (layout (last_tiles updates)) (current new)
  pub tiles : HoldsTiles (contents Bundle new) (last_tiles updates)

-- it was not, and nothing was done
pub record IsNotRaised (len : ℕ) (old new : History) : Type 0 where
  pub len_is : len ≡ length (contents Bundle old)
  pub same : contents Bundle new ≡ contents Bundle old

abbrev pub Raises : BuildEnd → List TileRec → Bool → History → History → Type 0
Raises (Ok x) updates told old new = IsTrue told → IsRaised updates old new
Raises (Err Output) updates told old new = ⊥
Raises (Err Volume) updates told old new = Unit {0}
Raises (Err (NotEmpty len)) updates told old new =
    (0 < len) × (IsTrue told → IsNotRaised len old new)
Raises (Err OutOfMemory) updates told old new =
    IsTrue told → contents Bundle new ≡ contents Bundle old
