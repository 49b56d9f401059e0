-- What the reader of one whole grid answers, and what is made of its bands.
use Rattle.std.specs.Prelude.{◌≡◌, ℕ, ◌<◌, ◌≤◌, List, length, Option, IfSome, Result, Ok, Err}
use Rattle.raster_values.specs.Bands.{AreBands}
use Rattle.raster_grids.specs.BandsGrid.{IsBandsGrid}
use Rattle.raster_values.specs.Raster.{Pixels}
use Rattle.lerc_header.specs.declared.header.Version.{Version}
use Rattle.lerc_encode.specs.Encoded.{BandsNeedV4}
use Rattle.grid_blobs.specs.declared.stop.InputReason.TheVariants.{DepthNeedsV4}
use Rattle.grid_blobs.specs.declared.stop.InputStop.{InputStop}
use Rattle.grid_blobs.specs.declared.stop.InputStop.TheVariants.{Fault, Source, OutOfMemory}
use Rattle.grid_blobs.specs.Blobs.{AreChosen}
use Rattle.grid_blobs.specs.Stops.{IsStopOf, SaysOfAny}

-- bands were read, or the first fault is told, which is of any version
abbrev pub ReadsGrid : Option (List ℕ) → Result (List Pixels) InputStop → Type 0
ReadsGrid input (Ok bands) = AreBands bands × IfSome input (λ bytes. IsBandsGrid bytes bands)
ReadsGrid input (Err stop) =
    (version : Version) → IsStopOf version input stop × SaysOfAny version stop

-- blobs were made of the bands, or the version has no place for them
abbrev pub MakesBlobs : Version → ℕ → List Pixels → Result (List ℕ) InputStop → Type 0
MakesBlobs version error bands (Ok blobs) = (¬ BandsNeedV4 version bands)
    × AreChosen version error bands blobs × (0 < length blobs) × (length blobs ≤ 134217728)
MakesBlobs version error bands (Err (Fault fault)) =
    (fault.reason ≡ DepthNeedsV4) × (fault.place ≡ 13) × BandsNeedV4 version bands
MakesBlobs version error bands (Err Source) = ⊥
MakesBlobs version error bands (Err OutOfMemory) = Unit {0}
