-- What is wrong first in an input that is to be one grid.
use Rattle.std.specs.Prelude.{◌≡◌, ℕ, ◌<◌, List, ◌++◌, length, Option, IfSome}
use Rattle.raster_grids.specs.BandsGrid.{IsBandsGrid, bands_faults}
use Rattle.raster_values.specs.Raster.{Pixels}
use Rattle.raster_grids.specs.declared.reading.GridStop.{GridStop}
use Rattle.raster_grids.specs.declared.reading.GridStop.TheVariants.{Fault as GridFaultOf, Source as GridSource, OutOfMemory as GridMemory}
use Rattle.lerc_header.specs.declared.header.Version.{Version}
use Rattle.lerc_header.specs.declared.header.Version.TheVariants.{V3}
use Rattle.lerc_encode.specs.Encoded.{BandsNeedV4}
use Rattle.grid_blobs.specs.declared.stop.InputReason.{InputReason}
use Rattle.grid_blobs.specs.declared.stop.InputReason.TheVariants.{Grid, Leftover, DepthNeedsV4}
use Rattle.grid_blobs.specs.declared.stop.InputStop.{InputStop}
use Rattle.grid_blobs.specs.declared.stop.InputStop.TheVariants.{Fault, Source, OutOfMemory}

-- a grid stands in front of the bytes, it ends at the place, and something follows
pub record EndsBefore (bytes : List ℕ) (place : ℕ) : Type 0 where
  pub bands : List Pixels
  pub grid : List ℕ
  pub rest : List ℕ
  pub joined : bytes ≡ grid ++ rest
  pub stands : IsBandsGrid grid bands
  pub ends : place ≡ length grid
  pub more : 0 < length rest

-- the bytes are the grid of bands that the version has no place for
abbrev pub IsTooDeep : Version → List ℕ → Type 0
IsTooDeep version bytes = (version ≡ V3)
    × ((bands : List Pixels) × (IsBandsGrid bytes bands × BandsNeedV4 version bands))

-- This is the first fault of the bytes. That of the depths comes last, and its place is that of the
-- number of depths.
abbrev pub IsFirstFault : Version → List ℕ → ℕ → InputReason → Type 0
IsFirstFault version bytes place (Grid reason) = bands_faults bytes place reason
IsFirstFault version bytes place Leftover = EndsBefore bytes place
IsFirstFault version bytes place DepthNeedsV4 = (place ≡ 13) × IsTooDeep version bytes

-- why an input has no blobs: what is said of it is said where it is told
abbrev pub IsStopOf : Version → Option (List ℕ) → InputStop → Type 0
IsStopOf version input (Fault fault) =
    IfSome input (λ bytes. IsFirstFault version bytes fault.place fault.reason)
IsStopOf version input Source = Unit {0}
IsStopOf version input OutOfMemory = Unit {0}

-- What a fault says of whatever input: that of the depths has the place of their number, and the
-- version is 3.
abbrev pub OfDepths : Version → ℕ → InputReason → Type 0
OfDepths version place (Grid reason) = Unit {0}
OfDepths version place Leftover = Unit {0}
OfDepths version place DepthNeedsV4 = (place ≡ 13) × (version ≡ V3)

abbrev pub SaysOfAny : Version → InputStop → Type 0
SaysOfAny version (Fault fault) = OfDepths version fault.place fault.reason
SaysOfAny version Source = Unit {0}
SaysOfAny version OutOfMemory = Unit {0}

-- why a source gave no bands
abbrev pub grid_stop_of : GridStop → InputStop
grid_stop_of (GridFaultOf fault) =
    Fault (record { reason = Grid fault.reason; place = fault.place })
grid_stop_of GridSource = Source
grid_stop_of GridMemory = OutOfMemory
