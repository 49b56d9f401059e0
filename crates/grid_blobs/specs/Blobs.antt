-- The blobs of an input that is one grid.
use Rattle.std.specs.Prelude.{◌≡◌, ℕ, List, Option, None, IfSome}
use Rattle.raster_values.specs.Bands.{AreBands}
use Rattle.raster_grids.specs.BandsGrid.{IsBandsGrid}
use Rattle.raster_values.specs.Raster.{Pixels}
use Rattle.lerc_header.specs.declared.header.Version.{Version}
use Rattle.lerc_header.specs.Written.{step_of}
use Rattle.lerc_encode.specs.Choice.{chosen_bands}
use Rattle.lerc_encode.specs.Encoded.{AreEncodedOnce, BandsNeedV4, DeclareEach}

-- What the blobs of bands are: the chosen ones. The header of each declares the version and the
-- error, and they are the blobs of exactly one list of bands, each near the given one by the step.
pub record AreChosen (version : Version) (error : ℕ) (bands : List Pixels) (blobs : List ℕ)
    : Type 0 where
  pub chosen : blobs ≡ chosen_bands None bands version (step_of error)
  pub declared : DeclareEach blobs bands version (step_of error)
  pub once : AreEncodedOnce blobs bands (step_of error)

-- The blobs are those of the bands of a grid, which the whole input is where it is told. The
-- version has a place for them.
pub record AreBlobsOf (version : Version) (error : ℕ) (input : Option (List ℕ)) (blobs : List ℕ)
    : Type 0 where
  pub bands : List Pixels
  pub are : AreBands bands
  pub grid : IfSome input (λ bytes. IsBandsGrid bytes bands)
  pub flat : ¬ BandsNeedV4 version bands
  pub blobs_are : AreChosen version error bands blobs
