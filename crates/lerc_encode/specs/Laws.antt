-- What holds of the choices. Each is the contract of a function in src/laws.rt.
use Rattle.std.specs.Prelude.{◌≡◌, ◌↔◌, ℕ, false, List, Option, Some, None, IsTrue}
use Rattle.raster_values.specs.Raster.{Pixels, IsRaster}
use Rattle.raster_values.specs.Bands.{AreBands}
use Rattle.raster_values.specs.Flat.{marks_of}
use Rattle.lerc_header.specs.declared.header.Version.{Version}
use Rattle.raster_cells.specs.Step.{IsTwiceError}
use Rattle.lerc_grammar.specs.Mask.{Previous, marks_before}
use Rattle.lerc_encode.specs.Choice.{chosen_after, chosen_bands, chosen_blob}
use Rattle.lerc_encode.specs.Encoded.{AreEncodedOnce, BandsNeedV4, DeclareEach, Declares}
use Rattle.lerc_encode.specs.Encoded.{IsEncodedAfter, IsEncodedOnce, NeedsV4}
use Rattle.lerc_encode.specs.Masks.{are_alike, takes_mask}

-- the mask of the raster before is taken exactly where that has as many rows and columns and the
-- same pixels are valid, and some are and some are not
abbrev pub MasksAreTaken : Type 0
MasksAreTaken = (before : Option Previous) (r : Pixels) → IsTrue (takes_mask before r)
    ↔ ((marks_before before r.rows r.cols ≡ Some (marks_of r)) × (are_alike (marks_of r) ≡ false))

-- the blob behind none is the raster's own
abbrev pub OwnIsBehindNone : Type 0
OwnIsBehindNone = (r : Pixels) (version : Version) (step : ℕ) →
    chosen_after None r version step ≡ chosen_blob r version step

-- For every raster that a blob of this version can hold, and for every step that a header can
-- declare: the chosen blob is one of exactly one raster, which is near it.
abbrev pub ChoicesDecode : Type 0
ChoicesDecode = (r : Pixels) (version : Version) (step : ℕ) → IsRaster r → IsTwiceError step →
    ¬ NeedsV4 version r → IsEncodedOnce (chosen_blob r version step) r step

-- so behind the blob of each other raster, or none
abbrev pub ChoicesDecodeAfter : Type 0
ChoicesDecodeAfter = (before : Option Previous) (r : Pixels) (version : Version) (step : ℕ) →
    IsRaster r → IsTwiceError step → ¬ NeedsV4 version r →
    IsEncodedAfter before (chosen_after before r version step) r step

-- and it begins with a header of this version and step
abbrev pub ChoicesDeclare : Type 0
ChoicesDeclare = (before : Option Previous) (r : Pixels) (version : Version) (step : ℕ) →
    IsRaster r → IsTwiceError step → ¬ NeedsV4 version r →
    Declares (chosen_after before r version step) version step

-- the blobs of bands are those of exactly one list of bands, each of which is near the given one
abbrev pub BandsDecode : Type 0
BandsDecode = (bands : List Pixels) (version : Version) (step : ℕ) → AreBands bands →
    IsTwiceError step → ¬ BandsNeedV4 version bands →
    AreEncodedOnce (chosen_bands None bands version step) bands step

abbrev pub BandsDeclare : Type 0
BandsDeclare = (bands : List Pixels) (version : Version) (step : ℕ) → AreBands bands →
    IsTwiceError step → ¬ BandsNeedV4 version bands →
    DeclareEach (chosen_bands None bands version step) bands version step
