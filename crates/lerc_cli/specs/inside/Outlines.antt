-- The blobs that were kept of an input.
use Rattle.std.specs.Prelude.{ℕ, List, None}
use Rattle.raster_values.specs.Bands.{AreBands}
use Rattle.raster_values.specs.Raster.{Pixels}
use Rattle.lerc_decode.specs.Reading.{AreBlobs}

-- each is the blob of a band, behind that of the band before it
abbrev pub AreOfBands : List (List ℕ) → Type 0
AreOfBands blobs = (bands : List Pixels) × (AreBands bands × AreBlobs None blobs bands)
