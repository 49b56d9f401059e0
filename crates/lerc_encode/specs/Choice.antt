-- The blob that is written for a raster, of all those that could be.
use Rattle.std.specs.Prelude.{ℕ, ◌+◌, List, [], ◌∷◌, ◌++◌, length, drop, Option, Some}
use Rattle.raster_values.specs.Raster.{Pixels}
use Rattle.raster_values.specs.Flat.{marks_of}
use Rattle.lerc_header.specs.declared.header.Header.{Header}
use Rattle.lerc_header.specs.declared.header.Version.{Version}
use Rattle.lerc_header.specs.Head.{head_length}
use Rattle.lerc_header.specs.Written.{head_bytes}
use Rattle.lerc_header.specs.Checksum.{sum_of}
use Rattle.lerc_grammar.specs.Mask.{Previous, previous_of}
use Rattle.lerc_encode.specs.Heads.{header_of}
use Rattle.lerc_encode.specs.Images.{tail, image_bytes, side_at}
use Rattle.lerc_encode.specs.Masks.{mask_part, mask_runs_of, runs_after}

-- ---- with these runs of its mask

-- the mask and the image
unfoldable pub mask_and_image : List ℕ → Pixels → Version → ℕ → List ℕ
mask_and_image runs r version step =
    mask_part runs ++ image_bytes r version step (tail r version step)

-- the header with a checksum
unfoldable pub header_with : List ℕ → Pixels → Version → ℕ → ℕ → Header
header_with runs r version step checksum =
    header_of r version step (side_at (tail r version step))
    (head_length version + length (mask_and_image runs r version step)) checksum

-- the checksum of the bytes behind it, which say nothing of it
unfoldable pub checksum_of : List ℕ → Pixels → Version → ℕ → ℕ
checksum_of runs r version step =
    sum_of
    (drop 14 (head_bytes (header_with runs r version step 0) ++ mask_and_image runs r version step))

unfoldable pub chosen_with : List ℕ → Pixels → Version → ℕ → List ℕ
chosen_with runs r version step =
    head_bytes (header_with runs r version step (checksum_of runs r version step))
    ++ mask_and_image runs r version step

-- ---- the blob of a raster

unfoldable pub chosen_blob : Pixels → Version → ℕ → List ℕ
chosen_blob r version step = chosen_with (mask_runs_of (marks_of r)) r version step

-- ---- the blobs of bands

-- The blob of a raster behind that of the raster before: its own, but that a mask that is taken has
-- no runs, and size and checksum are those of the bytes that are left.
unfoldable pub chosen_after : Option Previous → Pixels → Version → ℕ → List ℕ
chosen_after before r version step = chosen_with (runs_after before r) r version step

-- one for each band, joined, each behind that of the band before it
abbrev pub chosen_bands : Option Previous → List Pixels → Version → ℕ → List ℕ
chosen_bands before [] version step = []
chosen_bands before (r ∷ more) version step =
    chosen_after before r version step ++ chosen_bands (Some (previous_of r)) more version step
