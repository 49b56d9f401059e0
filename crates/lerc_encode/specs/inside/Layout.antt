-- What is known of a blob before it is written.
use Rattle.std.specs.Prelude.{◌≡◌, ℕ, ◌≤◌, List, ◌++◌, drop, length}
use Rattle.lerc_header.specs.Checksum.{sum_of}
use Rattle.lerc_header.specs.Written.{head_bytes}
use Rattle.raster_values.specs.Raster.{Pixels}
use Rattle.raster_values.specs.Flat.{marks_of}
use Rattle.lerc_header.specs.declared.header.Header.{Header}
use Rattle.lerc_header.specs.declared.header.Version.{Version}
use Rattle.lerc_encode.specs.Choice.{chosen_with, mask_and_image}
use Rattle.lerc_encode.specs.Masks.{runs_unless}
use Rattle.lerc_encode.specs.inside.Choosing.{AreRanges, IsBase, IsTail}
use Rattle.lerc_encode.specs.declared.blobs.blob.Plan.{Plan}

-- the runs of the mask: none where it is taken from the raster before
abbrev pub planned_runs : Plan → Pixels → List ℕ
planned_runs p r = runs_unless p.taken (marks_of r)

-- the header so far, the ranges, the length of the mask's runs, and how the image ends
pub record IsPlan (r : Pixels) (version : Version) (step : ℕ) (p : Plan) : Type 0 where
  pub base : IsBase p.base r
  pub version_is : p.base.version ≡ version
  pub step_is : p.base.step ≡ step
  pub ranges : AreRanges r p.ranges
  pub runs : p.runs ≡ length (planned_runs p r)
  pub few : p.runs ≤ 6291458
  pub tail : IsTail r version step p.tail

-- for the version and the step that it says
abbrev pub IsPlanOf : Pixels → Plan → Type 0
IsPlanOf r p = IsPlan r p.base.version p.base.step p

-- what stands behind the head, and all of the blob
abbrev pub planned_behind : Plan → Pixels → List ℕ
planned_behind p r = mask_and_image (planned_runs p r) r p.base.version p.base.step

abbrev pub planned_blob : Plan → Pixels → List ℕ
planned_blob p r = chosen_with (planned_runs p r) r p.base.version p.base.step

-- the bytes are the header with the checksum of what it covers, and what stands behind it
abbrev pub IsSealed : Header → List ℕ → List ℕ → Type 0
IsSealed h behind blob =
    blob ≡ head_bytes (record h { checksum = sum_of (drop 14 (head_bytes h ++ behind)) }) ++ behind
