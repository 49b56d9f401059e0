-- A raster's own blob: that behind no other.
use Rattle.std.proofs.Common.{◌≡◌, ℕ, ◌≤◌, length, refl, arith, Option, None}
use Rattle.raster_values.specs.Raster.{Pixels, IsRaster}
use Rattle.lerc_header.specs.declared.header.Version.{Version}
use Rattle.lerc_grammar.specs.Mask.{Previous}
use Rattle.lerc_encode.specs.Choice.{chosen_after, chosen_blob}
use Rattle.lerc_encode.specs.Encoded.{Declares, IsEncodedAfter, IsEncodedOnce}
use Rattle.lerc_encode.specs.Masks.{runs_after}
use Rattle.lerc_encode.specs.inside.Asked.{IsAsked}
use Rattle.lerc_encode.proofs.Packing.{mask_few}
use Rattle.lerc_encode.proofs.TakenMasks.{mask_stands, runs_few}
use Rattle.lerc_encode.proofs.Encoded as encoded
use Rattle.lerc_encode.proofs.Below.{checksum_below}

few_runs : (before : Option Previous) (r : Pixels) → IsRaster r → length (runs_after before r) ≤ 6291458
few_runs before r is = let a = runs_few before r is in let b = mask_few r is in omega (arith, a, b)

-- ---- behind a raster or none

pub after_once : (before : Option Previous) (r : Pixels) (version : Version) (step : ℕ) → IsAsked r version step → IsEncodedAfter before (chosen_after before r version step) r step
unfolding chosen_after
after_once before r version step asked =
    encoded.encoded_once before (runs_after before r) (few_runs before r asked.sound) r version step asked (mask_stands before r asked.sound) (checksum_below before r version step)

pub after_declares : (before : Option Previous) (r : Pixels) (version : Version) (step : ℕ) → IsAsked r version step → Declares (chosen_after before r version step) version step
unfolding chosen_after
after_declares before r version step asked = encoded.declares (runs_after before r) (few_runs before r asked.sound) r version step asked (checksum_below before r version step)

-- ---- behind none

pub own_is : (r : Pixels) (version : Version) (step : ℕ) → chosen_after None r version step ≡ chosen_blob r version step
unfolding chosen_after chosen_blob
own_is r version step = refl

pub encoded_once : (r : Pixels) (version : Version) (step : ℕ) → IsAsked r version step → IsEncodedOnce (chosen_blob r version step) r step
unfolding chosen_blob chosen_after
encoded_once r version step asked = after_once None r version step asked

pub declares : (r : Pixels) (version : Version) (step : ℕ) → IsAsked r version step → Declares (chosen_blob r version step) version step
unfolding chosen_blob chosen_after
declares r version step asked = after_declares None r version step asked

pub few : (r : Pixels) (version : Version) (step : ℕ) → IsAsked r version step → length (chosen_blob r version step) ≤ 134217728
unfolding chosen_blob
few r version step asked = encoded.few (runs_after None r) (few_runs None r asked.sound) r version step asked
