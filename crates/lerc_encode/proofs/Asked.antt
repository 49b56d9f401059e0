-- What is asked of a raster, a version and a step, where the version has a place for the depths.
use Rattle.std.proofs.Common.{◌≡◌, ℕ, ◌<◌, ◌≤◌, arith, Bool, true, false, ◌⊎◌, inl, inr}
use Rattle.std.specs.Prelude.{IsTrue, ◌↔◌}
use Rattle.std.proofs.lemmas.Bool.{cases_lt}
use Rattle.raster_values.specs.Raster.{Pixels, IsRaster}
use Rattle.raster_cells.specs.Step.{IsTwiceError}
use Rattle.lerc_header.specs.declared.header.Version.{Version}
use Rattle.lerc_header.specs.declared.header.Version.TheVariants.{V3}
use Rattle.lerc_encode.specs.Encoded.{NeedsV4}
use Rattle.lerc_encode.specs.inside.Asked.{IsAsked}

pub asked_is : (r : Pixels) (version : Version) (step : ℕ) → IsRaster r → IsTwiceError step → (NeedsV4 version r → ⊥) → IsAsked r version step
asked_is r version step is allowed flat = record { sound = is; step_allowed = allowed; flat = λ three. by three (cases_lt 1 r.depth) }
  where
    by : version ≡ V3 → (1 < r.depth) ⊎ (r.depth ≤ 1) → r.depth ≡ 1
    by three (inl more) = absurd (flat (three, more))
    by three (inr low) = let some = is.shape.depth_above in omega (arith, low, some)

pub asked_of : (r : Pixels) (version : Version) (step : ℕ) (b : Bool) (depth : ℕ) → depth ≡ r.depth → IsRaster r → IsTwiceError step → b ≡ false → (IsTrue b ↔ ((version ≡ V3) × (1 < depth))) → IsAsked r version step
asked_of r version step b depth same is allowed off tells =
    asked_is r version step is allowed (λ needs. let more = needs.1 in let t : b ≡ true = tells.1 (needs.0, omega (arith, more, same)) in cc)
