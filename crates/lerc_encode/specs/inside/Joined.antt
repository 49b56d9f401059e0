-- What is known of the blobs of bands before they are written.
use Rattle.std.specs.Prelude.{◌≡◌, ℕ, ◌*◌, ◌≤◌, List, length, slice_get, take, Some, None}
use Rattle.raster_values.specs.Raster.{Pixels}
use Rattle.lerc_header.specs.declared.header.Version.{Version}
use Rattle.lerc_grammar.specs.Bands.{last_after}
use Rattle.lerc_encode.specs.Choice.{chosen_bands}
use Rattle.lerc_encode.specs.Masks.{runs_after}
use Rattle.lerc_encode.specs.declared.blobs.blob.Plan.{Plan}
use Rattle.lerc_encode.specs.inside.Layout.{IsPlan, planned_runs}

-- the plan is one of band number k, with the runs that are written behind the band before it
pub record IsPlanAt (bands : List Pixels) (version : Version) (step k : ℕ) (r : Pixels) (p : Plan)
    : Type 0 where
  pub plan : IsPlan r version step p
  pub runs : planned_runs p r ≡ runs_after (last_after None (take k bands)) r

-- so each of the first n plans, whose blobs have so many bytes together
pub record ArePlans (bands : List Pixels) (version : Version) (step n : ℕ) (plans : List Plan)
    (size : ℕ) : Type 0 where
  pub count : length plans ≡ n
  pub each : (k : ℕ) (r : Pixels) (p : Plan) → slice_get bands k ≡ Some r →
      slice_get plans k ≡ Some p → IsPlanAt bands version step k r p
  pub size_is : size ≡ length (chosen_bands None (take n bands) version step)
  pub few : size ≤ n * 73924681
