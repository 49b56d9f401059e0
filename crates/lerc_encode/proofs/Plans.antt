-- What a plan of a raster's blob says of the blob.
use Rattle.std.proofs.Common.{◌≡◌, ℕ, List, refl, sym, ap, ◌∙◌, subst, false}
use Rattle.raster_values.specs.Raster.{Pixels}
use Rattle.raster_values.specs.Flat.{marks_of}
use Rattle.lerc_header.specs.declared.header.Version.{Version}
use Rattle.lerc_encode.specs.declared.blobs.blob.Plan.{Plan}
use Rattle.lerc_encode.specs.Choice.{chosen_blob, chosen_with}
use Rattle.lerc_encode.specs.Masks.{runs_unless}
use Rattle.lerc_encode.specs.inside.Asked.{IsAsked}
use Rattle.lerc_encode.specs.inside.Layout.{IsPlan, IsPlanOf, planned_blob, planned_runs}

-- a plan is one for the version and the step that it holds
pub own_plan : (r : Pixels) (version : Version) (step : ℕ) (p : Plan) → IsPlan r version step p → IsPlanOf r p
own_plan r version step p is = record {
  base = is.base;
  version_is = refl;
  step_is = refl;
  ranges = is.ranges;
  runs = is.runs;
  few = is.few;
  tail = rw (is.version_is, is.step_is) is.tail;
}

pub own_asked : (r : Pixels) (version : Version) (step : ℕ) (p : Plan) → IsPlan r version step p → IsAsked r version step → IsAsked r p.base.version p.base.step
own_asked r version step p is asked =
    subst (λ (v : Version). IsAsked r v p.base.step) (sym is.version_is)
    (subst (λ (s : ℕ). IsAsked r version s) (sym is.step_is) asked)

pub planned_is : (r : Pixels) (version : Version) (step : ℕ) (p : Plan) → IsPlan r version step p → (runs : List ℕ) → planned_runs p r ≡ runs → planned_blob p r ≡ chosen_with runs r version step
planned_is r version step p is runs e = λ t. chosen_with (e t) r (is.version_is t) (is.step_is t)

-- where the mask is not taken, it is the raster's own blob
pub planned_own : (r : Pixels) (version : Version) (step : ℕ) (p : Plan) → IsPlan r version step p → planned_runs p r ≡ runs_unless false (marks_of r) → planned_blob p r ≡ chosen_blob r version step
unfolding chosen_blob
planned_own r version step p is e = planned_is r version step p is (runs_unless false (marks_of r)) e

pub own_bytes : (r : Pixels) (version : Version) (s step : ℕ) (p : Plan) → IsPlan r version s p → planned_runs p r ≡ runs_unless false (marks_of r) → s ≡ step → planned_blob p r ≡ chosen_blob r version step
own_bytes r version s step p is e same = planned_own r version s p is e ∙ ap (λ (x : ℕ). chosen_blob r version x) same
