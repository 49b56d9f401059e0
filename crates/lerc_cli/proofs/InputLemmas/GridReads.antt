-- What `encode` makes and leaves.
use Rattle.std.proofs.Common.{◌≡◌, ℕ, true, List, [], ◌∷◌, Option, Some, None, rules, Result, Ok, Err, refl, sym, subst}
use Rattle.std.specs.Prelude.{All, IfSome, IsTrue}
use Rattle.std.proofs.lemmas.List.Elements.{All-head, All-tail}
use Rattle.outside_io.specs.streams.Faults.{IsCause}
use Rattle.raster_values.specs.Raster.{Pixels, IsRaster}
use Rattle.lerc_header.specs.declared.header.Version.{Version}
use Rattle.lerc_header.specs.Written.{step_of}
use Rattle.lerc_grammar.specs.Near.{NearEach, NearestIsSame}
use Rattle.grid_blobs.specs.declared.stop.InputReason.{InputReason}
use Rattle.grid_blobs.specs.declared.stop.InputReason.TheVariants.{Grid as OfGrid, Leftover as OfRest, DepthNeedsV4 as OfDepth}
use Rattle.grid_blobs.specs.declared.stop.InputStop.{InputStop}
use Rattle.grid_blobs.specs.declared.stop.InputStop.TheVariants.{Fault as FaultOf, Source as SourceOf, OutOfMemory as MemoryOf}
use Rattle.grid_blobs.specs.Blobs.{AreBlobsOf}
use Rattle.grid_blobs.specs.Stops.{IsFirstFault, IsStopOf, OfDepths, SaysOfAny}
use Rattle.program_ends.specs.declared.stop.Stop.TheVariants.{Output, Source}
use Rattle.opened_bundle.specs.Files.{Files}
use Rattle.lerc_cli.specs.declared.words.Command.TheVariants.{Encode}
use Rattle.lerc_cli.specs.answers.Table.{Answers}
use Rattle.lerc_cli.specs.inputs.Given.{given}
use Rattle.lerc_cli.specs.inputs.Refused.{IsNotEncoded}
use Rattle.lerc_cli.specs.inside.Grids.{input_reason_of, input_stop_of}
use Rattle.lerc_cli.specs.run.InWords.{Encodes}

-- ---- what the blobs are

same_each : NearestIsSame → (bands rasters : List Pixels) → All IsRaster bands → All IsRaster rasters → NearEach bands rasters 1 → rasters ≡ bands
same_each same [] [] sound_a sound_b near = refl
same_each same [] (s ∷ ss) sound_a sound_b near = absurd near
same_each same (r ∷ rs) [] sound_a sound_b near = absurd near
same_each same (r ∷ rs) (s ∷ ss) sound_a sound_b near =
    let first = sym (same r s (All-head IsRaster r rs sound_a) (All-head IsRaster s ss sound_b) near.0) in
    let others = same_each same rs ss (All-tail IsRaster r rs sound_a) (All-tail IsRaster s ss sound_b) near.1 in λ i. first i ∷ others i

pub encodes : NearestIsSame → (version : Version) (error : ℕ) (input : Option (List ℕ)) (blobs : List ℕ) → (of : AreBlobsOf version error input blobs) → Encodes version error of.bands blobs
encodes same version error input blobs of =
    let once = of.blobs_are.once in
    record {
      chosen = of.blobs_are.chosen;
      declared = of.blobs_are.declared;
      once = once;
      exact = λ none. same_each same of.bands once.rasters of.are.1.sound once.blobs.0.1.sound (subst (λ (n : ℕ). NearEach of.bands once.rasters (step_of n)) none once.near);
    }

-- ---- how `encode` ends

not_encoded : (version : Version) (input : Option (List ℕ)) (files : Option Files) (place : ℕ) (reason : InputReason) → IfSome input (λ bytes. IsFirstFault version bytes place reason) → OfDepths version place reason
    → IsNotEncoded version (given input files) place (input_reason_of reason)
not_encoded version None files place (OfGrid reason) told says = tt
not_encoded version (Some input) files place (OfGrid reason) told says = told
not_encoded version None files place OfRest told says = tt
not_encoded version (Some input) files place OfRest told says =
    record { bands = told.bands; grid = told.grid; rest = told.rest; joined = told.joined; stands = told.stands; ends = told.ends; more = told.more }
not_encoded version None files place OfDepth told says = (says.0, says.1, tt)
not_encoded version (Some input) files place OfDepth told says = (says.0, says.1, told.1.1)

tt_true : IsTrue true
tt_true = search rules

pub read_stop : (version : Version) (error : ℕ) (input : Option (List ℕ)) (files : Option Files) (stop : InputStop) → IsStopOf version input stop → SaysOfAny version stop
    → Answers (Encode version error) (given input files) 0 (Err (input_stop_of stop)) []
read_stop version error input files (FaultOf f) told says = (not_encoded version input files f.place f.reason told says, refl)
read_stop version error input files SourceOf told says = (tt_true, refl, refl)
read_stop version error input files MemoryOf told says = (tt, refl, refl)

pub not_output : (stop : InputStop) → input_stop_of stop ≡ Output → ⊥
not_output (FaultOf f) is = absurd cc
not_output SourceOf is = absurd cc
not_output MemoryOf is = absurd cc

pub input_cause : (stop : InputStop) (old new : ℕ) → IsCause (◌≡◌ {A = Result (List ℕ) InputStop} (Err stop) (Err SourceOf)) old new → IsCause (input_stop_of stop ≡ Source) old new
input_cause (FaultOf f) old new c = record { counts = c.counts; failed = λ is. absurd cc; rose = λ rose. absurd (let bad = c.rose rose in cc) }
input_cause SourceOf old new c = record { counts = c.counts; failed = λ is. c.failed refl; rose = λ rose. refl }
input_cause MemoryOf old new c = record { counts = c.counts; failed = λ is. absurd cc; rose = λ rose. absurd (let bad = c.rose rose in cc) }

-- the blobs are what it was to give
pub made : (version : Version) (error : ℕ) (input : Option (List ℕ)) (files : Option Files) (blobs : List ℕ) → AreBlobsOf version error input blobs
    → Answers (Encode version error) (given input files) 0 (Ok tt) blobs
made version error input files blobs of = (of.bands, (of.are, of.grid, of.flat, of.blobs_are.chosen))
