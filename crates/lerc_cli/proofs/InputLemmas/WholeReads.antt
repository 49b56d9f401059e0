-- What the readers of blobs answer, from what reading bands from a source does.
use Rattle.std.proofs.Common.{◌≡◌, ℕ, true, List, [], Option, None, Some, rules, Err, refl, subst}
use Rattle.std.specs.Prelude.{IfSome, IsTrue}
use Rattle.lerc_decode.specs.BandsSource.{IsNoBands}
use Rattle.lerc_decode.specs.declared.streams.bands_source.BandsFromFault.{BandsFromFault}
use Rattle.lerc_decode.specs.declared.streams.bands_source.BandsFromFault.TheVariants.{Fault as FromBlobs, Source as FromSource, OutOfMemory as FromMemory}
use Rattle.program_ends.specs.Moves.{sink_move}
use Rattle.lerc_cli.specs.declared.words.Command.TheVariants.{Decode, Info}
use Rattle.program_ends.specs.declared.stop.Stop.{Stop}
use Rattle.lerc_cli.specs.declared.refusal.Refusal.{Refusal}
use Rattle.program_ends.specs.declared.stop.Stop.TheVariants.{Usage, Refused, Source, Output, Volume, OutOfMemory}
use Rattle.lerc_cli.specs.declared.refusal.Refusal.TheVariants.{Input, Store, Stream}
use Rattle.lerc_cli.specs.answers.Table.{Answers}
use Rattle.opened_bundle.specs.Files.{Files}
use Rattle.lerc_cli.specs.run.Run.{OfOutput}
use Rattle.lerc_cli.specs.inputs.Given.{given}
use Rattle.lerc_cli.specs.inside.Reads.{ReadsNone, stop_of}
use Rattle.lerc_cli.proofs.AnswerLemmas.Outputs.{stopped}

-- ---- what the source told

pub reads_none : (fault : BandsFromFault) (left : Option (List ℕ)) → IfSome left (IsNoBands fault) → ReadsNone left (stop_of fault)
reads_none (FromBlobs f) None told = (f.reason, (refl, tt))
reads_none (FromBlobs f) (Some input) told = (f.reason, (refl, told))
reads_none FromSource left told = tt
reads_none FromMemory None told = tt
reads_none FromMemory (Some input) told = (told.header, told.stands)

-- ---- a stop before the output began

tt_true : IsTrue true
tt_true = search rules

not_output : (input : Option (List ℕ)) (stop : Stop Refusal) → ReadsNone input stop → stop ≡ Output → ⊥
not_output input stop read is = let none : ReadsNone input Output = subst (ReadsNone input) is read in none

-- what it has meant to give
decoded_stop : (input : Option (List ℕ)) (files : Option Files) (stop : Stop Refusal) → ReadsNone input stop → Answers Decode (given input files) 0 (Err stop) []
decoded_stop input files Usage read = read
decoded_stop input files (Refused (Input f)) read = (read, refl)
decoded_stop input files Source read = (tt_true, refl, refl)
decoded_stop input files Output read = absurd read
decoded_stop input files Volume read = absurd read
decoded_stop input files OutOfMemory read = (read, refl, refl)
decoded_stop input files (Refused (Store r)) read = absurd read
decoded_stop input files (Refused (Stream r)) read = absurd read

pub stopped_output : (K : Type 0) (held : K → Option (List ℕ)) (faults : K → ℕ) (out out_new : K) (input : Option (List ℕ)) (files : Option Files) (stop : Stop Refusal)
    → out_new ≡ out → ReadsNone input stop → OfOutput Decode (given input files) 0 (Err stop) (sink_move held faults out out_new)
stopped_output K held faults out out_new input files stop same read = stopped Decode (given input files) K held faults out out_new stop (decoded_stop input files stop read) same (not_output input stop read)

told_stop : (input : Option (List ℕ)) (files : Option Files) (stop : Stop Refusal) → ReadsNone input stop → Answers Info (given input files) 0 (Err stop) []
told_stop input files Usage read = read
told_stop input files (Refused (Input f)) read = (read, refl)
told_stop input files Source read = (tt_true, refl, refl)
told_stop input files Output read = absurd read
told_stop input files Volume read = absurd read
told_stop input files OutOfMemory read = (read, refl, refl)
told_stop input files (Refused (Store r)) read = absurd read
told_stop input files (Refused (Stream r)) read = absurd read

pub stopped_lines : (K : Type 0) (held : K → Option (List ℕ)) (faults : K → ℕ) (out out_new : K) (input : Option (List ℕ)) (files : Option Files) (stop : Stop Refusal)
    → out_new ≡ out → ReadsNone input stop → OfOutput Info (given input files) 0 (Err stop) (sink_move held faults out out_new)
stopped_lines K held faults out out_new input files stop same read = stopped Info (given input files) K held faults out out_new stop (told_stop input files stop read) same (not_output input stop read)
