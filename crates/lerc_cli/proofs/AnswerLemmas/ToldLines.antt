-- What `info` leaves behind the blobs that it has read.
use Rattle.std.proofs.Common.{◌≡◌, ℕ, ◌≤◌, List, [], ◌∷◌, Option, None, Some, Ok, Err, refl, sym, subst, arith}
use Rattle.std.specs.List.{concat, flat_map}
use Rattle.std.specs.Prelude.{IfSome}
use Rattle.outside_io.specs.streams.Faults.{FailedBetween}
use Rattle.outside_io.specs.streams.Sink.{Holds, HoldsPrefix}
use Rattle.raster_values.specs.Bands.{AreBands}
use Rattle.raster_values.specs.Raster.{Pixels}
use Rattle.lerc_header.proofs.Prefixes.{head_more}
use Rattle.lerc_grammar.specs.declared.parts.Outline.{Outline}
use Rattle.lerc_grammar.specs.Bands.{BlobsAfter}
use Rattle.lerc_grammar.specs.Mask.{Previous, previous_of}
use Rattle.lerc_decode.specs.Reading.{AreBlobs}
use Rattle.lerc_decode.specs.BandsSource.{HoldsBlobs}
use Rattle.program_ends.specs.Moves.{SinkMove, sink_move}
use Rattle.lerc_cli.specs.declared.words.Command.TheVariants.{Info}
use Rattle.program_ends.specs.declared.stop.Stop.TheVariants.{OutOfMemory, Output}
use Rattle.opened_bundle.specs.Files.{Files}
use Rattle.lerc_cli.specs.answers.Table.{IsOutput}
use Rattle.lerc_cli.specs.answers.Outline.{AreOutlines, outline_lines}
use Rattle.lerc_cli.specs.run.Run.{OfOutput}
use Rattle.lerc_cli.specs.inputs.Given.{given}
use Rattle.lerc_cli.specs.inputs.Refused.{HasHead}
use Rattle.lerc_cli.proofs.AnswerLemmas.Outputs.{cut, gave, stopped}

blobs_joined : (before : Option Previous) (blobs : List (List ℕ)) (bands : List Pixels) → AreBlobs before blobs bands → BlobsAfter before (concat blobs) bands
blobs_joined before [] [] h = refl
blobs_joined before [] (r ∷ rs) h = absurd h
blobs_joined before (b ∷ bs) [] h = absurd h
blobs_joined before (b ∷ bs) (r ∷ rs) h = (b, (concat bs, (refl, (h.0, blobs_joined (Some (previous_of r)) bs rs h.1))))

-- their lines
lines_of : (input : Option (List ℕ)) (files : Option Files) (blobs : List (List ℕ)) (os : List Outline) → HoldsBlobs blobs input → AreOutlines None (concat blobs) os → IsOutput Info (given input files) 0 (flat_map outline_lines os)
lines_of input files blobs os h out = (concat blobs, ((h.0, (h.1.0, blobs_joined None blobs h.0 h.1.1.0)), h.1.1.1, (os, (out, refl))))

pub gave_lines : (input : Option (List ℕ)) (files : Option Files) (blobs : List (List ℕ)) (os : List Outline) (sink : SinkMove)
    → HoldsBlobs blobs input → AreOutlines None (concat blobs) os → Holds sink.held.old sink.held.new (flat_map outline_lines os) → sink.faults.new ≡ sink.faults.old → OfOutput Info (given input files) 0 (Ok tt) sink
gave_lines input files blobs os sink h out holds count =
    gave Info (given input files) (flat_map outline_lines os) sink (lines_of input files blobs os h out) holds count

pub cut_lines : (input : Option (List ℕ)) (files : Option Files) (blobs : List (List ℕ)) (os : List Outline) (sink : SinkMove)
    → HoldsBlobs blobs input → AreOutlines None (concat blobs) os → HoldsPrefix sink.held.old sink.held.new (flat_map outline_lines os) → sink.faults.old ≤ sink.faults.new → FailedBetween sink.faults.old sink.faults.new
    → OfOutput Info (given input files) 0 (Err Output) sink
cut_lines input files blobs os sink h out holds counts failed =
    cut Info (given input files) (flat_map outline_lines os) sink (lines_of input files blobs os h out) holds counts failed

-- ---- memory was refused behind the blobs

head_of : (blobs : List (List ℕ)) (bands : List Pixels) → AreBands bands → AreBlobs None blobs bands → HasHead (concat blobs)
head_of [] [] are stand = absurd (omega (arith, are.0))
head_of [] (r ∷ rs) are stand = absurd stand
head_of (b ∷ bs) [] are stand = absurd stand
head_of (b ∷ bs) (r ∷ rs) are ((sound, (h, (p, j))), rest) = (h, head_more b (concat bs) h j.head_stands)

told_head : (input : Option (List ℕ)) (blobs : List (List ℕ)) → HoldsBlobs blobs input → IfSome input HasHead
told_head None blobs h = tt
told_head (Some bytes) blobs h = subst HasHead (sym h.1.1.1) (head_of blobs h.0 h.1.0 h.1.1.0)

pub wanted_lines : (K : Type 0) (held : K → Option (List ℕ)) (faults : K → ℕ) (out out_new : K) (input : Option (List ℕ)) (files : Option Files) (blobs : List (List ℕ))
    → out_new ≡ out → HoldsBlobs blobs input → OfOutput Info (given input files) 0 (Err OutOfMemory) (sink_move held faults out out_new)
wanted_lines K held faults out out_new input files blobs same h =
    stopped Info (given input files) K held faults out out_new OutOfMemory (told_head input blobs h, refl, refl) same (λ is. absurd cc)
