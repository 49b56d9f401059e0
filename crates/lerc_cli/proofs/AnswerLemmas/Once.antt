-- One command of words, and one answer of a command.
use Rattle.std.proofs.Common.{◌≡◌, Err, List, ℕ, None, Option, Some, refl, rules, sym, ap, subst, ◌∙◌}
use Rattle.std.specs.Prelude.{IsTrue}
use Rattle.raster_grids.specs.Grid.{bands_grid_of}
use Rattle.raster_values.specs.Raster.{Pixels}
use Rattle.lerc_header.specs.declared.header.Version.{Version}
use Rattle.lerc_header.specs.Written.{step_of}
use Rattle.lerc_encode.specs.Choice.{chosen_bands}
use Rattle.lerc_cli.specs.declared.words.Command.{Command}
use Rattle.lerc_cli.specs.declared.words.Command.TheVariants.{Encode, Decode, Info, Build, Put, Get, GetRaw, List as ListAll, Check, Recover, Sample}
use Rattle.lerc_cli.specs.declared.refusal.Fault.{Fault}
use Rattle.program_ends.specs.declared.stop.Stop.TheVariants.{Refused}
use Rattle.lerc_cli.specs.declared.refusal.Refusal.TheVariants.{Input, Store, Stream}
use Rattle.std.specs.List.{flat_map}
use Rattle.lerc_cli.specs.answers.Outline.{AreOutlines, outline_lines}
use Rattle.lerc_cli.specs.answers.Samples.{sums_lines}
use Rattle.sample_tiles.proofs.Once.{sums_once}
use Rattle.opened_bundle.specs.declared.refusal.StoreRefusal.{StoreRefusal}
use Rattle.lerc_cli.specs.answers.Table.{AnswersOnce, Answers}
use Rattle.opened_bundle.specs.Files.{Files}
use Rattle.lerc_cli.specs.inputs.Given.{Given, given}
use Rattle.lerc_cli.specs.inputs.Refused.{band_reason_of}
use Rattle.lerc_cli.proofs.AnswerLemmas.Answered.{Once, once_of, refused, well}
use Rattle.opened_bundle.proofs.OneBundle.{done_or_refused, one_done, one_missing, one_opening, one_tile, one_unrecovered, recovered_or_opening, same_report, tile_or_missing}
use Rattle.lerc_cli.proofs.AnswerLemmas.OneTile.{fault_or_missing, held_or_fault, held_or_missing, one_held, one_tile_fault, same_listing}
use Rattle.lerc_cli.specs.words.Commands.{calls_volume, reads_source}
use Rattle.lerc_grammar.proofs.WholeBands.{bands_or_fault, one_list, one_whole_fault}
use Rattle.lerc_cli.proofs.AnswerLemmas.BuildOnce.{build_once}
use Rattle.lerc_cli.proofs.AnswerLemmas.PutOnce.{put_once}
use Rattle.lerc_cli.proofs.InputLemmas.WholeGrids.{grid_or_refusal, one_grid, one_refusal}
use Rattle.lerc_grammar.specs.Bands.{BandsBlob}
use Rattle.lerc_grammar.specs.declared.parts.Outline.{Outline}
use Rattle.lerc_cli.proofs.AnswerLemmas.EachOutlined.{one_outlines}
use Rattle.bundle_store.specs.Check.{Reports}
use Rattle.bundle_lines.specs.Lines.{check_lines, listing, recovery_line}

same_fault : (f g : Fault) → f.reason ≡ g.reason → f.place ≡ g.place → f ≡ g
same_fault f g reason place = λ i. record { reason = reason i; place = place i }

-- what a command answers that reads the source, where that is told
abbrev SourceOnce : Command → Type 0
SourceOnce c = (input : List ℕ) (files : Option Files) → Once c (given (Some input) files)

encode_once : (v : Version) (e : ℕ) → SourceOnce (Encode v e)
encode_once v e input files n m well well output another a b =
    (refl, a.1.3 ∙ ap (λ (bands : List Pixels). chosen_bands None bands v (step_of e)) (one_grid input a.0 b.0 a.1.1 b.1.1) ∙ sym b.1.3)
encode_once v e input files n m well (refused (Input f)) output another a b = absurd (grid_or_refusal v input files a.0 a.1.1 a.1.2 f.place f.reason b.0)
encode_once v e input files n m (refused (Input f)) well output another a b = absurd (grid_or_refusal v input files b.0 b.1.1 b.1.2 f.place f.reason a.0)
encode_once v e input files n m (refused (Input f)) (refused (Input g)) output another a b =
    let same = one_refusal v input files f.place g.place f.reason g.reason a.0 b.0 in
    (ap (λ h. Err (Refused (Input h))) (same_fault f g same.1 same.0), a.1 ∙ sym b.1)
encode_once v e input files n m (refused (Store r)) other output another a b = absurd a.0
encode_once v e input files n m well (refused (Store r)) output another a b = absurd b.0
encode_once v e input files n m (refused (Input f)) (refused (Store r)) output another a b = absurd b.0
encode_once v e input files n m (refused (Stream r)) other output another a b = absurd a.0
encode_once v e input files n m well (refused (Stream r)) output another a b = absurd b.0
encode_once v e input files n m (refused (Input f)) (refused (Stream r)) output another a b = absurd b.0

decode_once : SourceOnce Decode
decode_once input files n m well well output another a b =
    (refl, a.1.2 ∙ ap bands_grid_of (one_list input a.0 b.0 a.1.1 b.1.1) ∙ sym b.1.2)
decode_once input files n m well (refused (Input f)) output another a b = absurd (bands_or_fault input a.0 f.place b.0.0 a.1.1 b.0.1.1)
decode_once input files n m (refused (Input f)) well output another a b = absurd (bands_or_fault input b.0 f.place a.0.0 b.1.1 a.0.1.1)
decode_once input files n m (refused (Input f)) (refused (Input g)) output another a b =
    let same = one_whole_fault input f.place g.place a.0.0 b.0.0 a.0.1.1 b.0.1.1 in
    (ap (λ h. Err (Refused (Input h))) (same_fault f g (a.0.1.0 ∙ ap band_reason_of same.1 ∙ sym b.0.1.0) same.0), a.1 ∙ sym b.1)
decode_once input files n m (refused (Store r)) other output another a b = absurd a.0
decode_once input files n m well (refused (Store r)) output another a b = absurd b.0
decode_once input files n m (refused (Input f)) (refused (Store r)) output another a b = absurd b.0
decode_once input files n m (refused (Stream r)) other output another a b = absurd a.0
decode_once input files n m well (refused (Stream r)) output another a b = absurd b.0
decode_once input files n m (refused (Input f)) (refused (Stream r)) output another a b = absurd b.0

info_once : SourceOnce Info
info_once input files n m well well output another a b =
    let there : AreOutlines None input a.1.2.0 = subst (λ (u : List ℕ). AreOutlines None u a.1.2.0) (sym a.1.1) a.1.2.1.0 in
    let here : AreOutlines None input b.1.2.0 = subst (λ (u : List ℕ). AreOutlines None u b.1.2.0) (sym b.1.1) b.1.2.1.0 in
    (refl, a.1.2.1.1 ∙ ap (λ (os : List Outline). flat_map outline_lines os) (one_outlines None input a.1.2.0 b.1.2.0 there here) ∙ sym b.1.2.1.1)
info_once input files n m well (refused (Input f)) output another a b =
    absurd (bands_or_fault input a.1.0.0 f.place b.0.0 (subst (λ (u : List ℕ). BandsBlob u a.1.0.0) (sym a.1.1) a.1.0.1) b.0.1.1)
info_once input files n m (refused (Input f)) well output another a b =
    absurd (bands_or_fault input b.1.0.0 f.place a.0.0 (subst (λ (u : List ℕ). BandsBlob u b.1.0.0) (sym b.1.1) b.1.0.1) a.0.1.1)
info_once input files n m (refused (Input f)) (refused (Input g)) output another a b =
    let same = one_whole_fault input f.place g.place a.0.0 b.0.0 a.0.1.1 b.0.1.1 in
    (ap (λ h. Err (Refused (Input h))) (same_fault f g (a.0.1.0 ∙ ap band_reason_of same.1 ∙ sym b.0.1.0) same.0), a.1 ∙ sym b.1)
info_once input files n m (refused (Store r)) other output another a b = absurd a.0
info_once input files n m well (refused (Store r)) output another a b = absurd b.0
info_once input files n m (refused (Input f)) (refused (Store r)) output another a b = absurd b.0
info_once input files n m (refused (Stream r)) other output another a b = absurd a.0
info_once input files n m well (refused (Stream r)) output another a b = absurd b.0
info_once input files n m (refused (Input f)) (refused (Stream r)) output another a b = absurd b.0

from_source : (c : Command) → IsTrue (reads_source c) → SourceOnce c → AnswersOnce c
from_source c reads once g n m end other output another tells one two a b =
    let told = tells.input reads in
    once_of c (given (Some told.0) g.files) (once told.0 g.files) n m end other output another one two
    (subst (λ (x : Option (List ℕ)). Answers c (given x g.files) n end output) told.1 a)
    (subst (λ (x : Option (List ℕ)). Answers c (given x g.files) m other another) told.1 b)

-- what a command answers that reads the bundle, where the files are told
abbrev BundleOnce : Command → Type 0
BundleOnce c = (input : Option (List ℕ)) (f : Files) → Once c (given input (Some f))

from_bundle : (c : Command) → IsTrue (calls_volume c) → BundleOnce c → AnswersOnce c
from_bundle c calls once g n m end other output another tells one two a b =
    let told = tells.files calls in
    once_of c (given g.input (Some told.0)) (once g.input told.0) n m end other output another one two
    (subst (λ (x : Option Files). Answers c (given g.input x) n end output) told.1 a)
    (subst (λ (x : Option Files). Answers c (given g.input x) m other another) told.1 b)

raw_once : (slot : ℕ) → BundleOnce (GetRaw slot)
raw_once slot input f n m well well output another a b = (refl, one_tile f slot output another a b)
raw_once slot input f n m well (refused (Store r)) output another a b = absurd (tile_or_missing f slot output r a b.0)
raw_once slot input f n m (refused (Store r)) well output another a b = absurd (tile_or_missing f slot another r b a.0)
raw_once slot input f n m (refused (Store r)) (refused (Store s)) output another a b = (ap (λ (x : StoreRefusal). Err (Refused (Store x))) (one_missing f slot r s a.0 b.0), a.1 ∙ sym b.1)
raw_once slot input f n m (refused (Input r)) other output another a b = absurd a.0
raw_once slot input f n m well (refused (Input s)) output another a b = absurd b.0
raw_once slot input f n m (refused (Store r)) (refused (Input s)) output another a b = absurd b.0
raw_once slot input f n m (refused (Stream r)) other output another a b = absurd a.0
raw_once slot input f n m well (refused (Stream s)) output another a b = absurd b.0
raw_once slot input f n m (refused (Store r)) (refused (Stream s)) output another a b = absurd b.0

grid_once : (slot : ℕ) → BundleOnce (Get slot)
grid_once slot input f n m well well output another a b = (refl, a.1.2 ∙ ap bands_grid_of (one_held f slot a.0 b.0 a.1.1 b.1.1) ∙ sym b.1.2)
grid_once slot input f n m well (refused (Input s)) output another a b = absurd (held_or_fault f slot a.0 s.place b.0.0 a.1.1 b.0.1.1)
grid_once slot input f n m well (refused (Store r)) output another a b = absurd (held_or_missing f slot a.0 r a.1.1 b.0)
grid_once slot input f n m (refused (Input r)) well output another a b = absurd (held_or_fault f slot b.0 r.place a.0.0 b.1.1 a.0.1.1)
grid_once slot input f n m (refused (Input r)) (refused (Input s)) output another a b =
    let same = one_tile_fault f slot r.place s.place a.0.0 b.0.0 a.0.1.1 b.0.1.1 in
    (ap (λ h. Err (Refused (Input h))) (same_fault r s (a.0.1.0 ∙ ap band_reason_of same.1 ∙ sym b.0.1.0) same.0), a.1 ∙ sym b.1)
grid_once slot input f n m (refused (Input r)) (refused (Store s)) output another a b = absurd (fault_or_missing f slot r.place a.0.0 s a.0.1.1 b.0)
grid_once slot input f n m (refused (Store r)) well output another a b = absurd (held_or_missing f slot b.0 r b.1.1 a.0)
grid_once slot input f n m (refused (Store r)) (refused (Input s)) output another a b = absurd (fault_or_missing f slot s.place b.0.0 r b.0.1.1 a.0)
grid_once slot input f n m (refused (Store r)) (refused (Store s)) output another a b = (ap (λ (x : StoreRefusal). Err (Refused (Store x))) (one_missing f slot r s a.0 b.0), a.1 ∙ sym b.1)
grid_once slot input f n m (refused (Stream r)) other output another a b = absurd a.0
grid_once slot input f n m well (refused (Stream s)) output another a b = absurd b.0
grid_once slot input f n m (refused (Input r)) (refused (Stream s)) output another a b = absurd b.0
grid_once slot input f n m (refused (Store r)) (refused (Stream s)) output another a b = absurd b.0

list_once : BundleOnce ListAll
list_once input f n m well well output another a b = (refl, same_listing f output another a b)
list_once input f n m well (refused (Store r)) output another a b = absurd (recovered_or_opening f (λ x. output ≡ listing x 16384) r a b.0)
list_once input f n m (refused (Store r)) well output another a b = absurd (recovered_or_opening f (λ x. another ≡ listing x 16384) r b a.0)
list_once input f n m (refused (Store r)) (refused (Store s)) output another a b = (ap (λ (x : StoreRefusal). Err (Refused (Store x))) (one_opening f r s a.0 b.0), a.1 ∙ sym b.1)
list_once input f n m (refused (Input r)) other output another a b = absurd a.0
list_once input f n m well (refused (Input s)) output another a b = absurd b.0
list_once input f n m (refused (Store r)) (refused (Input s)) output another a b = absurd b.0
list_once input f n m (refused (Stream r)) other output another a b = absurd a.0
list_once input f n m well (refused (Stream s)) output another a b = absurd b.0
list_once input f n m (refused (Store r)) (refused (Stream s)) output another a b = absurd b.0

check_once : BundleOnce Check
check_once input f n m well well output another a b = (refl, a.1.1 ∙ ap check_lines (same_report f a.0 b.0 a.1.0 b.1.0) ∙ sym b.1.1)
check_once input f n m well (refused (Store r)) output another a b = absurd (recovered_or_opening f (λ x. Reports x 16384 a.0) r a.1.0 b.0)
check_once input f n m (refused (Store r)) well output another a b = absurd (recovered_or_opening f (λ x. Reports x 16384 b.0) r b.1.0 a.0)
check_once input f n m (refused (Store r)) (refused (Store s)) output another a b = (ap (λ (x : StoreRefusal). Err (Refused (Store x))) (one_opening f r s a.0 b.0), a.1 ∙ sym b.1)
check_once input f n m (refused (Input r)) other output another a b = absurd a.0
check_once input f n m well (refused (Input s)) output another a b = absurd b.0
check_once input f n m (refused (Store r)) (refused (Input s)) output another a b = absurd b.0
check_once input f n m (refused (Stream r)) other output another a b = absurd a.0
check_once input f n m well (refused (Stream s)) output another a b = absurd b.0
check_once input f n m (refused (Store r)) (refused (Stream s)) output another a b = absurd b.0

recover_once : BundleOnce Recover
recover_once input f n m well well output another a b = (refl, a.1.1 ∙ ap recovery_line (one_done f a.0 b.0 a.1.0 b.1.0) ∙ sym b.1.1)
recover_once input f n m well (refused (Store r)) output another a b = absurd (done_or_refused f a.0 r a.1.0 b.0)
recover_once input f n m (refused (Store r)) well output another a b = absurd (done_or_refused f b.0 r b.1.0 a.0)
recover_once input f n m (refused (Store r)) (refused (Store s)) output another a b = (ap (λ (x : StoreRefusal). Err (Refused (Store x))) (one_unrecovered f r s a.0 b.0), a.1 ∙ sym b.1)
recover_once input f n m (refused (Input r)) other output another a b = absurd a.0
recover_once input f n m well (refused (Input s)) output another a b = absurd b.0
recover_once input f n m (refused (Store r)) (refused (Input s)) output another a b = absurd b.0
recover_once input f n m (refused (Stream r)) other output another a b = absurd a.0
recover_once input f n m well (refused (Stream s)) output another a b = absurd b.0
recover_once input f n m (refused (Store r)) (refused (Stream s)) output another a b = absurd b.0

-- what a command answers that reads neither
sample_once : (first count : ℕ) (g : Given) → Once (Sample first count) g
sample_once first count g n m well well output another a b = (refl, a.1.1 ∙ ap sums_lines (sums_once first count a.0 b.0 a.1.0 b.1.0) ∙ sym b.1.1)
sample_once first count g n m well (refused (Input f)) output another a b = absurd b.0
sample_once first count g n m well (refused (Store r)) output another a b = absurd b.0
sample_once first count g n m well (refused (Stream r)) output another a b = absurd b.0
sample_once first count g n m (refused (Input f)) other output another a b = absurd a.0
sample_once first count g n m (refused (Store r)) other output another a b = absurd a.0
sample_once first count g n m (refused (Stream r)) other output another a b = absurd a.0

sample_answer : (first count : ℕ) → AnswersOnce (Sample first count)
sample_answer first count g n m end other output another tells one two a b =
    once_of (Sample first count) g (sample_once first count g) n m end other output another one two a b

-- what a command answers that reads both, where all is told
abbrev BothOnce : Command → Type 0
BothOnce c = (input : List ℕ) (f : Files) → Once c (given (Some input) (Some f))

from_both : (c : Command) → IsTrue (reads_source c) → IsTrue (calls_volume c) → BothOnce c → AnswersOnce c
from_both c reads calls once g n m end other output another tells one two a b =
    let input = tells.input reads in
    let files = tells.files calls in
    once_of c (given (Some input.0) (Some files.0)) (once input.0 files.0) n m end other output another one two
    (subst (λ (x : Option (List ℕ)). Answers c (given x (Some files.0)) n end output) input.1 (subst (λ (x : Option Files). Answers c (given g.input x) n end output) files.1 a))
    (subst (λ (x : Option (List ℕ)). Answers c (given x (Some files.0)) m other another) input.1 (subst (λ (x : Option Files). Answers c (given g.input x) m other another) files.1 b))

pub answers_once : (c : Command) → AnswersOnce c
answers_once (Encode v e) = from_source (Encode v e) (search rules) (encode_once v e)
answers_once Decode = from_source Decode (search rules) decode_once
answers_once Info = from_source Info (search rules) info_once
answers_once (Build v e w) = from_both (Build v e w) (search rules) (search rules) (build_once v e w)
answers_once (Put v e w) = from_both (Put v e w) (search rules) (search rules) (put_once v e w)
answers_once (Get slot) = from_bundle (Get slot) (search rules) (grid_once slot)
answers_once (GetRaw slot) = from_bundle (GetRaw slot) (search rules) (raw_once slot)
answers_once ListAll = from_bundle ListAll (search rules) list_once
answers_once Check = from_bundle Check (search rules) check_once
answers_once Recover = from_bundle Recover (search rules) recover_once
answers_once (Sample first count) = sample_answer first count
