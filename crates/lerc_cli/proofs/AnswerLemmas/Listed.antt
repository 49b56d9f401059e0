-- How the commands end that tell of the whole bundle.
use Rattle.std.proofs.Common.{◌≡◌, ℕ, ◌≤◌, ◌*◌, List, [], Bool, Option, Ok, Err, refl, sym, ap, subst, ◌∙◌, rules}
use Rattle.std.specs.Prelude.{IsTrue}
use Rattle.outside_io.specs.declared.volume.VolFile.TheVariants.{Bundle, Journal}
use Rattle.outside_io.specs.declared.Failed.{Failed}
use Rattle.outside_io.specs.streams.Faults.{FailedBetween, IsCause}
use Rattle.outside_io.specs.streams.Sink.{Holds, HoldsPrefix}
use Rattle.outside_io.specs.volume.Disk.{Disk}
use Rattle.outside_io.specs.volume.History.{History, contents}
use Rattle.outside_io.proofs.StreamLemmas.Gives.{Holds_none}
use Rattle.bundle_store.specs.declared.recovery.Recovery.{Recovery}
use Rattle.bundle_store.specs.Check.{Reports}
use Rattle.bundle_store.specs.Session.{SessionState}
use Rattle.bundle_lines.specs.declared.stop.LineStop.TheVariants.{Output as LineOutput, Volume as LineVolume}
use Rattle.bundle_lines.specs.Gave.{CheckGave, LineEnd, ListGave}
use Rattle.bundle_lines.specs.Lines.{check_lines, listing, recovery_line}
use Rattle.program_ends.specs.Moves.{SinkMove, sink_move, volume_move}
use Rattle.lerc_cli.specs.declared.words.Command.TheVariants.{List as ListAll, Check, Recover}
use Rattle.program_ends.specs.declared.stop.Stop.{Stop}
use Rattle.program_ends.specs.declared.stop.Stop.TheVariants.{Usage, Refused, Source, Output, Volume, OutOfMemory}
use Rattle.lerc_cli.specs.answers.Table.{Answers}
use Rattle.opened_bundle.specs.Files.{Files, files_of}
use Rattle.lerc_cli.specs.run.Run.{OfOutput}
use Rattle.lerc_cli.specs.inputs.Given.{given}
use Rattle.opened_bundle.specs.Opening.{IsOpened, OpeningStops, Recovers}
use Rattle.lerc_cli.specs.inside.Opening.{end_of}
use Rattle.opened_bundle.specs.Left.{OfReading}
use Rattle.opened_bundle.proofs.BundleOpening.{of_bundle, reads_as}
use Rattle.opened_bundle.specs.declared.refusal.StoreRefusal.{StoreRefusal}
use Rattle.lerc_cli.specs.inside.Opening.{of_store}
use Rattle.lerc_cli.proofs.AnswerLemmas.Stores.{store_output}
use Rattle.lerc_cli.proofs.AnswerLemmas.Outputs.{cut, gave, stopped}

not_output : (files : Option Files) (stop : Stop StoreRefusal) → OpeningStops files stop → of_store stop ≡ Output → ⊥
not_output files stop stops is = let none : OpeningStops files Output = subst (λ (s : Stop StoreRefusal). OpeningStops files s) (store_output stop is) stops in none

-- ---- the bundle was not opened

list_ends : (input : Option (List ℕ)) (files : Option Files) (stop : Stop StoreRefusal) → OpeningStops files stop → Answers ListAll (given input files) 0 (Err (of_store stop)) []
list_ends input files Usage stops = absurd stops
list_ends input files Source stops = absurd stops
list_ends input files Output stops = absurd stops
list_ends input files Volume stops = (search rules, refl)
list_ends input files OutOfMemory stops = (stops, refl, refl)
list_ends input files (Refused r) stops = (stops, refl)

pub list_stopped : (K : Type 0) (held : K → Option (List ℕ)) (faults : K → ℕ) (out out_new : K) (input : Option (List ℕ)) (files : Option Files) (stop : Stop StoreRefusal)
    → out_new ≡ out → OpeningStops files stop → OfOutput ListAll (given input files) 0 (Err (of_store stop)) (sink_move held faults out out_new)
list_stopped K held faults out out_new input files stop same stops = stopped ListAll (given input files) K held faults out out_new (of_store stop) (list_ends input files stop stops) same (not_output files stop stops)

check_ends : (input : Option (List ℕ)) (files : Option Files) (stop : Stop StoreRefusal) → OpeningStops files stop → Answers Check (given input files) 0 (Err (of_store stop)) []
check_ends input files Usage stops = absurd stops
check_ends input files Source stops = absurd stops
check_ends input files Output stops = absurd stops
check_ends input files Volume stops = (search rules, refl)
check_ends input files OutOfMemory stops = (stops, refl, refl)
check_ends input files (Refused r) stops = (stops, refl)

pub check_stopped : (K : Type 0) (held : K → Option (List ℕ)) (faults : K → ℕ) (out out_new : K) (input : Option (List ℕ)) (files : Option Files) (stop : Stop StoreRefusal)
    → out_new ≡ out → OpeningStops files stop → OfOutput Check (given input files) 0 (Err (of_store stop)) (sink_move held faults out out_new)
check_stopped K held faults out out_new input files stop same stops = stopped Check (given input files) K held faults out out_new (of_store stop) (check_ends input files stop stops) same (not_output files stop stops)

recover_ends : (input : Option (List ℕ)) (files : Option Files) (stop : Stop StoreRefusal) → Recovers files (Err stop) → Answers Recover (given input files) 0 (Err (of_store stop)) []
recover_ends input files Usage is = absurd is
recover_ends input files Source is = absurd is
recover_ends input files Output is = absurd is
recover_ends input files Volume is = (search rules, refl)
recover_ends input files OutOfMemory is = absurd is
recover_ends input files (Refused r) is = (is, refl)

no_output : (files : Option Files) (stop : Stop StoreRefusal) → Recovers files (Err stop) → of_store stop ≡ Output → ⊥
no_output files stop recovers is = let none : Recovers files (Err Output) = subst (λ (s : Stop StoreRefusal). Recovers files (Err s)) (store_output stop is) recovers in none

pub recover_stopped : (K : Type 0) (held : K → Option (List ℕ)) (faults : K → ℕ) (out out_new : K) (input : Option (List ℕ)) (files : Option Files) (stop : Stop StoreRefusal)
    → out_new ≡ out → Recovers files (Err stop) → OfOutput Recover (given input files) 0 (Err (of_store stop)) (sink_move held faults out out_new)
recover_stopped K held faults out out_new input files stop same is = stopped Recover (given input files) K held faults out out_new (of_store stop) (recover_ends input files stop is) same (no_output files stop is)

-- ---- the lines

-- the cause of an end of lines is that of the command's end
pub line_output : (r : LineEnd) (old new : ℕ) → IsCause (r ≡ Err LineOutput) old new → IsCause (end_of r ≡ Err Output) old new
line_output (Ok x) old new c = record { counts = c.counts; failed = λ is. absurd cc; rose = λ rose. absurd (let no = c.rose rose in cc) }
line_output (Err LineOutput) old new c = record { counts = c.counts; failed = λ is. c.failed refl; rose = λ rose. refl }
line_output (Err LineVolume) old new c = record { counts = c.counts; failed = λ is. absurd cc; rose = λ rose. absurd (let no = c.rose rose in cc) }

pub line_volume : (r : LineEnd) (old new : ℕ) → IsCause (r ≡ Err LineVolume) old new → IsCause (end_of r ≡ Err Volume) old new
line_volume (Ok x) old new c = record { counts = c.counts; failed = λ is. absurd cc; rose = λ rose. absurd (let no = c.rose rose in cc) }
line_volume (Err LineOutput) old new c = record { counts = c.counts; failed = λ is. absurd cc; rose = λ rose. absurd (let no = c.rose rose in cc) }
line_volume (Err LineVolume) old new c = record { counts = c.counts; failed = λ is. c.failed refl; rose = λ rose. refl }

pub list_gave : (input : Option (List ℕ)) (told told_mid : Bool) (h : History) (s : SessionState) (d : Disk) (sink : SinkMove)
    → told_mid ≡ told → (IsTrue told → IsOpened s (contents Bundle h) (contents Journal h) d) → ListGave told_mid d.bundle.now (Ok tt) sink.held.old sink.held.new → sink.faults.new ≡ sink.faults.old
    → OfOutput ListAll (given input (files_of told h)) 0 (Ok tt) sink
list_gave input told told_mid h s d sink tells opened (lines, (is, holds)) count =
    gave ListAll (given input (files_of told h)) lines sink (of_bundle told h (λ b. lines ≡ listing b 16384) s d opened (λ t. is (tells ∙ t))) holds count

pub list_cut : (input : Option (List ℕ)) (told told_mid : Bool) (h : History) (s : SessionState) (d : Disk) (failed : Failed) (sink : SinkMove)
    → told_mid ≡ told → (IsTrue told → IsOpened s (contents Bundle h) (contents Journal h) d) → ListGave told_mid d.bundle.now (Err failed) sink.held.old sink.held.new
    → sink.faults.old ≤ sink.faults.new → FailedBetween sink.faults.old sink.faults.new → OfOutput ListAll (given input (files_of told h)) 0 (Err Output) sink
list_cut input told told_mid h s d failed sink tells opened (k, (below, (lines, (is, holds)))) counts failure = record {
  cause = record { counts = counts; failed = λ _. failure; rose = λ _. refl };
  gave = (lines, ((k, (below, of_bundle told h (λ b. lines ≡ listing b (128 * k)) s d opened (λ t. is (tells ∙ t)))), holds));
  idle = λ never. absurd never;
}

-- a call more, which leaves the volume alone
pub reads_still : (P Q V : Type 0) (told : V → Bool) (history : V → History) (faults : V → ℕ) (old mid new : V) → new ≡ mid → (P → ⊥) → (Q → ⊥)
    → OfReading P (volume_move told history faults old mid) → OfReading Q (volume_move told history faults old new)
reads_still P Q V told history faults old mid new same never none so =
    subst (λ (v : V). OfReading Q (volume_move told history faults old v)) (sym same) (reads_as P Q (volume_move told history faults old mid) (λ p. absurd (never p)) (λ q. absurd (none q)) so)

pub checked : (K : Type 0) (held : K → Option (List ℕ)) (faults : K → ℕ) (out out_new : K) (input : Option (List ℕ)) (told told_mid : Bool) (h : History) (s : SessionState) (d : Disk) (r : LineEnd)
    → told_mid ≡ told → (IsTrue told → IsOpened s (contents Bundle h) (contents Journal h) d) → CheckGave told_mid d.bundle.now r (out_new ≡ out) (held out) (held out_new) → IsCause (r ≡ Err LineOutput) (faults out) (faults out_new)
    → OfOutput Check (given input (files_of told h)) 0 (end_of r) (sink_move held faults out out_new)
checked K held faults out out_new input told told_mid h s d (Ok x) tells opened (report, (is, holds)) cause = record {
  cause = line_output (Ok x) (faults out) (faults out_new) cause;
  gave = (check_lines report, ((report, (of_bundle told h (λ b. Reports b 16384 report) s d opened (λ t. is (tells ∙ t)), refl)), holds));
  idle = λ never. absurd never;
}
checked K held faults out out_new input told told_mid h s d (Err LineVolume) tells opened same cause = record {
  cause = line_output (Err LineVolume) (faults out) (faults out_new) cause;
  gave = ([], ((search rules, refl), subst (λ (x : Option (List ℕ)). Holds (held out) x []) (sym (ap held same)) (Holds_none (held out))));
  idle = λ never. absurd never;
}
checked K held faults out out_new input told told_mid h s d (Err LineOutput) tells opened (report, (is, holds)) cause = record {
  cause = line_output (Err LineOutput) (faults out) (faults out_new) cause;
  gave = (check_lines report, ((report, (of_bundle told h (λ b. Reports b 16384 report) s d opened (λ t. is (tells ∙ t)), refl)), holds));
  idle = λ never. absurd never;
}

-- ---- the line of a recovery

pub recovery_gave : (input : Option (List ℕ)) (files : Option Files) (done : Recovery) (sink : SinkMove)
    → Recovers files (Ok done) → Holds sink.held.old sink.held.new (recovery_line done) → sink.faults.new ≡ sink.faults.old → OfOutput Recover (given input files) 0 (Ok tt) sink
recovery_gave input files done sink recovers holds count =
    gave Recover (given input files) (recovery_line done) sink (done, (recovers, refl)) holds count

pub recovery_cut : (input : Option (List ℕ)) (files : Option Files) (done : Recovery) (sink : SinkMove)
    → Recovers files (Ok done) → HoldsPrefix sink.held.old sink.held.new (recovery_line done) → sink.faults.old ≤ sink.faults.new → FailedBetween sink.faults.old sink.faults.new → OfOutput Recover (given input files) 0 (Err Output) sink
recovery_cut input files done sink recovers holds counts failed =
    cut Recover (given input files) (recovery_line done) sink (done, (recovers, refl)) holds counts failed
