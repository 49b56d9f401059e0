-- An object that a command does not touch is left as its contract says.
use Rattle.std.proofs.Common.{◌≡◌, ℕ, List, [], Option, Bool, Err, refl, subst, arith}
use Rattle.std.specs.Prelude.{IsTrue, IsFalse}
use Rattle.outside_io.specs.declared.volume.VolFile.TheVariants.{Bundle, Journal}
use Rattle.outside_io.specs.volume.History.{History, contents, current}
use Rattle.bundle_store.specs.Starts.{KeepsStart}
use Rattle.bundle_store.specs.Tiles.{TileMap}
use Rattle.program_ends.specs.Moves.{SinkMove, VolumeMove, source_move, volume_move}
use Rattle.lerc_cli.specs.declared.words.Command.{Command}
use Rattle.lerc_cli.specs.declared.words.Command.TheVariants.{Encode, Decode, Info, Build, Put, Get, GetRaw, List as ListAll, Check, Recover, Sample}
use Rattle.program_ends.specs.declared.stop.Stop.TheVariants.{Source, Volume}
use Rattle.lerc_cli.specs.words.Commands.{reads_source, calls_volume, makes_updates}
use Rattle.lerc_cli.specs.answers.Names.{End}
use Rattle.lerc_cli.specs.inputs.Given.{Given}
use Rattle.lerc_cli.specs.answers.Table.{Answers}
use Rattle.lerc_cli.specs.run.Run.{MarksAt, OfOutput, OfSource, OfVolume, TakesFor}
use Rattle.opened_bundle.specs.Left.{IsReady, OfReading}
use Rattle.opened_bundle.proofs.BundleOpening.{keeps_start}
use Rattle.opened_bundle.proofs.Standing.{idle_keeps, left_by}
use Rattle.lerc_cli.specs.crashes.Kept.{KeepsTiles, RestsKeepOneMap}
use Rattle.lerc_cli.specs.crashes.Phase.{Phase, NotCalled, Recovered, ComesTo, Rests, UpdatesComeTo}
use Rattle.bundle_store.specs.declared.tile_rec.TileRec.{TileRec}
use Rattle.bundle_lines.proofs.Kept.{build_at_rest, build_unmarked, puts_at_rest, puts_unmarked, start_at_rest}
use Rattle.bundle_lines.proofs.Marked.{no_groups, no_marks}

-- no test is both
pub clash : (b : Bool) → IsTrue b → IsFalse b → ⊥
clash b yes_ no_ = cc

-- none of these updates has a mark
pub keeps_without_marks : (c : Command) (us : List TileRec) (start : TileMap) (told : Bool) (old new : History) → IsReady told old start → KeepsStart old new → KeepsTiles c us [] start old new
keeps_without_marks (Encode version error) us start told old new ready kept = kept
keeps_without_marks Decode us start told old new ready kept = kept
keeps_without_marks Info us start told old new ready kept = kept
keeps_without_marks (Build version error workers) us start told old new ready kept = build_unmarked start us old new kept
keeps_without_marks (Put version error workers) us start told old new ready kept =
    let stands = ready.stands in
    let left = left_by (contents Bundle old) (contents Journal old) stands.state start stands.says stands.shows in
    (left.0, (left.1, no_groups left.0 us, puts_unmarked left.0 start us old new kept))
keeps_without_marks (Get slot) us start told old new ready kept = kept
keeps_without_marks (GetRaw slot) us start told old new ready kept = kept
keeps_without_marks ListAll us start told old new ready kept = kept
keeps_without_marks Check us start told old new ready kept = kept
keeps_without_marks Recover us start told old new ready kept = kept
keeps_without_marks (Sample first count) us start told old new ready kept = kept

-- nothing is pending at the start
pub keeps_from_rest : RestsKeepOneMap
keeps_from_rest (Encode version error) told us marks start old new quiet ready kept = start_at_rest start old new quiet ready.stands kept
keeps_from_rest Decode told us marks start old new quiet ready kept = start_at_rest start old new quiet ready.stands kept
keeps_from_rest Info told us marks start old new quiet ready kept = start_at_rest start old new quiet ready.stands kept
keeps_from_rest (Build version error workers) told us marks start old new quiet ready kept = build_at_rest start old new quiet ready.stands us marks kept
keeps_from_rest (Put version error workers) told us marks start old new quiet ready kept = (kept.0, (kept.1.0, kept.1.1, puts_at_rest start old new quiet ready.stands kept.0 us marks kept.1.2))
keeps_from_rest (Get slot) told us marks start old new quiet ready kept = start_at_rest start old new quiet ready.stands kept
keeps_from_rest (GetRaw slot) told us marks start old new quiet ready kept = start_at_rest start old new quiet ready.stands kept
keeps_from_rest ListAll told us marks start old new quiet ready kept = start_at_rest start old new quiet ready.stands kept
keeps_from_rest Check told us marks start old new quiet ready kept = start_at_rest start old new quiet ready.stands kept
keeps_from_rest Recover told us marks start old new quiet ready kept = start_at_rest start old new quiet ready.stands kept
keeps_from_rest (Sample first count) told us marks start old new quiet ready kept = start_at_rest start old new quiet ready.stands kept

-- how far a command comes that does not call the volume, that reads the bundle, or that makes updates
idle_comes : (c : Command) (end : End) → IsFalse (calls_volume c) → ComesTo c end NotCalled
idle_comes (Encode version error) end idle = refl
idle_comes Decode end idle = refl
idle_comes Info end idle = refl
idle_comes (Build version error workers) end idle = absurd (let bad : ⊥ = cc in bad)
idle_comes (Put version error workers) end idle = absurd (let bad : ⊥ = cc in bad)
idle_comes (Get slot) end idle = absurd (let bad : ⊥ = cc in bad)
idle_comes (GetRaw slot) end idle = absurd (let bad : ⊥ = cc in bad)
idle_comes ListAll end idle = absurd (let bad : ⊥ = cc in bad)
idle_comes Check end idle = absurd (let bad : ⊥ = cc in bad)
idle_comes Recover end idle = absurd (let bad : ⊥ = cc in bad)
idle_comes (Sample first count) end idle = refl

reading_comes : (c : Command) (end : End) → IsTrue (calls_volume c) → IsFalse (makes_updates c) → ComesTo c end Recovered
reading_comes (Encode version error) end calls none = absurd (let bad : ⊥ = cc in bad)
reading_comes Decode end calls none = absurd (let bad : ⊥ = cc in bad)
reading_comes Info end calls none = absurd (let bad : ⊥ = cc in bad)
reading_comes (Build version error workers) end calls none = absurd (let bad : ⊥ = cc in bad)
reading_comes (Put version error workers) end calls none = absurd (let bad : ⊥ = cc in bad)
reading_comes (Get slot) end calls none = refl
reading_comes (GetRaw slot) end calls none = refl
reading_comes ListAll end calls none = refl
reading_comes Check end calls none = refl
reading_comes Recover end calls none = refl
reading_comes (Sample first count) end calls none = absurd (let bad : ⊥ = cc in bad)

pub updating_comes : (c : Command) (end : End) (phase : Phase) → IsTrue (makes_updates c) → UpdatesComeTo end phase → ComesTo c end phase
updating_comes (Encode version error) end phase makes comes = absurd (let bad : ⊥ = cc in bad)
updating_comes Decode end phase makes comes = absurd (let bad : ⊥ = cc in bad)
updating_comes Info end phase makes comes = absurd (let bad : ⊥ = cc in bad)
updating_comes (Build version error workers) end phase makes comes = comes
updating_comes (Put version error workers) end phase makes comes = comes
updating_comes (Get slot) end phase makes comes = absurd (let bad : ⊥ = cc in bad)
updating_comes (GetRaw slot) end phase makes comes = absurd (let bad : ⊥ = cc in bad)
updating_comes ListAll end phase makes comes = absurd (let bad : ⊥ = cc in bad)
updating_comes Check end phase makes comes = absurd (let bad : ⊥ = cc in bad)
updating_comes Recover end phase makes comes = absurd (let bad : ⊥ = cc in bad)
updating_comes (Sample first count) end phase makes comes = absurd (let bad : ⊥ = cc in bad)

-- there are no marks
pub none_at : (c : Command) (moment : ℕ) → MarksAt c [] moment
none_at (Encode version error) moment = tt
none_at Decode moment = tt
none_at Info moment = tt
none_at (Build version error workers) moment = refl
none_at (Put version error workers) moment = tt
none_at (Get slot) moment = tt
none_at (GetRaw slot) moment = tt
none_at ListAll moment = tt
none_at Check moment = tt
none_at Recover moment = tt
none_at (Sample first count) moment = tt

-- the volume was not called
pub untouched : (c : Command) (g : Given) (end : End) (V : Type 0) (told : V → Bool) (history : V → History) (faults : V → ℕ) (vol : V)
    → ComesTo c end NotCalled → (end ≡ Err Volume → ⊥) → OfVolume c g end [] (volume_move told history faults vol vol)
untouched c g end V told history faults vol comes well = record {
  cause = record { counts = omega arith; failed = λ is_volume. absurd (well is_volume); rose = λ rose. absurd (omega arith) };
  told = refl;
  later = λ tells none. omega arith;
  unmarked = λ _. refl;
  marks_are = λ tells. no_marks (history vol).moment (history vol).moment;
  marks_at = none_at c (history vol).moment;
  phase = NotCalled;
  comes = comes;
  left = refl;
  tiles = λ start ready. ([], ((NotCalled, (comes, refl)), keeps_without_marks c [] start (told vol) (history vol) (history vol) ready (idle_keeps (history vol) ready.sound)));
}

-- the volume of a command that does not call it
pub volume_idle : (c : Command) (g : Given) (n : ℕ) (end : End) (sink : SinkMove) (V : Type 0) (told : V → Bool) (history : V → History) (faults : V → ℕ) (vol : V)
    → IsFalse (calls_volume c) → OfOutput c g n end sink → OfVolume c g end [] (volume_move told history faults vol vol)
volume_idle c g n end sink V told history faults vol idle out =
    untouched c g end V told history faults vol (idle_comes c end idle)
    (λ failed. let there : Answers c g n (Err Volume) out.gave.0 = subst (λ (x : End). Answers c g n x out.gave.0) failed out.gave.1.0 in clash (calls_volume c) there.0 idle)

-- the bundle was recovered, and no more was done
pub recovered_volume : (c : Command) (g : Given) (end : End) (vol : VolumeMove)
    → ComesTo c end Recovered → OfReading (end ≡ Err Volume) vol → (IsTrue vol.told.old → Rests end (contents Journal vol.history.old) (current vol.history.new))
    → OfVolume c g end [] vol
recovered_volume c g end vol comes so rests = record {
  cause = so.cause;
  told = so.told;
  later = λ tells _. so.later tells;
  unmarked = λ _. refl;
  marks_are = λ tells. no_marks vol.history.old.moment vol.history.new.moment;
  marks_at = none_at c vol.history.new.moment;
  phase = Recovered;
  comes = comes;
  left = λ tells well. record { reads = so.reads tells well; rests = rests tells };
  tiles = λ start ready. ([], ((Recovered, (comes, refl)), keeps_without_marks c [] start vol.told.old vol.history.old vol.history.new ready (keeps_start (end ≡ Err Volume) vol so ready.tells ready.sound)));
}

-- the volume of a command that reads the bundle
pub reading_volume : (c : Command) (g : Given) (end : End) (vol : VolumeMove)
    → IsTrue (calls_volume c) → IsFalse (makes_updates c) → OfReading (end ≡ Err Volume) vol → (IsTrue vol.told.old → Rests end (contents Journal vol.history.old) (current vol.history.new))
    → OfVolume c g end [] vol
reading_volume c g end vol calls none so rests = recovered_volume c g end vol (reading_comes c end calls none) so rests

-- nothing was taken
untaken : (c : Command) (left : Option (List ℕ)) → IsFalse (reads_source c) → TakesFor c left left
untaken (Encode version error) left idle = absurd (let no : ⊥ = cc in no)
untaken Decode left idle = absurd (let no : ⊥ = cc in no)
untaken Info left idle = absurd (let no : ⊥ = cc in no)
untaken (Build version error workers) left idle = absurd (let bad : ⊥ = cc in bad)
untaken (Put version error workers) left idle = absurd (let bad : ⊥ = cc in bad)
untaken (Get slot) left idle = refl
untaken (GetRaw slot) left idle = refl
untaken ListAll left idle = refl
untaken Check left idle = refl
untaken Recover left idle = refl
untaken (Sample first count) left idle = refl

-- the source of a command that does not read it
pub source_idle : (c : Command) (g : Given) (n : ℕ) (end : End) (sink : SinkMove) (S : Type 0) (left : S → Option (List ℕ)) (faults : S → ℕ) (src : S)
    → IsFalse (reads_source c) → OfOutput c g n end sink → OfSource c end (source_move left faults src src)
source_idle c g n end sink S left faults src idle out = record {
  cause = record {
    counts = omega arith;
    failed = λ is. absurd (
        let there : Answers c g n (Err Source) out.gave.0 = subst (λ (x : End). Answers c g n x out.gave.0) is out.gave.1.0 in clash (reads_source c) there.0 idle);
    rose = λ rose. absurd (omega arith);
  };
  taken = untaken c (left src) idle;
  whole = λ reads. absurd (clash (reads_source c) reads idle);
  idle = λ _. refl;
}
