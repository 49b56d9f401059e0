-- What a run of `put` leaves, by how it ends.
use Rattle.std.proofs.Common.{◌≡◌, ◌⊎◌, inl, inr, ℕ, ◌≤◌, List, [], length, take, Bool, Option, Result, Ok, Err, refl, sym, ◌∙◌, ap, subst, rules, arith}
use Rattle.std.specs.Prelude.{IsTrue, Vec}
use Rattle.std.specs.declared.alloc.Global.{Global}
use Rattle.std.proofs.lemmas.Bool.{cases_lt}
use Rattle.outside_io.specs.declared.volume.VolFile.TheVariants.{Bundle, Journal}
use Rattle.outside_io.specs.streams.Faults.{IsCause}
use Rattle.outside_io.specs.volume.Disk.{Disk, File}
use Rattle.outside_io.specs.volume.History.{History, contents, current}
use Rattle.lerc_header.specs.declared.header.Version.{Version}
use Rattle.lerc_header.specs.Written.{step_of}
use Rattle.bundle_store.specs.declared.tile_rec.TileRec.{TileRec}
use Rattle.bundle_store.specs.Images.{HoldsClosed}
use Rattle.bundle_store.specs.Session.{SessionState}
use Rattle.bundle_store.specs.Tiles.{tiles}
use Rattle.bundle_lines.specs.declared.stop.PutStop.TheVariants.{Output as PutOutput, Volume as PutVolume, Full as PutFull}
use Rattle.bundle_lines.specs.Gave.{PutEnd, PutGave, UnlessVolume}
use Rattle.bundle_lines.specs.Lines.{put_lines}
use Rattle.bundle_lines.specs.Puts.{AreMarks, EndsByRoom, HaveRoom, IsFirstFull, KeepsFullLength, PutsLeave, bundle_after_puts}
use Rattle.bundle_lines.proofs.Kept.{puts_from}
use Rattle.tile_updates.specs.declared.stop.StreamStop.{StreamStop}
use Rattle.tile_updates.specs.declared.stop.StreamStop.TheVariants.{TooManyTiles as ManyTiles, Fault as TileFaultOf, DepthNeedsV4 as DeepTile, TileTooLarge as LargeTile, KeptTooMuch as MuchKept, Source as StreamSource, OutOfMemory as StreamMemory}
use Rattle.program_ends.specs.Moves.{Change, SinkMove, sink_move, volume_move}
use Rattle.lerc_cli.specs.declared.words.Command.TheVariants.{Put}
use Rattle.program_ends.specs.declared.stop.Stop.{Stop}
use Rattle.lerc_cli.specs.declared.refusal.Refusal.{Refusal}
use Rattle.program_ends.specs.declared.stop.Stop.TheVariants.{Usage, Refused, Source, Output, Volume, OutOfMemory}
use Rattle.lerc_cli.specs.answers.Table.{Answers, IsPutSoFar, UpdatesOf}
use Rattle.opened_bundle.specs.Files.{Files, files_of}
use Rattle.lerc_cli.specs.inputs.Given.{Given, given}
use Rattle.lerc_cli.specs.inputs.Refused.{IsNoUpdates, stream_stop_of}
use Rattle.program_ends.specs.Stop.{Gained}
use Rattle.lerc_cli.specs.run.Run.{OfOutput, OfVolume, StopsBeforeOutput}
use Rattle.lerc_cli.specs.answers.Names.{End}
use Rattle.opened_bundle.specs.Left.{OfReading}
use Rattle.lerc_cli.specs.crashes.Phase.{Updated, UpdatesComeTo}
use Rattle.opened_bundle.specs.Opening.{IsOpened, OpeningStops}
use Rattle.lerc_cli.specs.inside.Updates.{put_end_of}
use Rattle.opened_bundle.proofs.BundleOpening.{failed_later, keeps_start, of_bundle}
use Rattle.opened_bundle.specs.declared.refusal.StoreRefusal.{StoreRefusal}
use Rattle.lerc_cli.specs.inside.Opening.{of_store}
use Rattle.lerc_cli.proofs.AnswerLemmas.Stores.{store_output, store_source}
use Rattle.opened_bundle.proofs.Resting.{shut_held}
use Rattle.lerc_cli.proofs.AnswerLemmas.Outputs.{stopped}

-- ---- reading the updates

pub stream_cause : (s : StreamStop) (old new : ℕ) → IsCause (◌≡◌ {A = Result (Vec TileRec Global) StreamStop} (Err s) (Err StreamSource)) old new → IsCause (stream_stop_of s ≡ Source) old new
stream_cause ManyTiles old new c = record { counts = c.counts; failed = λ is. absurd cc; rose = λ rose. absurd (let bad = c.rose rose in cc) }
stream_cause (TileFaultOf f) old new c = record { counts = c.counts; failed = λ is. absurd cc; rose = λ rose. absurd (let bad = c.rose rose in cc) }
stream_cause (DeepTile at) old new c = record { counts = c.counts; failed = λ is. absurd cc; rose = λ rose. absurd (let bad = c.rose rose in cc) }
stream_cause (LargeTile at len) old new c = record { counts = c.counts; failed = λ is. absurd cc; rose = λ rose. absurd (let bad = c.rose rose in cc) }
stream_cause (MuchKept at) old new c = record { counts = c.counts; failed = λ is. absurd cc; rose = λ rose. absurd (let bad = c.rose rose in cc) }
stream_cause StreamSource old new c = record { counts = c.counts; failed = λ is. c.failed refl; rose = λ rose. refl }
stream_cause StreamMemory old new c = record { counts = c.counts; failed = λ is. absurd cc; rose = λ rose. absurd (let bad = c.rose rose in cc) }

-- neither is so
pub no_cause : (P Q : Type 0) (old new : ℕ) → (P → ⊥) → (Q → ⊥) → IsCause P old new → IsCause Q old new
no_cause P Q old new none never c = record { counts = c.counts; failed = λ is. absurd (never is); rose = λ rose. absurd (none (c.rose rose)) }

-- ---- the input has no updates, or memory was refused before the volume was called

early_ends : (v : Version) (e w : ℕ) (g : Given) (s : StreamStop) → IsNoUpdates v (step_of e) g.input (stream_stop_of s) → Answers (Put v e w) g 0 (Err (stream_stop_of s)) []
early_ends v e w g ManyTiles is = (inl (refl, is), refl)
early_ends v e w g (TileFaultOf f) is = (inl (refl, is), refl)
early_ends v e w g (DeepTile at) is = (inl (refl, is), refl)
early_ends v e w g (LargeTile at len) is = (inl (refl, is), refl)
early_ends v e w g (MuchKept at) is = (inl (refl, is), refl)
early_ends v e w g StreamSource is = (search rules, refl, refl)
early_ends v e w g StreamMemory is = (tt, refl, refl)

memory_ends : (v : Version) (e w : ℕ) (g : Given) → Answers (Put v e w) g 0 (Err OutOfMemory) []
memory_ends v e w g = (tt, refl, refl)

-- the stop is one of these
abbrev Early : Version → ℕ → Given → Stop Refusal → Type 0
Early v e g stop = (stop ≡ OutOfMemory) ⊎ IsNoUpdates v (step_of e) g.input stop

any_early_ends : (v : Version) (e w : ℕ) (g : Given) (stop : Stop Refusal) → Early v e g stop → Answers (Put v e w) g 0 (Err stop) []
any_early_ends v e w g stop (inl is) = subst (λ (s : Stop Refusal). Answers (Put v e w) g 0 (Err s) []) (sym is) (memory_ends v e w g)
any_early_ends v e w g stop (inr (s, (is, tells))) =
    subst (λ (x : Stop Refusal). Answers (Put v e w) g 0 (Err x) []) (sym is) (early_ends v e w g s (s, (refl, tells)))

stream_not_output : (s : StreamStop) → stream_stop_of s ≡ Output → ⊥
stream_not_output ManyTiles is = cc
stream_not_output (TileFaultOf f) is = cc
stream_not_output (DeepTile at) is = cc
stream_not_output (LargeTile at len) is = cc
stream_not_output (MuchKept at) is = cc
stream_not_output StreamSource is = cc
stream_not_output StreamMemory is = cc

pub early_not_output : (v : Version) (e : ℕ) (g : Given) (stop : Stop Refusal) → Early v e g stop → stop ≡ Output → ⊥
early_not_output v e g stop (inl is) so = let bad : OutOfMemory ≡ Output = sym is ∙ so in cc
early_not_output v e g stop (inr (s, (is, tells))) so = stream_not_output s (sym is ∙ so)

pub early_output : (v : Version) (e w : ℕ) (g : Given) (K : Type 0) (held : K → Option (List ℕ)) (faults : K → ℕ) (out out_new : K) (stop : Stop Refusal) → out_new ≡ out → Early v e g stop
    → OfOutput (Put v e w) g 0 (Err stop) (sink_move held faults out out_new)
early_output v e w g K held faults out out_new stop same early =
    stopped (Put v e w) g K held faults out out_new stop (any_early_ends v e w g stop early) same (early_not_output v e g stop early)

-- ---- the bundle was not opened

unopened_ends : (v : Version) (e w : ℕ) (g : Given) (us : List TileRec) (stop : Stop StoreRefusal) → UpdatesOf (Put v e w) g us → OpeningStops g.files stop → Answers (Put v e w) g 0 (Err (of_store stop)) []
unopened_ends v e w g us Usage of stops = absurd stops
unopened_ends v e w g us Source of stops = absurd stops
unopened_ends v e w g us Output of stops = absurd stops
unopened_ends v e w g us Volume of stops = (search rules, inl (refl, refl))
unopened_ends v e w g us OutOfMemory of stops = (tt, refl, refl)
unopened_ends v e w g us (Refused r) of stops = (inr (inl (refl, (us, (of, (r, (refl, stops)))))), inl (refl, refl))

pub not_output : (files : Option Files) (stop : Stop StoreRefusal) → OpeningStops files stop → of_store stop ≡ Output → ⊥
not_output files stop stops is = let none : OpeningStops files Output = subst (λ (s : Stop StoreRefusal). OpeningStops files s) (store_output stop is) stops in none

pub unopened_output : (v : Version) (e w : ℕ) (g : Given) (us : List TileRec) (K : Type 0) (held : K → Option (List ℕ)) (faults : K → ℕ) (out out_new : K) (stop : Stop StoreRefusal) → out_new ≡ out
    → UpdatesOf (Put v e w) g us → OpeningStops g.files stop → OfOutput (Put v e w) g 0 (Err (of_store stop)) (sink_move held faults out out_new)
unopened_output v e w g us K held faults out out_new stop same of stops =
    stopped (Put v e w) g K held faults out out_new (of_store stop) (unopened_ends v e w g us stop of stops) same (not_output g.files stop stops)

pub not_source : (files : Option Files) (stop : Stop StoreRefusal) → OpeningStops files stop → ◌≡◌ {A = End} (Err (of_store stop)) (Err Source) → ⊥
not_source files stop stops is =
    let same : of_store stop ≡ Source = cc in
    let none : OpeningStops files Source = subst (λ (s : Stop StoreRefusal). OpeningStops files s) (store_source stop same) stops in none

-- ---- the updates were put

pub puts_not_source : (r : PutEnd) → put_end_of r ≡ Err Source → ⊥
puts_not_source (Ok x) is = absurd cc
puts_not_source (Err PutOutput) is = absurd cc
puts_not_source (Err PutVolume) is = absurd cc
puts_not_source (Err (PutFull len)) is = absurd cc

cut_off : (v : Version) (e w : ℕ) (g : Given) (us : List TileRec) (n : ℕ) → UpdatesOf (Put v e w) g us → n ≤ length us → IsPutSoFar (Put v e w) g n (put_lines (take n us))
cut_off v e w g us n of within = inr (us, (of, within, refl))

put_output : (r : PutEnd) (old new : ℕ) → IsCause (r ≡ Err PutOutput) old new → IsCause (put_end_of r ≡ Err Output) old new
put_output (Ok x) old new c = record { counts = c.counts; failed = λ is. absurd cc; rose = λ rose. absurd (let no = c.rose rose in cc) }
put_output (Err PutOutput) old new c = record { counts = c.counts; failed = λ is. c.failed refl; rose = λ rose. refl }
put_output (Err PutVolume) old new c = record { counts = c.counts; failed = λ is. absurd cc; rose = λ rose. absurd (let no = c.rose rose in cc) }
put_output (Err (PutFull len)) old new c = record { counts = c.counts; failed = λ is. absurd cc; rose = λ rose. absurd (let no = c.rose rose in cc) }

put_volume : (r : PutEnd) (old new : ℕ) → IsCause (r ≡ Err PutVolume) old new → IsCause (put_end_of r ≡ Err Volume) old new
put_volume (Ok x) old new c = record { counts = c.counts; failed = λ is. absurd cc; rose = λ rose. absurd (let no = c.rose rose in cc) }
put_volume (Err PutOutput) old new c = record { counts = c.counts; failed = λ is. absurd cc; rose = λ rose. absurd (let no = c.rose rose in cc) }
put_volume (Err PutVolume) old new c = record { counts = c.counts; failed = λ is. c.failed refl; rose = λ rose. refl }
put_volume (Err (PutFull len)) old new c = record { counts = c.counts; failed = λ is. absurd cc; rose = λ rose. absurd (let no = c.rose rose in cc) }

-- what was given, over the bundle that was opened
put_gave : (v : Version) (e w : ℕ) (input : Option (List ℕ)) (told : Bool) (h : History) (s : SessionState) (d : Disk) (us : List TileRec) (n : ℕ) (r : PutEnd) (held : Change (Option (List ℕ)))
    → UpdatesOf (Put v e w) (given input (files_of told h)) us → (IsTrue told → IsOpened s (contents Bundle h) (contents Journal h) d) → (IsTrue told → EndsByRoom r d.bundle.now us n) → KeepsFullLength r us n
    → PutGave r us n held.old held.new → (output : List ℕ) × (Answers (Put v e w) (given input (files_of told h)) n (put_end_of r) output × Gained (put_end_of r) held output)
put_gave v e w input told h s d us n (Ok x) held of opened room full (all, holds) =
    (put_lines us, ((us, (of, all, of_bundle told h (λ b. HaveRoom b us n) s d opened room, refl)), holds))
put_gave v e w input told h s d us n (Err PutOutput) held of opened room full (some, within, holds) =
    (put_lines (take n us), (cut_off v e w (given input (files_of told h)) us n of within, holds))
put_gave v e w input told h s d us n (Err PutVolume) held of opened room full (within, holds) =
    (put_lines (take n us), ((search rules, cut_off v e w (given input (files_of told h)) us n of (omega (arith, within))), holds))
put_gave v e w input told h s d us n (Err (PutFull len)) held of opened room full (within, holds) = (
  put_lines (take n us),
  (
    (inr (inr (len, (refl, (us, (of, within, full, of_bundle told h (λ b. IsFirstFull b us n len) s d opened room))))), cut_off v e w (given input (files_of told h)) us n of (omega (arith, within))),
    holds,
  ),
)

never_idle : (r : PutEnd) → (StopsBeforeOutput (put_end_of r) → ⊥)
never_idle (Ok x) is = is
never_idle (Err PutOutput) is = is
never_idle (Err PutVolume) is = is
never_idle (Err (PutFull len)) is = is

pub put_all_output : (v : Version) (e w : ℕ) (input : Option (List ℕ)) (told : Bool) (h : History) (s : SessionState) (d : Disk) (us : List TileRec) (n : ℕ) (r : PutEnd) (sink : SinkMove)
    → UpdatesOf (Put v e w) (given input (files_of told h)) us → (IsTrue told → IsOpened s (contents Bundle h) (contents Journal h) d) → (IsTrue told → EndsByRoom r d.bundle.now us n) → KeepsFullLength r us n
    → PutGave r us n sink.held.old sink.held.new → IsCause (r ≡ Err PutOutput) sink.faults.old sink.faults.new → OfOutput (Put v e w) (given input (files_of told h)) n (put_end_of r) sink
put_all_output v e w input told h s d us n r sink of opened room full gave cause = record {
  cause = put_output r sink.faults.old sink.faults.new cause;
  gave = put_gave v e w input told h s d us n r sink.held of opened room full gave;
  idle = λ before. absurd (never_idle r before);
}

-- ---- the volume

pub earlier_marks : (marks : List ℕ) (from mid to : ℕ) → from ≤ mid → AreMarks marks mid to → AreMarks marks from to
earlier_marks marks from mid to first are = record { rising = are.rising; within = λ i lt. (let is = are.within i lt in (omega (arith, first, is.0), is.1)) }

pub joined_cause : (P Q : Type 0) (f f_mid f_new : ℕ) → (P → ⊥) → IsCause P f f_mid → IsCause Q f_mid f_new → IsCause Q f f_new
joined_cause P Q f f_mid f_new well one two = record {
  counts = omega (arith, one.counts, two.counts);
  failed = λ q. failed_later f f_mid f_new one.counts (two.failed q);
  rose = λ rose. elim (cases_lt f f_mid) [ inl before ↦ absurd (well (one.rose before)) | inr after ↦ two.rose (omega (arith, after, rose)) ];
}

-- updates are begun
puts_come : (r : PutEnd) → UpdatesComeTo (put_end_of r) Updated
puts_come (Ok x) = refl
puts_come (Err PutOutput) = refl
puts_come (Err PutVolume) = refl
puts_come (Err (PutFull len)) = refl

answered : (r : PutEnd) (P : Type 0) → (put_end_of r ≡ Err Volume → ⊥) → UnlessVolume r P → P
answered (Ok x) P well p = p
answered (Err PutOutput) P well p = p
answered (Err PutVolume) P well p = absurd (well refl)
answered (Err (PutFull len)) P well p = p

pub put_all_volume : (v : Version) (e w : ℕ) (g : Given) (failed : Type 0) (V : Type 0) (told : V → Bool) (history : V → History) (faults : V → ℕ) (vol mid new : V) (s : SessionState) (us : List TileRec) (marks : List ℕ) (r : PutEnd)
    → UpdatesOf (Put v e w) g us → (failed → ⊥) → OfReading failed (volume_move told history faults vol mid)
    → (IsTrue (told vol) → IsOpened s (contents Bundle (history vol)) (contents Journal (history vol)) (current (history mid)))
    → IsCause (r ≡ Err PutVolume) (faults mid) (faults new) → told new ≡ told mid
    → (s_new : SessionState) → (IsTrue (told mid) → PutsLeave r us marks s_new (history mid) (history new))
    → OfVolume (Put v e w) g (put_end_of r) marks (volume_move told history faults vol new)
put_all_volume v e w g failed V told history faults vol mid new s us marks r of well so opened cause tells s_new leaves = record {
  cause = joined_cause failed (put_end_of r ≡ Err Volume) (faults vol) (faults mid) (faults new) well so.cause (put_volume r (faults mid) (faults new) cause);
  told = tells ∙ so.told;
  later = λ t none. absurd (let bad : ⊥ = cc in bad);
  unmarked = λ is. absurd (let bad : ⊥ = cc in bad);
  marks_are = λ t. earlier_marks marks (history vol).moment (history mid).moment (history new).moment (so.later t) (leaves (so.told ∙ t)).marks_are;
  marks_at = tt;
  phase = Updated;
  comes = puts_come r;
  left = λ t well_ended.
      let held : HoldsClosed (bundle_after_puts (contents Bundle (history mid)) (take (length marks) us)) (current (history new)) = answered r _ well_ended (leaves (so.told ∙ t)).reads in
      let o = opened t in
      record {
        updates = us;
        are = of;
        bundle = contents Bundle (history mid);
        left = inl (o.done, o.leaves);
        reads = ap (λ (x : File). x.now) held.bundle_is;
        rests = shut_held _ (current (history new)) held;
      };
  tiles = λ start ready.
      let o = opened ready.tells in
      let t = so.told ∙ ready.tells in (
        us,
        (
          (Updated, (puts_come r, of)),
          (
            contents Bundle (history mid),
            (
              inl (o.done, o.leaves),
              (leaves t).groups,
              puts_from us marks start (history vol) (history mid) (history new) ready.stands (keeps_start failed (volume_move told history faults vol mid) so ready.tells ready.sound)
                  o.recovered (leaves t).marks_are (leaves t).images,
            ),
          ),
        ),
      );
}
