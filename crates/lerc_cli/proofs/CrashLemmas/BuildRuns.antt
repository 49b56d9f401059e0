-- What a run of `build` leaves, by how it ends.
use Rattle.std.proofs.Common.{◌≡◌, ◌⊎◌, inl, inr, ℕ, ◌≤◌, List, [], length, replicate, take, Bool, Option, Ok, Err, refl, sym, ◌∙◌, ap, subst, rules, arith}
use Rattle.std.specs.Prelude.{IsTrue}
use Rattle.std.proofs.lemmas.List.{length-replicate, take_all}
use Rattle.outside_io.specs.declared.volume.VolFile.TheVariants.{Bundle, Journal}
use Rattle.outside_io.specs.streams.Faults.{IsCause}
use Rattle.outside_io.specs.volume.Disk.{Disk}
use Rattle.outside_io.specs.volume.History.{During, History, contents, current}
use Rattle.lerc_header.specs.declared.header.Version.{Version}
use Rattle.lerc_header.specs.Written.{step_of}
use Rattle.bundle_store.specs.declared.tile_rec.TileRec.{TileRec}
use Rattle.bundle_store.specs.Build.{last_tiles}
use Rattle.bundle_store.specs.Layout.{layout}
use Rattle.bundle_store.specs.Session.{IsReadyToPut, SessionState}
use Rattle.bundle_store.specs.Tiles.{IsReadable, TileMap, tiles}
use Rattle.bundle_lines.specs.declared.stop.BuildStop.TheVariants.{Output as BuildOutput, Volume as BuildVolume, NotEmpty as BuildNotEmpty, OutOfMemory as BuildMemory}
use Rattle.bundle_lines.specs.Builds.{BuildEnd, BuildGave, BuildKeeps, BuildKeepsFrom, BuildMarks, BuildReads, KeepsSomeLength, OnBuildAnswer, OnNoBuild, built_line_of}
use Rattle.bundle_lines.specs.Puts.{AreMarks}
use Rattle.bundle_lines.proofs.Marked.{no_marks}
use Rattle.bundle_lines.proofs.Kept.{build_from}
use Rattle.bundle_lines.proofs.Raised.{equal_marks}
use Rattle.tile_updates.specs.declared.stop.StreamStop.{StreamStop}
use Rattle.tile_updates.specs.declared.stop.StreamStop.TheVariants.{TooManyTiles as ManyTiles, Fault as TileFaultOf, DepthNeedsV4 as DeepTile, TileTooLarge as LargeTile, KeptTooMuch as MuchKept, Source as StreamSource, OutOfMemory as StreamMemory}
use Rattle.program_ends.specs.Moves.{sink_move, volume_move}
use Rattle.lerc_cli.specs.declared.words.Command.TheVariants.{Build}
use Rattle.opened_bundle.specs.declared.refusal.StoreRefusal.TheVariants.{NotEmpty}
use Rattle.program_ends.specs.declared.stop.Stop.{Stop}
use Rattle.lerc_cli.specs.declared.refusal.Refusal.{Refusal}
use Rattle.program_ends.specs.declared.stop.Stop.TheVariants.{Usage, Refused, Source, Output, Volume, OutOfMemory}
use Rattle.lerc_cli.specs.declared.refusal.Refusal.TheVariants.{Store}
use Rattle.lerc_cli.specs.answers.Table.{Answers, UpdatesOf}
use Rattle.lerc_cli.specs.inputs.Given.{Given, given}
use Rattle.lerc_cli.specs.inputs.Refused.{IsNoUpdates, stream_stop_of}
use Rattle.lerc_cli.specs.run.Run.{OfOutput, OfVolume}
use Rattle.opened_bundle.specs.Files.{files_of}
use Rattle.lerc_cli.specs.answers.Names.{End}
use Rattle.opened_bundle.specs.Left.{IsReady, IsShut, OfReading}
use Rattle.lerc_cli.specs.crashes.Phase.{Updated, UpdatesComeTo}
use Rattle.opened_bundle.specs.Opening.{IsOpened, OpeningStops}
use Rattle.lerc_cli.specs.inside.Updates.{build_end_of}
use Rattle.opened_bundle.proofs.BundleOpening.{keeps_start, of_bundle, reads_on}
use Rattle.opened_bundle.specs.declared.refusal.StoreRefusal.{StoreRefusal}
use Rattle.lerc_cli.specs.inside.Opening.{of_store}
use Rattle.lerc_cli.proofs.AnswerLemmas.Outputs.{stopped}
use Rattle.opened_bundle.proofs.Resting.{shut_ready}
use Rattle.lerc_cli.proofs.CrashLemmas.Unopened.{stopped_volume}
use Rattle.lerc_cli.proofs.CrashLemmas.PutRuns.{earlier_marks, early_not_output, joined_cause, not_output}

-- ---- the input has no updates, or memory was refused before the volume was called

early_ends : (v : Version) (e w : ℕ) (g : Given) (s : StreamStop) → IsNoUpdates v (step_of e) g.input (stream_stop_of s) → Answers (Build v e w) g 0 (Err (stream_stop_of s)) []
early_ends v e w g ManyTiles is = ((refl, inl is), refl)
early_ends v e w g (TileFaultOf f) is = ((refl, inl is), refl)
early_ends v e w g (DeepTile at) is = ((refl, inl is), refl)
early_ends v e w g (LargeTile at len) is = ((refl, inl is), refl)
early_ends v e w g (MuchKept at) is = ((refl, inl is), refl)
early_ends v e w g StreamSource is = (search rules, refl, refl)
early_ends v e w g StreamMemory is = (tt, refl, refl)

memory_ends : (v : Version) (e w : ℕ) (g : Given) → Answers (Build v e w) g 0 (Err OutOfMemory) []
memory_ends v e w g = (tt, refl, refl)

-- the stop is one of these
abbrev Early : Version → ℕ → Given → Stop Refusal → Type 0
Early v e g stop = (stop ≡ OutOfMemory) ⊎ IsNoUpdates v (step_of e) g.input stop

any_early_ends : (v : Version) (e w : ℕ) (g : Given) (stop : Stop Refusal) → Early v e g stop → Answers (Build v e w) g 0 (Err stop) []
any_early_ends v e w g stop (inl is) = subst (λ (s : Stop Refusal). Answers (Build v e w) g 0 (Err s) []) (sym is) (memory_ends v e w g)
any_early_ends v e w g stop (inr (s, (is, tells))) =
    subst (λ (x : Stop Refusal). Answers (Build v e w) g 0 (Err x) []) (sym is) (early_ends v e w g s (s, (refl, tells)))

pub early_output : (v : Version) (e w : ℕ) (g : Given) (K : Type 0) (held : K → Option (List ℕ)) (faults : K → ℕ) (out out_new : K) (stop : Stop Refusal) → out_new ≡ out → Early v e g stop
    → OfOutput (Build v e w) g 0 (Err stop) (sink_move held faults out out_new)
early_output v e w g K held faults out out_new stop same early =
    stopped (Build v e w) g K held faults out out_new stop (any_early_ends v e w g stop early) same (early_not_output v e g stop early)

-- ---- the bundle was not opened

unopened_ends : (v : Version) (e w : ℕ) (g : Given) (us : List TileRec) (stop : Stop StoreRefusal) → UpdatesOf (Build v e w) g us → OpeningStops g.files stop → Answers (Build v e w) g 0 (Err (of_store stop)) []
unopened_ends v e w g us Usage of stops = absurd stops
unopened_ends v e w g us Source of stops = absurd stops
unopened_ends v e w g us Output of stops = absurd stops
unopened_ends v e w g us Volume of stops = (search rules, (refl, refl))
unopened_ends v e w g us OutOfMemory of stops = (tt, refl, refl)
unopened_ends v e w g us (Refused r) of stops = ((refl, inr (inl (us, (of, (r, (refl, stops)))))), (refl, refl))

pub unopened_output : (v : Version) (e w : ℕ) (g : Given) (us : List TileRec) (K : Type 0) (held : K → Option (List ℕ)) (faults : K → ℕ) (out out_new : K) (stop : Stop StoreRefusal) → out_new ≡ out
    → UpdatesOf (Build v e w) g us → OpeningStops g.files stop → OfOutput (Build v e w) g 0 (Err (of_store stop)) (sink_move held faults out out_new)
unopened_output v e w g us K held faults out out_new stop same of stops =
    stopped (Build v e w) g K held faults out out_new (of_store stop) (unopened_ends v e w g us stop of stops) same (not_output g.files stop stops)

-- ---- the bundle was built, or was not

pub builds_not_source : (r : BuildEnd) → build_end_of r ≡ Err Source → ⊥
builds_not_source (Ok x) is = absurd cc
builds_not_source (Err BuildOutput) is = absurd cc
builds_not_source (Err BuildVolume) is = absurd cc
builds_not_source (Err (BuildNotEmpty len)) is = absurd cc
builds_not_source (Err BuildMemory) is = absurd cc

build_output : (r : BuildEnd) (old new : ℕ) → IsCause (r ≡ Err BuildOutput) old new → IsCause (build_end_of r ≡ Err Output) old new
build_output (Ok x) old new c = record { counts = c.counts; failed = λ is. absurd cc; rose = λ rose. absurd (let no = c.rose rose in cc) }
build_output (Err BuildOutput) old new c = record { counts = c.counts; failed = λ is. c.failed refl; rose = λ rose. refl }
build_output (Err BuildVolume) old new c = record { counts = c.counts; failed = λ is. absurd cc; rose = λ rose. absurd (let no = c.rose rose in cc) }
build_output (Err (BuildNotEmpty len)) old new c = record { counts = c.counts; failed = λ is. absurd cc; rose = λ rose. absurd (let no = c.rose rose in cc) }
build_output (Err BuildMemory) old new c = record { counts = c.counts; failed = λ is. absurd cc; rose = λ rose. absurd (let no = c.rose rose in cc) }

build_volume : (r : BuildEnd) (old new : ℕ) → IsCause (r ≡ Err BuildVolume) old new → IsCause (build_end_of r ≡ Err Volume) old new
build_volume (Ok x) old new c = record { counts = c.counts; failed = λ is. absurd cc; rose = λ rose. absurd (let no = c.rose rose in cc) }
build_volume (Err BuildOutput) old new c = record { counts = c.counts; failed = λ is. absurd cc; rose = λ rose. absurd (let no = c.rose rose in cc) }
build_volume (Err BuildVolume) old new c = record { counts = c.counts; failed = λ is. c.failed refl; rose = λ rose. refl }
build_volume (Err (BuildNotEmpty len)) old new c = record { counts = c.counts; failed = λ is. absurd cc; rose = λ rose. absurd (let no = c.rose rose in cc) }
build_volume (Err BuildMemory) old new c = record { counts = c.counts; failed = λ is. absurd cc; rose = λ rose. absurd (let no = c.rose rose in cc) }

as_many : (us : List TileRec) (marks : List ℕ) (moment : ℕ) → marks ≡ replicate (length us) moment → length marks ≡ length us
as_many us marks moment is = ap length is ∙ length-replicate (length us) moment

module _ (v : Version) (e w : ℕ) (input : Option (List ℕ)) (told : Bool) (h : History) (s : SessionState) (d : Disk) (us : List TileRec) (left : List ℕ) (moment : ℕ)
    (of : UpdatesOf (Build v e w) (given input (files_of told h)) us) (opened : IsTrue told → IsOpened s (contents Bundle h) (contents Journal h) d)
    (K : Type 0) (held : K → Option (List ℕ)) (faults : K → ℕ) (out out_new : K) where
  abbrev Gives : List ℕ → BuildEnd → Type 0
  Gives marks r = OfOutput (Build v e w) (given input (files_of told h)) (length marks) (build_end_of r) (sink_move held faults out out_new)

  -- nothing was built
  none_given : (marks : List ℕ) (stop : Stop Refusal) → marks ≡ [] → out_new ≡ out → (stop ≡ Output → ⊥) → Answers (Build v e w) (given input (files_of told h)) 0 (Err stop) []
      → OfOutput (Build v e w) (given input (files_of told h)) (length marks) (Err stop) (sink_move held faults out out_new)
  none_given marks stop none same other ends =
      subst (λ (m : List ℕ). OfOutput (Build v e w) (given input (files_of told h)) (length m) (Err stop) (sink_move held faults out out_new)) (sym none)
      (stopped (Build v e w) (given input (files_of told h)) K held faults out out_new stop ends same other)

  pub build_all_output : (marks : List ℕ) (r : BuildEnd) → (IsTrue told → BuildReads r us d.bundle.now left) → KeepsSomeLength r → BuildMarks r us marks moment
      → BuildGave r us (out_new ≡ out) (held out) (held out_new) → IsCause (r ≡ Err BuildOutput) (faults out) (faults out_new) → Gives marks r
  build_all_output marks (Ok x) reads some is gave cause = record {
    cause = build_output (Ok x) (faults out) (faults out_new) cause;
    gave = (built_line_of us, ((us, (of, as_many us marks moment is, of_bundle told h (λ b. b ≡ []) s d opened (λ t. (reads t).0), refl)), gave));
    idle = λ before. absurd before;
  }
  build_all_output marks (Err BuildOutput) reads some is gave cause = record {
    cause = build_output (Err BuildOutput) (faults out) (faults out_new) cause;
    gave = (built_line_of us, ((us, (of, as_many us marks moment is, of_bundle told h (λ b. b ≡ []) s d opened (λ t. (reads t).0), refl)), gave));
    idle = λ before. absurd before;
  }
  build_all_output marks (Err BuildVolume) reads some is same cause = none_given marks Volume is same (λ bad. cc) (search rules, (refl, refl))
  build_all_output marks (Err (BuildNotEmpty len)) reads some is same cause =
      none_given marks (Refused (Store (NotEmpty len))) is same (λ bad. cc) ((refl, inr (inr (len, (refl, (us, (of, some, of_bundle told h (λ b. len ≡ length b) s d opened (λ t. (reads t).0))))))), (refl, refl))
  build_all_output marks (Err BuildMemory) reads some is same cause = none_given marks OutOfMemory is same (λ bad. cc) (tt, refl, refl)

-- ---- the volume

module _ (v : Version) (e w : ℕ) (g : Given) (failed : Type 0) (V : Type 0) (told : V → Bool) (history : V → History) (faults : V → ℕ) (vol mid new : V) (s : SessionState) (us : List TileRec)
    (of : UpdatesOf (Build v e w) g us) (well : failed → ⊥) (so : OfReading failed (volume_move told history faults vol mid))
    (opened : IsTrue (told vol) → IsOpened s (contents Bundle (history vol)) (contents Journal (history vol)) (current (history mid)))
    (tells : told new ≡ told mid) (later : IsTrue (told mid) → (history mid).moment ≤ (history new).moment) where
  -- what stands at each moment, where updates may be done
  built_tiles : (marks : List ℕ) → (IsTrue (told mid) → IsReadable (contents Bundle (history mid)) → BuildKeeps (tiles (contents Bundle (history mid))) us marks (history mid) (history new)) → AreMarks marks (history mid).moment (history new).moment
      → (start : TileMap) → IsReady (told vol) (history vol) start → BuildKeepsFrom start us marks (history vol) (history new)
  built_tiles marks images are start ready =
      let o = opened ready.tells in
      let t = so.told ∙ ready.tells in
      build_from us marks start (history vol) (history mid) (history new) ready.stands (keeps_start failed (volume_move told history faults vol mid) so ready.tells ready.sound) o.recovered are (images t)

  -- nothing more was done
  on : (stop : Stop Refusal) → IsCause (stop ≡ Volume) (faults mid) (faults new) → (IsTrue (told mid) → During (λ d. d ≡ current (history mid)) (history mid) (history new)) → OfReading (stop ≡ Volume) (volume_move told history faults vol new)
  on stop cause kept = reads_on failed (stop ≡ Volume) V told history faults vol mid new well so cause tells kept

  stop_cause : (stop : Stop Refusal) → IsCause (◌≡◌ {A = End} (Err stop) (Err Volume)) (faults mid) (faults new) → IsCause (stop ≡ Volume) (faults mid) (faults new)
  stop_cause stop c = record { counts = c.counts; failed = λ is. c.failed (ap (λ (x : Stop Refusal). Err x) is); rose = λ rose. (let is = c.rose rose in let here : stop ≡ Volume = cc in here) }

  -- the bundle is built
  abbrev IsBuilt : List ℕ → Type 0
  IsBuilt marks = (marks ≡ replicate (length us) (history new).moment) × (IsTrue (told mid) → contents Bundle (history new) ≡ layout (last_tiles us))

  layout_after : (marks : List ℕ) → IsBuilt marks → IsTrue (told vol) → contents Bundle (history new) ≡ layout (last_tiles (take (length marks) us))
  layout_after marks built t =
      built.1 (so.told ∙ t) ∙ ap (λ (xs : List TileRec). layout (last_tiles xs)) (sym (take_all (length marks) us (omega (arith, as_many us marks (history new).moment built.0))))

  marks_after : (marks : List ℕ) → marks ≡ replicate (length us) (history new).moment → IsTrue (told vol) → AreMarks marks (history mid).moment (history new).moment
  marks_after marks is t = subst (λ (m : List ℕ). AreMarks m (history mid).moment (history new).moment) (sym is) (equal_marks (length us) (history new).moment (history mid).moment (later (so.told ∙ t)))

  all_at : (marks : List ℕ) → marks ≡ replicate (length us) (history new).moment → marks ≡ replicate (length marks) (history new).moment
  all_at marks is = is ∙ ap (λ (n : ℕ). replicate n (history new).moment) (sym (as_many us marks (history new).moment is))

  abbrev Leaves : List ℕ → BuildEnd → Type 0
  Leaves marks r = OfVolume (Build v e w) g (build_end_of r) marks (volume_move told history faults vol new)

  -- the bundle stands, where all went well or the output alone failed
  stands_built : (marks : List ℕ) (end : End) → IsCause (end ≡ Err Volume) (faults mid) (faults new) → UpdatesComeTo end Updated
      → IsBuilt marks → (IsTrue (told mid) → IsReadable (contents Bundle (history mid)) → BuildKeeps (tiles (contents Bundle (history mid))) us marks (history mid) (history new))
      → (IsTrue (told vol) → IsShut (current (history new))) → OfVolume (Build v e w) g end marks (volume_move told history faults vol new)
  stands_built marks end cause comes built images shut = record {
    cause = joined_cause failed (end ≡ Err Volume) (faults vol) (faults mid) (faults new) well so.cause cause;
    told = tells ∙ so.told;
    later = λ t none. absurd (let bad : ⊥ = cc in bad);
    unmarked = λ none. absurd (let bad : ⊥ = cc in bad);
    marks_are = λ t. earlier_marks marks (history vol).moment (history mid).moment (history new).moment (so.later t) (marks_after marks built.0 t);
    marks_at = all_at marks built.0;
    phase = Updated;
    comes = comes;
    left = λ t _. record { updates = us; are = of; bundle = contents Bundle (history mid); left = inl ((opened t).done, (opened t).leaves); reads = layout_after marks built t; rests = shut t };
    tiles = λ start ready. (us, ((Updated, (comes, of)), built_tiles marks images (marks_after marks built.0 ready.tells) start ready));
  }

  pub build_all_volume : (marks : List ℕ) (r : BuildEnd) → BuildMarks r us marks (history new).moment → (IsTrue (told mid) → BuildReads r us (contents Bundle (history mid)) (contents Bundle (history new)))
      → (IsTrue (told mid) → IsReadable (contents Bundle (history mid)) → BuildKeeps (tiles (contents Bundle (history mid))) us marks (history mid) (history new))
      → (IsTrue (told mid) → OnNoBuild r (During (λ d. d ≡ current (history mid)) (history mid) (history new))) → (s_new : SessionState) → (IsTrue (told mid) → OnBuildAnswer r (IsReadyToPut s_new (current (history new)))) → IsCause (r ≡ Err BuildVolume) (faults mid) (faults new) → Leaves marks r
  build_all_volume marks (Ok x) is reads images kept s_new ready cause =
      stands_built marks (Ok tt) (build_volume (Ok x) (faults mid) (faults new) cause) refl (is, λ m. (reads m).1) images (λ t. shut_ready s_new (current (history new)) (ready (so.told ∙ t)))
  build_all_volume marks (Err BuildOutput) is reads images kept s_new ready cause =
      stands_built marks (Err Output) (build_volume (Err BuildOutput) (faults mid) (faults new) cause) refl (is, λ m. (reads m).1) images (λ t. shut_ready s_new (current (history new)) (ready (so.told ∙ t)))
  build_all_volume marks (Err BuildVolume) is reads images kept s_new ready cause = record {
    cause = joined_cause failed (◌≡◌ {A = End} (Err Volume) (Err Volume)) (faults vol) (faults mid) (faults new) well so.cause (build_volume (Err BuildVolume) (faults mid) (faults new) cause);
    told = tells ∙ so.told;
    later = λ t none. absurd (let bad : ⊥ = cc in bad);
    unmarked = λ none. absurd (let bad : ⊥ = cc in bad);
    marks_are = λ t. subst (λ (m : List ℕ). AreMarks m (history vol).moment (history new).moment) (sym is) (no_marks (history vol).moment (history new).moment);
    marks_at = subst (λ (m : List ℕ). m ≡ replicate (length m) (history new).moment) (sym is) refl;
    phase = Updated;
    comes = refl;
    left = λ t other. absurd (other refl);
    tiles = λ start ready. (us, ((Updated, (refl, of)), built_tiles marks images (subst (λ (m : List ℕ). AreMarks m (history mid).moment (history new).moment) (sym is) (no_marks (history mid).moment (history new).moment)) start ready));
  }
  build_all_volume marks (Err (BuildNotEmpty len)) is reads images kept s_new ready cause =
      subst (λ (m : List ℕ). Leaves m (Err (BuildNotEmpty len))) (sym is)
      (stopped_volume (Build v e w) g (search rules) (Refused (Store (NotEmpty len))) (◌≡◌ {A = Stop Refusal} (Refused (Store (NotEmpty len))) Volume) (volume_move told history faults vol new) refl (λ bad. cc) (λ bad. cc)
      (on (Refused (Store (NotEmpty len))) (stop_cause (Refused (Store (NotEmpty len))) (build_volume (Err (BuildNotEmpty len)) (faults mid) (faults new) cause)) kept)
      (λ t. shut_ready s_new (current (history new)) (ready (so.told ∙ t))))
  build_all_volume marks (Err BuildMemory) is reads images kept s_new ready cause =
      subst (λ (m : List ℕ). Leaves m (Err BuildMemory)) (sym is)
      (stopped_volume (Build v e w) g (search rules) OutOfMemory (◌≡◌ {A = Stop Refusal} OutOfMemory Volume) (volume_move told history faults vol new) (inr refl) (λ bad. cc) (λ bad. cc)
      (on OutOfMemory (stop_cause OutOfMemory (build_volume (Err BuildMemory) (faults mid) (faults new) cause)) kept) (λ t. shut_ready s_new (current (history new)) (ready (so.told ∙ t))))
