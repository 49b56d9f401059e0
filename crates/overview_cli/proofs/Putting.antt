-- What putting the updates leaves, by how it ends.
use Rattle.std.proofs.Common.{◌≡◌, inl, inr, ℕ, ◌≤◌, List, [], length, take, Bool, Option, Ok, Err, refl, sym, ap, subst, ◌∙◌, arith}
use Rattle.std.specs.Prelude.{IsTrue, OnOk}
use Rattle.std.proofs.lemmas.Bool.{cases_lt}
use Rattle.outside_io.specs.declared.volume.VolFile.TheVariants.{Bundle, Journal}
use Rattle.outside_io.specs.streams.Faults.{IsCause}
use Rattle.outside_io.specs.volume.Disk.{Disk, File}
use Rattle.outside_io.specs.volume.History.{History, contents, current}
use Rattle.outside_io.proofs.StreamLemmas.Gives.{Holds_none}
use Rattle.bundle_store.specs.declared.tile_rec.TileRec.{TileRec}
use Rattle.bundle_store.specs.Build.{map_after}
use Rattle.bundle_store.specs.Images.{EachImage, HoldsClosed}
use Rattle.bundle_store.specs.Session.{SessionState}
use Rattle.bundle_store.specs.Tiles.{TileMap, tiles}
use Rattle.bundle_lines.specs.declared.stop.PutStop.TheVariants.{Output as PutOutput, Volume as PutVolume, Full as PutFull}
use Rattle.bundle_lines.specs.Gave.{PutEnd, PutGave, UnlessVolume as UnlessPutVolume}
use Rattle.bundle_lines.specs.Lines.{put_lines}
use Rattle.bundle_lines.specs.Puts.{AreMarks, EndsByRoom, HaveRoom, IsFirstFull, KeepsFullLength, PutsLeave, bundle_after_puts}
use Rattle.bundle_lines.proofs.Kept.{left_map, puts_from}
use Rattle.bundle_lines.proofs.Marked.{no_marks}
use Rattle.opened_bundle.specs.Files.{Files, files_of}
use Rattle.opened_bundle.specs.Left.{OfReading, RestsBehind as RestsUnopened}
use Rattle.opened_bundle.specs.Opening.{IsOpened, OpeningStops}
use Rattle.opened_bundle.specs.declared.refusal.StoreRefusal.{StoreRefusal}
use Rattle.opened_bundle.specs.declared.refusal.StoreRefusal.TheVariants.{NoTile, Beyond, BadBundle, BadJournal, NotEmpty, Full}
use Rattle.opened_bundle.proofs.BundleOpening.{failed_later, keeps_start, of_bundle}
use Rattle.opened_bundle.proofs.Resting.{shut_held}
use Rattle.program_ends.specs.Moves.{Change, SinkMove, VolumeMove, sink_move, volume_move}
use Rattle.program_ends.specs.Stop.{Gained}
use Rattle.program_ends.specs.declared.stop.Stop.{Stop}
use Rattle.program_ends.specs.declared.stop.Stop.TheVariants.{Usage, Source, Output, Volume, OutOfMemory, Refused}
use Rattle.overview_cli.specs.Names.{put_end_of, with_store}
use Rattle.overview_cli.specs.declared.refusal.Refusal.{Refusal}
use Rattle.overview_cli.specs.Putting.{OfOutput, OfPuts, PutsAnswer, Rests, StopsUnopened, UnlessVolume}
use Rattle.overview_cli.proofs.Keeping.{keeps_none}
use Rattle.overview_cli.proofs.Taking.{store_volume}

-- ---- the second bundle is not opened

unopened_answer : (us : List TileRec) (files : Option Files) (stop : Stop StoreRefusal) → OpeningStops files stop → PutsAnswer us files 0 (Err (with_store stop)) []
unopened_answer us files Usage stops = absurd stops
unopened_answer us files Source stops = absurd stops
unopened_answer us files Output stops = absurd stops
unopened_answer us files Volume stops = (omega arith, refl)
unopened_answer us files OutOfMemory stops = (refl, refl)
unopened_answer us files (Refused (NoTile row col)) stops = absurd stops
unopened_answer us files (Refused (Beyond row col entry got)) stops = absurd stops
unopened_answer us files (Refused (BadBundle place found)) stops = (stops, refl, refl)
unopened_answer us files (Refused (BadJournal place found)) stops = (stops, refl, refl)
unopened_answer us files (Refused (NotEmpty len)) stops = absurd stops
unopened_answer us files (Refused (Full len)) stops = absurd stops

never_output : (files : Option Files) (stop : Stop StoreRefusal) → OpeningStops files stop → with_store stop ≡ Output → ⊥
never_output files Usage stops is = stops
never_output files Source stops is = stops
never_output files Output stops is = stops
never_output files Volume stops is = cc
never_output files OutOfMemory stops is = cc
never_output files (Refused refusal) stops is = cc

-- an output to which nothing was given
gained_none : (files : Option Files) (stop : Stop StoreRefusal) (held : Option (List ℕ)) → OpeningStops files stop → Gained {R = Refusal} (Err (with_store stop)) (record { old = held; new = held }) []
gained_none files Usage held stops = absurd stops
gained_none files Source held stops = absurd stops
gained_none files Output held stops = absurd stops
gained_none files Volume held stops = Holds_none held
gained_none files OutOfMemory held stops = Holds_none held
gained_none files (Refused refusal) held stops = Holds_none held

unless_same : (stop : Stop StoreRefusal) (P : Type 0) → ((stop ≡ Volume → ⊥) → P) → UnlessVolume (Err (with_store stop)) P
unless_same Usage P so = so (λ is. cc)
unless_same Source P so = so (λ is. cc)
unless_same Output P so = so (λ is. cc)
unless_same Volume P so = tt
unless_same OutOfMemory P so = so (λ is. cc)
unless_same (Refused refusal) P so = so (λ is. cc)

pub rests_store : (stop : Stop StoreRefusal) (journal : List ℕ) (d : Disk) → RestsUnopened stop journal d → Rests (Err (with_store stop)) journal d
rests_store Usage journal d rests = rests
rests_store Source journal d rests = rests
rests_store Output journal d rests = rests
rests_store Volume journal d rests = rests
rests_store OutOfMemory journal d rests = rests
rests_store (Refused (NoTile row col)) journal d rests = rests
rests_store (Refused (Beyond row col entry got)) journal d rests = rests
rests_store (Refused (BadBundle place found)) journal d rests = rests
rests_store (Refused (BadJournal place found)) journal d rests = rests
rests_store (Refused (NotEmpty len)) journal d rests = rests
rests_store (Refused (Full len)) journal d rests = rests

pub unopened_volume : (us : List TileRec) (stop : Stop StoreRefusal) (failed : Type 0) (vol : VolumeMove) → (failed → stop ≡ Volume) → (stop ≡ Volume → failed) → OfReading failed vol
    → (IsTrue vol.told.old → RestsUnopened stop (contents Journal vol.history.old) (current vol.history.new)) → OfPuts us (Err (with_store stop)) [] vol
unopened_volume us stop failed vol to from so rests = record {
  cause = record { counts = so.cause.counts; failed = λ is. so.cause.failed (from (store_volume stop (let same : with_store stop ≡ Volume = cc in same))); rose = λ rose. ap (λ (s : Stop StoreRefusal). Err (with_store s)) (to (so.cause.rose rose)) };
  told = so.told;
  few = omega arith;
  marks_are = λ tells. no_marks vol.history.old.moment vol.history.new.moment;
  reads = λ tells. unless_same stop _ (λ other. (contents Bundle vol.history.new, (so.reads tells (λ f. other (to f)), refl)));
  rests = λ tells. rests_store stop (contents Journal vol.history.old) (current vol.history.new) (rests tells);
  tiles = λ start ready. keeps_none us start vol.told.old vol.history.old vol.history.new ready (keeps_start failed vol so ready.tells ready.sound);
  done = λ t start stands. tt;
  none = λ stops start ready. keeps_start failed vol so ready.tells ready.sound;
}

pub unopened_output : (us : List TileRec) (files : Option Files) (K : Type 0) (held : K → Option (List ℕ)) (faults : K → ℕ) (out : K) (stop : Stop StoreRefusal) → OpeningStops files stop
    → OfOutput us files 0 (Err (with_store stop)) (sink_move held faults out out)
unopened_output us files K held faults out stop stops = record {
  cause = record { counts = omega arith; failed = λ is. absurd (never_output files stop stops (let same : with_store stop ≡ Output = cc in same)); rose = λ rose. absurd (omega (arith, rose)) };
  gave = ([], (unopened_answer us files stop stops, gained_none files stop (held out) stops));
  idle = λ _. refl;
}

-- ---- the updates were put

never_unopened : (r : PutEnd) → StopsUnopened (put_end_of r) → ⊥
never_unopened (Ok x) stops = stops
never_unopened (Err PutOutput) stops = stops
never_unopened (Err PutVolume) stops = stops
never_unopened (Err (PutFull len)) stops = stops

put_output : (r : PutEnd) (old new : ℕ) → IsCause (r ≡ Err PutOutput) old new → IsCause (put_end_of r ≡ Err Output) old new
put_output (Ok x) old new c = record { counts = c.counts; failed = λ is. absurd cc; rose = λ rose. absurd (let no = c.rose rose in cc) }
put_output (Err PutOutput) old new c = record { counts = c.counts; failed = λ is. c.failed refl; rose = λ rose. refl }
put_output (Err PutVolume) old new c = record { counts = c.counts; failed = λ is. absurd cc; rose = λ rose. absurd (let no = c.rose rose in cc) }
put_output (Err (PutFull len)) old new c = record { counts = c.counts; failed = λ is. absurd cc; rose = λ rose. absurd (let no = c.rose rose in cc) }

put_volume : (r : PutEnd) (old new : ℕ) → IsCause (r ≡ Err PutVolume) old new → IsCause (put_end_of r ≡ Err Volume) old new
put_volume (Ok x) old new c = record { counts = c.counts; failed = λ is. absurd cc; rose = λ rose. absurd (let no = c.rose rose in cc) }
put_volume (Err PutOutput) old new c = record { counts = c.counts; failed = λ is. absurd cc; rose = λ rose. absurd (let no = c.rose rose in cc) }
put_volume (Err PutVolume) old new c = record { counts = c.counts; failed = λ is. c.failed refl; rose = λ rose. refl }
put_volume (Err (PutFull len)) old new c = record { counts = c.counts; failed = λ is. absurd cc; rose = λ rose. absurd (let no = c.rose rose in cc) }

put_gave : (told : Bool) (h : History) (s : SessionState) (d : Disk) (us : List TileRec) (n : ℕ) (r : PutEnd) (held : Change (Option (List ℕ)))
    → (IsTrue told → IsOpened s (contents Bundle h) (contents Journal h) d) → (IsTrue told → EndsByRoom r d.bundle.now us n) → KeepsFullLength r us n
    → PutGave r us n held.old held.new → (output : List ℕ) × (PutsAnswer us (files_of told h) n (put_end_of r) output × Gained (put_end_of r) held output)
put_gave told h s d us n (Ok x) held opened room full (all, holds) = (put_lines us, ((all, of_bundle told h (λ b. HaveRoom b us n) s d opened room, refl), holds))
put_gave told h s d us n (Err PutOutput) held opened room full (some, within, holds) = (put_lines (take n us), ((within, refl), holds))
put_gave told h s d us n (Err PutVolume) held opened room full (within, holds) = (put_lines (take n us), ((omega (arith, within), refl), holds))
put_gave told h s d us n (Err (PutFull len)) held opened room full (within, holds) =
    (put_lines (take n us), (((within, full, of_bundle told h (λ b. IsFirstFull b us n len) s d opened room), refl), holds))

pub put_all_output : (told : Bool) (h : History) (s : SessionState) (d : Disk) (us : List TileRec) (n : ℕ) (r : PutEnd) (sink : SinkMove)
    → (IsTrue told → IsOpened s (contents Bundle h) (contents Journal h) d) → (IsTrue told → EndsByRoom r d.bundle.now us n) → KeepsFullLength r us n
    → PutGave r us n sink.held.old sink.held.new → IsCause (r ≡ Err PutOutput) sink.faults.old sink.faults.new → OfOutput us (files_of told h) n (put_end_of r) sink
put_all_output told h s d us n r sink opened room full gave cause = record {
  cause = put_output r sink.faults.old sink.faults.new cause;
  gave = put_gave told h s d us n r sink.held opened room full gave;
  idle = λ stops. absurd (never_unopened r stops);
}

pub put_few : (us : List TileRec) (n : ℕ) (r : PutEnd) (old new : Option (List ℕ)) → PutGave r us n old new → n ≤ length us
put_few us n (Ok x) old new (all, holds) = omega (arith, all)
put_few us n (Err PutOutput) old new (some, within, holds) = within
put_few us n (Err PutVolume) old new (within, holds) = omega (arith, within)
put_few us n (Err (PutFull len)) old new (within, holds) = omega (arith, within)

earlier_marks : (marks : List ℕ) (from mid to : ℕ) → from ≤ mid → AreMarks marks mid to → AreMarks marks from to
earlier_marks marks from mid to first are = record { rising = are.rising; within = λ i lt. (let is = are.within i lt in (omega (arith, first, is.0), is.1)) }

joined_cause : (P Q : Type 0) (f f_mid f_new : ℕ) → (P → ⊥) → IsCause P f f_mid → IsCause Q f_mid f_new → IsCause Q f f_new
joined_cause P Q f f_mid f_new well one two = record {
  counts = omega (arith, one.counts, two.counts);
  failed = λ q. failed_later f f_mid f_new one.counts (two.failed q);
  rose = λ rose. elim (cases_lt f f_mid) [ inl before ↦ absurd (well (one.rose before)) | inr after ↦ two.rose (omega (arith, after, rose)) ];
}

unless_put : (r : PutEnd) (P Q : Type 0) → (P → Q) → UnlessPutVolume r P → UnlessVolume (put_end_of r) Q
unless_put (Ok x) P Q so p = so p
unless_put (Err PutOutput) P Q so p = so p
unless_put (Err PutVolume) P Q so p = tt
unless_put (Err (PutFull len)) P Q so p = so p

ok_put : (r : PutEnd) (P Q : Type 0) → (P → Q) → UnlessPutVolume r P → OnOk (put_end_of r) Q
ok_put (Ok x) P Q so p = so p
ok_put (Err PutOutput) P Q so p = tt
ok_put (Err PutVolume) P Q so p = tt
ok_put (Err (PutFull len)) P Q so p = tt

rests_put : (r : PutEnd) (bundle journal : List ℕ) (d : Disk) → UnlessPutVolume r (HoldsClosed bundle d) → Rests (put_end_of r) journal d
rests_put (Ok x) bundle journal d held = shut_held bundle d held
rests_put (Err PutOutput) bundle journal d held = shut_held bundle d held
rests_put (Err PutVolume) bundle journal d held = tt
rests_put (Err (PutFull len)) bundle journal d held = shut_held bundle d held

pub put_all_volume : (failed : Type 0) (V : Type 0) (told : V → Bool) (history : V → History) (faults : V → ℕ) (vol mid new : V) (s : SessionState) (us : List TileRec) (marks : List ℕ) (r : PutEnd)
    → (failed → ⊥) → OfReading failed (volume_move told history faults vol mid) → (IsTrue (told vol) → IsOpened s (contents Bundle (history vol)) (contents Journal (history vol)) (current (history mid)))
    → IsCause (r ≡ Err PutVolume) (faults mid) (faults new) → told new ≡ told mid → length marks ≤ length us
    → (s_new : SessionState) → (IsTrue (told mid) → PutsLeave r us marks s_new (history mid) (history new)) → OfPuts us (put_end_of r) marks (volume_move told history faults vol new)
put_all_volume failed V told history faults vol mid new s us marks r well so opened cause tells few s_new leaves = record {
  cause = joined_cause failed (put_end_of r ≡ Err Volume) (faults vol) (faults mid) (faults new) well so.cause (put_volume r (faults mid) (faults new) cause);
  told = tells ∙ so.told;
  few = few;
  marks_are = λ t. earlier_marks marks (history vol).moment (history mid).moment (history new).moment (so.later t) (leaves (so.told ∙ t)).marks_are;
  reads = λ t. unless_put r _ _ (λ (held : HoldsClosed (bundle_after_puts (contents Bundle (history mid)) (take (length marks) us)) (current (history new))).
      let o = opened t in (contents Bundle (history mid), (inl (o.done, o.leaves), ap (λ (x : File). x.now) held.bundle_is))) (leaves (so.told ∙ t)).reads;
  rests = λ t. rests_put r _ (contents Journal (history vol)) (current (history new)) (leaves (so.told ∙ t)).reads;
  tiles = λ start ready.
      let o = opened ready.tells in
      let t = so.told ∙ ready.tells in (
        contents Bundle (history mid),
        (
          inl (o.done, o.leaves),
          (leaves t).groups,
          puts_from us marks start (history vol) (history mid) (history new) ready.stands (keeps_start failed (volume_move told history faults vol mid) so ready.tells ready.sound)
              o.recovered (leaves t).marks_are (leaves t).images,
        ),
      );
  done = λ t start stands.
      let map = left_map start (history vol) (history mid) stands (opened t).recovered in
      ok_put r (EachImage (λ m. m ≡ map_after (tiles (contents Bundle (history mid))) (take (length marks) us)) (current (history new))) (EachImage (λ m. m ≡ map_after start (take (length marks) us)) (current (history new)))
      (λ each. subst (λ (from : TileMap). EachImage (λ m. m ≡ map_after from (take (length marks) us)) (current (history new))) (sym map.1) each) ((leaves (so.told ∙ t)).tiles_are map.0);
  none = λ stops. absurd (never_unopened r stops);
}
