-- What a command that makes updates leaves of the volume where the bundle was not opened, or no update was to be made.
use Rattle.std.proofs.Common.{◌≡◌, ◌⊎◌, ℕ, List, [], Bool, Option, Err, inl, inr, refl, subst, sym}
use Rattle.std.specs.Prelude.{IsTrue}
use Rattle.outside_io.specs.declared.volume.VolFile.TheVariants.{Journal}
use Rattle.outside_io.specs.volume.History.{History, contents, current}
use Rattle.lerc_header.specs.declared.header.Version.{Version}
use Rattle.bundle_store.specs.declared.tile_rec.TileRec.{TileRec}
use Rattle.bundle_lines.proofs.Marked.{no_marks}
use Rattle.tile_updates.specs.declared.stop.StreamStop.{StreamStop}
use Rattle.tile_updates.specs.declared.stop.StreamStop.TheVariants.{TooManyTiles as ManyTiles, Fault as TileFaultOf, DepthNeedsV4 as DeepTile, TileTooLarge as LargeTile, KeptTooMuch as MuchKept, Source as StreamSource, OutOfMemory as StreamMemory}
use Rattle.program_ends.specs.Moves.{VolumeMove, volume_move}
use Rattle.lerc_cli.specs.declared.words.Command.{Command}
use Rattle.opened_bundle.specs.declared.refusal.StoreRefusal.{StoreRefusal}
use Rattle.opened_bundle.specs.declared.refusal.StoreRefusal.TheVariants.{NoTile, Beyond, BadBundle, BadJournal, NotEmpty, Full}
use Rattle.program_ends.specs.declared.stop.Stop.{Stop}
use Rattle.program_ends.specs.declared.stop.Stop.TheVariants.{Usage, Refused, Source, Output, Volume, OutOfMemory}
use Rattle.lerc_cli.specs.declared.refusal.Refusal.{Refusal}
use Rattle.lerc_cli.specs.declared.refusal.Refusal.TheVariants.{Store}
use Rattle.lerc_cli.specs.inputs.Given.{Given}
use Rattle.lerc_cli.specs.inputs.Refused.{IsNoUpdates, stream_stop_of}
use Rattle.lerc_cli.specs.answers.Names.{End}
use Rattle.lerc_cli.specs.answers.Table.{UpdatesOf}
use Rattle.lerc_cli.specs.words.Commands.{makes_updates}
use Rattle.lerc_cli.specs.run.Run.{OfVolume}
use Rattle.opened_bundle.specs.Left.{OfReading}
use Rattle.lerc_cli.specs.crashes.Phase.{Phase, NotCalled, Recovered, Updated, ComesTo, RestsBehind, UpdatesComeTo}
use Rattle.opened_bundle.specs.Opening.{OpeningStops}
use Rattle.opened_bundle.specs.Left.{RestsBehind as RestsUnopened}
use Rattle.opened_bundle.proofs.BundleOpening.{keeps_start, reads_as}
use Rattle.lerc_cli.specs.inside.Opening.{of_store}
use Rattle.lerc_cli.proofs.CrashLemmas.Idle.{keeps_without_marks, none_at, recovered_volume, untouched, updating_comes}

-- memory was refused, or the input has no updates, before the volume was called
stream_comes : (s : StreamStop) → UpdatesComeTo (Err (stream_stop_of s)) NotCalled
stream_comes ManyTiles = refl
stream_comes (TileFaultOf fault) = refl
stream_comes (DeepTile at) = refl
stream_comes (LargeTile at len) = refl
stream_comes (MuchKept at) = refl
stream_comes StreamSource = refl
stream_comes StreamMemory = inl refl

early_comes : (v : Version) (step : ℕ) (input : Option (List ℕ)) (stop : Stop Refusal) → (stop ≡ OutOfMemory) ⊎ IsNoUpdates v step input stop → UpdatesComeTo (Err stop) NotCalled
early_comes v step input stop (inl so) = subst (λ (x : Stop Refusal). UpdatesComeTo (Err x) NotCalled) (sym so) (inl refl)
early_comes v step input stop (inr (s, (so, tells))) = subst (λ (x : Stop Refusal). UpdatesComeTo (Err x) NotCalled) (sym so) (stream_comes s)

not_volume : (stop : Stop Refusal) → UpdatesComeTo (Err stop) NotCalled → ◌≡◌ {A = End} (Err stop) (Err Volume) → ⊥
not_volume stop comes is = let bad : UpdatesComeTo (Err Volume) NotCalled = subst (λ (x : End). UpdatesComeTo x NotCalled) is comes in let no : ◌≡◌ {A = Phase} NotCalled Updated = bad in cc

module _ (c : Command) (g : Given) (makes : IsTrue (makes_updates c)) where
  pub early_volume : (v : Version) (step : ℕ) (stop : Stop Refusal) (V : Type 0) (told : V → Bool) (history : V → History) (faults : V → ℕ) (vol : V)
      → (stop ≡ OutOfMemory) ⊎ IsNoUpdates v step g.input stop → OfVolume c g (Err stop) [] (volume_move told history faults vol vol)
  early_volume v step stop V told history faults vol early =
      let comes = early_comes v step g.input stop early in
      untouched c g (Err stop) V told history faults vol (updating_comes c (Err stop) NotCalled makes comes) (not_volume stop comes)

  -- the store refuses before the first update, or memory was refused behind a recovery
  pub stopped_volume : (stop : Stop Refusal) (P : Type 0) (vol : VolumeMove) → UpdatesComeTo (Err stop) Recovered → (P → ⊥) → (◌≡◌ {A = End} (Err stop) (Err Volume) → ⊥)
      → OfReading P vol → (IsTrue vol.told.old → RestsBehind stop (contents Journal vol.history.old) (current vol.history.new)) → OfVolume c g (Err stop) [] vol
  stopped_volume stop P vol comes well other so rests =
      recovered_volume c g (Err stop) vol (updating_comes c (Err stop) Recovered makes comes)
      (reads_as P (◌≡◌ {A = End} (Err stop) (Err Volume)) vol (λ p. absurd (well p)) (λ is. absurd (other is)) so) rests

  -- recovery or opening was refused, or the volume failed, and then updates may be done
  pub unopened_volume : (vol : VolumeMove) (us : List TileRec) (stop : Stop StoreRefusal) → UpdatesOf c g us → OpeningStops g.files stop
      → OfReading (stop ≡ Volume) vol → (IsTrue vol.told.old → RestsUnopened stop (contents Journal vol.history.old) (current vol.history.new)) → OfVolume c g (Err (of_store stop)) [] vol
  unopened_volume vol us Usage of stops so rests = absurd stops
  unopened_volume vol us Source of stops so rests = absurd stops
  unopened_volume vol us Output of stops so rests = absurd stops
  unopened_volume vol us OutOfMemory of stops so rests = stopped_volume OutOfMemory (◌≡◌ {A = Stop StoreRefusal} OutOfMemory Volume) vol (inr refl) (λ is. cc) (λ is. cc) so rests
  unopened_volume vol us Volume of stops so rests = record {
    cause = record { counts = so.cause.counts; failed = λ _. so.cause.failed refl; rose = λ rose. refl };
    told = so.told;
    later = λ t _. so.later t;
    unmarked = λ _. refl;
    marks_are = λ t. no_marks vol.history.old.moment vol.history.new.moment;
    marks_at = none_at c vol.history.new.moment;
    phase = Updated;
    comes = begun;
    left = λ t well. absurd (well refl);
    tiles = λ start ready. (us, ((Updated, (begun, of)), keeps_without_marks c us start vol.told.old vol.history.old vol.history.new ready (keeps_start (◌≡◌ {A = Stop StoreRefusal} Volume Volume) vol so ready.tells ready.sound)));
  }
    where
      begun : ComesTo c (Err Volume) Updated
      begun = updating_comes c (Err Volume) Updated makes refl
  unopened_volume vol us (Refused (BadBundle place found)) of stops so rests =
      stopped_volume (Refused (Store (BadBundle place found))) (◌≡◌ {A = Stop StoreRefusal} (Refused (BadBundle place found)) Volume) vol refl (λ is. cc) (λ is. cc) so rests
  unopened_volume vol us (Refused (BadJournal place found)) of stops so rests =
      stopped_volume (Refused (Store (BadJournal place found))) (◌≡◌ {A = Stop StoreRefusal} (Refused (BadJournal place found)) Volume) vol refl (λ is. cc) (λ is. cc) so rests
  unopened_volume vol us (Refused (NoTile row col)) of stops so rests = absurd stops
  unopened_volume vol us (Refused (Beyond row col entry got)) of stops so rests = absurd stops
  unopened_volume vol us (Refused (NotEmpty len)) of stops so rests = absurd stops
  unopened_volume vol us (Refused (Full len)) of stops so rests = absurd stops
