-- What an import leaves, by how it ends.
use Rattle.std.proofs.Common.{◌≡◌, inl, inr, ℕ, ◌≤◌, List, length, Bool, Option, Ok, Err, refl, sym, ap, subst, ◌∙◌, arith}
use Rattle.std.specs.Prelude.{IsTrue, OnOk, take}
use Rattle.outside_io.specs.declared.volume.VolFile.TheVariants.{Bundle, Journal}
use Rattle.outside_io.specs.streams.Faults.{IsCause}
use Rattle.outside_io.specs.volume.Disk.{Disk, File}
use Rattle.outside_io.specs.volume.History.{History, contents, current}
use Rattle.bundle_store.specs.Build.{map_after}
use Rattle.bundle_store.specs.Images.{EachImage, HoldsClosed}
use Rattle.bundle_store.specs.Session.{SessionState}
use Rattle.bundle_store.specs.Tiles.{TileMap, tiles}
use Rattle.bundle_lines.specs.Gave.{PutEnd, PutGave, UnlessVolume as UnlessPutVolume}
use Rattle.bundle_lines.specs.declared.stop.PutStop.TheVariants.{Output as PutOutput, Volume as PutVolume, Full as PutFull}
use Rattle.bundle_lines.specs.Puts.{AreMarks}
use Rattle.bundle_lines.proofs.Kept.{left_map, puts_from}
use Rattle.bundle_tiles.specs.Imported.{ImportEnd, Imports, puts_end_of}
use Rattle.bundle_tiles.specs.declared.taking.ImportStop.TheVariants as found
use Rattle.opened_bundle.specs.Left.{OfReading, RestsBehind as RestsUnopened}
use Rattle.opened_bundle.specs.Opening.{IsOpened, OpeningStops}
use Rattle.opened_bundle.specs.Files.{files_of}
use Rattle.opened_bundle.specs.declared.refusal.StoreRefusal.{StoreRefusal}
use Rattle.opened_bundle.proofs.BundleOpening.{keeps_start}
use Rattle.opened_bundle.proofs.Resting.{shut_held}
use Rattle.program_ends.proofs.Ends.{caused}
use Rattle.program_ends.specs.Moves.{sink_move, source_move, volume_move}
use Rattle.program_ends.specs.declared.stop.Stop.{Stop}
use Rattle.program_ends.specs.declared.stop.Stop.TheVariants.{Volume}
use Rattle.bundle_store.specs.declared.tile_rec.TileRec.{TileRec}
use Rattle.tiles_cli.specs.Exporting.{Rests}
use Rattle.tiles_cli.specs.Importing.{OfImport, UnlessVolume}
use Rattle.tiles_cli.specs.Names.{import_end_of, with_store}
use Rattle.tiles_cli.proofs.Ends.{import_output, import_source, import_volume, joined_cause, never_output, never_source, rests_store, store_volume, uncalled}

put_few : (us : List TileRec) (n : ℕ) (r : PutEnd) (old new : Option (List ℕ)) → PutGave r us n old new → n ≤ length us
put_few us n (Ok x) old new (all, holds) = omega (arith, all)
put_few us n (Err PutOutput) old new (some, within, holds) = within
put_few us n (Err PutVolume) old new (within, holds) = omega (arith, within)
put_few us n (Err (PutFull len)) old new (within, holds) = omega (arith, within)

earlier_marks : (marks : List ℕ) (from mid to : ℕ) → from ≤ mid → AreMarks marks mid to → AreMarks marks from to
earlier_marks marks from mid to first are = record { rising = are.rising; within = λ i lt. (let is = are.within i lt in (omega (arith, first, is.0), is.1)) }

unless_import : (r : ImportEnd) (P Q : Type 0) → (P → Q) → UnlessPutVolume (puts_end_of r) P → UnlessVolume (import_end_of r) Q
unless_import (Ok x) P Q so p = so p
unless_import (Err (found.Stream f)) P Q so p = so p
unless_import (Err found.Source) P Q so p = so p
unless_import (Err found.Output) P Q so p = so p
unless_import (Err found.Volume) P Q so p = tt
unless_import (Err found.OutOfMemory) P Q so p = so p
unless_import (Err (found.Full len)) P Q so p = so p
unless_import (Err found.TooManyTiles) P Q so p = so p

ok_import : (r : ImportEnd) (P Q : Type 0) → (P → Q) → UnlessPutVolume (puts_end_of r) P → OnOk (import_end_of r) Q
ok_import (Ok x) P Q so p = so p
ok_import (Err (found.Stream f)) P Q so p = tt
ok_import (Err found.Source) P Q so p = tt
ok_import (Err found.Output) P Q so p = tt
ok_import (Err found.Volume) P Q so p = tt
ok_import (Err found.OutOfMemory) P Q so p = tt
ok_import (Err (found.Full len)) P Q so p = tt
ok_import (Err found.TooManyTiles) P Q so p = tt

rests_import : (r : ImportEnd) (bundle journal : List ℕ) (d : Disk) → UnlessPutVolume (puts_end_of r) (HoldsClosed bundle d) → Rests (import_end_of r) journal d
rests_import (Ok x) bundle journal d held = shut_held bundle d held
rests_import (Err (found.Stream f)) bundle journal d held = shut_held bundle d held
rests_import (Err found.Source) bundle journal d held = shut_held bundle d held
rests_import (Err found.Output) bundle journal d held = shut_held bundle d held
rests_import (Err found.Volume) bundle journal d held = tt
rests_import (Err found.OutOfMemory) bundle journal d held = shut_held bundle d held
rests_import (Err (found.Full len)) bundle journal d held = shut_held bundle d held
rests_import (Err found.TooManyTiles) bundle journal d held = shut_held bundle d held

-- the bundle was not opened
module _ (S K V : Type 0) (left : S → Option (List ℕ)) (s_faults : S → ℕ) (held : K → Option (List ℕ)) (k_faults : K → ℕ) (told : V → Bool) (history : V → History) (faults : V → ℕ) (src : S) (out : K) (vol mid : V) where
  pub unimported : (failed : Type 0) (stop : Stop StoreRefusal) → (failed → stop ≡ Volume) → (stop ≡ Volume → failed) → OfReading failed (volume_move told history faults vol mid) → OpeningStops (files_of (told vol) (history vol)) stop
      → (IsTrue (told vol) → RestsUnopened stop (contents Journal (history vol)) (current (history mid))) → OfImport (Err (with_store stop)) (source_move left s_faults src src) (volume_move told history faults vol mid) (sink_move held k_faults out out)
  unimported failed stop to from so stops rests = record {
    source = uncalled _ (s_faults src) (λ is. never_source _ stop stops (let same : with_store stop ≡ _ = cc in same));
    output = uncalled _ (k_faults out) (λ is. never_output _ stop stops (let same : with_store stop ≡ _ = cc in same));
    volume = caused failed _ (faults vol) (faults mid) (λ f. ap (λ (s : Stop StoreRefusal). Err (with_store s)) (to f)) (λ is. from (store_volume stop (let same : with_store stop ≡ Volume = cc in same))) so.cause;
    told = so.told;
    rests = λ t. rests_store stop (contents Journal (history vol)) (current (history mid)) (rests t);
    ends = inl (record { unopened = record { stop = stop; end_is = refl; stops = stops; idle = refl }; unread = refl; keeps = λ tells sound. keeps_start failed (volume_move told history faults vol mid) so tells sound });
  }

  -- it was, and the stream was read and put
  module _ (new : V) (src_new : S) (out_new : K) (s s_new : SessionState) where
    pub imported : (failed : Type 0) → (failed → ⊥) → OfReading failed (volume_move told history faults vol mid) → (IsTrue (told vol) → IsOpened s (contents Bundle (history vol)) (contents Journal (history vol)) (current (history mid)))
        → (r : ImportEnd) → Imports r s_new (told mid) (history mid) (history new) (left src) (held out) (held out_new) → told new ≡ told mid
        → IsCause (r ≡ Err found.Volume) (faults mid) (faults new) → IsCause (r ≡ Err found.Output) (k_faults out) (k_faults out_new) → IsCause (r ≡ Err found.Source) (s_faults src) (s_faults src_new)
        → OfImport (import_end_of r) (source_move left s_faults src src_new) (volume_move told history faults vol new) (sink_move held k_faults out out_new)
    imported failed well so opened r is tells volume output source =
        let puts = is.puts in
        let leaves = λ (t : IsTrue (told vol)). puts.leaves (so.told ∙ t) in
        record {
          source = caused _ _ (s_faults src) (s_faults src_new) (λ e. ap import_end_of e) (import_source r) source;
          output = caused _ _ (k_faults out) (k_faults out_new) (λ e. ap import_end_of e) (import_output r) output;
          volume = joined_cause failed _ (faults vol) (faults mid) (faults new) well so.cause (caused _ _ (faults mid) (faults new) (λ e. ap import_end_of e) (import_volume r) volume);
          told = tells ∙ so.told;
          rests = λ t. rests_import r _ (contents Journal (history vol)) (current (history new)) (leaves t).reads;
          ends = inr (record {
            answer = r;
            end_is = refl;
            tiles = is.tiles;
            marks = is.marks;
            reads = is.reads;
            groups = is.groups;
            gave = puts.gave;
            full = puts.full;
            few = put_few is.tiles (length is.marks) (puts_end_of r) _ _ puts.gave;
            marks_are = λ t. earlier_marks is.marks (history vol).moment (history mid).moment (history new).moment (so.later t) (leaves t).marks_are;
            holds = λ t. let o = opened t in (contents Bundle (history mid), (inl (o.done, o.leaves), (leaves t).room, unless_import r _ _ (λ h. ap (λ (x : File). x.now) h.bundle_is) (leaves t).reads));
            keeps = λ start ready.
                let o = opened ready.tells in (
                  contents Bundle (history mid),
                  (
                    inl (o.done, o.leaves),
                    (leaves ready.tells).groups,
                    puts_from is.tiles is.marks start (history vol) (history mid) (history new) ready.stands (keeps_start failed (volume_move told history faults vol mid) so ready.tells ready.sound)
                        o.recovered (leaves ready.tells).marks_are (leaves ready.tells).images,
                  ),
                );
            done = λ t start stands.
                let map = left_map start (history vol) (history mid) stands (opened t).recovered in
                let Done : TileMap → Type 0 = λ from. EachImage (λ m. m ≡ map_after from (take (length is.marks) is.tiles)) (current (history new)) in
                ok_import r (Done (tiles (contents Bundle (history mid)))) (Done start) (λ each. subst Done (sym map.1) each) ((leaves t).tiles_are map.0);
          });
        }
