-- What the exports leave, by how they end; and what an export of all tiles gives of a map.
use Rattle.std.proofs.Common.{◌≡◌, inl, inr, ℕ, zero, suc, ◌<◌, ◌≤◌, ◌==◌, List, [], ◌∷◌, ◌++◌, Bool, Option, Some, None, if◌then◌else◌, Ok, Err, refl, sym, ap, subst, ◌∙◌, arith}
use Rattle.std.specs.Prelude.{IsTrue, take, drop}
use Rattle.std.proofs.lemmas.Bool.{cases_Bool}
use Rattle.bundle_index.specs.Entry.{entry_at}
use Rattle.bundle_store.specs.declared.tile_rec.TileRec.{TileRec}
use Rattle.bundle_store.specs.Tiles.{tiles}
use Rattle.bundle_lines.proofs.Kept.{left_map}
use Rattle.bundle_store.specs.Session.{SessionState}
use Rattle.bundle_store.specs.Told.{OnlyReads}
use Rattle.bundle_tiles.specs.Exported.{AreTilesAt, ExportGave, slots_below, slots_of, tile_of, tiles_below, tiles_of}
use Rattle.bundle_tiles.proofs.Exporting.{export_as}
use Rattle.bundle_tiles.proofs.TilesBySlot.{slots_more, slots_none, tile_at, tiles_more, tiles_none}
use Rattle.opened_bundle.specs.Files.{Files, files_of}
use Rattle.opened_bundle.specs.Left.{IsShut, OfReading}
use Rattle.opened_bundle.specs.Opening.{IsOpened, OpeningStops}
use Rattle.opened_bundle.specs.declared.refusal.StoreRefusal.{StoreRefusal}
use Rattle.opened_bundle.specs.declared.refusal.StoreRefusal.TheVariants.{NoTile, Beyond, BadBundle, BadJournal, NotEmpty, Full}
use Rattle.opened_bundle.proofs.BundleOpening.{of_bundle, reads_as, reads_on}
use Rattle.opened_bundle.proofs.Resting.{shut_still}
use Rattle.outside_io.specs.declared.volume.VolFile.TheVariants.{Bundle, Journal}
use Rattle.outside_io.specs.streams.Faults.{IsCause}
use Rattle.outside_io.specs.volume.Disk.{Disk}
use Rattle.outside_io.specs.volume.History.{During, History, contents, current}
use Rattle.outside_io.proofs.VolumeLemmas.Moments.{during_end}
use Rattle.program_ends.specs.Moves.{SinkMove, VolumeMove, sink_move, volume_move}
use Rattle.program_ends.specs.Stop.{End as EndOf}
use Rattle.program_ends.specs.declared.stop.Stop.{Stop}
use Rattle.program_ends.specs.declared.stop.Stop.TheVariants.{Usage, Source, Output, Volume, OutOfMemory, Refused}
use Rattle.program_ends.proofs.Ends.{caused}
use Rattle.tiles_cli.specs.Exporting.{OfExport, Rests}
use Rattle.tiles_cli.specs.Names.{End, store_end_of, with_store}
use Rattle.tiles_cli.specs.declared.refusal.Refusal.{Refusal}
use Rattle.tiles_cli.proofs.Ends.{uncalled}

-- ---- the tiles of all slots are those of the map

-- what is given of a list of slots in two parts is in two parts
record Parted (told : Bool) (b xs ys : List ℕ) (given : List TileRec) : Type 0 where
  pub first : List TileRec
  pub later : List TileRec
  pub joined : given ≡ first ++ later
  pub first_are : AreTilesAt told b xs first
  pub later_are : AreTilesAt told b ys later

parted : (told : Bool) (b xs ys : List ℕ) (given : List TileRec) → AreTilesAt told b (xs ++ ys) given → Parted told b xs ys given
parted told b [] ys given are = record { first = []; later = given; joined = refl; first_are = tt; later_are = are }
parted told b (x ∷ xs) ys [] are = absurd are
parted told b (x ∷ xs) ys (t ∷ ts) are =
    let p = parted told b xs ys ts are.1 in
    record { first = t ∷ p.first; later = p.later; joined = ap (λ (us : List TileRec). t ∷ us) p.joined; first_are = (are.0, p.first_are); later_are = p.later_are }

one_tile : (told : Bool) (b : List ℕ) (slot : ℕ) (given : List TileRec) → IsTrue told → AreTilesAt told b (slot ∷ []) given → given ≡ tile_of slot (tiles b slot)
one_tile told b slot [] yes_ are = absurd are
one_tile told b slot (t ∷ []) yes_ are = (λ i. record { slot = are.0.slot_is i; bytes = t.bytes } ∷ []) ∙ sym (ap (tile_of slot) (are.0.is yes_))
one_tile told b slot (t ∷ (u ∷ us)) yes_ are = absurd are.1

no_tile : (told : Bool) (b : List ℕ) (given : List TileRec) → AreTilesAt told b [] given → given ≡ []
no_tile told b [] are = refl
no_tile told b (t ∷ ts) are = absurd are

-- one slot more
by_entry : (told : Bool) (b : List ℕ) (n : ℕ) (given : List TileRec) → IsTrue told → n < 16384 → AreTilesAt told b (if (entry_at b n).size == 0 then [] else n ∷ []) given → given ≡ tile_of n (tiles b n)
by_entry told b n given yes_ below are = elim (cases_Bool ((entry_at b n).size == 0)) [
  | inl none ↦ no_tile told b given (subst (λ (t : Bool). AreTilesAt told b (if t then [] else n ∷ []) given) none are)
      ∙ sym (ap (tile_of n) (tile_at b n below ∙ ap (λ (t : Bool). if t then None else Some (take (entry_at b n).size (drop (entry_at b n).offset b))) none))
  | inr some ↦ one_tile told b n given yes_ (subst (λ (t : Bool). AreTilesAt told b (if t then [] else n ∷ []) given) some are)
]

all_below : (told : Bool) (b : List ℕ) (n : ℕ) (given : List TileRec) → IsTrue told → n ≤ 16384 → AreTilesAt told b (slots_below b n) given → given ≡ tiles_below (tiles b) n
all_below told b zero given yes_ le are = no_tile told b given (subst (λ (xs : List ℕ). AreTilesAt told b xs given) (slots_none b) are) ∙ sym (tiles_none (tiles b))
all_below told b (suc n) given yes_ le are =
    let p = parted told b (slots_below b n) (if (entry_at b n).size == 0 then [] else n ∷ []) given (subst (λ (xs : List ℕ). AreTilesAt told b xs given) (slots_more b n) are) in
    p.joined ∙ (λ i. all_below told b n p.first yes_ (omega (arith, le)) p.first_are i ++ by_entry told b n p.later yes_ (omega (arith, le)) p.later_are i) ∙ sym (tiles_more (tiles b) n)

pub all_tiles : (told : Bool) (b : List ℕ) (given : List TileRec) → IsTrue told → AreTilesAt told b (slots_of b) given → given ≡ tiles_of (tiles b)
all_tiles told b given yes_ are = all_below told b 16384 given yes_ (omega arith) are

-- ---- how an export ends

store_output : (r : EndOf StoreRefusal) → store_end_of r ≡ Err Output → r ≡ Err Output
store_output (Ok x) is = absurd (let no : ⊥ = cc in no)
store_output (Err Usage) is = absurd (let no : ⊥ = cc in no)
store_output (Err Source) is = absurd (let no : ⊥ = cc in no)
store_output (Err Output) is = refl
store_output (Err Volume) is = absurd (let no : ⊥ = cc in no)
store_output (Err OutOfMemory) is = absurd (let no : ⊥ = cc in no)
store_output (Err (Refused refusal)) is = absurd (let no : ⊥ = cc in no)

store_failed : (r : EndOf StoreRefusal) → store_end_of r ≡ Err Volume → r ≡ Err Volume
store_failed (Ok x) is = absurd (let no : ⊥ = cc in no)
store_failed (Err Usage) is = absurd (let no : ⊥ = cc in no)
store_failed (Err Source) is = absurd (let no : ⊥ = cc in no)
store_failed (Err Output) is = absurd (let no : ⊥ = cc in no)
store_failed (Err Volume) is = refl
store_failed (Err OutOfMemory) is = absurd (let no : ⊥ = cc in no)
store_failed (Err (Refused refusal)) is = absurd (let no : ⊥ = cc in no)

rests_export : (r : EndOf StoreRefusal) (told : Bool) (bundle slots : List ℕ) (old new : Option (List ℕ)) (journal : List ℕ) (d : Disk) → ExportGave r told bundle slots old new → IsShut d → Rests (store_end_of r) journal d
rests_export (Ok x) told bundle slots old new journal d gave shut = shut
rests_export (Err Usage) told bundle slots old new journal d gave shut = shut
rests_export (Err Source) told bundle slots old new journal d gave shut = shut
rests_export (Err Output) told bundle slots old new journal d gave shut = shut
rests_export (Err Volume) told bundle slots old new journal d gave shut = tt
rests_export (Err OutOfMemory) told bundle slots old new journal d gave shut = shut
rests_export (Err (Refused (NoTile row col))) told bundle slots old new journal d gave shut = shut
rests_export (Err (Refused (Beyond row col entry got))) told bundle slots old new journal d gave shut = shut
rests_export (Err (Refused (BadBundle place found))) told bundle slots old new journal d gave shut = shut
rests_export (Err (Refused (BadJournal place found))) told bundle slots old new journal d gave shut = absurd gave.stops
rests_export (Err (Refused (NotEmpty len))) told bundle slots old new journal d gave shut = shut
rests_export (Err (Refused (Full len))) told bundle slots old new journal d gave shut = shut

-- a bundle that was only read reads as it did
pub read_still : (mid new : History) → During (λ d. d ≡ current mid) mid new → contents Bundle new ≡ contents Bundle mid
read_still mid new during = ap (λ (d : Disk). d.bundle.now) (during_end (λ d. d ≡ current mid) mid new during)

-- the bundle was opened
module _ (K V : Type 0) (held : K → Option (List ℕ)) (k_faults : K → ℕ) (told : V → Bool) (history : V → History) (faults : V → ℕ) (out : K) (vol mid : V) (Asks : List ℕ → Type 0) (failed : Type 0) (well : failed → ⊥) (so : OfReading failed (volume_move told history faults vol mid)) (shut : IsTrue (told vol) → IsShut (current (history mid))) where
  -- and there was no memory for its slots
  pub unnumbered : (s : SessionState) → (IsTrue (told vol) → IsOpened s (contents Bundle (history vol)) (contents Journal (history vol)) (current (history mid))) → OfExport Asks (Err OutOfMemory) (volume_move told history faults vol mid) (sink_move held k_faults out out)
  unnumbered s opened = record {
    cause = uncalled _ (k_faults out) (λ is. let no : ⊥ = cc in no);
    reading = reads_as failed _ (volume_move told history faults vol mid) (λ f. absurd (well f)) (λ is. absurd (let no : ⊥ = cc in no)) so;
    rests = shut;
    ends = inl (record { stop = OutOfMemory; end_is = refl; stops = of_bundle (told vol) (history vol) (λ b. Unit {0}) s (current (history mid)) opened (λ _. tt); idle = refl });
  }

  -- and the tiles of these slots were given
  pub exported : (s : SessionState) → (IsTrue (told vol) → IsOpened s (contents Bundle (history vol)) (contents Journal (history vol)) (current (history mid))) → (new : V) (out_new : K) (slots : List ℕ) (r : EndOf StoreRefusal) → ExportGave r (told mid) (contents Bundle (history mid)) slots (held out) (held out_new) → OnlyReads told history faults (IsCause (r ≡ Err Volume)) mid new
      → IsCause (r ≡ Err Output) (k_faults out) (k_faults out_new) → Asks slots → OfExport Asks (store_end_of r) (volume_move told history faults vol new) (sink_move held k_faults out out_new)
  exported s opened new out_new slots r gave reads output asks = record {
    cause = caused _ _ (k_faults out) (k_faults out_new) (λ e. ap store_end_of e) (store_output r) output;
    reading = reads_on failed (store_end_of r ≡ Err Volume) V told history faults vol mid new well so (caused _ _ (faults mid) (faults new) (λ e. ap store_end_of e) (store_failed r) reads.counted) reads.same reads.during;
    rests = λ t. rests_export r (told mid) (contents Bundle (history mid)) slots (held out) (held out_new) (contents Journal (history vol)) (current (history new)) gave (shut_still (history mid) (history new) (reads.during (so.told ∙ t)) (shut t));
    ends = inr (
      slots,
      (
        asks,
        record {
          answer = r;
          end_is = refl;
          gave = export_as (told vol) (told mid) (contents Bundle (history new)) (contents Bundle (history mid)) so.told (λ t. sym (read_still (history mid) (history new) (reads.during (so.told ∙ t)))) slots r (held out) (held out_new) gave;
          stands = λ t start is. (left_map start (history vol) (history mid) is (opened t).recovered).1 ∙ sym (ap tiles (read_still (history mid) (history new) (reads.during (so.told ∙ t))));
        },
      ),
    );
  }

-- the slots are those that are asked for
pub asks_as : (A B : List ℕ → Type 0) (end : End) (vol : VolumeMove) (out : SinkMove) → ((slots : List ℕ) → A slots → B slots) → OfExport A end vol out → OfExport B end vol out
asks_as A B end vol out to so = record {
  cause = so.cause;
  reading = so.reading;
  rests = so.rests;
  ends = elim so.ends [ inl un ↦ inl un | inr gives ↦ inr (gives.0, (to gives.0 gives.1.0, gives.1.1)) ];
}

-- ---- what ends no export

abbrev NoExportStop : Stop Refusal → Type 0
NoExportStop Usage = Unit {0}
NoExportStop Source = Unit {0}
NoExportStop stop = ⊥

not_opening : (files : Option Files) (stop : Stop StoreRefusal) → OpeningStops files stop → NoExportStop (with_store stop) → ⊥
not_opening files Usage stops which = stops
not_opening files Source stops which = stops
not_opening files Output stops which = which
not_opening files Volume stops which = which
not_opening files OutOfMemory stops which = which
not_opening files (Refused refusal) stops which = which

not_given : (r : EndOf StoreRefusal) (stop : Stop Refusal) (told : Bool) (bundle slots : List ℕ) (old new : Option (List ℕ)) → ExportGave r told bundle slots old new → store_end_of r ≡ Err stop → NoExportStop stop → ⊥
not_given (Ok x) stop told bundle slots old new gave is which = cc
not_given (Err Usage) stop told bundle slots old new gave is which = gave.stops
not_given (Err Source) stop told bundle slots old new gave is which = gave.stops
not_given (Err Output) stop told bundle slots old new gave is which = subst NoExportStop (let same : stop ≡ Output = cc in same) which
not_given (Err Volume) stop told bundle slots old new gave is which = subst NoExportStop (let same : stop ≡ Volume = cc in same) which
not_given (Err OutOfMemory) stop told bundle slots old new gave is which = subst NoExportStop (let same : stop ≡ OutOfMemory = cc in same) which
not_given (Err (Refused refusal)) stop told bundle slots old new gave is which = subst NoExportStop (let same : stop ≡ with_store (Refused refusal) = cc in same) which

pub never_exports : (A : List ℕ → Type 0) (end : End) (stop : Stop Refusal) (vol : VolumeMove) (out : SinkMove) → NoExportStop stop → OfExport A end vol out → end ≡ Err stop → ⊥
never_exports A end stop vol out which so is = elim so.ends [
  | inl un ↦ not_opening (files_of vol.told.old vol.history.old) un.stop un.stops (subst NoExportStop (let same : stop ≡ with_store un.stop = by end (with_store un.stop) stop (sym un.end_is ∙ is) in same) which)
  | inr gives ↦ not_given gives.1.1.answer stop vol.told.old (contents Bundle vol.history.new) gives.0 out.held.old out.held.new gives.1.1.gave (sym gives.1.1.end_is ∙ is) which
]
  where
    by : (end : End) (a b : Stop Refusal) → ◌≡◌ {A = End} (Err a) (Err b) → b ≡ a
    by end a b same = let is : b ≡ a = cc in is
