-- The stream of slots, one slot more.
use Rattle.std.proofs.Common.{◌≡◌, inl, inr, ℕ, ◌+◌, ◌<◌, ◌≤◌, List, [], ◌∷◌, ◌++◌, length, get_or, take, Option, Bool, Ok, Err, refl, sym, ap, subst, ◌∙◌, arith}
use Rattle.std.specs.Prelude.{IsTrue, OnErr, OnOk, Result}
use Rattle.std.specs.List.{AllZip}
use Rattle.std.proofs.lemmas.Bool.{cases_lt}
use Rattle.std.proofs.lemmas.List.{take_all, take_more}
use Rattle.outside_io.specs.streams.Sink.{Holds, HoldsPrefix}
use Rattle.outside_io.specs.streams.Faults.{IsCause}
use Rattle.outside_io.proofs.StreamLemmas.Gives.{HoldsPrefix_front, HoldsPrefix_join, Holds_join, Holds_none}
use Rattle.bundle_index.specs.Entry.{entry_at}
use Rattle.bundle_store.specs.Session.{GetGives, IsBeyond}
use Rattle.bundle_store.specs.Tiles.{tiles}
use Rattle.bundle_store.specs.declared.tile_rec.TileRec.{TileRec}
use Rattle.opened_bundle.specs.declared.refusal.StoreRefusal.{StoreRefusal}
use Rattle.opened_bundle.specs.declared.refusal.StoreRefusal.TheVariants.{NoTile, Beyond, BadBundle, BadJournal, NotEmpty, Full}
use Rattle.program_ends.specs.declared.stop.Stop.{Stop}
use Rattle.program_ends.specs.declared.stop.Stop.TheVariants.{Usage, Source, Output, Volume, OutOfMemory, Refused}
use Rattle.bundle_tiles.specs.Exported.{ExportGave, GaveTiles, IsTileAt, StopsAt, StopsBehind}
use Rattle.bundle_tiles.specs.RawTile.{IsRawHead, IsRawTile}
use Rattle.bundle_tiles.specs.inside.Pieces.{GaveTile, SlotGave}
use Rattle.bundle_tiles.proofs.RawStreams.{stream_push}

zip_push : {A B : Type 0} (R : A → B → Type 0) (xs : List A) (x : A) (ys : List B) (y : B) → AllZip R xs ys → R x y → AllZip R (xs ++ x ∷ []) (ys ++ y ∷ [])
zip_push R [] x [] y are is = (is, tt)
zip_push R [] x (z ∷ zs) y are is = absurd are
zip_push R (w ∷ ws) x [] y are is = absurd are
zip_push R (w ∷ ws) x (z ∷ zs) y are is = (are.0, zip_push R ws x zs y are.1 is)

-- one element more of a list
take_next : (slots : List ℕ) (k slot : ℕ) → k < length slots → get_or slots k 0 ≡ slot → take (k + 1) slots ≡ take k slots ++ slot ∷ []
take_next slots k slot less is = take_more slots k 0 less ∙ ap (λ (x : ℕ). take k slots ++ x ∷ []) is

-- an object whose count did not rise
pub unraised : (P : Type 0) (old new : ℕ) → IsCause P old new → (P → ⊥) → new ≡ old
unraised P old new cause never = elim (cases_lt old new) [
  | inl rose ↦ absurd (never (cause.rose rose))
  | inr not ↦ omega (arith, not, cause.counts)
]

-- ---- one tile

-- the bytes in front of a tile and its own are the tile
module _ (slot : ℕ) (tile head : List ℕ) (is : IsRawHead head (record { slot = slot; size = length tile })) (old mid new : Option (List ℕ)) where
  whole : IsRawTile (head ++ tile) (record { slot = slot; bytes = tile })
  whole = record { head = head; joined = refl; head_is = is }

  pub tile_given : {X Y : Type 0} (r : Result X Y) → Holds old mid head → OnOk r (Holds mid new tile) → OnOk r (GaveTile (record { slot = slot; bytes = tile }) (Holds old new))
  tile_given (Ok x) first later = (head ++ tile, (whole, Holds_join old mid new head tile first later))
  tile_given (Err y) first later = tt

  pub tile_cut : {X Y : Type 0} (r : Result X Y) → Holds old mid head → OnErr r (HoldsPrefix mid new tile) → OnErr r (GaveTile (record { slot = slot; bytes = tile }) (HoldsPrefix old new))
  tile_cut (Ok x) first later = tt
  tile_cut (Err y) first later = (head ++ tile, (whole, HoldsPrefix_join old mid new head tile first later))

  pub head_cut : HoldsPrefix old new head → GaveTile (record { slot = slot; bytes = tile }) (HoldsPrefix old new)
  head_cut held = (head ++ tile, (whole, HoldsPrefix_front old new head tile held))

-- what is told of a bundle that reads as it did
module _ (told now : Bool) (bundle bundle_now : List ℕ) (slot : ℕ) (same : now ≡ told) (still : IsTrue told → bundle_now ≡ bundle) where
  tells : IsTrue told → IsTrue now
  tells yes_ = subst IsTrue (sym same) yes_

  pub tile_as : (tile : TileRec) → IsTileAt now bundle_now slot tile → IsTileAt told bundle slot tile
  tile_as tile at = record {
    slot_is = at.slot_is;
    whole = λ yes_. subst (λ (b : List ℕ). GetGives b slot tile.bytes) (still yes_) (at.whole (tells yes_));
    is = λ yes_. ap (λ (b : List ℕ). tiles b slot) (sym (still yes_)) ∙ at.is (tells yes_);
  }

  stops_as : (stop : Stop StoreRefusal) → StopsAt now bundle_now slot stop → StopsAt told bundle slot stop
  stops_as Usage stops = stops
  stops_as Source stops = stops
  stops_as Output stops = stops
  stops_as Volume stops = stops
  stops_as OutOfMemory stops = stops
  stops_as (Refused (NoTile row col)) stops = (stops.0, stops.1, λ yes_. ap (λ (b : List ℕ). (entry_at b slot).size) (sym (still yes_)) ∙ stops.2 (tells yes_))
  stops_as (Refused (Beyond row col entry got)) stops = (stops.0, stops.1, stops.2, λ yes_. subst (λ (b : List ℕ). IsBeyond b slot entry got) (still yes_) (stops.3 (tells yes_)))
  stops_as (Refused (BadBundle place found)) stops = stops
  stops_as (Refused (BadJournal place found)) stops = stops
  stops_as (Refused (NotEmpty len)) stops = stops
  stops_as (Refused (Full len)) stops = stops

  pub slot_as : (r : Result (Unit {0}) (Stop StoreRefusal)) (old new : Option (List ℕ)) → SlotGave r now bundle_now slot old new → SlotGave r told bundle slot old new
  slot_as (Ok x) old new (tile, (at, gave)) = (tile, (tile_as tile at, gave))
  slot_as (Err Output) old new (tile, (at, gave)) = (tile, (tile_as tile at, gave))
  slot_as (Err Usage) old new (stops, idle) = (stops_as Usage stops, idle)
  slot_as (Err Source) old new (stops, idle) = (stops_as Source stops, idle)
  slot_as (Err Volume) old new (stops, idle) = (stops_as Volume stops, idle)
  slot_as (Err OutOfMemory) old new (stops, idle) = (stops_as OutOfMemory stops, idle)
  slot_as (Err (Refused refusal)) old new (stops, idle) = (stops_as (Refused refusal) stops, idle)

-- ---- some tiles

-- nothing was given
pub gave_none : (told : Bool) (bundle slots : List ℕ) (held : Option (List ℕ)) → GaveTiles told bundle (take 0 slots) (Holds held held)
gave_none told bundle slots held = record { given = []; bytes = []; tiles_are = tt; stream = refl; held = Holds_none held }

module _ (told : Bool) (bundle slots : List ℕ) (k slot : ℕ) (old mid new : Option (List ℕ)) (less : k < length slots) (is : get_or slots k 0 ≡ slot) where
  -- one tile more
  pub gave_more : (tile : TileRec) → GaveTiles told bundle (take k slots) (Holds old mid) → IsTileAt told bundle slot tile → GaveTile tile (Holds mid new) → GaveTiles told bundle (take (k + 1) slots) (Holds old new)
  gave_more tile so at (more, (raw, held)) = record {
    given = so.given ++ tile ∷ [];
    bytes = so.bytes ++ more;
    tiles_are = subst (λ (xs : List ℕ). AllZip (IsTileAt told bundle) xs (so.given ++ tile ∷ [])) (sym (take_next slots k slot less is)) (zip_push (IsTileAt told bundle) (take k slots) slot so.given tile so.tiles_are at);
    stream = stream_push so.bytes more so.given tile so.stream raw;
    held = Holds_join old mid new so.bytes more so.held held;
  }

  -- and one that was cut short
  pub gave_cut : (tile : TileRec) → GaveTiles told bundle (take k slots) (Holds old mid) → IsTileAt told bundle slot tile → GaveTile tile (HoldsPrefix mid new) → GaveTiles told bundle (take (k + 1) slots) (HoldsPrefix old new)
  gave_cut tile so at (more, (raw, held)) = record {
    given = so.given ++ tile ∷ [];
    bytes = so.bytes ++ more;
    tiles_are = subst (λ (xs : List ℕ). AllZip (IsTileAt told bundle) xs (so.given ++ tile ∷ [])) (sym (take_next slots k slot less is)) (zip_push (IsTileAt told bundle) (take k slots) slot so.given tile so.tiles_are at);
    stream = stream_push so.bytes more so.given tile so.stream raw;
    held = HoldsPrefix_join old mid new so.bytes more so.held held;
  }

  stopped : (stop : Stop StoreRefusal) → GaveTiles told bundle (take k slots) (Holds old mid) → StopsAt told bundle slot stop → new ≡ mid → StopsBehind told bundle slots stop old new
  stopped stop so stops same = record {
    count = k;
    slot = slot;
    within = less;
    slot_is = is;
    stops = stops;
    gave = subst (λ (h : Option (List ℕ)). GaveTiles told bundle (take k slots) (Holds old h)) (sym same) so;
  }

  -- the tile of the slot was not given, or not whole
  pub gave_stop : (stop : Stop StoreRefusal) → GaveTiles told bundle (take k slots) (Holds old mid) → SlotGave (let r : Result (Unit {0}) (Stop StoreRefusal) = Err stop in r) told bundle slot mid new → ExportGave (let r : Result (Unit {0}) (Stop StoreRefusal) = Err stop in r) told bundle slots old new
  gave_stop Output so (tile, (at, gave)) = (k + 1, (omega (arith, less), gave_cut tile so at gave))
  gave_stop Usage so (stops, same) = absurd stops
  gave_stop Source so (stops, same) = absurd stops
  gave_stop Volume so (stops, same) = stopped Volume so stops same
  gave_stop OutOfMemory so (stops, same) = stopped OutOfMemory so stops same
  gave_stop (Refused refusal) so (stops, same) = stopped (Refused refusal) so stops same

-- all of them were given
pub gave_all : (told : Bool) (bundle slots : List ℕ) (k : ℕ) (old new : Option (List ℕ)) → length slots ≤ k → GaveTiles told bundle (take k slots) (Holds old new) → GaveTiles told bundle slots (Holds old new)
gave_all told bundle slots k old new all so = subst (λ (xs : List ℕ). GaveTiles told bundle xs (Holds old new)) (take_all k slots all) so

-- ---- what is told of a bundle that reads as it did, of all slots

module _ (told now : Bool) (bundle bundle_now : List ℕ) (same : now ≡ told) (still : IsTrue told → bundle_now ≡ bundle) where
  tiles_as : (slots : List ℕ) (given : List TileRec) → AllZip (IsTileAt now bundle_now) slots given → AllZip (IsTileAt told bundle) slots given
  tiles_as [] [] are = tt
  tiles_as [] (t ∷ ts) are = absurd are
  tiles_as (slot ∷ slots) [] are = absurd are
  tiles_as (slot ∷ slots) (t ∷ ts) are = (tile_as told now bundle bundle_now slot same still t are.0, tiles_as slots ts are.1)

  gave_as : (slots : List ℕ) (gained : List ℕ → Type 0) → GaveTiles now bundle_now slots gained → GaveTiles told bundle slots gained
  gave_as slots gained so = record { given = so.given; bytes = so.bytes; tiles_are = tiles_as slots so.given so.tiles_are; stream = so.stream; held = so.held }

  behind_as : (slots : List ℕ) (stop : Stop StoreRefusal) (old new : Option (List ℕ)) → StopsBehind now bundle_now slots stop old new → StopsBehind told bundle slots stop old new
  behind_as slots stop old new so = record {
    count = so.count;
    slot = so.slot;
    within = so.within;
    slot_is = so.slot_is;
    stops = stops_as told now bundle bundle_now so.slot same still stop so.stops;
    gave = gave_as (take so.count slots) (Holds old new) so.gave;
  }

  pub export_as : (slots : List ℕ) (r : Result (Unit {0}) (Stop StoreRefusal)) (old new : Option (List ℕ)) → ExportGave r now bundle_now slots old new → ExportGave r told bundle slots old new
  export_as slots (Ok x) old new so = gave_as slots (Holds old new) so
  export_as slots (Err Output) old new (count, (within, so)) = (count, (within, gave_as (take count slots) (HoldsPrefix old new) so))
  export_as slots (Err Usage) old new so = behind_as slots Usage old new so
  export_as slots (Err Source) old new so = behind_as slots Source old new so
  export_as slots (Err Volume) old new so = behind_as slots Volume old new so
  export_as slots (Err OutOfMemory) old new so = behind_as slots OutOfMemory old new so
  export_as slots (Err (Refused refusal)) old new so = behind_as slots (Refused refusal) old new so
