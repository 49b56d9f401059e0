-- Updates that are added one behind the other.
use Rattle.std.proofs.Common.{◌≡◌, ℕ, ◌+◌, ◌^◌, ◌<◌, ◌≤◌, zero, suc, List, [], ◌∷◌, ◌++◌, length, get_or, map, take, drop, None, refl, sym, ap, ◌∙◌, subst, arith, append_assoc}
use Rattle.std.specs.Prelude.{All}
use Rattle.std.proofs.lemmas.List.{append-nil, drop_more, take-append-drop, take_all, take_more}
use Rattle.std.proofs.lemmas.List.Elements.{All-cons, All-head, All-nil, All-push, All-tail}
use Rattle.raster_values.specs.Raster.{Pixels}
use Rattle.lerc_header.specs.declared.header.Version.{Version}
use Rattle.lerc_encode.specs.Choice.{chosen_bands}
use Rattle.lerc_encode.specs.Encoded.{BandsNeedV4}
use Rattle.bundle_store.specs.declared.tile_rec.TileRec.{TileRec}
use Rattle.tile_stream.specs.declared.tile.Tile.{Tile}
use Rattle.tile_updates.specs.declared.stop.BatchStop.{BatchStop}
use Rattle.tile_updates.specs.declared.stop.BatchStop.TheVariants.{TileTooLarge, KeptTooMuch, OutOfMemory}
use Rattle.tile_updates.specs.Adding.{MayBeAdded, StopsAdding, TellsBatchStop}
use Rattle.tile_updates.specs.Tiles.{tiles_of}
use Rattle.tile_updates.specs.Updates.{Passes, kept_bytes, update_of, updates_of, tile_bytes}
use Rattle.tile_updates.proofs.Passing.{kept_both, updates_push}
use Rattle.tile_updates.proofs.Tiles.{tile_at, tiles_length}

pub kept_one : (us : List TileRec) (u : TileRec) → kept_bytes (us ++ u ∷ []) ≡ kept_bytes us + length u.bytes
kept_one us u = let one : kept_bytes (u ∷ []) ≡ length u.bytes = omega arith in kept_both us (u ∷ []) ∙ ap (λ n. kept_bytes us + n) one

-- the first of the tiles were added to the updates before
pub record AreAdded (v : Version) (step : ℕ) (before : List TileRec) (tiles : List Tile) (i : ℕ) (list : List TileRec) : Type 0 where
  pub list_is : list ≡ before ++ updates_of v step (take i tiles)
  pub may : MayBeAdded v step before (take i tiles)

pub none_added : (v : Version) (step : ℕ) (before : List TileRec) (tiles : List Tile) → kept_bytes before ≤ 2 ^ 30 → AreAdded v step before tiles 0 before
none_added v step before tiles kept = record {
  list_is = sym (append-nil before);
  may = record { each = All-nil (Passes v step); kept = subst (λ (us : List TileRec). kept_bytes us ≤ 2 ^ 30) (sym (append-nil before)) kept };
}

pub one_added : (v : Version) (step : ℕ) (before : List TileRec) (tiles : List Tile) (i : ℕ) (list list' : List TileRec) (t : Tile) → i < length tiles → t ≡ get_or tiles i t → ¬ BandsNeedV4 v t.bands → AreAdded v step before tiles i list
    → list' ≡ list ++ update_of v step t ∷ [] → length (tile_bytes v step t) ≤ 16777215 → kept_bytes list' ≤ 2 ^ 30 → AreAdded v step before tiles (i + 1) list'
one_added v step before tiles i list list' t below is flat a pushed small kept =
    let next : take (i + 1) tiles ≡ take i tiles ++ t ∷ [] = take_more tiles i t below ∙ ap (λ (u : Tile). take i tiles ++ u ∷ []) (sym is) in
    let all : list' ≡ before ++ updates_of v step (take (i + 1) tiles) =
    pushed ∙ ap (λ (us : List TileRec). us ++ update_of v step t ∷ []) a.list_is ∙ append_assoc before (updates_of v step (take i tiles)) (update_of v step t ∷ [])
    ∙ ap (λ (us : List TileRec). before ++ us) (sym (updates_push v step (take i tiles) t)) ∙ ap (λ (ts : List Tile). before ++ updates_of v step ts) (sym next) in
    record {
      list_is = all;
      may = record {
        each = subst (All (Passes v step)) (sym next) (All-push (Passes v step) (take i tiles) t a.may.each (record { taken = flat; small = small }));
        kept = subst (λ (us : List TileRec). kept_bytes us ≤ 2 ^ 30) all kept;
      };
    }

pub all_added : (v : Version) (step : ℕ) (before : List TileRec) (tiles : List Tile) (i : ℕ) (list : List TileRec) → length tiles ≤ i → AreAdded v step before tiles i list → (list ≡ before ++ updates_of v step tiles) × MayBeAdded v step before tiles
all_added v step before tiles i list all a =
    let whole : take i tiles ≡ tiles = take_all i tiles all in
    (a.list_is ∙ ap (λ (ts : List Tile). before ++ updates_of v step ts) whole, subst (MayBeAdded v step before) whole a.may)

pub stops_there : (v : Version) (step : ℕ) (before : List TileRec) (tiles : List Tile) (i : ℕ) (list : List TileRec) (t : Tile) (stop : BatchStop) → i < length tiles → t ≡ get_or tiles i t → AreAdded v step before tiles i list → StopsAdding list (update_of v step t) stop
    → TellsBatchStop v step before tiles stop
stops_there v step before tiles i list t OutOfMemory below is a w = tt
stops_there v step before tiles i list t (TileTooLarge at len) below is a w = record {
  front = take i tiles;
  tile = t;
  behind = drop (i + 1) tiles;
  split = sym (take-append-drop i tiles) ∙ ap (λ (ts : List Tile). take i tiles ++ ts) (drop_more tiles i t below ∙ ap (λ (u : Tile). u ∷ drop (i + 1) tiles) (sym is));
  added = a.may;
  refused = subst (λ (us : List TileRec). StopsAdding us (update_of v step t) (TileTooLarge at len)) a.list_is w;
}
stops_there v step before tiles i list t (KeptTooMuch at) below is a w = record {
  front = take i tiles;
  tile = t;
  behind = drop (i + 1) tiles;
  split = sym (take-append-drop i tiles) ∙ ap (λ (ts : List Tile). take i tiles ++ ts) (drop_more tiles i t below ∙ ap (λ (u : Tile). u ∷ drop (i + 1) tiles) (sym is));
  added = a.may;
  refused = subst (λ (us : List TileRec). StopsAdding us (update_of v step t) (KeptTooMuch at)) a.list_is w;
}

-- ---- the blobs of a batch

blob_at : (yielded rest : List (List ℕ)) (blob : List ℕ) → get_or (yielded ++ blob ∷ rest) (length yielded) [] ≡ blob
blob_at [] rest blob = refl
blob_at (y ∷ ys) rest blob = blob_at ys rest blob

mapped_at : (f : List Pixels → List ℕ) (bs : List (List Pixels)) (i : ℕ) → i < length bs → get_or (map f bs) i [] ≡ f (get_or bs i [])
mapped_at f [] i below = absurd (omega (arith, below))
mapped_at f (b ∷ bs) zero below = refl
mapped_at f (b ∷ bs) (suc i) below = mapped_at f bs i (omega (arith, below))

same_there : (bs : List (List Pixels)) (i : ℕ) (d : List Pixels) → i < length bs → get_or bs i d ≡ get_or bs i []
same_there [] i d below = absurd (omega (arith, below))
same_there (b ∷ bs) zero d below = refl
same_there (b ∷ bs) (suc i) d below = same_there bs i d (omega (arith, below))

-- the blobs of the tiles of a batch are those of its bands
pub blobs_of : (v : Version) (step : ℕ) (slots : List ℕ) (bands : List (List Pixels)) → length slots ≡ length bands
    → map (tile_bytes v step) (tiles_of slots bands) ≡ map (λ (t : List Pixels). chosen_bands None t v step) bands
blobs_of v step [] [] e = refl
blobs_of v step [] (b ∷ bs) e = absurd (omega (arith, e))
blobs_of v step (s ∷ ss) [] e = absurd (omega (arith, e))
blobs_of v step (s ∷ ss) (b ∷ bs) e = ap (λ (us : List (List ℕ)). chosen_bands None b v step ∷ us) (blobs_of v step ss bs (omega (arith, e)))

-- the tile with this number, and its blobs
pub record IsNext (v : Version) (step : ℕ) (slots : List ℕ) (bands : List (List Pixels)) (i s : ℕ) (blob : List ℕ) : Type 0 where
  pub bands_is : List Pixels
  pub tile : ◌≡◌ {A = Tile} (record { slot = s; bands = bands_is }) (get_or (tiles_of slots bands) i (record { slot = s; bands = bands_is }))
  pub made : blob ≡ chosen_bands None bands_is v step

pub next_blob : (v : Version) (step : ℕ) (slots : List ℕ) (bands : List (List Pixels)) (i s : ℕ) (yielded rest blobs : List (List ℕ)) (blob : List ℕ) → length slots ≡ length bands → i < length bands → s ≡ get_or slots i s → i ≡ length yielded
    → yielded ++ blob ∷ rest ≡ blobs → blobs ≡ map (λ t. chosen_bands None t v step) bands → IsNext v step slots bands i s blob
next_blob v step slots bands i s yielded rest blobs blob same below slot count joined are =
    let b = get_or bands i [] in
    record {
      bands_is = b;
      tile =
          let here = tile_at slots bands i s b same below in
          let there : ◌≡◌ {A = Tile} (record { slot = s; bands = b }) (record { slot = get_or slots i s; bands = get_or bands i b }) = λ k. record { slot = slot k; bands = sym (same_there bands i b below) k } in
          there ∙ sym here;
      made =
          sym (blob_at yielded rest blob) ∙ ap (λ n. get_or (yielded ++ blob ∷ rest) n []) (sym count) ∙ ap (λ (us : List (List ℕ)). get_or us i []) (joined ∙ are) ∙ mapped_at (λ t. chosen_bands None t v step) bands i below;
    }

abbrev tile_so : ℕ → List Pixels → Tile
tile_so s b = record { slot = s; bands = b }

flat_at : (v : Version) (slots : List ℕ) (bands : List (List Pixels)) (i s : ℕ) (b : List Pixels) → i < length (tiles_of slots bands) → All (λ t. ¬ BandsNeedV4 v t.bands) (tiles_of slots bands) → tile_so s b ≡ get_or (tiles_of slots bands) i (tile_so s b) → ¬ BandsNeedV4 v b
flat_at v slots bands i s b below flat is = subst (λ (t : Tile). ¬ BandsNeedV4 v t.bands) (sym is) (flat i (tile_so s b) below)

pub next_added : (v : Version) (step : ℕ) (before : List TileRec) (slots : List ℕ) (bands : List (List Pixels)) (i s : ℕ) (blob : List ℕ) (list list' : List TileRec) → length slots ≡ length bands → i < length bands → All (λ t. ¬ BandsNeedV4 v t.bands) (tiles_of slots bands)
    → IsNext v step slots bands i s blob → AreAdded v step before (tiles_of slots bands) i list → list' ≡ list ++ record { slot = s; bytes = blob } ∷ [] → length blob ≤ 16777215 → kept_bytes list' ≤ 2 ^ 30 → AreAdded v step before (tiles_of slots bands) (i + 1) list'
next_added v step before slots bands i s blob list list' long below flat n a pushed small kept =
    let count = tiles_length slots bands long in
    let there : i < length (tiles_of slots bands) = omega (arith, below, count) in
    one_added v step before (tiles_of slots bands) i list list' (tile_so s n.bands_is) there n.tile (flat_at v slots bands i s n.bands_is there flat n.tile) a (pushed ∙ ap (λ (u : List ℕ). list ++ record { slot = s; bytes = u } ∷ []) n.made)
    (subst (λ (u : List ℕ). length u ≤ 16777215) n.made small) kept

pub next_stops : (v : Version) (step : ℕ) (before : List TileRec) (slots : List ℕ) (bands : List (List Pixels)) (i s : ℕ) (blob : List ℕ) (list : List TileRec) (stop : BatchStop) → length slots ≡ length bands → i < length bands → IsNext v step slots bands i s blob
    → AreAdded v step before (tiles_of slots bands) i list → StopsAdding list (record { slot = s; bytes = blob }) stop → TellsBatchStop v step before (tiles_of slots bands) stop
next_stops v step before slots bands i s blob list stop long below n a w =
    let count = tiles_length slots bands long in
    let there : i < length (tiles_of slots bands) = omega (arith, below, count) in
    stops_there v step before (tiles_of slots bands) i list (tile_so s n.bands_is) stop there n.tile a (subst (λ (u : List ℕ). StopsAdding list (record { slot = s; bytes = u }) stop) n.made w)

-- what holds of the bands holds of the tiles
pub all_of : (P : List Pixels → Type 0) (slots : List ℕ) (bands : List (List Pixels)) → All P bands → All (λ t. P t.bands) (tiles_of slots bands)
all_of P [] bs h = All-nil (λ (t : Tile). P t.bands)
all_of P (s ∷ ss) [] h = All-nil (λ (t : Tile). P t.bands)
all_of P (s ∷ ss) (b ∷ bs) h = All-cons (λ (t : Tile). P t.bands) (tile_so s b) (tiles_of ss bs) (All-head P b bs h) (all_of P ss bs (All-tail P b bs h))
