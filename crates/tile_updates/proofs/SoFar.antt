-- What was made of the first tiles of an input.
use Rattle.std.proofs.Common.{◌≡◌, ◌⊎◌, inl, inr, ℕ, ◌+◌, ◌^◌, ◌<◌, ◌≤◌, Bool, true, false, List, [], ◌∷◌, ◌++◌, length, get_or, Option, Some, None, refl, sym, ap, ◌∙◌, subst, arith, length-append}
use Rattle.std.specs.Prelude.{All, Ok}
use Rattle.std.proofs.lemmas.Bool.{cases_lt}
use Rattle.std.proofs.lemmas.List.{append-nil, length-map, map-append}
use Rattle.std.proofs.lemmas.List.Elements.{All-nil, All-append, All-map, All-get_or, All-push}
use Rattle.outside_io.specs.streams.Faults.{IsCause}
use Rattle.outside_io.specs.streams.Source.{IsAtEnd}
use Rattle.raster_grids.specs.Taken.{TookBytes, TookSome}
use Rattle.raster_grids.proofs.Taken.{ended, took_none}
use Rattle.raster_grids.proofs.TakenBytes.{took_join, took_more}
use Rattle.lerc_header.specs.declared.header.Version.{Version}
use Rattle.lerc_grammar.proofs.BandsOne.{bands_some}
use Rattle.lerc_encode.specs.Encoded.{AreEncodedOnce, BandsNeedV4}
use Rattle.bundle_store.specs.declared.tile_rec.TileRec.{TileRec}
use Rattle.bundle_store.specs.Build.{EachFits}
use Rattle.tile_stream.specs.declared.tile.Tile.{Tile}
use Rattle.tile_stream.specs.Stream.{IsStream}
use Rattle.tile_stream.specs.Tile.{IsTile, TookTile}
use Rattle.tile_stream.proofs.Streams.{stream_join, stream_push}
use Rattle.tile_updates.specs.Adding.{MayBeAdded}
use Rattle.tile_updates.specs.declared.updates.SoFar.{SoFar}
use Rattle.tile_updates.specs.declared.updates.Waiting.{Waiting}
use Rattle.tile_updates.specs.Updates.{AllPass, AreEncoded, IsUpdates, OfBytes, Passes, kept_bytes, update_of, updates_of, tile_bytes}
use Rattle.outside_io.specs.streams.Asks.{AsksOne}
use Rattle.tile_updates.specs.inside.SoFar.{AreWaiting, IsAll, IsSoFar, WaitsToo}
use Rattle.tile_updates.proofs.Asked.{more_asked, none_asked}
use Rattle.tile_updates.proofs.Passing.{none_pass}

-- ---- at the start

pub so_far_none : (v : Version) (step : ℕ) (old : Option (List ℕ)) (done : SoFar) → done.list ≡ [] → done.place ≡ 0 → IsSoFar v step old old done
so_far_none v step old done empty place = record {
  tiles = [];
  front = [];
  stream = refl;
  took = took_none old;
  pass = none_pass v step;
  encoded = All-nil _;
  list_is = empty;
  place_is = place;
}

pub counted : (v : Version) (step : ℕ) (old now : Option (List ℕ)) (done : SoFar) (s : IsSoFar v step old now done) → length s.tiles ≡ length done.list
counted v step old now done s = sym (ap length s.list_is ∙ length-map s.tiles (update_of v step))

-- ---- tiles that wait

pub none_wait : (v : Version) (place : ℕ) (old : Option (List ℕ)) (w : Waiting) → w.batch ≡ [] → w.place ≡ place → AreWaiting v place old old w
none_wait v place old w empty is = record {
  front = [];
  stream = subst (λ (ts : List Tile). IsStream [] ts) (sym empty) refl;
  took = took_none old;
  place_is = omega (arith, is);
  low = omega (arith, is);
  flat = subst (All (λ t. ¬ BandsNeedV4 v t.bands)) (sym empty) (All-nil (λ t. ¬ BandsNeedV4 v t.bands));
}

pub one_waits : (v : Version) (place : ℕ) (old mid new : Option (List ℕ)) (before after : Waiting) → AreWaiting v place old mid before → WaitsToo v mid new before after → AreWaiting v place old new after
one_waits v place old mid new before after w o =
    let more : length after.batch ≡ length before.batch + 1 = ap length o.batch ∙ length-append before.batch (o.tile ∷ []) in
    let size = o.size in
    let low = w.low in
    record {
      front = w.front ++ o.bytes;
      stream = subst (λ (ts : List Tile). IsStream (w.front ++ o.bytes) ts) (sym o.batch) (stream_push w.front o.bytes before.batch o.tile w.stream o.takes.tile);
      took = took_join old mid new w.front o.bytes w.took o.takes.took;
      place_is = omega (arith, o.place, w.place_is, length-append w.front o.bytes);
      low = omega (arith, o.place, size, low, more);
      flat = subst (All (λ t. ¬ BandsNeedV4 v t.bands)) (sym o.batch) (All-push (λ t. ¬ BandsNeedV4 v t.bands) before.batch o.tile w.flat o.flat);
    }

-- a tile was taken and let wait
pub waits_too : (v : Version) (old new : Option (List ℕ)) (before after : Waiting) (t : Tile) (size : ℕ) → TookTile old new (Some t) → ((bytes : List ℕ) → IsTile bytes t → size ≡ length bytes) → size ≤ 83886104 → ¬ BandsNeedV4 v t.bands
    → after.batch ≡ before.batch ++ t ∷ [] → after.place ≡ before.place + size → WaitsToo v old new before after
waits_too v old new before after t size (bytes, (tile, took)) sizes low flat batch place = record {
  tile = t;
  bytes = bytes;
  takes = record { tile = tile; took = took };
  size = let same = sizes bytes tile in omega (arith, same, low);
  flat = flat;
  batch = batch;
  place = place ∙ ap (λ (n : ℕ). before.place + n) (sizes bytes tile);
}

-- ---- a batch more

pub updates_join : (v : Version) (step : ℕ) (xs ys : List Tile) → updates_of v step (xs ++ ys) ≡ updates_of v step xs ++ updates_of v step ys
updates_join v step xs ys = map-append (update_of v step) xs ys

pub pass_join : (v : Version) (step : ℕ) (list : List TileRec) (xs ys : List Tile) → AllPass v step xs → list ≡ updates_of v step xs → MayBeAdded v step list ys → length list + length ys ≤ 1048576 → AllPass v step (xs ++ ys)
pass_join v step list xs ys pass is may few =
    let count : length list ≡ length xs = ap length is ∙ length-map xs (update_of v step) in
    let all : list ++ updates_of v step ys ≡ updates_of v step (xs ++ ys) = ap (λ (us : List TileRec). us ++ updates_of v step ys) is ∙ sym (updates_join v step xs ys) in
    record {
      few = omega (arith, few, count, length-append xs ys);
      each = All-append (Passes v step) xs ys pass.each may.each;
      kept = subst (λ (us : List TileRec). kept_bytes us ≤ 2 ^ 30) all may.kept;
    }

pub so_far_more : (v : Version) (step : ℕ) (old now mid : Option (List ℕ)) (before after : SoFar) (w : Waiting) → IsSoFar v step old now before → AreWaiting v before.place now mid w → MayBeAdded v step before.list w.batch
    → All (λ t. AreEncodedOnce (tile_bytes v step t) t.bands step) w.batch → length before.list + length w.batch ≤ 1048576 → after.list ≡ before.list ++ updates_of v step w.batch → after.place ≡ w.place → IsSoFar v step old mid after
so_far_more v step old now mid before after w s waiting may encoded few list place = record {
  tiles = s.tiles ++ w.batch;
  front = s.front ++ waiting.front;
  stream = stream_join s.front waiting.front s.tiles w.batch s.stream waiting.stream;
  took = took_join old now mid s.front waiting.front s.took waiting.took;
  pass = pass_join v step before.list s.tiles w.batch s.pass s.list_is may few;
  encoded = All-append (λ t. AreEncodedOnce (tile_bytes v step t) t.bands step) s.tiles w.batch s.encoded encoded;
  list_is = list ∙ ap (λ (us : List TileRec). us ++ updates_of v step w.batch) s.list_is ∙ sym (updates_join v step s.tiles w.batch);
  place_is = omega (arith, place, waiting.place_is, s.place_is, length-append s.front waiting.front);
}

-- none was left behind as many tiles as there may be
pub none_more : (v : Version) (step : ℕ) (old mid new : Option (List ℕ)) (done : SoFar) (found : Bool) → IsSoFar v step old mid done → found ≡ false → AsksOne (Ok found) mid new → IsAll v step old new done
none_more v step old mid new done true s is a = absurd (cc)
none_more v step old mid new done false s is a =
    let end = none_asked mid new a in
    record {
      so_far = subst (λ (o : Option (List ℕ)). IsSoFar v step old o done) (sym end.1) s;
      end = subst IsAtEnd (sym end.1) end.0;
    }

-- ---- the end

pub all_read : (v : Version) (step : ℕ) (old now : Option (List ℕ)) (done : SoFar) → IsSoFar v step old now done → IsAtEnd now → OfBytes old (λ bytes. IsUpdates v step bytes done.list)
all_read v step None now done s end = (s.front, record { tiles = s.tiles; stream = s.stream; pass = s.pass; updates_are = s.list_is })
all_read v step (Some all) now done s end = whole s.took
  where
    whole : TookBytes (Some all) now s.front → IsUpdates v step all done.list
    whole (rest, (joined, is)) =
        let none : rest ≡ [] = ended now rest end is in
        let same : all ≡ s.front = joined ∙ ap (λ (u : List ℕ). s.front ++ u) none ∙ append-nil s.front in
        record { tiles = s.tiles; stream = subst (λ (u : List ℕ). IsStream u s.tiles) (sym same) s.stream; pass = s.pass; updates_are = s.list_is }

pub all_encoded : (v : Version) (step : ℕ) (old now : Option (List ℕ)) (done : SoFar) → IsSoFar v step old now done → AreEncoded v step done.list
all_encoded v step old now done s = record { tiles = s.tiles; updates_are = s.list_is; encoded = s.encoded }

fits : (v : Version) (step : ℕ) (t : Tile) → AreEncodedOnce (tile_bytes v step t) t.bands step → Passes v step t → (0 < length (tile_bytes v step t)) × (length (tile_bytes v step t) < 16777216)
fits v step t e p = let small = p.small in (bands_some (tile_bytes v step t) e.rasters e.blobs, (let low : length (tile_bytes v step t) < 16777216 = omega (arith, small) in low))

pub all_fit_of : (v : Version) (step : ℕ) (tiles : List Tile) → All (λ t. AreEncodedOnce (tile_bytes v step t) t.bands step) tiles → All (Passes v step) tiles → EachFits (updates_of v step tiles)
all_fit_of v step tiles encoded pass i below =
    All-get_or (λ (u : TileRec). (0 < length u.bytes) × (length u.bytes < 16777216)) (updates_of v step tiles) i (record { slot = 0; bytes = [] }) below
    (All-map (λ (u : TileRec). (0 < length u.bytes) × (length u.bytes < 16777216)) (update_of v step) tiles (λ k d less. fits v step (get_or tiles k d) (encoded k d less) (pass k d less)))

pub all_fit : (v : Version) (step : ℕ) (old now : Option (List ℕ)) (done : SoFar) → IsSoFar v step old now done → EachFits done.list
all_fit v step old now done s = subst EachFits (sym s.list_is) (all_fit_of v step s.tiles s.encoded s.pass.each)

pub some_read : (v : Version) (step : ℕ) (old now : Option (List ℕ)) (done : SoFar) → IsSoFar v step old now done → TookSome old now
some_read v step old now done s = (s.front, s.took)

pub more_read : (v : Version) (step : ℕ) (old mid new : Option (List ℕ)) (done : SoFar) → IsSoFar v step old mid done → TookSome mid new → TookSome old new
more_read v step old mid new done s more = took_more old mid new s.front s.took more

pub asked_read : (v : Version) (step : ℕ) (old mid new : Option (List ℕ)) (done : SoFar) (found : Bool) → IsSoFar v step old mid done → found ≡ true → AsksOne (Ok found) mid new → TookSome old new
asked_read v step old mid new done true s is a = let more = more_asked mid new a in more_read v step old mid new done s (more.bytes, more.took)
asked_read v step old mid new done false s is a = absurd (cc)

-- ---- causes

-- nothing failed
pub no_cause : (P : Type 0) (old new : ℕ) → (P → ⊥) → new ≡ old → IsCause P old new
no_cause P old new not same = record {
  counts = omega (arith, same);
  failed = λ p. absurd (not p);
  rose = λ less. absurd (let no : ⊥ = omega (arith, same, less) in no);
}

pub same_count : (P : Type 0) (old new : ℕ) → IsCause P old new → (P → ⊥) → new ≡ old
same_count P old new cause not = by (cases_lt old new)
  where
    by : (old < new) ⊎ (new ≤ old) → new ≡ old
    by (inl less) = absurd (not (cause.rose less))
    by (inr most) = let counts = cause.counts in omega (arith, counts, most)

pub waiting_read : (v : Version) (place : ℕ) (old mid new : Option (List ℕ)) (w : Waiting) → AreWaiting v place old mid w → TookSome mid new → TookSome old new
waiting_read v place old mid new w waiting more = took_more old mid new waiting.front waiting.took more

pub at_the_end : (v : Version) (step : ℕ) (old mid new : Option (List ℕ)) (done : SoFar) → new ≡ mid → IsAtEnd mid → IsSoFar v step old mid done → IsAll v step old new done
at_the_end v step old mid new done same end s = record {
  so_far = subst (λ (o : Option (List ℕ)). IsSoFar v step old o done) (sym same) s;
  end = subst IsAtEnd (sym same) end;
}
