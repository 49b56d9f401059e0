-- The refusals of an input of which the first tiles passed.
use Rattle.std.proofs.Common.{◌≡◌, ℕ, ◌+◌, ◌^◌, ◌<◌, ◌≤◌, Bool, true, false, List, [], ◌∷◌, ◌++◌, length, Option, Some, None, refl, sym, ap, ◌∙◌, subst, arith, length-append, append_assoc}
use Rattle.std.specs.Prelude.{All, Ok}
use Rattle.std.proofs.lemmas.List.{length-map}
use Rattle.std.proofs.lemmas.List.Elements.{All-head}
use Rattle.first_fault.specs.Faults.{moved}
use Rattle.raster_grids.specs.Taken.{TookBytes}
use Rattle.raster_grids.proofs.TakenBytes.{took_join}
use Rattle.lerc_header.specs.declared.header.Version.{Version}
use Rattle.lerc_encode.specs.Encoded.{BandsNeedV4}
use Rattle.bundle_store.specs.declared.tile_rec.TileRec.{TileRec}
use Rattle.tile_stream.specs.declared.tile.Tile.{Tile}
use Rattle.tile_stream.specs.declared.tile.TileFault.{TileFault}
use Rattle.tile_stream.specs.declared.tile.TileStop.TheVariants.{Fault as TileFaultOf}
use Rattle.tile_stream.specs.Stream.{IsStream}
use Rattle.tile_stream.specs.Tile.{IsTile, IsToldStop, tile_faults}
use Rattle.tile_stream.proofs.Streams.{stream_divide, stream_join, tile_long}
use Rattle.tile_updates.specs.declared.stop.BatchStop.{BatchStop}
use Rattle.tile_updates.specs.declared.stop.BatchStop.TheVariants.{TileTooLarge as BatchTileTooLarge, KeptTooMuch as BatchKeptTooMuch, OutOfMemory as BatchOutOfMemory}
use Rattle.tile_updates.specs.declared.stop.StreamStop.{StreamStop}
use Rattle.tile_updates.specs.declared.stop.StreamStop.TheVariants.{TooManyTiles, Fault, DepthNeedsV4, TileTooLarge, KeptTooMuch, Source, OutOfMemory}
use Rattle.tile_updates.specs.declared.updates.SoFar.{SoFar}
use Rattle.tile_updates.specs.declared.updates.Waiting.{Waiting}
use Rattle.tile_updates.specs.Adding.{StopsBatch, TellsBatchStop}
use Rattle.tile_updates.specs.Stops.{HasTile, IsRefused, IsStreamStop, IsTooLong, IsTooMuch, TellsStop}
use Rattle.tile_updates.specs.Updates.{AllPass, OfBytes, kept_bytes, update_of, updates_of}
use Rattle.outside_io.specs.streams.Asks.{AsksOne}
use Rattle.tile_updates.specs.inside.SoFar.{AreWaiting, IsSoFar, RefusesReading, TakesTile}
use Rattle.tile_updates.specs.inside.StopOf.{stop_of}
use Rattle.tile_updates.proofs.Asked.{Taken, more_asked}
use Rattle.tile_updates.proofs.Passing.{all_behind, updates_push}
use Rattle.tile_updates.proofs.SoFar.{counted, pass_join, updates_join}

-- of the bytes before, the first are these tiles, which pass
pub record Begun (v : Version) (step : ℕ) (old now : Option (List ℕ)) (tiles : List Tile) : Type 0 where
  pub front : List ℕ
  pub stream : IsStream front tiles
  pub took : TookBytes old now front
  pub pass : AllPass v step tiles

abbrev begun : (v : Version) (step : ℕ) (old now : Option (List ℕ)) (done : SoFar) (s : IsSoFar v step old now done) → Begun v step old now s.tiles
begun v step old now done s = record { front = s.front; stream = s.stream; took = s.took; pass = s.pass }

-- the input that is told, or else some input
of_bytes : (old now : Option (List ℕ)) (front next : List ℕ) (P : List ℕ → Type 0) (Q : List ℕ → Type 0) → TookBytes old now front → ((rest : List ℕ) → (now ≡ Some rest) → Q rest) → (now ≡ None → Q next)
    → ((rest all : List ℕ) → all ≡ front ++ rest → Q rest → P all) → OfBytes old P
of_bytes None now front next P Q took told untold go = (front ++ next, go next (front ++ next) refl (untold took))
of_bytes (Some all) now front next P Q (rest, (joined, is)) told untold go = go rest all joined (told rest is)

-- what follows the tiles is refused so
record Refused (v : Version) (step : ℕ) (tiles : List Tile) (place : ℕ) (stop : StreamStop) (rest : List ℕ) : Type 0 where
  pub more : 0 < length rest
  pub refused : IsRefused v step tiles place rest stop

stops : (v : Version) (step : ℕ) (old now : Option (List ℕ)) (tiles : List Tile) (s : Begun v step old now tiles) (stop : StreamStop) (rest all : List ℕ) → all ≡ s.front ++ rest → Refused v step tiles (length s.front) stop rest → IsStreamStop v step all stop
stops v step old now tiles s stop rest all joined r = record {
  tiles = tiles;
  front = s.front;
  rest = rest;
  joined = joined;
  stream = s.stream;
  pass = s.pass;
  more = r.more;
  refused = r.refused;
}

-- the tile that was taken stands in front of what was left
taken_stands : (v : Version) (step : ℕ) (now new : Option (List ℕ)) (tiles : List Tile) (place : ℕ) (stop : StreamStop) (t : Tile) (bytes rest : List ℕ) → TakesTile now new t bytes
    → ((behind : List ℕ) → IsRefused v step tiles place (bytes ++ behind) stop) → now ≡ Some rest → Refused v step tiles place stop rest
taken_stands v step now new tiles place stop t bytes rest takes refused is = by (subst (λ (o : Option (List ℕ)). TookBytes o new bytes) is takes.took)
  where
    by : TookBytes (Some rest) new bytes → Refused v step tiles place stop rest
    by (behind, (joined, then)) =
        let long = tile_long bytes t takes.tile in
        let size : length rest ≡ length (bytes ++ behind) = ap length joined in
        record { more = omega (arith, long, size, length-append bytes behind); refused = subst (λ (u : List ℕ). IsRefused v step tiles place u stop) (sym joined) (refused behind) }

taken_refused : (v : Version) (step : ℕ) (old now new : Option (List ℕ)) (tiles : List Tile) (s : Begun v step old now tiles) (stop : StreamStop) (t : Tile) (bytes : List ℕ) → TakesTile now new t bytes
    → ((behind : List ℕ) → IsRefused v step tiles (length s.front) (bytes ++ behind) stop) → OfBytes old (λ all. IsStreamStop v step all stop)
taken_refused v step old now new tiles s stop t bytes takes refused =
    of_bytes old now s.front (bytes ++ []) (λ all. IsStreamStop v step all stop) (Refused v step tiles (length s.front) stop) s.took
    (λ rest is. taken_stands v step now new tiles (length s.front) stop t bytes rest takes refused is)
    (λ none. let long = tile_long bytes t takes.tile in record { more = omega (arith, long, length-append bytes []); refused = refused [] })
    (stops v step old now tiles s stop)

has : (bytes behind : List ℕ) (t : Tile) (Such : Tile → Type 0) → IsTile bytes t → Such t → HasTile (bytes ++ behind) Such
has bytes behind t Such is such = record { tile = t; front = bytes; behind = behind; joined = refl; stands = is; such = such }

told_fault : (v : Version) (step : ℕ) (old now : Option (List ℕ)) (done : SoFar) (s : IsSoFar v step old now done) (f : TileFault) → length s.tiles < 1048576 → IsToldStop now done.place (TileFaultOf f) → TellsStop v step old (Fault f)
told_fault v step None now done s f few told = tt
told_fault v step (Some all) now done s f few told = by s.took
  where
    by : TookBytes (Some all) now s.front → IsStreamStop v step all (Fault f)
    by (rest, (joined, is)) =
        let here = subst (λ (o : Option (List ℕ)). IsToldStop o done.place (TileFaultOf f)) is told in
        stops v step (Some all) now s.tiles (begun v step (Some all) now done s) (Fault f) rest all joined
        (record { more = here.0; refused = (few, subst (λ (n : ℕ). moved n (tile_faults rest) f.place f.reason) s.place_is here.1) })

-- ---- what is refused as it is read

pub refused_reading : (v : Version) (step : ℕ) (old now new : Option (List ℕ)) (done : SoFar) (stop : StreamStop) → IsSoFar v step old now done → length done.list < 1048576 → RefusesReading v done.place now new stop → TellsStop v step old stop
refused_reading v step old now new done TooManyTiles s few w = absurd w
refused_reading v step old now new done (Fault f) s few w =
    let count = counted v step old now done s in
    told_fault v step old now done s f (omega (arith, count, few)) w
refused_reading v step old now new done (DepthNeedsV4 at) s few w =
    let count = counted v step old now done s in
    let less : length s.tiles < 1048576 = omega (arith, count, few) in
    let place : at ≡ length s.front + 16 = w.at_is ∙ ap (λ (n : ℕ). n + 16) s.place_is in
    taken_refused v step old now new s.tiles (begun v step old now done s) (DepthNeedsV4 at) w.tile w.bytes w.takes (λ behind. (less, (has w.bytes behind w.tile (λ t. BandsNeedV4 v t.bands) w.takes.tile w.deep, place)))
refused_reading v step old now new done (TileTooLarge at len) s few w = absurd w
refused_reading v step old now new done (KeptTooMuch at) s few w = absurd w
refused_reading v step old now new done Source s few w = absurd w
refused_reading v step old now new done OutOfMemory s few w = absurd w

-- ---- what is refused as it is encoded

-- bytes that were taken were taken one part behind the other
record Halfway (old new : Option (List ℕ)) (x y : List ℕ) : Type 0 where
  pub mid : Option (List ℕ)
  pub first : TookBytes old mid x
  pub later : TookBytes mid new y

halfway : (old new : Option (List ℕ)) (x y : List ℕ) → TookBytes old new (x ++ y) → Halfway old new x y
halfway None new x y took = record { mid = None; first = refl; later = took }
halfway (Some left) new x y (rest, (joined, then)) = record { mid = Some (y ++ rest); first = (y ++ rest, (joined ∙ append_assoc x y rest, refl)); later = (rest, (refl, then)) }

-- the tile of a batch that is refused, behind those before it
record Reached (v : Version) (step : ℕ) (old : Option (List ℕ)) (before : List Tile) (t : Tile) : Type 0 where
  pub now : Option (List ℕ)
  pub new : Option (List ℕ)
  pub begun : Begun v step old now before
  pub bytes : List ℕ
  pub takes : TakesTile now new t bytes
  pub flat : ¬ BandsNeedV4 v t.bands

reached_at : (v : Version) (step : ℕ) (old now mid : Option (List ℕ)) (xs ys behind : List Tile) (t : Tile) (front rest bytes : List ℕ) → Begun v step old now xs → AllPass v step (xs ++ ys) → IsStream front ys → IsStream rest (t ∷ behind) → bytes ≡ front ++ rest
    → TookBytes now mid bytes → ¬ BandsNeedV4 v t.bands → Reached v step old (xs ++ ys) t
reached_at v step old now mid xs ys behind t front rest bytes b pass first (tile, (more, (joined', (stands, later)))) joined took flat =
    let one = halfway now mid front rest (subst (λ (u : List ℕ). TookBytes now mid u) joined took) in
    let two = halfway one.mid mid tile more (subst (λ (u : List ℕ). TookBytes one.mid mid u) joined' one.later) in
    record {
      now = one.mid;
      new = two.mid;
      begun = record { front = b.front ++ front; stream = stream_join b.front front xs ys b.stream first; took = took_join old now one.mid b.front front b.took one.first; pass = pass };
      bytes = tile;
      takes = record { tile = stands; took = two.first };
      flat = flat;
    }

reached : (v : Version) (step : ℕ) (old now mid : Option (List ℕ)) (done : SoFar) (w : Waiting) (stop : BatchStop) (s : IsSoFar v step old now done) → AreWaiting v done.place now mid w → length done.list + length w.batch ≤ 1048576 → (r : StopsBatch v step done.list w.batch stop)
    → Reached v step old (s.tiles ++ r.front) r.tile
reached v step old now mid done w stop s waiting few r =
    let d = stream_divide waiting.front r.front (r.tile ∷ r.behind) (subst (λ (ts : List Tile). IsStream waiting.front ts) r.split waiting.stream) in
    let size : length w.batch ≡ length r.front + length (r.tile ∷ r.behind) = ap length r.split ∙ length-append r.front (r.tile ∷ r.behind) in
    let flat = subst (All (λ t. ¬ BandsNeedV4 v t.bands)) r.split waiting.flat in
    reached_at v step old now mid s.tiles r.front r.behind r.tile d.front d.rest waiting.front (begun v step old now done s) (pass_join v step done.list s.tiles r.front s.pass s.list_is r.added (omega (arith, few, size))) d.first d.later d.joined waiting.took
    (All-head (λ t. ¬ BandsNeedV4 v t.bands) r.tile r.behind (all_behind (λ t. ¬ BandsNeedV4 v t.bands) r.front (r.tile ∷ r.behind) flat))

-- the number of the tile
number_of : (v : Version) (step : ℕ) (old now : Option (List ℕ)) (done : SoFar) (s : IsSoFar v step old now done) (front : List Tile) → length (done.list ++ updates_of v step front) ≡ length (s.tiles ++ front)
number_of v step old now done s front =
    let count = counted v step old now done s in
    omega (arith, count, length-append done.list (updates_of v step front), length-append s.tiles front, length-map front (update_of v step))

under : (v : Version) (step : ℕ) (old now : Option (List ℕ)) (done : SoFar) (w : Waiting) (stop : BatchStop) (s : IsSoFar v step old now done) → length done.list + length w.batch ≤ 1048576 → (r : StopsBatch v step done.list w.batch stop) → length (s.tiles ++ r.front) < 1048576
under v step old now done w stop s few r =
    let count = counted v step old now done s in
    let size : length w.batch ≡ length r.front + length (r.tile ∷ r.behind) = ap length r.split ∙ length-append r.front (r.tile ∷ r.behind) in
    omega (arith, count, size, few, length-append s.tiles r.front)

-- the updates up to those of a tile
upto : (v : Version) (step : ℕ) (list : List TileRec) (xs ys : List Tile) (t : Tile) → list ≡ updates_of v step xs → (list ++ updates_of v step ys) ++ update_of v step t ∷ [] ≡ updates_of v step ((xs ++ ys) ++ t ∷ [])
upto v step list xs ys t is =
    ap (λ (us : List TileRec). (us ++ updates_of v step ys) ++ update_of v step t ∷ []) is ∙ ap (λ (us : List TileRec). us ++ update_of v step t ∷ []) (sym (updates_join v step xs ys)) ∙ sym (updates_push v step (xs ++ ys) t)

pub refused_encoding : (v : Version) (step : ℕ) (old now mid : Option (List ℕ)) (done : SoFar) (w : Waiting) (stop : BatchStop) → IsSoFar v step old now done → AreWaiting v done.place now mid w → length done.list + length w.batch ≤ 1048576
    → TellsBatchStop v step done.list w.batch stop → TellsStop v step old (stop_of stop)
refused_encoding v step old now mid done w BatchOutOfMemory s waiting few r = tt
refused_encoding v step old now mid done w (BatchTileTooLarge at len) s waiting few r =
    let here = reached v step old now mid done w (BatchTileTooLarge at len) s waiting few r in
    let long : IsTooLong v step len r.tile = record { taken = here.flat; len_is = r.refused.0; long = r.refused.1.0 } in
    taken_refused v step old here.now here.new (s.tiles ++ r.front) here.begun (TileTooLarge at len) r.tile here.bytes here.takes
    (λ behind. (under v step old now done w (BatchTileTooLarge at len) s few r, (has here.bytes behind r.tile (IsTooLong v step len) here.takes.tile long, r.refused.1.1 ∙ number_of v step old now done s r.front)))
refused_encoding v step old now mid done w (BatchKeptTooMuch at) s waiting few r =
    let here = reached v step old now mid done w (BatchKeptTooMuch at) s waiting few r in
    let much : IsTooMuch v step (s.tiles ++ r.front) r.tile = record {
      passes = record { taken = here.flat; small = r.refused.0 };
      much = subst (λ (us : List TileRec). 2 ^ 30 < kept_bytes us) (upto v step done.list s.tiles r.front r.tile s.list_is) r.refused.1.0;
    } in
    taken_refused v step old here.now here.new (s.tiles ++ r.front) here.begun (KeptTooMuch at) r.tile here.bytes here.takes
    (λ behind. (under v step old now done w (BatchKeptTooMuch at) s few r, (has here.bytes behind r.tile (IsTooMuch v step (s.tiles ++ r.front)) here.takes.tile much, r.refused.1.1 ∙ number_of v step old now done s r.front)))

-- ---- too many tiles

-- one byte more behind as many tiles as there may be
pub too_many : (v : Version) (step : ℕ) (old now new : Option (List ℕ)) (done : SoFar) (found : Bool) → IsSoFar v step old now done → 1048576 ≤ length done.list → found ≡ true → AsksOne (Ok found) now new → TellsStop v step old TooManyTiles
too_many v step old now new done false s many is a = absurd (cc)
too_many v step old now new done true s many is a =
    of_bytes old now s.front more.bytes (λ all. IsStreamStop v step all TooManyTiles) (Refused v step s.tiles (length s.front) TooManyTiles) s.took
    (λ rest is. by rest (subst (λ (o : Option (List ℕ)). TookBytes o new more.bytes) is more.took)) (λ none. record { more = more.some; refused = full }) (stops v step old now s.tiles (begun v step old now done s) TooManyTiles)
  where
    more : Taken now new
    more = more_asked now new a

    full : length s.tiles ≡ 1048576
    full = let count = counted v step old now done s in let few = s.pass.few in omega (arith, count, few, many)

    by : (rest : List ℕ) → TookBytes (Some rest) new more.bytes → Refused v step s.tiles (length s.front) TooManyTiles rest
    by rest (behind, (joined, then)) =
        let size : length rest ≡ length (more.bytes ++ behind) = ap length joined in
        let some = more.some in
        record { more = omega (arith, some, size, length-append more.bytes behind); refused = full }
