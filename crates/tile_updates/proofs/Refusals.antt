-- There is one first refusal.
use Rattle.std.proofs.Common.{◌≡◌, ◌⊎◌, inl, inr, ℕ, ◌<◌, List, [], ◌∷◌, ◌++◌, length, refl, sym, ap, ◌∙◌, subst, arith, append_assoc, length-append}
use Rattle.std.proofs.lemmas.Bool.{cases_order}
use Rattle.std.proofs.lemmas.List.{append-nil}
use Rattle.first_fault.specs.Faults.{moved}
use Rattle.first_fault.proofs.Parts.{single-moved}
use Rattle.lerc_header.specs.declared.header.Version.{Version}
use Rattle.lerc_encode.specs.Encoded.{BandsNeedV4}
use Rattle.tile_stream.specs.declared.tile.Tile.{Tile}
use Rattle.tile_stream.specs.declared.tile.TileReason.{TileReason}
use Rattle.tile_stream.specs.Stream.{IsStream}
use Rattle.tile_stream.specs.Tile.{IsTile, tile_faults}
use Rattle.tile_stream.proofs.Tiles.{tile_part}
use Rattle.tile_stream.proofs.OneBehindAnother.{GoesOn}
use Rattle.tile_stream.proofs.Streams.{goes_on, streams_once}
use Rattle.tile_updates.specs.declared.stop.StreamStop.{StreamStop}
use Rattle.tile_updates.specs.declared.stop.StreamStop.TheVariants.{TooManyTiles, Fault, DepthNeedsV4, TileTooLarge, KeptTooMuch, Source, OutOfMemory}
use Rattle.tile_updates.specs.Laws.{StopsAreOnce, UpdatesAreOnce, UpdatesOrStop}
use Rattle.tile_updates.specs.Stops.{HasTile, IsRefused, IsStreamStop, IsTooLong, IsTooMuch}
use Rattle.tile_updates.specs.Updates.{AllPass, updates_of}
use Rattle.tile_updates.proofs.Passing.{MayFollow, pass_next}

-- ---- the next tile

pub no_fault : (rest : List ℕ) (Such : Tile → Type 0) (place p : ℕ) (r : TileReason) → HasTile rest Such → moved place (tile_faults rest) p r → ⊥
no_fault rest Such place p r h (q, (is, w)) = tile_part.either h.front h.behind h.tile q r h.stands (subst (λ (u : List ℕ). tile_faults u q r) h.joined w)

pub other_tile : (rest : List ℕ) (One Two : Tile → Type 0) (h : HasTile rest One) (g : HasTile rest Two) → Two h.tile
other_tile rest One Two h g =
    let same = tile_part.once g.front h.front g.behind h.behind g.tile h.tile g.stands h.stands (sym g.joined ∙ h.joined) in
    subst Two same.1 g.such

-- a tile that may follow is not refused
pub not_refused : (v : Version) (step : ℕ) (before : List Tile) (place : ℕ) (rest : List ℕ) (stop : StreamStop) → HasTile rest (MayFollow v step before) → IsRefused v step before place rest stop → ⊥
not_refused v step before place rest TooManyTiles h w = let few = h.such.few in omega (arith, few, w)
not_refused v step before place rest (Fault f) h (few, w) = no_fault rest (MayFollow v step before) place f.place f.reason h w
not_refused v step before place rest (DepthNeedsV4 at) h (few, (g, is)) = h.such.passes.taken (other_tile rest (MayFollow v step before) (λ t. BandsNeedV4 v t.bands) h g)
not_refused v step before place rest (TileTooLarge at len) h (few, (g, is)) =
    let long = other_tile rest (MayFollow v step before) (IsTooLong v step len) h g in
    let small = h.such.passes.small in
    omega (arith, small, long.len_is, long.long)
not_refused v step before place rest (KeptTooMuch at) h (few, (g, is)) =
    let much = other_tile rest (MayFollow v step before) (IsTooMuch v step before) h g in
    let kept = h.such.kept in
    omega (arith, kept, much.much)
not_refused v step before place rest Source h w = w
not_refused v step before place rest OutOfMemory h w = w

-- ---- one refusal of one tile

short_and_long : (v : Version) (step len : ℕ) (before : List Tile) (t : Tile) → IsTooLong v step len t → IsTooMuch v step before t → ⊥
short_and_long v step len before t long much = let small = much.passes.small in omega (arith, small, long.len_is, long.long)

one_refusal : (v : Version) (step : ℕ) (before : List Tile) (place : ℕ) (rest : List ℕ) (s u : StreamStop) → IsRefused v step before place rest s → IsRefused v step before place rest u → s ≡ u
one_refusal v step before place rest Source u a b = absurd a
one_refusal v step before place rest OutOfMemory u a b = absurd a
one_refusal v step before place rest TooManyTiles TooManyTiles a b = refl
one_refusal v step before place rest TooManyTiles (Fault g) a (few, b) = absurd (let no : ⊥ = omega (arith, few, a) in no)
one_refusal v step before place rest TooManyTiles (DepthNeedsV4 q) a (few, b) = absurd (let no : ⊥ = omega (arith, few, a) in no)
one_refusal v step before place rest TooManyTiles (TileTooLarge q m) a (few, b) = absurd (let no : ⊥ = omega (arith, few, a) in no)
one_refusal v step before place rest TooManyTiles (KeptTooMuch q) a (few, b) = absurd (let no : ⊥ = omega (arith, few, a) in no)
one_refusal v step before place rest TooManyTiles Source a b = absurd b
one_refusal v step before place rest TooManyTiles OutOfMemory a b = absurd b
one_refusal v step before place rest (Fault f) TooManyTiles (few, a) b = absurd (let no : ⊥ = omega (arith, few, b) in no)
one_refusal v step before place rest (Fault f) (Fault g) (few, a) (less, b) =
    let same = single-moved place (tile_faults rest) (tile_part.single rest) f.place g.place f.reason g.reason a b in
    λ i. Fault (record { reason = same.1 i; place = same.0 i })
one_refusal v step before place rest (Fault f) (DepthNeedsV4 q) (few, a) (less, (g, b)) = absurd (no_fault rest (λ t. BandsNeedV4 v t.bands) place f.place f.reason g a)
one_refusal v step before place rest (Fault f) (TileTooLarge q m) (few, a) (less, (g, b)) = absurd (no_fault rest (IsTooLong v step m) place f.place f.reason g a)
one_refusal v step before place rest (Fault f) (KeptTooMuch q) (few, a) (less, (g, b)) = absurd (no_fault rest (IsTooMuch v step before) place f.place f.reason g a)
one_refusal v step before place rest (Fault f) Source a b = absurd b
one_refusal v step before place rest (Fault f) OutOfMemory a b = absurd b
one_refusal v step before place rest (DepthNeedsV4 p) TooManyTiles (few, a) b = absurd (let no : ⊥ = omega (arith, few, b) in no)
one_refusal v step before place rest (DepthNeedsV4 p) (Fault g) (few, (h, a)) (less, b) = absurd (no_fault rest (λ t. BandsNeedV4 v t.bands) place g.place g.reason h b)
one_refusal v step before place rest (DepthNeedsV4 p) (DepthNeedsV4 q) (few, (h, a)) (less, (g, b)) = ap DepthNeedsV4 (a ∙ sym b)
one_refusal v step before place rest (DepthNeedsV4 p) (TileTooLarge q m) (few, (h, a)) (less, (g, b)) = absurd ((other_tile rest (λ t. BandsNeedV4 v t.bands) (IsTooLong v step m) h g).taken h.such)
one_refusal v step before place rest (DepthNeedsV4 p) (KeptTooMuch q) (few, (h, a)) (less, (g, b)) = absurd ((other_tile rest (λ t. BandsNeedV4 v t.bands) (IsTooMuch v step before) h g).passes.taken h.such)
one_refusal v step before place rest (DepthNeedsV4 p) Source a b = absurd b
one_refusal v step before place rest (DepthNeedsV4 p) OutOfMemory a b = absurd b
one_refusal v step before place rest (TileTooLarge p n) TooManyTiles (few, a) b = absurd (let no : ⊥ = omega (arith, few, b) in no)
one_refusal v step before place rest (TileTooLarge p n) (Fault g) (few, (h, a)) (less, b) = absurd (no_fault rest (IsTooLong v step n) place g.place g.reason h b)
one_refusal v step before place rest (TileTooLarge p n) (DepthNeedsV4 q) (few, (h, a)) (less, (g, b)) = absurd (h.such.taken (other_tile rest (IsTooLong v step n) (λ t. BandsNeedV4 v t.bands) h g))
one_refusal v step before place rest (TileTooLarge p n) (TileTooLarge q m) (few, (h, a)) (less, (g, b)) =
    let other = other_tile rest (IsTooLong v step n) (IsTooLong v step m) h g in
    let ats : p ≡ q = a ∙ sym b in
    let lens : n ≡ m = h.such.len_is ∙ sym other.len_is in
    λ i. TileTooLarge (ats i) (lens i)
one_refusal v step before place rest (TileTooLarge p n) (KeptTooMuch q) (few, (h, a)) (less, (g, b)) = absurd (short_and_long v step n before h.tile h.such (other_tile rest (IsTooLong v step n) (IsTooMuch v step before) h g))
one_refusal v step before place rest (TileTooLarge p n) Source a b = absurd b
one_refusal v step before place rest (TileTooLarge p n) OutOfMemory a b = absurd b
one_refusal v step before place rest (KeptTooMuch p) TooManyTiles (few, a) b = absurd (let no : ⊥ = omega (arith, few, b) in no)
one_refusal v step before place rest (KeptTooMuch p) (Fault g) (few, (h, a)) (less, b) = absurd (no_fault rest (IsTooMuch v step before) place g.place g.reason h b)
one_refusal v step before place rest (KeptTooMuch p) (DepthNeedsV4 q) (few, (h, a)) (less, (g, b)) = absurd (h.such.passes.taken (other_tile rest (IsTooMuch v step before) (λ t. BandsNeedV4 v t.bands) h g))
one_refusal v step before place rest (KeptTooMuch p) (TileTooLarge q m) (few, (h, a)) (less, (g, b)) = absurd (short_and_long v step m before h.tile (other_tile rest (IsTooMuch v step before) (IsTooLong v step m) h g) h.such)
one_refusal v step before place rest (KeptTooMuch p) (KeptTooMuch q) (few, (h, a)) (less, (g, b)) = ap KeptTooMuch (a ∙ sym b)
one_refusal v step before place rest (KeptTooMuch p) Source a b = absurd b
one_refusal v step before place rest (KeptTooMuch p) OutOfMemory a b = absurd b

-- ---- two streams in front of the same bytes

-- where the longer one goes on with a tile that passes, that tile may follow the shorter one
next_of : (v : Version) (step : ℕ) (rest behind middle : List ℕ) (tiles later others : List Tile) (t : Tile) → others ≡ tiles ++ t ∷ later → rest ≡ middle ++ behind → IsStream middle (t ∷ later) → AllPass v step others
    → HasTile rest (MayFollow v step tiles)
next_of v step rest behind middle tiles later others t tiles_are rest_is (f, (r, (joined, (tile, more)))) pass = record {
  tile = t;
  front = f;
  behind = r ++ behind;
  joined = rest_is ∙ ap (λ (u : List ℕ). u ++ behind) joined ∙ append_assoc f r behind;
  stands = tile;
  such = pass_next v step tiles later t (subst (AllPass v step) tiles_are pass);
}

-- a refused stream is not the shorter one of two
none_beyond : (v : Version) (step : ℕ) (bytes other behind : List ℕ) (others : List Tile) (stop : StreamStop) (w : IsStreamStop v step bytes stop) → IsStream other others → bytes ≡ other ++ behind → AllPass v step others
    → length w.tiles < length others → ⊥
none_beyond v step bytes other behind others stop w stream joined pass less =
    at_later on.later on.tiles_are on.stream
  where
    on : GoesOn IsTile w.front w.rest other behind w.tiles others
    on = goes_on w.front w.rest other behind w.tiles others w.stream stream (sym w.joined ∙ joined) (omega (arith, less))

    at_later : (later : List Tile) → others ≡ w.tiles ++ later → IsStream on.middle later → ⊥
    at_later [] are stream = let same : length others ≡ length (w.tiles ++ []) = ap length are in omega (arith, less, same, length-append w.tiles [])
    at_later (t ∷ later) are stream = not_refused v step w.tiles (length w.front) w.rest stop (next_of v step w.rest behind on.middle w.tiles later others t are on.rest_is stream pass) w.refused

-- of as many tiles, the same and no byte more
record Alike (front rest other behind : List ℕ) (tiles others : List Tile) : Type 0 where
  pub tiles_are : others ≡ tiles
  pub fronts : other ≡ front
  pub rests : rest ≡ behind

alike : (front rest other behind : List ℕ) (tiles others : List Tile) → IsStream front tiles → IsStream other others → front ++ rest ≡ other ++ behind → length tiles ≡ length others → Alike front rest other behind tiles others
alike front rest other behind tiles others one two joined same =
    at_later on.later on.tiles_are on.stream
  where
    on : GoesOn IsTile front rest other behind tiles others
    on = goes_on front rest other behind tiles others one two joined (omega (arith, same))

    at_later : (later : List Tile) → others ≡ tiles ++ later → IsStream on.middle later → Alike front rest other behind tiles others
    at_later [] are none = record {
      tiles_are = are ∙ append-nil tiles;
      fronts = on.bytes_are ∙ ap (λ (u : List ℕ). front ++ u) none ∙ append-nil front;
      rests = on.rest_is ∙ ap (λ (u : List ℕ). u ++ behind) none;
    }
    at_later (t ∷ later) are stream = absurd (let size : length others ≡ length (tiles ++ t ∷ later) = ap length are in let no : ⊥ = omega (arith, size, same, length-append tiles (t ∷ later)) in no)

-- ---- the laws

pub updates_once : UpdatesAreOnce
updates_once v step bytes updates others one two =
    one.updates_are ∙ ap (updates_of v step) (streams_once bytes one.tiles two.tiles one.stream two.stream) ∙ sym two.updates_are

pub updates_or_stop : UpdatesOrStop
updates_or_stop v step bytes updates stop one w = by (cases_order (length w.tiles) (length one.tiles))
  where
    by : (length w.tiles ≡ length one.tiles) ⊎ ((length w.tiles < length one.tiles) ⊎ (length one.tiles < length w.tiles)) → ⊥
    by (inl same) =
        let whole = alike w.front w.rest bytes [] w.tiles one.tiles w.stream one.stream (sym w.joined ∙ sym (append-nil bytes)) same in
        let none : length w.rest ≡ 0 = ap length whole.rests in
        omega (arith, none, w.more)
    by (inr (inl less)) = none_beyond v step bytes bytes [] one.tiles stop w one.stream (sym (append-nil bytes)) one.pass less
    by (inr (inr more)) =
        let on = goes_on bytes [] w.front w.rest one.tiles w.tiles one.stream w.stream (append-nil bytes ∙ w.joined) (omega (arith, more)) in
        let none : 0 ≡ length (on.middle ++ w.rest) = ap length on.rest_is in
        omega (arith, none, w.more, length-append on.middle w.rest)

pub stops_once : StopsAreOnce
stops_once v step bytes stop other w u = by (cases_order (length w.tiles) (length u.tiles))
  where
    by : (length w.tiles ≡ length u.tiles) ⊎ ((length w.tiles < length u.tiles) ⊎ (length u.tiles < length w.tiles)) → stop ≡ other
    by (inl same) =
        let both = alike w.front w.rest u.front u.rest w.tiles u.tiles w.stream u.stream (sym w.joined ∙ u.joined) same in
        let here : IsRefused v step w.tiles (length w.front) w.rest other =
        subst (λ (ts : List Tile). IsRefused v step ts (length w.front) w.rest other) both.tiles_are
        (subst (λ (f : List ℕ). IsRefused v step u.tiles (length f) w.rest other) both.fronts
        (subst (λ (r : List ℕ). IsRefused v step u.tiles (length u.front) r other) (sym both.rests) u.refused)) in
        one_refusal v step w.tiles (length w.front) w.rest stop other w.refused here
    by (inr (inl less)) = absurd (none_beyond v step bytes u.front u.rest u.tiles stop w u.stream u.joined u.pass less)
    by (inr (inr more)) = absurd (none_beyond v step bytes w.front w.rest w.tiles other u w.stream w.joined w.pass more)
