-- Every input has updates or a first refusal.
use Rattle.std.proofs.Common.{◌≡◌, ◌⊎◌, inl, inr, ℕ, ◌+◌, ◌^◌, ◌<◌, ◌≤◌, zero, suc, List, [], ◌∷◌, ◌++◌, length, get_or, refl, sym, ap, ◌∙◌, subst, arith, append_assoc, length-append}
use Rattle.std.proofs.lemmas.Bool.{cases_lt}
use Rattle.std.proofs.lemmas.List.{append-nil, get_or-append-add}
use Rattle.first_fault.specs.Parts.{AreBytes, InFront, HasFault}
use Rattle.lerc_header.specs.declared.header.Version.{Version}
use Rattle.lerc_header.specs.declared.header.Version.TheVariants.{V3, V4}
use Rattle.lerc_encode.specs.Encoded.{NeedsV4, BandsNeedV4}
use Rattle.bundle_store.specs.declared.tile_rec.TileRec.{TileRec}
use Rattle.raster_values.specs.Raster.{Pixels}
use Rattle.tile_stream.specs.declared.tile.Tile.{Tile}
use Rattle.tile_stream.specs.Stream.{IsStream}
use Rattle.tile_stream.specs.Tile.{IsTile, tile_faults}
use Rattle.tile_stream.proofs.Decided.{tiles_decided}
use Rattle.tile_stream.proofs.Streams.{stream_push, tile_long}
use Rattle.tile_updates.specs.declared.stop.StreamStop.{StreamStop}
use Rattle.tile_updates.specs.declared.stop.StreamStop.TheVariants.{TooManyTiles, Fault, DepthNeedsV4, TileTooLarge, KeptTooMuch}
use Rattle.tile_updates.specs.Laws.{StreamsAreDecided}
use Rattle.tile_updates.specs.Stops.{HasTile, IsRefused, IsStreamStop, IsTooLong, IsTooMuch}
use Rattle.tile_updates.specs.Updates.{AllPass, IsUpdates, Passes, kept_bytes, updates_of, tile_bytes}
use Rattle.tile_updates.proofs.Passing.{MayFollow, none_pass, pass_push}

-- ---- the next tile

needs_v4 : (v : Version) (r : Pixels) → NeedsV4 v r ⊎ (¬ NeedsV4 v r)
needs_v4 V4 r = inr (λ h. let no : ⊥ = cc (h.0) in no)
needs_v4 V3 r = by (cases_lt 1 r.depth)
  where
    by : (1 < r.depth) ⊎ (r.depth ≤ 1) → NeedsV4 V3 r ⊎ (¬ NeedsV4 V3 r)
    by (inl deep) = inl (refl, deep)
    by (inr flat) = inr (λ h. let deep = h.1 in let no : ⊥ = omega (arith, flat, deep) in no)

bands_need_v4 : (v : Version) (bands : List Pixels) → BandsNeedV4 v bands ⊎ (¬ BandsNeedV4 v bands)
bands_need_v4 v [] = inr (λ h. h)
bands_need_v4 v (r ∷ more) = needs_v4 v r

-- a tile that follows others is refused, or it passes
abbrev Refusal : Version → ℕ → List Tile → ℕ → List ℕ → Type 0
Refusal v step before place rest = (stop : StreamStop) × IsRefused v step before place rest stop

next_tile : (v : Version) (step : ℕ) (before : List Tile) (place : ℕ) (rest : List ℕ) (f : InFront IsTile rest) → length before < 1048576 → Refusal v step before place rest ⊎ MayFollow v step before f.value
next_tile v step before place rest f few = deep (bands_need_v4 v f.value.bands)
  where
    is : (Such : Tile → Type 0) → Such f.value → HasTile rest Such
    is Such such = record { tile = f.value; front = f.front; behind = f.rest; joined = f.joined; stands = f.stands; such = such }

    much : (p : Passes v step f.value) → (2 ^ 30 < kept_bytes (updates_of v step (before ++ f.value ∷ []))) ⊎ (kept_bytes (updates_of v step (before ++ f.value ∷ [])) ≤ 2 ^ 30)
        → Refusal v step before place rest ⊎ MayFollow v step before f.value
    much p (inl more) = inl (KeptTooMuch (length before), (few, (is (IsTooMuch v step before) (record { passes = p; much = more }), refl)))
    much p (inr less) = inr (record { few = few; passes = p; kept = less })

    long : (¬ BandsNeedV4 v f.value.bands) → (16777215 < length (tile_bytes v step f.value)) ⊎ (length (tile_bytes v step f.value) ≤ 16777215) → Refusal v step before place rest ⊎ MayFollow v step before f.value
    long taken (inl more) = inl (TileTooLarge (length before) (length (tile_bytes v step f.value)), (few, (is (IsTooLong v step (length (tile_bytes v step f.value))) (record { taken = taken; len_is = refl; long = more }), refl)))
    long taken (inr less) = much (record { taken = taken; small = less }) (cases_lt (2 ^ 30) (kept_bytes (updates_of v step (before ++ f.value ∷ []))))

    deep : BandsNeedV4 v f.value.bands ⊎ (¬ BandsNeedV4 v f.value.bands) → Refusal v step before place rest ⊎ MayFollow v step before f.value
    deep (inl needs) = inl (DepthNeedsV4 (place + 16), (few, (is (λ t. BandsNeedV4 v t.bands) needs, refl)))
    deep (inr not) = long not (cases_lt 16777215 (length (tile_bytes v step f.value)))

-- ---- the tiles

-- the bytes begin with tiles that pass
record Begins (v : Version) (step : ℕ) (bytes rest : List ℕ) : Type 0 where
  pub tiles : List Tile
  pub front : List ℕ
  pub joined : bytes ≡ front ++ rest
  pub stream : IsStream front tiles
  pub pass : AllPass v step tiles

abbrev Answer : Version → ℕ → List ℕ → Type 0
Answer v step bytes = ((updates : List TileRec) × IsUpdates v step bytes updates) ⊎ ((stop : StreamStop) × IsStreamStop v step bytes stop)

stopped : (v : Version) (step : ℕ) (bytes rest : List ℕ) (b : Begins v step bytes rest) → 0 < length rest → Refusal v step b.tiles (length b.front) rest → Answer v step bytes
stopped v step bytes rest b more (stop, refused) = inr (stop, record { tiles = b.tiles; front = b.front; rest = rest; joined = b.joined; stream = b.stream; pass = b.pass; more = more; refused = refused })

one_more : (v : Version) (step : ℕ) (bytes rest : List ℕ) (b : Begins v step bytes rest) (f : InFront IsTile rest) → MayFollow v step b.tiles f.value → Begins v step bytes f.rest
one_more v step bytes rest b f may = record {
  tiles = b.tiles ++ f.value ∷ [];
  front = b.front ++ f.front;
  joined = b.joined ∙ ap (λ (u : List ℕ). b.front ++ u) f.joined ∙ sym (append_assoc b.front f.front f.rest);
  stream = stream_push b.front f.front b.tiles f.value b.stream f.stands;
  pass = pass_push v step b.tiles f.value b.pass may;
}

rest_bytes : (front rest bytes : List ℕ) → bytes ≡ front ++ rest → AreBytes bytes → AreBytes rest
rest_bytes front rest bytes joined are i =
    let same : get_or bytes (length front + i) 0 ≡ get_or rest i 0 = ap (λ (u : List ℕ). get_or u (length front + i) 0) joined ∙ get_or-append-add front rest i 0 in
    omega (arith, same, are (length front + i))

-- an answer, or one tile more
next_answer : (v : Version) (step : ℕ) (bytes rest : List ℕ) (b : Begins v step bytes rest) → AreBytes bytes → 0 < length rest → Answer v step bytes ⊎ ((behind : List ℕ) × (Begins v step bytes behind × (length behind < length rest)))
next_answer v step bytes rest b are more = full (cases_lt (length b.tiles) 1048576)
  where
    tile : (f : InFront IsTile rest) → Refusal v step b.tiles (length b.front) rest ⊎ MayFollow v step b.tiles f.value → Answer v step bytes ⊎ ((behind : List ℕ) × (Begins v step bytes behind × (length behind < length rest)))
    tile f (inl r) = inl (stopped v step bytes rest b more r)
    tile f (inr may) =
        let size : length rest ≡ length (f.front ++ f.rest) = ap length f.joined in
        let long = tile_long f.front f.value f.stands in
        inr (f.rest, (one_more v step bytes rest b f may, (let less : length f.rest < length rest = omega (arith, size, long, length-append f.front f.rest) in less)))

    there : length b.tiles < 1048576 → InFront IsTile rest ⊎ HasFault (tile_faults rest) → Answer v step bytes ⊎ ((behind : List ℕ) × (Begins v step bytes behind × (length behind < length rest)))
    there few (inl f) = tile f (next_tile v step b.tiles (length b.front) rest f few)
    there few (inr w) = inl (stopped v step bytes rest b more (Fault (record { reason = w.reason; place = length b.front + w.place }), (few, (w.place, (refl, w.fault)))))

    full : (length b.tiles < 1048576) ⊎ (1048576 ≤ length b.tiles) → Answer v step bytes ⊎ ((behind : List ℕ) × (Begins v step bytes behind × (length behind < length rest)))
    full (inl few) = there few (tiles_decided rest (rest_bytes b.front rest bytes b.joined are))
    full (inr many) = inl (stopped v step bytes rest b more (TooManyTiles, (let few = b.pass.few in let all : length b.tiles ≡ 1048576 = omega (arith, few, many) in all)))

after : (v : Version) (step : ℕ) (bytes rest : List ℕ) (fuel : ℕ) → ((behind : List ℕ) → Begins v step bytes behind → length behind ≤ fuel → Answer v step bytes) → length rest ≤ suc fuel
    → Answer v step bytes ⊎ ((behind : List ℕ) × (Begins v step bytes behind × (length behind < length rest))) → Answer v step bytes
after v step bytes rest fuel go within (inl answer) = answer
after v step bytes rest fuel go within (inr (behind, (b, less))) = go behind b (omega (arith, less, within))

walk : (v : Version) (step : ℕ) (bytes : List ℕ) → AreBytes bytes → (fuel : ℕ) (rest : List ℕ) → Begins v step bytes rest → length rest ≤ fuel → Answer v step bytes
walk v step bytes are fuel [] b within =
    inl (updates_of v step b.tiles, record { tiles = b.tiles; stream = subst (λ (u : List ℕ). IsStream u b.tiles) (sym (b.joined ∙ append-nil b.front)) b.stream; pass = b.pass; updates_are = refl })
walk v step bytes are zero (x ∷ xs) b within = absurd (omega (arith, within))
walk v step bytes are (suc fuel) (x ∷ xs) b within =
    after v step bytes (x ∷ xs) fuel (λ behind c low. walk v step bytes are fuel behind c low) within (next_answer v step bytes (x ∷ xs) b are (omega arith))

pub streams_decided : StreamsAreDecided
streams_decided v step bytes are = walk v step bytes are (length bytes) bytes (record { tiles = []; front = []; joined = refl; stream = refl; pass = none_pass v step }) (let all : length bytes ≤ length bytes = omega arith in all)
