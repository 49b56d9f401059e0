-- What the four tiles of a place, read and laid, say of it.
use Rattle.std.proofs.Common.{◌≡◌, ◌⊎◌, inl, inr, ℕ, zero, suc, ◌<◌, Bool, true, false, List, Option, Some, None, refl, sym, ap, subst, ◌∙◌, arith, ⊎_elim}
use Rattle.std.specs.Prelude.{◌/◌, ◌%◌, is_some, get_or, take, drop, ◌||◌, ◌==◌, if◌then◌else◌}
use Rattle.std.proofs.lemmas.Bool.{cases_Bool, cases_lt, eqb-true, lt-ltb}
use Rattle.std.proofs.lemmas.Option.{none-some}
use Rattle.raster_values.specs.Raster.{Pixels}
use Rattle.lerc_header.specs.declared.header.Version.{Version}
use Rattle.lerc_encode.specs.Encoded.{BandsNeedV4}
use Rattle.bundle_index.specs.Entry.{entry_at}
use Rattle.bundle_index.specs.declared.entry.Entry.{Entry}
use Rattle.bundle_store.specs.Tiles.{TileMap, tile_in, tiles}
use Rattle.overview_tiles.specs.Sums.{AreSums, Kept}
use Rattle.overview_tiles.specs.Tiles.{AreHalf, Tiles}
use Rattle.overview_updates.specs.inside.Laid.{IsFirstLaid, IsRead}
use Rattle.overview_updates.specs.Overview.{IsQuarter, has_quarter, quarter_slot}
use Rattle.overview_updates.specs.Refusals.{FourStops, IsFirstQuarter, IsTooDeep, PlaceStops, QuarterStops, ReadFails}
use Rattle.overview_updates.specs.declared.stop.OverviewStop.{OverviewStop}
use Rattle.overview_updates.specs.declared.stop.OverviewStop.TheVariants.{Beyond, BadTile, Unlike, DepthNeedsV4, TileTooLarge, KeptTooMuch, Volume, OutOfMemory}
use Rattle.overview_updates.specs.declared.halves.Half.TheVariants.{Refused}
use Rattle.overview_updates.specs.inside.Fours.{HalfFits, HalfSays, LayFails, StopsAt}
use Rattle.overview_updates.specs.inside.SoFar.{IsHalfOf}

-- ---- one of the four

pub none_quarter : (s : Option (List ℕ)) (t : Option (List Pixels)) → IsQuarter s t → t ≡ None → s ≡ None
none_quarter None t h is = refl
none_quarter (Some bytes) None h is = absurd h
none_quarter (Some bytes) (Some bands) h is = absurd (none-some bands (sym is))

pub some_quarter : (s : Option (List ℕ)) (t : Option (List Pixels)) (tile : List Pixels) → IsQuarter s t → t ≡ Some tile → is_some s ≡ true
some_quarter None None tile h is = absurd (none-some tile is)
some_quarter None (Some bands) tile h is = absurd h
some_quarter (Some bytes) t tile h is = refl

-- ---- whether one is there

or_true : (a b : Bool) → (a ≡ true) ⊎ (b ≡ true) → a || b ≡ true
or_true true b e = refl
or_true false b (inl is) = absurd (let no : ⊥ = cc in no)
or_true false b (inr is) = is

pub one_there : (m : TileMap) (a b q : ℕ) → q < 4 → is_some (m (quarter_slot a b q)) ≡ true → has_quarter m a b ≡ true
one_there m a b zero few is = or_true _ _ (inl (or_true _ _ (inl (or_true _ _ (inl is)))))
one_there m a b (suc zero) few is = or_true _ _ (inl (or_true _ _ (inl (or_true _ _ (inr is)))))
one_there m a b (suc (suc zero)) few is = or_true _ _ (inl (or_true _ _ (inr is)))
one_there m a b (suc (suc (suc zero))) few is = or_true _ _ (inr is)
one_there m a b (suc (suc (suc (suc q)))) few is = absurd (omega (arith, few))

pub none_there : (m : TileMap) (a b : ℕ) → ((q : ℕ) → q < 4 → m (quarter_slot a b q) ≡ None) → has_quarter m a b ≡ false
none_there m a b none =
    let at : (q : ℕ) → q < 4 → is_some (m (quarter_slot a b q)) ≡ false = λ q few. ap is_some (none q few) in
    let first = at 0 (omega arith) in
    let second = at 1 (omega arith) in
    let third = at 2 (omega arith) in
    let last = at 3 (omega arith) in
    λ i. first i || second i || third i || last i

-- ---- the mosaic of the four

pub no_half : (bundle : List ℕ) (a b : ℕ) → IsRead bundle a b 4 None → IsHalfOf bundle a b None
no_half bundle a b r = none_there (tiles bundle) a b (λ q few. none_quarter (tiles bundle (quarter_slot a b q)) (r.tiles q) (r.read.first.each q few) (r.has q))

-- where there is a mosaic one of the four is there
pub some_there : (bundle : List ℕ) (a b : ℕ) (mosaic : Kept) → IsRead bundle a b 4 (Some mosaic) → has_quarter (tiles bundle) a b ≡ true
some_there bundle a b mosaic r =
    let q = r.has.quarter in
    let few : q < 4 = elim (cases_lt q 4) [
      | inl less ↦ less
      | inr past ↦ absurd (none-some r.has.tile (sym (r.read.first.past q past) ∙ r.has.there))
    ] in
    one_there (tiles bundle) a b q few (some_quarter (tiles bundle (quarter_slot a b q)) (r.tiles q) r.has.tile (r.read.first.each q few) r.has.there)

pub half_of : (bundle : List ℕ) (a b : ℕ) (mosaic : Kept) (half : List Pixels) → IsRead bundle a b 4 (Some mosaic) → ((four : Tiles) → AreSums mosaic four → AreHalf four half) → IsHalfOf bundle a b (Some half)
half_of bundle a b mosaic half r halves = (some_there bundle a b mosaic r, (r.tiles, (r.read, halves r.tiles r.has.sums)))

-- a quarter that was not laid is none
not_laid : (mosaic : Kept) (four : Tiles) (q : ℕ) → q < 4 → AreSums mosaic four → get_or mosaic.laid q true ≡ false → four q ≡ None
not_laid mosaic four q few sums is = none_of (four q) (sym (sums.laid q few) ∙ is)
  where
    none_of : (t : Option (List Pixels)) → is_some t ≡ false → t ≡ None
    none_of None is = refl
    none_of (Some bands) is = absurd (let no : ⊥ = cc in no)

was_laid : (mosaic : Kept) (four : Tiles) (q : ℕ) → q < 4 → AreSums mosaic four → get_or mosaic.laid q true ≡ true → is_some (four q) ≡ true
was_laid mosaic four q few sums is = sym (sums.laid q few) ∙ is

there_of : (s : Option (List ℕ)) (t : Option (List Pixels)) → IsQuarter s t → is_some t ≡ true → is_some s ≡ true
there_of None None h is = is
there_of None (Some bands) h is = absurd h
there_of (Some bytes) t h is = refl

-- the quarter that was laid first is the first that is there
pub first_of : (bundle : List ℕ) (a b : ℕ) (mosaic : Kept) (f : ℕ) → f < 4 → IsRead bundle a b 4 (Some mosaic) → IsFirstLaid mosaic f → IsFirstQuarter (tiles bundle) a b f
first_of bundle a b mosaic f few r laid = record {
  few = few;
  there = elim (cases_lt f 3) [
    | inl less ↦ there_of (tiles bundle (quarter_slot a b f)) (r.tiles f) (r.read.first.each f few) (was_laid mosaic r.tiles f few r.has.sums (laid.laid less))
    | inr last ↦
        let q = r.has.quarter in
        let low : q < 4 = elim (cases_lt q 4) [
          | inl less ↦ less
          | inr past ↦ absurd (none-some r.has.tile (sym (r.read.first.past q past) ∙ r.has.there))
        ] in
        let same : q ≡ f = elim (cases_lt q f) [
          | inl before ↦ absurd (none-some r.has.tile (sym (not_laid mosaic r.tiles q low r.has.sums (laid.before q before)) ∙ r.has.there))
          | inr behind ↦ omega (arith, behind, low, few, last)
        ] in
        subst (λ (k : ℕ). is_some (tiles bundle (quarter_slot a b k)) ≡ true) same (some_quarter (tiles bundle (quarter_slot a b q)) (r.tiles q) r.has.tile (r.read.first.each q low) r.has.there)
  ];
  before = λ q less.
      let low : q < 4 = omega (arith, less, few) in
      none_quarter (tiles bundle (quarter_slot a b q)) (r.tiles q) (r.read.first.each q low) (not_laid mosaic r.tiles q low r.has.sums (laid.before q less));
}

pub too_deep : (bundle : List ℕ) (v : Version) (a b slot : ℕ) (mosaic : Kept) (half : List Pixels) (f : ℕ) → f < 4 → IsRead bundle a b 4 (Some mosaic) → IsFirstLaid mosaic f → ((four : Tiles) → AreSums mosaic four → AreHalf four half) → BandsNeedV4 v half
    → slot ≡ quarter_slot a b f → IsTooDeep bundle v a b slot
too_deep bundle v a b slot mosaic half f few r laid halves deep is = record {
  four = r.tiles;
  quarters = r.read;
  half = half;
  half_is = halves r.tiles r.has.sums;
  deep = deep;
  quarter = f;
  first = first_of bundle a b mosaic f few r laid;
  slot_is = is;
}

-- ---- the refusals of the four

pub place_stops : (bundle : List ℕ) (v : Version) (a b : ℕ) (stop : OverviewStop) → ReadFails stop → FourStops bundle a b stop → PlaceStops bundle v (a, b) stop
place_stops bundle v a b (Beyond slot entry got) fails f = f
place_stops bundle v a b (BadTile slot fault) fails f = f
place_stops bundle v a b (Unlike slot) fails f = f
place_stops bundle v a b (DepthNeedsV4 slot) fails f = elim f.refused [
  | inl never ↦ absurd never
  | inr (unlike, is) ↦ absurd (let no : ⊥ = cc in no)
]
place_stops bundle v a b (TileTooLarge at len) fails f = absurd fails
place_stops bundle v a b (KeptTooMuch at) fails f = absurd fails
place_stops bundle v a b Volume fails f = tt
place_stops bundle v a b OutOfMemory fails f = tt

-- an entry that names bytes is a tile
tiles-at : (bundle : List ℕ) (slot : ℕ) → slot < 16384 → tiles bundle slot ≡ tile_in bundle (entry_at bundle slot)
unfolding tiles
tiles-at bundle slot below = ap (λ (t : Bool). if t then tile_in bundle (entry_at bundle slot) else None) (lt-ltb slot 16384 below)

eqb_no : (n : ℕ) → 0 < n → (n == 0) ≡ false
eqb_no n some = elim (cases_Bool (n == 0)) [ inl is ↦ absurd (omega (arith, some, eqb-true n 0 is)) | inr not ↦ not ]

tile_there : (bundle : List ℕ) (slot : ℕ) → slot < 16384 → 0 < (entry_at bundle slot).size → is_some (tiles bundle slot) ≡ true
tile_there bundle slot below some =
    let e = entry_at bundle slot in
    ap is_some (tiles-at bundle slot below ∙ ap (λ (t : Bool). if t then None else Some (take e.size (drop e.offset bundle))) (eqb_no e.size some))

-- the tile that is refused is there
stop_there : (bundle : List ℕ) (slot : ℕ) (stop : OverviewStop) → slot < 16384 → ReadFails stop → (stop ≡ Volume → ⊥) → (stop ≡ OutOfMemory → ⊥) → QuarterStops bundle slot stop → is_some (tiles bundle slot) ≡ true
stop_there bundle slot (Beyond at entry got) below fails well room (same, (beyond, more)) =
    let size : entry.size ≡ (entry_at bundle slot).size = ap (λ (e : Entry). e.size) beyond.entry_is in
    let some : 0 < (entry_at bundle slot).size = omega (arith, more, size) in
    tile_there bundle slot below some
stop_there bundle slot (BadTile at fault) below fails well room (same, bad) = ap is_some bad.there
stop_there bundle slot (Unlike at) below fails well room stops = absurd stops
stop_there bundle slot (DepthNeedsV4 at) below fails well room stops = absurd stops
stop_there bundle slot (TileTooLarge at len) below fails well room stops = absurd stops
stop_there bundle slot (KeptTooMuch at) below fails well room stops = absurd stops
stop_there bundle slot Volume below fails well room stops = absurd (well refl)
stop_there bundle slot OutOfMemory below fails well room stops = absurd (room refl)

four_there : (bundle : List ℕ) (a b : ℕ) (stop : OverviewStop) → a < 64 → b < 64 → ReadFails stop → (stop ≡ Volume → ⊥) → (stop ≡ OutOfMemory → ⊥) → FourStops bundle a b stop → has_quarter (tiles bundle) a b ≡ true
four_there bundle a b stop row col fails well room f =
    let slot = quarter_slot a b f.quarter in
    let few = f.few in
    let below : slot < 16384 = omega (arith, row, col, few) in
    one_there (tiles bundle) a b f.quarter f.few (elim f.refused [
      | inl stops ↦ stop_there bundle slot stop below fails well room stops
      | inr (unlike, is) ↦ some_quarter (tiles bundle slot) (Some unlike.tile) unlike.tile unlike.read refl
    ])

-- a place of which a tile is refused has one
pub refused_there : (bundle : List ℕ) (v : Version) (a b : ℕ) (stop : OverviewStop) → a < 64 → b < 64 → ReadFails stop → (stop ≡ Volume → ⊥) → (stop ≡ OutOfMemory → ⊥) → PlaceStops bundle v (a, b) stop → has_quarter (tiles bundle) a b ≡ true
refused_there bundle v a b (Beyond slot entry got) row col fails well room stops = four_there bundle a b (Beyond slot entry got) row col fails well room stops
refused_there bundle v a b (BadTile slot fault) row col fails well room stops = four_there bundle a b (BadTile slot fault) row col fails well room stops
refused_there bundle v a b (Unlike slot) row col fails well room stops = four_there bundle a b (Unlike slot) row col fails well room stops
refused_there bundle v a b (DepthNeedsV4 slot) row col fails well room stops = one_there (tiles bundle) a b stops.quarter stops.first.few stops.first.there
refused_there bundle v a b (TileTooLarge at len) row col fails well room stops = absurd stops
refused_there bundle v a b (KeptTooMuch at) row col fails well room stops = absurd stops
refused_there bundle v a b Volume row col fails well room stops = absurd (well refl)
refused_there bundle v a b OutOfMemory row col fails well room stops = absurd (room refl)

-- ---- a refusal that waits

reads_fail : (stop : OverviewStop) → LayFails stop → ReadFails stop
reads_fail (Beyond slot entry got) f = f
reads_fail (BadTile slot fault) f = tt
reads_fail (Unlike slot) f = tt
reads_fail (DepthNeedsV4 slot) f = tt
reads_fail (TileTooLarge at len) f = absurd f
reads_fail (KeptTooMuch at) f = absurd f
reads_fail Volume f = tt
reads_fail OutOfMemory f = tt

-- why tiles were not laid is no failure of the volume
pub refusal_fits : (v : Version) (stop : OverviewStop) → LayFails stop → (stop ≡ OutOfMemory → ⊥) → HalfFits v (Refused stop)
refusal_fits v stop fails room = (reads_fail stop fails, λ once. ⊎_elim (λ (is : stop ≡ Volume). subst LayFails is fails) room once)

pub refusal_says : (bundle : List ℕ) (v : Version) (k : ℕ) (stop : OverviewStop) → k < 4096 → LayFails stop → (stop ≡ OutOfMemory → ⊥) → StopsAt bundle k stop → HalfSays bundle v k (Refused stop)
refusal_says bundle v k stop below fails room stops =
    let row : k / 64 < 64 = omega (arith, below) in
    let col : k % 64 < 64 = omega arith in
    let reads = reads_fail stop fails in
    let is = place_stops bundle v (k / 64) (k % 64) stop reads stops in
    (refused_there bundle v (k / 64) (k % 64) stop row col reads (λ (is : stop ≡ Volume). subst LayFails is fails) room is, is)
