-- A bundle has updates of its overview or a first refusal, and one refusal at most.
use Rattle.std.proofs.Common.{◌≡◌, ◌⊎◌, inl, inr, ℕ, zero, suc, ◌-◌, ◌<◌, ◌≤◌, true, List, [], ◌∷◌, ◌++◌, length, get_or, Option, Some, None, refl, sym, ap, ◌∙◌, subst, arith}
use Rattle.std.specs.Prelude.{IfSome, is_some}
use Rattle.std.specs.List.{AllZip}
use Rattle.std.proofs.lemmas.Bool.{cases_lt, cases_order}
use Rattle.std.proofs.lemmas.Option.{none-some, slice_get-get_or}
use Rattle.raster_values.specs.Raster.{Pixels, IsRaster}
use Rattle.raster_values.specs.Places.{SameShape}
use Rattle.raster_values.specs.Bands.{AreBands}
use Rattle.lerc_header.specs.declared.header.Version.{Version}
use Rattle.lerc_encode.specs.Encoded.{BandsNeedV4}
use Rattle.lerc_grammar.specs.declared.bands.BandReason.{BandReason}
use Rattle.lerc_grammar.specs.Bands.{BandsBlob, BandsFaultAt, Decoded, Refused}
use Rattle.lerc_grammar.proofs.BandsOnce.{one_bands_verdict, same_faults}
use Rattle.bundle_index.specs.Entry.{entry_at}
use Rattle.bundle_index.specs.declared.entry.Entry.{Entry}
use Rattle.bundle_store.specs.Session.{IsBeyond}
use Rattle.bundle_store.specs.Tiles.{TileMap, tiles}
use Rattle.overview_tiles.specs.Tiles.{AreHalf, Tiles, band_in, band_of}
use Rattle.tile_stream.specs.declared.tile.Tile.{Tile}
use Rattle.tile_updates.specs.Stops.{IsTooLong, IsTooMuch}
use Rattle.tile_updates.specs.Updates.{AllPass}
use Rattle.tile_updates.proofs.Passing.{MayFollow, pass_next}
use Rattle.overview_updates.specs.Laws.{OverviewOrStop, StopsAreOnce}
use Rattle.overview_updates.specs.Overview.{AreRead, IsCoarse, IsQuarter, LiesWhole, coarse_places, coarse_slot, has_quarter, quarter_slot}
use Rattle.overview_updates.specs.Refusals.{AreAllOne, FourStops, IsFirstQuarter, IsTooDeep, IsUnlike, QuarterStops}
use Rattle.overview_updates.specs.Stops.{HasCoarse, IsRefused}
use Rattle.overview_updates.specs.declared.stop.OverviewStop.{OverviewStop}
use Rattle.overview_updates.specs.declared.stop.OverviewStop.TheVariants.{Beyond, BadTile, Unlike, DepthNeedsV4, TileTooLarge, KeptTooMuch, Volume, OutOfMemory}
use Rattle.overview_updates.proofs.OneAnswer.{EachHas, all_coarse, as_long, one_coarse, one_quarter, places_have, same_first}
use Rattle.overview_updates.proofs.Zips.{zip_part}

-- ---- tiles that have a half are alike

-- all bands of a tile have the shape of one raster
record OneShape (bands : List Pixels) : Type 0 where
  shape : Pixels
  each : (k : ℕ) (d : Pixels) → k < length bands → SameShape (get_or bands k d) shape

one_shape : (bands : List Pixels) → AreBands bands → OneShape bands
one_shape [] (some, may) = absurd (let no : ⊥ = omega (arith, some) in no)
one_shape (r ∷ more) (some, may) = record { shape = r; each = each }
  where
    each : (k : ℕ) (d : Pixels) → k < length (r ∷ more) → SameShape (get_or (r ∷ more) k d) r
    each zero d less = record { kind = refl; rows = refl; cols = refl; depth = refl }
    each (suc k) d less = may.like.0 k d (omega (arith, less))

has_shape : (four : Tiles) (half : List Pixels) (q : ℕ) (tile : List Pixels) (k : ℕ) (d : Pixels) → AreHalf four half → (one : OneShape half) → four q ≡ Some tile → k < length tile → SameShape (get_or tile k d) one.shape
has_shape four half q tile k d h one there less =
    let size = as_long four half q tile h there in
    let low : k < length half = omega (arith, less, size) in
    let r = get_or half k d in
    let at : band_of k four q ≡ Some (get_or tile k d) = ap (band_in k) there ∙ slice_get-get_or tile k d less in
    let same = (subst (λ (o : Option Pixels). IfSome o (λ s. IsRaster s × SameShape s r)) at ((h.each k r (slice_get-get_or half k d low)).alike q)).1 in
    let first = one.each k d low in
    record { kind = same.kind ∙ first.kind; rows = same.rows ∙ first.rows; cols = same.cols ∙ first.cols; depth = same.depth ∙ first.depth }

half_alike : (four : Tiles) (half : List Pixels) → AreHalf four half → AreAllOne four
half_alike four half h = λ p q first other there is.
    let one = one_shape half h.bands in (
      as_long four half q other h is ∙ sym (as_long four half p first h there),
      λ k d less i e low.
          let x = has_shape four half p first k d h one there less in
          let y = has_shape four half q other i e h one is low in
          record { kind = x.kind ∙ sym y.kind; rows = x.rows ∙ sym y.rows; cols = x.cols ∙ sym y.cols; depth = x.depth ∙ sym y.depth },
    )

-- ---- how far the four were read

-- the first n of the four are read and alike
record Progress (bundle : List ℕ) (a b n : ℕ) : Type 0 where
  four : Tiles
  read : AreRead bundle a b n four
  alike : AreAllOne four

of_coarse : (bundle : List ℕ) (quarter : ℕ) (place : ℕ × ℕ) (t : Tile) → IsCoarse bundle quarter place t → Progress bundle place.0 place.1 4
of_coarse bundle quarter place t c = record { four = c.four; read = c.quarters; alike = half_alike c.four t.bands c.half }

of_deep : (bundle : List ℕ) (v : Version) (a b slot : ℕ) → IsTooDeep bundle v a b slot → Progress bundle a b 4
of_deep bundle v a b slot d = record { four = d.four; read = d.quarters; alike = half_alike d.four d.half d.half_is }

-- the refusals of one of the four
abbrev IsOfTile : OverviewStop → Type 0
IsOfTile (Beyond slot entry got) = Unit {0}
IsOfTile (BadTile slot fault) = Unit {0}
IsOfTile (Unlike slot) = Unit {0}
IsOfTile (DepthNeedsV4 slot) = ⊥
IsOfTile (TileTooLarge at len) = ⊥
IsOfTile (KeptTooMuch at) = ⊥
IsOfTile Volume = ⊥
IsOfTile OutOfMemory = ⊥

not_beyond : (bundle : List ℕ) (slot : ℕ) (entry : Entry) (got : ℕ) → LiesWhole bundle slot → IsBeyond bundle slot entry got → got < entry.size → ⊥
not_beyond bundle slot entry got whole beyond more =
    let size : entry.size ≡ (entry_at bundle slot).size = ap (λ (e : Entry). e.size) beyond.entry_is in
    let offset : entry.offset ≡ (entry_at bundle slot).offset = ap (λ (e : Entry). e.offset) beyond.entry_is in
    let some : 0 < (entry_at bundle slot).size = omega (arith, more, size) in
    let fits = whole some in
    let got_is = beyond.got_is in
    omega (arith, fits, got_is, size, offset, more)

not_bad : (tile : List ℕ) (bands : List Pixels) (place : ℕ) (reason : BandReason) → BandsBlob tile bands → BandsFaultAt tile place reason → ⊥
not_bad tile bands place reason blob fault =
    let same : Decoded bands ≡ Refused place reason = one_bands_verdict tile (Decoded bands) (Refused place reason) blob fault in
    cc

-- a tile that was read is not refused
not_read : (bundle : List ℕ) (slot : ℕ) (tile : Option (List Pixels)) (stop : OverviewStop) → IsOfTile stop → IsQuarter (tiles bundle slot) tile → LiesWhole bundle slot → QuarterStops bundle slot stop → ⊥
not_read bundle slot tile (Beyond at entry got) of read whole (same, (beyond, more)) = not_beyond bundle slot entry got whole beyond more
not_read bundle slot None (BadTile at fault) of read whole (same, bad) = subst (λ (s : Option (List ℕ)). IsQuarter s None) bad.there read
not_read bundle slot (Some bands) (BadTile at fault) of read whole (same, bad) =
    let blob : BandsBlob bad.tile bands = subst (λ (s : Option (List ℕ)). IsQuarter s (Some bands)) bad.there read in
    not_bad bad.tile bands fault.place fault.reason blob bad.fault
not_read bundle slot tile (Unlike at) of read whole stops = stops
not_read bundle slot tile (DepthNeedsV4 at) of read whole stops = of
not_read bundle slot tile (TileTooLarge at len) of read whole stops = of
not_read bundle slot tile (KeptTooMuch at) of read whole stops = of
not_read bundle slot tile Volume of read whole stops = of
not_read bundle slot tile OutOfMemory of read whole stops = of

-- nor is it unlike those before it, where all are alike
not_unlike : (bundle : List ℕ) (a b n q : ℕ) (before : Tiles) → q < n → AreRead bundle a b q before → (p : Progress bundle a b n) → IsUnlike bundle (quarter_slot a b q) before → ⊥
not_unlike bundle a b n q before less read p u = by (cases_lt u.quarter q)
  where
    by : (u.quarter < q) ⊎ (q ≤ u.quarter) → ⊥
    by (inr past) = none-some u.other (sym (read.first.past u.quarter past) ∙ u.there)
    by (inl low) =
        let there : p.four u.quarter ≡ Some u.other = same_first (tiles bundle) a b n q u.quarter p.four before p.read.first read.first (omega (arith, low, less)) low ∙ u.there in
        let here : p.four q ≡ Some u.tile = one_quarter (tiles bundle (quarter_slot a b q)) (p.four q) (Some u.tile) (p.read.first.each q less) u.read in
        u.differs (p.alike u.quarter q u.other u.tile there here)

not_past : (bundle : List ℕ) (a b n : ℕ) (stop : OverviewStop) → IsOfTile stop → Progress bundle a b n → (f : FourStops bundle a b stop) → f.quarter < n → ⊥
not_past bundle a b n stop of p f less = by f.refused
  where
    by : QuarterStops bundle (quarter_slot a b f.quarter) stop ⊎ (IsUnlike bundle (quarter_slot a b f.quarter) f.before × (stop ≡ Unlike (quarter_slot a b f.quarter))) → ⊥
    by (inl stops) = not_read bundle (quarter_slot a b f.quarter) (p.four f.quarter) stop of (p.read.first.each f.quarter less) (p.read.whole f.quarter less) stops
    by (inr (unlike, is)) = not_unlike bundle a b n f.quarter f.before less f.read p unlike

-- ---- one refusal of the four

one_read : (bundle : List ℕ) (slot : ℕ) (s t : OverviewStop) → IsOfTile s → IsOfTile t → QuarterStops bundle slot s → QuarterStops bundle slot t → s ≡ t
one_read bundle slot (Beyond at entry got) (Beyond to other had) of on (same, (beyond, more)) (is, (far, less)) =
    let ats : at ≡ to = same ∙ sym is in
    let entries : entry ≡ other = beyond.entry_is ∙ sym far.entry_is in
    let gots : got ≡ had = beyond.got_is ∙ ap (λ (e : Entry). length bundle - e.offset) entries ∙ sym far.got_is in
    λ i. Beyond (ats i) (entries i) (gots i)
one_read bundle slot (Beyond at entry got) (BadTile to fault) of on (same, (beyond, more)) (is, bad) = absurd (not_beyond bundle slot entry got bad.whole beyond more)
one_read bundle slot (BadTile at fault) (Beyond to entry got) of on (same, bad) (is, (beyond, more)) = absurd (not_beyond bundle slot entry got bad.whole beyond more)
one_read bundle slot (BadTile at fault) (BadTile to other) of on (same, bad) (is, worse) =
    let ats : at ≡ to = same ∙ sym is in
    let both : Some bad.tile ≡ Some worse.tile = sym bad.there ∙ worse.there in
    let one : bad.tile ≡ worse.tile = cc in
    let faults = same_faults worse.tile fault.place other.place fault.reason other.reason (subst (λ (u : List ℕ). BandsFaultAt u fault.place fault.reason) one bad.fault) worse.fault in
    λ i. BadTile (ats i) (record { reason = faults.1 i; place = faults.0 i })
one_read bundle slot (Unlike at) t of on x y = absurd x
one_read bundle slot (DepthNeedsV4 at) t of on x y = absurd of
one_read bundle slot (TileTooLarge at len) t of on x y = absurd of
one_read bundle slot (KeptTooMuch at) t of on x y = absurd of
one_read bundle slot Volume t of on x y = absurd of
one_read bundle slot OutOfMemory t of on x y = absurd of
one_read bundle slot s (Unlike at) of on x y = absurd y
one_read bundle slot s (DepthNeedsV4 at) of on x y = absurd on
one_read bundle slot s (TileTooLarge at len) of on x y = absurd on
one_read bundle slot s (KeptTooMuch at) of on x y = absurd on
one_read bundle slot s Volume of on x y = absurd on
one_read bundle slot s OutOfMemory of on x y = absurd on

abbrev StopsAt : List ℕ → ℕ → Tiles → OverviewStop → Type 0
StopsAt bundle slot before stop = QuarterStops bundle slot stop ⊎ (IsUnlike bundle slot before × (stop ≡ Unlike slot))

one_slot : (bundle : List ℕ) (slot : ℕ) (before others : Tiles) (s t : OverviewStop) → IsOfTile s → IsOfTile t → StopsAt bundle slot before s → StopsAt bundle slot others t → s ≡ t
one_slot bundle slot before others s t of on (inl x) (inl y) = one_read bundle slot s t of on x y
one_slot bundle slot before others s t of on (inl x) (inr (u, is)) = absurd (not_read bundle slot (Some u.tile) s of u.read u.whole x)
one_slot bundle slot before others s t of on (inr (u, is)) (inl y) = absurd (not_read bundle slot (Some u.tile) t on u.read u.whole y)
one_slot bundle slot before others s t of on (inr (u, is)) (inr (w, same)) = is ∙ sym same

one_four : (bundle : List ℕ) (a b : ℕ) (s t : OverviewStop) → IsOfTile s → IsOfTile t → FourStops bundle a b s → FourStops bundle a b t → s ≡ t
one_four bundle a b s t of on f g = by (cases_order f.quarter g.quarter)
  where
    by : (f.quarter ≡ g.quarter) ⊎ ((f.quarter < g.quarter) ⊎ (g.quarter < f.quarter)) → s ≡ t
    by (inl same) = one_slot bundle (quarter_slot a b g.quarter) f.before g.before s t of on (subst (λ (q : ℕ). StopsAt bundle (quarter_slot a b q) f.before s) same f.refused) g.refused
    by (inr (inl less)) = absurd (not_past bundle a b g.quarter s of (record { four = g.before; read = g.read; alike = g.alike }) f less)
    by (inr (inr more)) = absurd (not_past bundle a b f.quarter t on (record { four = f.before; read = f.read; alike = f.alike }) g more)

-- ---- depths

not_there : (o : Option (List ℕ)) → o ≡ None → is_some o ≡ true → ⊥
not_there None none is = let no : ⊥ = cc in no
not_there (Some tile) none is = none-some tile (sym none)

one_first_quarter : (m : TileMap) (a b p q : ℕ) → IsFirstQuarter m a b p → IsFirstQuarter m a b q → p ≡ q
one_first_quarter m a b p q f g = by (cases_order p q)
  where
    by : (p ≡ q) ⊎ ((p < q) ⊎ (q < p)) → p ≡ q
    by (inl same) = same
    by (inr (inl less)) = absurd (not_there (m (quarter_slot a b p)) (g.before p less) f.there)
    by (inr (inr more)) = absurd (not_there (m (quarter_slot a b q)) (f.before q more) g.there)

one_deep : (bundle : List ℕ) (v : Version) (a b s t : ℕ) → IsTooDeep bundle v a b s → IsTooDeep bundle v a b t → s ≡ t
one_deep bundle v a b s t d e = d.slot_is ∙ ap (quarter_slot a b) (one_first_quarter (tiles bundle) a b d.quarter e.quarter d.first e.first) ∙ sym e.slot_is

-- half of a place whose depths are refused is its coarse tile's
deep_tile : (bundle : List ℕ) (quarter : ℕ) (v : Version) (place : ℕ × ℕ) (slot : ℕ) (t : Tile) → has_quarter (tiles bundle) place.0 place.1 ≡ true → IsCoarse bundle quarter place t → IsTooDeep bundle v place.0 place.1 slot → BandsNeedV4 v t.bands
deep_tile bundle quarter v place slot t has c d =
    let other : Tile = record { slot = coarse_slot quarter place.0 place.1; bands = d.half } in
    let coarse : IsCoarse bundle quarter place other = record { four = d.four; quarters = d.quarters; slot = refl; half = d.half_is } in
    subst (λ (u : Tile). BandsNeedV4 v u.bands) (one_coarse bundle quarter place other t has coarse c) d.deep

-- ---- one place

-- why a place is refused
data Why (bundle : List ℕ) (quarter : ℕ) (v : Version) (step : ℕ) (before : List Tile) (place : ℕ × ℕ) (stop : OverviewStop) : Type 0 where
  of_tile : IsOfTile stop → FourStops bundle place.0 place.1 stop → Why bundle quarter v step before place stop
  of_depth : (slot : ℕ) → IsTooDeep bundle v place.0 place.1 slot → stop ≡ DepthNeedsV4 slot → Why bundle quarter v step before place stop
  of_size : (len : ℕ) → HasCoarse bundle quarter place (IsTooLong v step len) → stop ≡ TileTooLarge (length before) len → Why bundle quarter v step before place stop
  of_sum : HasCoarse bundle quarter place (IsTooMuch v step before) → stop ≡ KeptTooMuch (length before) → Why bundle quarter v step before place stop

why : (bundle : List ℕ) (quarter : ℕ) (v : Version) (step : ℕ) (before : List Tile) (place : ℕ × ℕ) (stop : OverviewStop) → IsRefused bundle quarter v step before place stop → Why bundle quarter v step before place stop
why bundle quarter v step before place (Beyond slot entry got) w = of_tile tt w
why bundle quarter v step before place (BadTile slot fault) w = of_tile tt w
why bundle quarter v step before place (Unlike slot) w = of_tile tt w
why bundle quarter v step before place (DepthNeedsV4 slot) w = of_depth slot w refl
why bundle quarter v step before place (TileTooLarge at len) (h, is) = of_size len h (ap (λ (n : ℕ). TileTooLarge n len) is)
why bundle quarter v step before place (KeptTooMuch at) (h, is) = of_sum h (ap KeptTooMuch is)
why bundle quarter v step before place Volume w = absurd w
why bundle quarter v step before place OutOfMemory w = absurd w

-- a coarse tile that may follow is not refused
not_why : (bundle : List ℕ) (quarter : ℕ) (v : Version) (step : ℕ) (before : List Tile) (place : ℕ × ℕ) (stop : OverviewStop) (t : Tile) → has_quarter (tiles bundle) place.0 place.1 ≡ true → IsCoarse bundle quarter place t → MayFollow v step before t
    → Why bundle quarter v step before place stop → ⊥
not_why bundle quarter v step before place stop t has c may (of_tile of f) = not_past bundle place.0 place.1 4 stop of (of_coarse bundle quarter place t c) f f.few
not_why bundle quarter v step before place stop t has c may (of_depth slot d is) = may.passes.taken (deep_tile bundle quarter v place slot t has c d)
not_why bundle quarter v step before place stop t has c may (of_size len h is) =
    let long = subst (IsTooLong v step len) (one_coarse bundle quarter place h.tile t has h.coarse c) h.such in
    let small = may.passes.small in
    omega (arith, small, long.len_is, long.long)
not_why bundle quarter v step before place stop t has c may (of_sum h is) =
    let much = subst (IsTooMuch v step before) (one_coarse bundle quarter place h.tile t has h.coarse c) h.such in
    let kept = may.kept in
    omega (arith, kept, much.much)

-- the coarse tile of one is that of the other
moved_to : (bundle : List ℕ) (quarter : ℕ) (place : ℕ × ℕ) (One Two : Tile → Type 0) → has_quarter (tiles bundle) place.0 place.1 ≡ true → (h : HasCoarse bundle quarter place One) → HasCoarse bundle quarter place Two → Two h.tile
moved_to bundle quarter place One Two has h g = subst Two (one_coarse bundle quarter place g.tile h.tile has g.coarse h.coarse) g.such

-- a place with a coarse tile is not refused as it is read
not_reading : (bundle : List ℕ) (quarter : ℕ) (place : ℕ × ℕ) (stop : OverviewStop) (Such : Tile → Type 0) → IsOfTile stop → FourStops bundle place.0 place.1 stop → HasCoarse bundle quarter place Such → ⊥
not_reading bundle quarter place stop Such of f h = not_past bundle place.0 place.1 4 stop of (of_coarse bundle quarter place h.tile h.coarse) f f.few

short_and_long : (v : Version) (step len : ℕ) (before : List Tile) (t : Tile) → IsTooLong v step len t → IsTooMuch v step before t → ⊥
short_and_long v step len before t long much = let small = much.passes.small in omega (arith, small, long.len_is, long.long)

one_why : (bundle : List ℕ) (quarter : ℕ) (v : Version) (step : ℕ) (before : List Tile) (place : ℕ × ℕ) (s t : OverviewStop) → has_quarter (tiles bundle) place.0 place.1 ≡ true → Why bundle quarter v step before place s → Why bundle quarter v step before place t → s ≡ t
one_why bundle quarter v step before place s t has (of_tile of f) (of_tile on g) = one_four bundle place.0 place.1 s t of on f g
one_why bundle quarter v step before place s t has (of_tile of f) (of_depth slot d is) = absurd (not_past bundle place.0 place.1 4 s of (of_deep bundle v place.0 place.1 slot d) f f.few)
one_why bundle quarter v step before place s t has (of_tile of f) (of_size len h is) = absurd (not_reading bundle quarter place s (IsTooLong v step len) of f h)
one_why bundle quarter v step before place s t has (of_tile of f) (of_sum h is) = absurd (not_reading bundle quarter place s (IsTooMuch v step before) of f h)
one_why bundle quarter v step before place s t has (of_depth slot d is) (of_tile on g) = absurd (not_past bundle place.0 place.1 4 t on (of_deep bundle v place.0 place.1 slot d) g g.few)
one_why bundle quarter v step before place s t has (of_depth slot d is) (of_depth other e so) = is ∙ ap DepthNeedsV4 (one_deep bundle v place.0 place.1 slot other d e) ∙ sym so
one_why bundle quarter v step before place s t has (of_depth slot d is) (of_size len h so) = absurd (h.such.taken (deep_tile bundle quarter v place slot h.tile has h.coarse d))
one_why bundle quarter v step before place s t has (of_depth slot d is) (of_sum h so) = absurd (h.such.passes.taken (deep_tile bundle quarter v place slot h.tile has h.coarse d))
one_why bundle quarter v step before place s t has (of_size len h is) (of_tile on g) = absurd (not_reading bundle quarter place t (IsTooLong v step len) on g h)
one_why bundle quarter v step before place s t has (of_size len h is) (of_depth slot d so) = absurd (h.such.taken (deep_tile bundle quarter v place slot h.tile has h.coarse d))
one_why bundle quarter v step before place s t has (of_size len h is) (of_size more g so) =
    let other = moved_to bundle quarter place (IsTooLong v step len) (IsTooLong v step more) has h g in
    is ∙ ap (TileTooLarge (length before)) (h.such.len_is ∙ sym other.len_is) ∙ sym so
one_why bundle quarter v step before place s t has (of_size len h is) (of_sum g so) = absurd (short_and_long v step len before h.tile h.such (moved_to bundle quarter place (IsTooLong v step len) (IsTooMuch v step before) has h g))
one_why bundle quarter v step before place s t has (of_sum h is) (of_tile on g) = absurd (not_reading bundle quarter place t (IsTooMuch v step before) on g h)
one_why bundle quarter v step before place s t has (of_sum h is) (of_depth slot d so) = absurd (h.such.passes.taken (deep_tile bundle quarter v place slot h.tile has h.coarse d))
one_why bundle quarter v step before place s t has (of_sum h is) (of_size len g so) = absurd (short_and_long v step len before h.tile (moved_to bundle quarter place (IsTooMuch v step before) (IsTooLong v step len) has h g) h.such)
one_why bundle quarter v step before place s t has (of_sum h is) (of_sum g so) = is ∙ sym so

-- ---- all places

has_front : (m : TileMap) (ps qs : List (ℕ × ℕ)) → EachHas m (ps ++ qs) → EachHas m ps
has_front m [] qs has = tt
has_front m (p ∷ ps) qs has = (has.0, has_front m ps qs has.1)

has_next : (m : TileMap) (ps qs : List (ℕ × ℕ)) (p : ℕ × ℕ) → EachHas m (ps ++ p ∷ qs) → has_quarter m p.0 p.1 ≡ true
has_next m [] qs p has = has.0
has_next m (x ∷ ps) qs p has = has_next m ps qs p has.1

-- where all places have coarse tiles that pass, none is refused
all_made : (bundle : List ℕ) (quarter : ℕ) (v : Version) (step : ℕ) (ps later : List (ℕ × ℕ)) (p : ℕ × ℕ) (all before : List Tile) (stop : OverviewStop) → EachHas (tiles bundle) (ps ++ p ∷ later) → AllZip (IsCoarse bundle quarter) (ps ++ p ∷ later) all
    → AllPass v step all → AllZip (IsCoarse bundle quarter) ps before → IsRefused bundle quarter v step before p stop → ⊥
all_made bundle quarter v step ps later p all before stop has made pass first refused =
    let R : ℕ × ℕ → Tile → Type 0 = IsCoarse bundle quarter in
    let part = zip_part R ps later p all made in
    let same : part.front ≡ before = all_coarse bundle quarter ps part.front before (has_front (tiles bundle) ps (p ∷ later) has) part.first first in
    let may = pass_next v step part.front part.behind part.at (subst (AllPass v step) part.joined pass) in
    not_why bundle quarter v step before p stop part.at (has_next (tiles bundle) ps later p has) part.here (subst (λ (ts : List Tile). MayFollow v step ts part.at) same may) (why bundle quarter v step before p stop refused)

pub overview_or_stop : OverviewOrStop
overview_or_stop bundle quarter v step updates stop one w =
    let has = subst (EachHas (tiles bundle)) w.split (places_have (tiles bundle) 4096) in
    all_made bundle quarter v step w.places w.later w.place one.coarse w.before stop has (subst (λ (ps : List (ℕ × ℕ)). AllZip (IsCoarse bundle quarter) ps one.coarse) w.split one.overview) one.pass w.made w.refused

-- ---- two places of one list

record Same (ps qs : List (ℕ × ℕ)) (p q : ℕ × ℕ) : Type 0 where
  places : ps ≡ qs
  place : p ≡ q

same_split : (ps qs xs ys : List (ℕ × ℕ)) (p q : ℕ × ℕ) → ps ++ p ∷ xs ≡ qs ++ q ∷ ys → length ps ≡ length qs → Same ps qs p q
same_split [] [] xs ys p q is long = record { places = refl; place = cc }
same_split [] (b ∷ qs) xs ys p q is long = absurd (let no : ⊥ = omega (arith, long) in no)
same_split (a ∷ ps) [] xs ys p q is long = absurd (let no : ⊥ = omega (arith, long) in no)
same_split (a ∷ ps) (b ∷ qs) xs ys p q is long =
    let first : a ≡ b = cc in
    let rest : ps ++ p ∷ xs ≡ qs ++ q ∷ ys = cc in
    let same = same_split ps qs xs ys p q rest (omega (arith, long)) in
    record { places = λ i. first i ∷ same.places i; place = same.place }

-- the shorter part goes on with its place
longer_split : (ps qs xs ys : List (ℕ × ℕ)) (p q : ℕ × ℕ) → ps ++ p ∷ xs ≡ qs ++ q ∷ ys → length ps < length qs → (middle : List (ℕ × ℕ)) × (qs ≡ ps ++ p ∷ middle)
longer_split ps [] xs ys p q is long = absurd (let no : ⊥ = omega (arith, long) in no)
longer_split [] (b ∷ qs) xs ys p q is long = (qs, (let first : b ≡ p = cc in λ i. first i ∷ qs))
longer_split (a ∷ ps) (b ∷ qs) xs ys p q is long =
    let first : b ≡ a = cc in
    let rest : ps ++ p ∷ xs ≡ qs ++ q ∷ ys = cc in
    let more = longer_split ps qs xs ys p q rest (omega (arith, long)) in
    (more.0, λ i. first i ∷ more.1 i)

-- a place is not refused where another one is, behind it
not_before : (bundle : List ℕ) (quarter : ℕ) (v : Version) (step : ℕ) (ps qs xs ys : List (ℕ × ℕ)) (p q : ℕ × ℕ) (before others : List Tile) (stop : OverviewStop) → coarse_places (tiles bundle) ≡ ps ++ p ∷ xs → coarse_places (tiles bundle) ≡ qs ++ q ∷ ys
    → AllZip (IsCoarse bundle quarter) ps before → AllZip (IsCoarse bundle quarter) qs others → AllPass v step others → IsRefused bundle quarter v step before p stop → length ps < length qs → ⊥
not_before bundle quarter v step ps qs xs ys p q before others stop one two made more pass refused less =
    let on = longer_split ps qs xs ys p q (sym one ∙ two) less in
    let has = has_front (tiles bundle) qs (q ∷ ys) (subst (EachHas (tiles bundle)) two (places_have (tiles bundle) 4096)) in
    all_made bundle quarter v step ps on.0 p others before stop (subst (EachHas (tiles bundle)) on.1 has) (subst (λ (rs : List (ℕ × ℕ)). AllZip (IsCoarse bundle quarter) rs others) on.1 more) pass made refused

pub stops_once : StopsAreOnce
stops_once bundle quarter v step stop other w u = by (cases_order (length w.places) (length u.places))
  where
    by : (length w.places ≡ length u.places) ⊎ ((length w.places < length u.places) ⊎ (length u.places < length w.places)) → stop ≡ other
    by (inr (inl less)) = absurd (not_before bundle quarter v step w.places u.places w.later u.later w.place u.place w.before u.before stop w.split u.split w.made u.made u.pass w.refused less)
    by (inr (inr more)) = absurd (not_before bundle quarter v step u.places w.places u.later w.later u.place w.place u.before w.before other u.split w.split u.made w.made w.pass u.refused more)
    by (inl long) =
        let same = same_split w.places u.places w.later u.later w.place u.place (sym w.split ∙ u.split) long in
        let all = subst (EachHas (tiles bundle)) w.split (places_have (tiles bundle) 4096) in
        let tiles_are : w.before ≡ u.before = all_coarse bundle quarter w.places w.before u.before (has_front (tiles bundle) w.places (w.place ∷ w.later) all) w.made (subst (λ (ps : List (ℕ × ℕ)). AllZip (IsCoarse bundle quarter) ps u.before) (sym same.places) u.made) in
        let here : IsRefused bundle quarter v step w.before w.place other = subst (λ (ts : List Tile). IsRefused bundle quarter v step ts w.place other) (sym tiles_are) (subst (λ (p : ℕ × ℕ). IsRefused bundle quarter v step u.before p other) (sym same.place) u.refused) in
        one_why bundle quarter v step w.before w.place stop other (has_next (tiles bundle) w.places w.later w.place all) (why bundle quarter v step w.before w.place stop w.refused) (why bundle quarter v step w.before w.place other here)
