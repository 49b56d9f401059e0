-- A bundle has one list of updates of its overview.
use Rattle.std.proofs.Common.{◌≡◌, inl, inr, ℕ, suc, ◌<◌, Bool, true, cond, List, [], ◌∷◌, length, map, Option, Some, None, refl, sym, ap, ◌∙◌, subst, arith}
use Rattle.std.specs.Prelude.{IfSome, get_or, is_some, slice_get}
use Rattle.std.specs.List.{AllZip, filter, range_with_len}
use Rattle.std.proofs.lemmas.Bool.{cases_Bool, cases_lt, or_cases}
use Rattle.std.proofs.lemmas.Option.{slice_get-get_or, slice_get_within}
use Rattle.raster_values.specs.Raster.{Pixels}
use Rattle.lerc_grammar.proofs.BandsOnce.{one_bands}
use Rattle.bundle_store.specs.Tiles.{TileMap, tiles}
use Rattle.overview_tiles.specs.Tiles.{AreHalf, Tiles, band_in, band_of}
use Rattle.overview_tiles.proofs.Halved.{one_half}
use Rattle.tile_stream.specs.declared.tile.Tile.{Tile}
use Rattle.tile_updates.specs.Updates.{updates_of}
use Rattle.overview_updates.specs.Laws.{OverviewsAreOnce}
use Rattle.overview_updates.specs.Overview.{AreFirst, IsCoarse, IsQuarter, coarse_places, first_places, has_quarter, place_of, quarter_slot}

-- ---- one of the four

pub one_quarter : (s : Option (List ℕ)) (t u : Option (List Pixels)) → IsQuarter s t → IsQuarter s u → t ≡ u
one_quarter None None None one two = refl
one_quarter None None (Some y) one two = absurd two
one_quarter None (Some x) u one two = absurd one
one_quarter (Some bytes) None u one two = absurd one
one_quarter (Some bytes) (Some x) None one two = absurd two
one_quarter (Some bytes) (Some x) (Some y) one two = ap Some (one_bands bytes x y one two)

-- the first ones are the same, as far as both go
pub same_first : (m : TileMap) (a b n k q : ℕ) (t u : Tiles) → AreFirst m a b n t → AreFirst m a b k u → q < n → q < k → t q ≡ u q
same_first m a b n k q t u one two less low = one_quarter (m (quarter_slot a b q)) (t q) (u q) (one.each q less) (two.each q low)

pub one_first : (m : TileMap) (a b n : ℕ) (t u : Tiles) → AreFirst m a b n t → AreFirst m a b n u → t ≡ u
one_first m a b n t u one two = λ i q. at q i
  where
    at : (q : ℕ) → t q ≡ u q
    at q = elim (cases_lt q n) [
      | inl less ↦ same_first m a b n n q t u one two less less
      | inr past ↦ one.past q past ∙ sym (two.past q past)
    ]

-- ---- half

lists_same : (xs ys : List Pixels) → length xs ≡ length ys → ((b : ℕ) (r s : Pixels) → slice_get xs b ≡ Some r → slice_get ys b ≡ Some s → r ≡ s) → xs ≡ ys
lists_same [] [] many so = refl
lists_same [] (y ∷ ys) many so = absurd (let no : ⊥ = omega (arith, many) in no)
lists_same (x ∷ xs) [] many so = absurd (let no : ⊥ = omega (arith, many) in no)
lists_same (x ∷ xs) (y ∷ ys) many so =
    let first : x ≡ y = so 0 x y refl refl in
    let rest : xs ≡ ys = lists_same xs ys (omega (arith, many)) (λ b r s at there. so (suc b) r s at there) in
    λ i. first i ∷ rest i

-- each of the tiles has as many bands as their half
pub as_long : (four : Tiles) (half : List Pixels) (q : ℕ) (tile : List Pixels) → AreHalf four half → four q ≡ Some tile → length tile ≡ length half
as_long four half q tile h there = subst (λ (o : Option (List Pixels)). IfSome o (λ t. length t ≡ length half)) there (h.alike q)

-- tiles of which one is there have one half
pub one_tile : (four : Tiles) (q : ℕ) (tile x y : List Pixels) → four q ≡ Some tile → AreHalf four x → AreHalf four y → x ≡ y
one_tile four q tile x y there one two =
    let first : length tile ≡ length x = as_long four x q tile one there in
    let second : length tile ≡ length y = as_long four y q tile two there in
    lists_same x y (sym first ∙ second) (λ b r s at is.
    let low : b < length tile = omega (arith, first, slice_get_within x b r at) in
    one_half (band_of b four) q (get_or tile b r) r s (ap (band_in b) there ∙ slice_get-get_or tile b r low) (one.each b r at) (two.each b s is))

-- ---- one of the four is there

record Present (m : TileMap) (a b : ℕ) : Type 0 where
  quarter : ℕ
  few : quarter < 4
  there : is_some (m (quarter_slot a b quarter)) ≡ true

present : (m : TileMap) (a b : ℕ) → has_quarter m a b ≡ true → Present m a b
present m a b is = elim (or_cases _ _ is) [
  | inr last ↦ record { quarter = 3; few = omega arith; there = last }
  | inl three ↦ elim (or_cases _ _ three) [
    | inr third ↦ record { quarter = 2; few = omega arith; there = third }
    | inl two ↦ elim (or_cases _ _ two) [
      | inr second ↦ record { quarter = 1; few = omega arith; there = second }
      | inl first ↦ record { quarter = 0; few = omega arith; there = first }
    ]
  ]
]

tile_of : (s : Option (List ℕ)) (t : Option (List Pixels)) → IsQuarter s t → is_some s ≡ true → (tile : List Pixels) × (t ≡ Some tile)
tile_of None t h is = absurd (let no : ⊥ = cc in no)
tile_of (Some bytes) None h is = absurd h
tile_of (Some bytes) (Some bands) h is = (bands, refl)

-- ---- coarse tiles

pub one_coarse : (bundle : List ℕ) (quarter : ℕ) (place : ℕ × ℕ) (s t : Tile) → has_quarter (tiles bundle) place.0 place.1 ≡ true → IsCoarse bundle quarter place s → IsCoarse bundle quarter place t → s ≡ t
one_coarse bundle quarter place s t has one two =
    let a = place.0 in
    let b = place.1 in
    let p = present (tiles bundle) a b has in
    let same = one_first (tiles bundle) a b 4 two.four one.four two.quarters.first one.quarters.first in
    let tile = tile_of (tiles bundle (quarter_slot a b p.quarter)) (one.four p.quarter) (one.quarters.first.each p.quarter p.few) p.there in
    let half = one_tile one.four p.quarter tile.0 s.bands t.bands tile.1 one.half (subst (λ (f : Tiles). AreHalf f t.bands) same two.half) in
    let slot : s.slot ≡ t.slot = one.slot ∙ sym two.slot in
    λ i. record { slot = slot i; bands = half i }

-- each place of a list has a coarse tile
abbrev pub EachHas : TileMap → List (ℕ × ℕ) → Type 0
EachHas m [] = Unit {0}
EachHas m (p ∷ ps) = (has_quarter m p.0 p.1 ≡ true) × EachHas m ps

filter_has : (m : TileMap) (ps : List (ℕ × ℕ)) → EachHas m (filter (λ p. has_quarter m p.0 p.1) ps)
filter_has m [] = tt
filter_has m (p ∷ ps) = elim (cases_Bool (has_quarter m p.0 p.1)) [
  | inl on ↦ subst (λ (b : Bool). EachHas m (cond b (p ∷ filter (λ q. has_quarter m q.0 q.1) ps) (filter (λ q. has_quarter m q.0 q.1) ps))) (sym on) (on, filter_has m ps)
  | inr off ↦ subst (λ (b : Bool). EachHas m (cond b (p ∷ filter (λ q. has_quarter m q.0 q.1) ps) (filter (λ q. has_quarter m q.0 q.1) ps))) (sym off) (filter_has m ps)
]

pub places_have : (m : TileMap) (n : ℕ) → EachHas m (first_places m n)
unfolding first_places
places_have m n = filter_has m (map place_of (range_with_len 0 n))

-- these places have one list of coarse tiles
pub all_coarse : (bundle : List ℕ) (quarter : ℕ) (ps : List (ℕ × ℕ)) (xs ys : List Tile) → EachHas (tiles bundle) ps → AllZip (IsCoarse bundle quarter) ps xs → AllZip (IsCoarse bundle quarter) ps ys → xs ≡ ys
all_coarse bundle quarter [] [] [] has one two = refl
all_coarse bundle quarter [] [] (y ∷ ys) has one two = absurd two
all_coarse bundle quarter [] (x ∷ xs) ys has one two = absurd one
all_coarse bundle quarter (p ∷ ps) [] ys has one two = absurd one
all_coarse bundle quarter (p ∷ ps) (x ∷ xs) [] has one two = absurd two
all_coarse bundle quarter (p ∷ ps) (x ∷ xs) (y ∷ ys) has one two =
    let first : x ≡ y = one_coarse bundle quarter p x y has.0 one.0 two.0 in
    let rest : xs ≡ ys = all_coarse bundle quarter ps xs ys has.1 one.1 two.1 in
    λ i. first i ∷ rest i

pub overviews_once : OverviewsAreOnce
overviews_once bundle quarter v step updates others one two =
    let same = all_coarse bundle quarter (coarse_places (tiles bundle)) one.coarse two.coarse (places_have (tiles bundle) 4096) one.overview two.overview in
    one.updates_are ∙ ap (updates_of v step) same ∙ sym two.updates_are
