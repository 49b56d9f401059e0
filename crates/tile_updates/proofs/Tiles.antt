-- The tiles of a batch.
use Rattle.std.proofs.Common.{◌≡◌, ℕ, ◌+◌, ◌*◌, ◌<◌, ◌≤◌, zero, suc, List, [], ◌∷◌, ◌++◌, length, get_or, map, sum, Option, Some, refl, sym, ap, ◌∙◌, subst, arith, length-append}
use Rattle.std.specs.Prelude.{slice_get, unwrap_or}
use Rattle.std.proofs.lemmas.List.{map-append}
use Rattle.std.proofs.lemmas.List.Sums.{sum_by-append}
use Rattle.raster_values.specs.Raster.{Pixels}
use Rattle.raster_values.specs.Bands.{AreBands}
use Rattle.tile_stream.specs.declared.tile.Tile.{Tile}
use Rattle.tile_updates.specs.Tiles.{tiles_of, values_in, values_of}
use Rattle.tile_updates.specs.inside.Counts.{AreCounted}

pub tiles_push : (ss : List ℕ) (bs : List (List Pixels)) (s : ℕ) (b : List Pixels) → length ss ≡ length bs → tiles_of (ss ++ s ∷ []) (bs ++ b ∷ []) ≡ tiles_of ss bs ++ record { slot = s; bands = b } ∷ []
tiles_push [] [] s b e = refl
tiles_push [] (c ∷ cs) s b e = absurd (omega (arith, e))
tiles_push (x ∷ xs) [] s b e = absurd (omega (arith, e))
tiles_push (x ∷ xs) (c ∷ cs) s b e = ap (λ (ts : List Tile). record { slot = x; bands = c } ∷ ts) (tiles_push xs cs s b (omega (arith, e)))

pub tiles_length : (ss : List ℕ) (bs : List (List Pixels)) → length ss ≡ length bs → length (tiles_of ss bs) ≡ length bs
tiles_length [] [] e = refl
tiles_length [] (c ∷ cs) e = absurd (omega (arith, e))
tiles_length (x ∷ xs) [] e = absurd (omega (arith, e))
tiles_length (x ∷ xs) (c ∷ cs) e = ap suc (tiles_length xs cs (omega (arith, e)))

pub tile_at : (ss : List ℕ) (bs : List (List Pixels)) (i s : ℕ) (b : List Pixels) → length ss ≡ length bs → i < length bs → get_or (tiles_of ss bs) i (record { slot = s; bands = b }) ≡ record { slot = get_or ss i s; bands = get_or bs i b }
tile_at [] [] i s b e below = absurd (omega (arith, below))
tile_at [] (c ∷ cs) i s b e below = absurd (omega (arith, e))
tile_at (x ∷ xs) [] i s b e below = absurd (omega (arith, e))
tile_at (x ∷ xs) (c ∷ cs) zero s b e below = refl
tile_at (x ∷ xs) (c ∷ cs) (suc i) s b e below = tile_at xs cs i s b (omega (arith, e)) (omega (arith, below))

-- ---- values

pub values_push : (ts : List Tile) (t : Tile) → values_of (ts ++ t ∷ []) ≡ values_of ts + values_in t.bands
values_push ts t =
    let f : Tile → ℕ = λ (u : Tile). values_in u.bands in
    let one : sum (map f (t ∷ [])) ≡ values_in t.bands = omega arith in
    ap sum (map-append f ts (t ∷ [])) ∙ sum_by-append (λ x. x) (map f ts) (map f (t ∷ [])) ∙ ap (λ n. values_of ts + n) one

pub some_values : (ts : List Tile) → 16777216 ≤ values_of ts → 0 < length ts
some_values [] many = absurd (omega (arith, many))
some_values (t ∷ ts) many = omega arith

-- bands have as many values as they may
pub values_first : (bs : List Pixels) (r : Pixels) → AreBands bs → slice_get bs 0 ≡ Some r → (values_in bs ≡ length bs * (r.rows * r.cols * r.depth)) × (length bs * (r.rows * r.cols * r.depth) ≤ 16777216)
values_first [] r (some, are) is = absurd (omega (arith, some))
values_first (b ∷ bs) r (some, are) is =
    let same : b ≡ r = ap (λ (u : Option Pixels). unwrap_or u r) is in
    let few = are.like.1 in
    let count : length (b ∷ bs) ≡ 1 + length bs = omega arith in
    let low : length (b ∷ bs) * (b.rows * b.cols * b.depth) ≤ 16777216 = subst (λ n. n * (b.rows * b.cols * b.depth) ≤ 16777216) (sym count) few in
    (ap (λ (u : Pixels). length (b ∷ bs) * (u.rows * u.cols * u.depth)) same, subst (λ (u : Pixels). length (b ∷ bs) * (u.rows * u.cols * u.depth) ≤ 16777216) same low)

-- ---- a batch

pub counted_push : (ss ss' : List ℕ) (bs bs' : List (List Pixels)) (s : ℕ) (b : List Pixels) (values more : ℕ) → AreCounted ss bs values → ss' ≡ ss ++ s ∷ [] → bs' ≡ bs ++ b ∷ [] → more ≡ values_in b → more ≤ 16777216 → AreCounted ss' bs' (values + more)
counted_push ss ss' bs bs' s b values more c one two is few =
    let front : length ss' ≡ length ss + 1 = ap length one ∙ length-append ss (s ∷ []) in
    let back : length bs' ≡ length bs + 1 = ap length two ∙ length-append bs (b ∷ []) in
    let tiles : tiles_of ss' bs' ≡ tiles_of ss bs ++ record { slot = s; bands = b } ∷ [] = (λ k. tiles_of (one k) (two k)) ∙ tiles_push ss bs s b c.long in
    let all : values_of (tiles_of ss' bs') ≡ values_of (tiles_of ss bs) + values_in b = ap values_of tiles ∙ values_push (tiles_of ss bs) (record { slot = s; bands = b }) in
    let long = c.long in
    let are = c.values_are in
    let low = c.few in
    record {
      long = omega (arith, front, back, long);
      values_are = omega (arith, all, are, is);
      few = omega (arith, low, few, back);
    }

pub view_push : (ss ss' : List ℕ) (bs bs' : List (List Pixels)) (s : ℕ) (b : List Pixels) (tiles : List Tile) → length ss ≡ length bs → tiles_of ss bs ≡ tiles → ss' ≡ ss ++ s ∷ [] → bs' ≡ bs ++ b ∷ [] → tiles_of ss' bs' ≡ tiles ++ record { slot = s; bands = b } ∷ []
view_push ss ss' bs bs' s b tiles long view one two = (λ k. tiles_of (one k) (two k)) ∙ tiles_push ss bs s b long ∙ ap (λ (ts : List Tile). ts ++ record { slot = s; bands = b } ∷ []) view
