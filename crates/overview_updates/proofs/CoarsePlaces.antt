-- The coarse places, and one more.
use Rattle.std.proofs.Common.{◌≡◌, inl, inr, ℕ, zero, suc, ◌+◌, ◌-◌, ◌<◌, Bool, true, false, cond, List, [], ◌∷◌, ◌++◌, map, refl, sym, ap, ◌∙◌, subst, arith, append_assoc}
use Rattle.std.specs.List.{AllZip, filter, range_with_len}
use Rattle.std.proofs.lemmas.List.{append-nil}
use Rattle.std.proofs.lemmas.List.Elements.{filter-append}
use Rattle.std.proofs.lemmas.List.FromFn.{map-range_with_len_more}
use Rattle.bundle_store.specs.Tiles.{TileMap, tiles}
use Rattle.tile_stream.specs.declared.tile.Tile.{Tile}
use Rattle.overview_updates.specs.Overview.{IsCoarse, coarse_places, first_places, has_quarter, place_of}
use Rattle.overview_updates.specs.inside.SoFar.{AreBetween, TakesPlace}
use Rattle.overview_updates.proofs.Zips.{zip_join}

abbrev has_at : TileMap → ℕ × ℕ → Bool
has_at m p = has_quarter m p.0 p.1

places-is : (m : TileMap) (n : ℕ) → first_places m n ≡ filter (has_at m) (map place_of (range_with_len 0 n))
unfolding first_places
places-is m n = refl

pub no_places : (m : TileMap) → first_places m 0 ≡ []
unfolding first_places
no_places m = refl

places_more : (m : TileMap) (n : ℕ) → first_places m (n + 1) ≡ first_places m n ++ cond (has_at m (place_of n)) (place_of n ∷ []) []
places_more m n =
    places-is m (n + 1) ∙ ap (filter (has_at m)) (map-range_with_len_more place_of 0 n n (omega arith)) ∙ filter-append (has_at m) (map place_of (range_with_len 0 n)) (place_of n ∷ [])
    ∙ ap (λ (ps : List (ℕ × ℕ)). ps ++ filter (has_at m) (place_of n ∷ [])) (sym (places-is m n))

pub place_taken : (m : TileMap) (n : ℕ) → has_at m (place_of n) ≡ true → first_places m (n + 1) ≡ first_places m n ++ place_of n ∷ []
place_taken m n is = places_more m n ∙ ap (λ (b : Bool). first_places m n ++ cond b (place_of n ∷ []) []) is

pub place_skipped : (m : TileMap) (n : ℕ) → has_at m (place_of n) ≡ false → first_places m (n + 1) ≡ first_places m n
place_skipped m n is = places_more m n ∙ ap (λ (b : Bool). first_places m n ++ cond b (place_of n ∷ []) []) is ∙ append-nil (first_places m n)

-- the places from a number on, so many
pub places_behind : (m : TileMap) (n k : ℕ) → (later : List (ℕ × ℕ)) × (first_places m (n + k) ≡ first_places m n ++ later)
places_behind m n zero = ([], ap (first_places m) (let e : n + 0 ≡ n = omega arith in e) ∙ sym (append-nil (first_places m n)))
places_behind m n (suc k) =
    let before = places_behind m n k in
    let one : List (ℕ × ℕ) = cond (has_at m (place_of (n + k))) (place_of (n + k) ∷ []) [] in (
      before.0 ++ one,
      ap (first_places m) (let e : n + suc k ≡ n + k + 1 = omega arith in e) ∙ places_more m (n + k) ∙ ap (λ (ps : List (ℕ × ℕ)). ps ++ one) before.1 ∙ append_assoc (first_places m n) before.0 one,
    )

-- a place with a coarse tile stands behind those before it
pub place_among : (m : TileMap) (n : ℕ) → n < 4096 → has_at m (place_of n) ≡ true → (later : List (ℕ × ℕ)) × (coarse_places m ≡ first_places m n ++ place_of n ∷ later)
place_among m n below is =
    let rest = places_behind m (n + 1) (4096 - (n + 1)) in
    (rest.0, ap (first_places m) (let e : 4096 ≡ n + 1 + (4096 - (n + 1)) = omega (arith, below) in e) ∙ rest.1 ∙ ap (λ (ps : List (ℕ × ℕ)). ps ++ rest.0) (place_taken m n is) ∙ append_assoc (first_places m n) (place_of n ∷ []) rest.0)

-- ---- the tiles between two numbers

pub none_between : (bundle : List ℕ) (quarter k : ℕ) (batch : List Tile) → batch ≡ [] → AreBetween bundle quarter k k batch
none_between bundle quarter k batch empty = record {
  places = [];
  joined = sym (append-nil (first_places (tiles bundle) k));
  each = subst (λ (ts : List Tile). AllZip (IsCoarse bundle quarter) [] ts) (sym empty) tt;
}

pub more_between : (bundle : List ℕ) (quarter from k next : ℕ) (old new : List Tile) → next ≡ k + 1 → AreBetween bundle quarter from k old → TakesPlace bundle quarter k old new → AreBetween bundle quarter from next new
more_between bundle quarter from k next old new is b (inl (none, same)) = record {
  places = b.places;
  joined = ap (first_places (tiles bundle)) is ∙ place_skipped (tiles bundle) k none ∙ b.joined;
  each = subst (λ (ts : List Tile). AllZip (IsCoarse bundle quarter) b.places ts) (sym same) b.each;
}
more_between bundle quarter from k next old new is b (inr (there, (t, (coarse, more)))) = record {
  places = b.places ++ place_of k ∷ [];
  joined = ap (first_places (tiles bundle)) is ∙ place_taken (tiles bundle) k there ∙ ap (λ (ps : List (ℕ × ℕ)). ps ++ place_of k ∷ []) b.joined ∙ append_assoc (first_places (tiles bundle) from) b.places (place_of k ∷ []);
  each = subst (λ (ts : List Tile). AllZip (IsCoarse bundle quarter) (b.places ++ place_of k ∷ []) ts) (sym more) (zip_join (IsCoarse bundle quarter) b.places (place_of k ∷ []) old (t ∷ []) b.each (coarse, tt));
}
