-- One tile of the four more.
use Rattle.std.proofs.Common.{◌≡◌, ◌≢◌, ℕ, ◌+◌, ◌<◌, cond, List, [], ◌∷◌, length, Option, Some, None, refl, sym, ap, ◌∙◌, subst, arith, ⊎_elim}
use Rattle.std.specs.Prelude.{All, IfSome}
use Rattle.std.proofs.lemmas.Bool.{cases_eq, eq-eqb, ne_eqb}
use Rattle.std.proofs.lemmas.Option.{none-some}
use Rattle.raster_values.specs.Raster.{Pixels}
use Rattle.raster_values.specs.Places.{SameShape}
use Rattle.raster_values.specs.Bands.{AreBands}
use Rattle.bundle_store.specs.Tiles.{TileMap, tiles as tiles_of}
use Rattle.overview_tiles.specs.Sums.{AreSums, HasShape, IsTileOf, Kept}
use Rattle.overview_tiles.specs.Tiles.{Tiles, no_tiles, with_tile}
use Rattle.overview_updates.specs.inside.Laid.{HasSome, HasTiles, IsRead}
use Rattle.overview_updates.specs.Overview.{AreFirst, AreRead, IsQuarter, LiesWhole, quarter_slot}
use Rattle.overview_updates.specs.Refusals.{AreAllOne, IsUnlike}

there : (q : ℕ) (tile : List Pixels) (tiles : Tiles) → with_tile q tile tiles q ≡ Some tile
there q tile tiles = ap (λ b. cond b (Some tile) (tiles q)) (eq-eqb q q refl)

pub other : (q : ℕ) (tile : List Pixels) (tiles : Tiles) (n : ℕ) → n ≢ q → with_tile q tile tiles n ≡ tiles n
other q tile tiles n ne = ap (λ b. cond b (Some tile) (tiles n)) (ne_eqb n q ne)

pub more_none : (map : TileMap) (a b q : ℕ) (tiles : Tiles) → IsQuarter (map (quarter_slot a b q)) None → AreFirst map a b q tiles → AreFirst map a b (q + 1) tiles
more_none map a b q tiles read h = record {
  each = λ k less. ⊎_elim
      (λ (same : k ≡ q).
      subst (λ j. IsQuarter (map (quarter_slot a b j)) (tiles j)) (sym same) (subst (IsQuarter (map (quarter_slot a b q))) (sym (h.past q (omega arith))) read))
      (λ (ne : k ≢ q). h.each k (omega (arith, less, ne)))
      (cases_eq k q);
  past = λ k low. h.past k (omega (arith, low));
}

pub more_some : (map : TileMap) (a b q : ℕ) (tile : List Pixels) (tiles : Tiles) → IsQuarter (map (quarter_slot a b q)) (Some tile) → AreFirst map a b q tiles → AreFirst map a b (q + 1) (with_tile q tile tiles)
more_some map a b q tile tiles read h = record {
  each = λ k less. ⊎_elim
      (λ (same : k ≡ q).
      subst (λ j. IsQuarter (map (quarter_slot a b j)) (with_tile q tile tiles j)) (sym same) (subst (IsQuarter (map (quarter_slot a b q))) (sym (there q tile tiles)) read))
      (λ (ne : k ≢ q). subst (IsQuarter (map (quarter_slot a b k))) (sym (other q tile tiles k ne)) (h.each k (omega (arith, less, ne))))
      (cases_eq k q);
  past = λ k low. other q tile tiles k (λ e. omega (arith, low, e)) ∙ h.past k (omega (arith, low));
}

whole_more : (bundle : List ℕ) (a b q : ℕ) → LiesWhole bundle (quarter_slot a b q) → ((k : ℕ) → k < q → LiesWhole bundle (quarter_slot a b k)) → (k : ℕ) → k < q + 1 → LiesWhole bundle (quarter_slot a b k)
whole_more bundle a b q here before k less = ⊎_elim
    (λ (same : k ≡ q). subst (λ j. LiesWhole bundle (quarter_slot a b j)) (sym same) here)
    (λ (ne : k ≢ q). before k (omega (arith, less, ne)))
    (cases_eq k q)

pub read_none : (bundle : List ℕ) (a b q : ℕ) (four : Tiles) → IsQuarter (tiles_of bundle (quarter_slot a b q)) None → LiesWhole bundle (quarter_slot a b q) → AreRead bundle a b q four → AreRead bundle a b (q + 1) four
read_none bundle a b q four read whole h = record { first = more_none (tiles_of bundle) a b q four read h.first; whole = whole_more bundle a b q whole h.whole }

pub read_some : (bundle : List ℕ) (a b q : ℕ) (tile : List Pixels) (four : Tiles) → IsQuarter (tiles_of bundle (quarter_slot a b q)) (Some tile) → LiesWhole bundle (quarter_slot a b q) → AreRead bundle a b q four
    → AreRead bundle a b (q + 1) (with_tile q tile four)
read_some bundle a b q tile four read whole h = record { first = more_some (tiles_of bundle) a b q tile four read h.first; whole = whole_more bundle a b q whole h.whole }

pub some_more : (m : Kept) (q : ℕ) (tile : List Pixels) (tiles : Tiles) → AreSums m (with_tile q tile tiles) → HasSome m (with_tile q tile tiles)
some_more m q tile tiles sums = record { sums = sums; quarter = q; tile = tile; there = there q tile tiles }

tile_at : (m : Kept) (s : Option (List Pixels)) (tile : List Pixels) → s ≡ Some tile → IfSome s (λ t. AreBands t × IsTileOf m t) → AreBands tile × IsTileOf m tile
tile_at m None tile e h = absurd (none-some tile e)
tile_at m (Some t) tile e h = subst (λ (s : Option (List Pixels)). IfSome s (λ t. AreBands t × IsTileOf m t)) e h

first_shape : (m : Kept) (first second : List Pixels) → 0 < length first → All (HasShape m) first → All (λ r. All (SameShape r) second) first → All (HasShape m) second
first_shape m [] second some shaped same = absurd (let no : ⊥ = omega (arith, some) in no)
first_shape m (r ∷ more) second some shaped same = λ k d less.
    let s = shaped 0 r (omega arith) in
    let t = same 0 r (omega arith) k d less in
    record { kind = sym t.kind ∙ s.kind; rows = sym t.rows ∙ s.rows; cols = sym t.cols ∙ s.cols; depth = sym t.depth ∙ s.depth }

pub is_unlike : (bundle : List ℕ) (slot : ℕ) (m : Kept) (tile : List Pixels) (tiles : Tiles) → IsQuarter (tiles_of bundle slot) (Some tile) → LiesWhole bundle slot → HasSome m tiles → ¬ IsTileOf m tile → IsUnlike bundle slot tiles
is_unlike bundle slot m tile tiles read whole h differs =
    let known = tile_at m (tiles h.quarter) h.tile h.there (h.sums.alike h.quarter) in
    record {
      tile = tile;
      read = read;
      whole = whole;
      quarter = h.quarter;
      other = h.tile;
      there = h.there;
      differs = λ one. differs (record { count = one.0 ∙ known.1.count; each = first_shape m h.tile tile known.0.0 known.1.each one.1 });
    }

-- the tiles that a mosaic has the numbers of are alike
pub all_one : (mosaic : Option Kept) (tiles : Tiles) → HasTiles mosaic tiles → AreAllOne tiles
all_one None tiles none = λ p q first other there is. absurd (none-some first (sym (none p) ∙ there))
all_one (Some m) tiles h = λ p q first other there is.
    let a = tile_at m (tiles p) first there (h.sums.alike p) in
    let b = tile_at m (tiles q) other is (h.sums.alike q) in (
      b.1.count ∙ sym a.1.count,
      λ k d less i e low.
          let x = a.1.each k d less in
          let y = b.1.each i e low in
          record { kind = x.kind ∙ sym y.kind; rows = x.rows ∙ sym y.rows; cols = x.cols ∙ sym y.cols; depth = x.depth ∙ sym y.depth },
    )

-- ---- at the start

none_read : (bundle : List ℕ) (a b : ℕ) → AreRead bundle a b 0 no_tiles
none_read bundle a b = record {
  first = record { each = λ q less. absurd (let no : ⊥ = omega (arith, less) in no); past = λ q low. refl };
  whole = λ q less. absurd (let no : ⊥ = omega (arith, less) in no);
}

pub none_at : (bundle : List ℕ) (a b : ℕ) → IsRead bundle a b 0 None
none_at bundle a b = record { tiles = no_tiles; read = none_read bundle a b; has = λ q. refl }
