-- Laws for the crates above.
use Rattle.std.proofs.Common.{◌≡◌, ◌≢◌, inl, inr, refl, Bool, true, false, ℕ, ◌+◌, ◌^◌, ◌<◌, ◌≤◌, ◌==◌, List, [], ◌∷◌, ◌++◌, length, if◌then◌else◌, sym, ◌∙◌, ap, subst, arith}
use Rattle.std.proofs.lemmas.Bool.{cases_eq}
use Rattle.std.proofs.lemmas.Bool.Decides.{nat_tests}
use Rattle.std.proofs.lemmas.List.{nil_from_length}
use Rattle.bundle_index.specs.Entry.{entry_at, entry_of, place_of}
use Rattle.bundle_store.specs.declared.tile_rec.TileRec.{TileRec}
use Rattle.bundle_store.specs.Appended.{bundle_after_put, bundle_with_tile}
use Rattle.bundle_store.specs.Build.{map_after}
use Rattle.bundle_store.specs.Layout.{layout}
use Rattle.bundle_store.specs.Tiles.{IsBundle, IsReadable, TileMap, no_tiles, tiles, with_tile}
use Rattle.bundle_store.proofs.Layouts.{layout_bundle, layout_tiles, length-nothing, nothing_fits}
use Rattle.bundle_store.proofs.Putting.{put_on_bundle, put_on_tiles}
use Rattle.bundle_store.proofs.Recovering.{nothing_at, tiles_empty}

test_same : (n m : ℕ) → n ≡ m → (n == m) ≡ true
test_same n m is = grind (arith, nat_tests)

test_differ : (n m : ℕ) → n ≢ m → (n == m) ≡ false
test_differ n m differs = grind (arith, nat_tests)

-- a bundle after a put, by the length before it
module _ (b tile : List ℕ) (slot : ℕ) where
  pub on_nothing : length b ≡ 0 → bundle_after_put b slot tile ≡ bundle_with_tile (layout no_tiles) slot tile
  on_nothing zero = ap (λ (t : Bool). if t then bundle_with_tile (layout no_tiles) slot tile else bundle_with_tile b slot tile) (test_same (length b) 0 zero)

  pub on_bundle : length b ≢ 0 → bundle_after_put b slot tile ≡ bundle_with_tile b slot tile
  on_bundle some = ap (λ (t : Bool). if t then bundle_with_tile (layout no_tiles) slot tile else bundle_with_tile b slot tile) (test_differ (length b) 0 some)

  module _ (readable : IsReadable b) (below : slot < 16384) (some : 0 < length tile) (small : length tile < 2 ^ 24) (room : length b + 4 + length tile ≤ 2 ^ 40) where
    start : IsBundle (layout no_tiles)
    start = layout_bundle no_tiles nothing_fits

    fits : length (layout no_tiles) + 4 + length tile ≤ 2 ^ 40
    fits = omega (arith, length-nothing)

    pub put_readable : IsReadable (bundle_after_put b slot tile)
    put_readable = elim (cases_eq (length b) 0) [
      | inl zero ↦ subst IsReadable (sym (on_nothing zero)) (inr (put_on_bundle (layout no_tiles) tile slot start below some small fits))
      | inr more ↦ subst IsReadable (sym (on_bundle more)) (elim readable [ inl zero ↦ absurd (more zero) | inr is ↦ inr (put_on_bundle b tile slot is below some small room) ])
    ]

    pub put_replaces : tiles (bundle_after_put b slot tile) ≡ with_tile slot tile (tiles b)
    put_replaces = elim (cases_eq (length b) 0) [
      | inl zero ↦ ap tiles (on_nothing zero) ∙ put_on_tiles (layout no_tiles) tile slot start below some small fits
          ∙ ap (with_tile slot tile) (layout_tiles no_tiles nothing_fits ∙ sym tiles_empty ∙ sym (ap tiles (nil_from_length b zero)))
      | inr more ↦ ap tiles (on_bundle more) ∙ (elim readable [ inl zero ↦ absurd (more zero) | inr is ↦ put_on_tiles b tile slot is below some small room ])
    ]

pub after_join : (map : TileMap) (xs ys : List TileRec) → map_after map (xs ++ ys) ≡ map_after (map_after map xs) ys
after_join map [] ys = refl
after_join map (x ∷ xs) ys = after_join (with_tile x.slot x.bytes map) xs ys

pub tiles_there : (b : List ℕ) (slot : ℕ) → IsReadable b → slot < 16384 → 0 < (entry_at b slot).size → (entry_at b slot).offset + (entry_at b slot).size ≤ length b
tiles_there b slot readable below some = elim readable [
  | inl empty ↦ absurd (let none : (entry_at b slot).size ≡ 0 = ap (λ (l : List ℕ). (entry_at l slot).size) (nil_from_length b empty) ∙ ap (λ (w : ℕ). (entry_of w).size) (nothing_at (place_of slot)) in omega (arith, none, some))
  | inr is ↦ (is.entries slot below some).1
]
