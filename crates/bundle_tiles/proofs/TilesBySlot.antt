-- The slots and the tiles of a bundle, one slot more.
use Rattle.std.proofs.Common.{◌≡◌, ℕ, suc, ◌+◌, ◌<◌, ◌==◌, if◌then◌else◌, None, Bool, List, [], ◌∷◌, ◌++◌, inl, inr, sym, ap, ◌∙◌, refl, arith}
use Rattle.std.proofs.lemmas.Bool.{cases_Bool, eqb-true, lt-ltb}
use Rattle.std.proofs.lemmas.List.{append-nil}
use Rattle.bundle_index.specs.Entry.{entry_at}
use Rattle.bundle_index.specs.declared.entry.Entry.{Entry}
use Rattle.bundle_store.specs.Tiles.{TileMap, tile_in, tiles}
use Rattle.bundle_tiles.specs.Exported.{slots_below, tile_of, tiles_below}

-- a slot's tile is what its entry names
pub tile_at : (b : List ℕ) (slot : ℕ) → slot < 16384 → tiles b slot ≡ tile_in b (entry_at b slot)
unfolding tiles
tile_at b slot below = ap (λ (t : Bool). if t then tile_in b (entry_at b slot) else None) (lt-ltb slot 16384 below)

pub tiles_none : (map : TileMap) → tiles_below map 0 ≡ []
unfolding tiles_below
tiles_none map = refl

pub tiles_more : (map : TileMap) (n : ℕ) → tiles_below map (suc n) ≡ tiles_below map n ++ tile_of n (map n)
unfolding tiles_below
tiles_more map n = refl

pub slots_more : (b : List ℕ) (n : ℕ) → slots_below b (suc n) ≡ slots_below b n ++ (if (entry_at b n).size == 0 then [] else n ∷ [])
unfolding slots_below
slots_more b n = refl

pub slots_none : (b : List ℕ) → slots_below b 0 ≡ []
unfolding slots_below
slots_none b = refl

slots_next : (b : List ℕ) (n : ℕ) → slots_below b (n + 1) ≡ slots_below b n ++ (if (entry_at b n).size == 0 then [] else n ∷ [])
slots_next b n = ap (slots_below b) (let e : n + 1 ≡ suc n = omega arith in e) ∙ slots_more b n

module _ (b : List ℕ) (n slot : ℕ) (e : Entry) (old new : List ℕ) (at : slot ≡ n) (is : e ≡ entry_at b slot) (so : old ≡ slots_below b n) where
  size_is : e.size ≡ (entry_at b n).size
  size_is = ap (λ (x : Entry). x.size) is ∙ ap (λ (k : ℕ). (entry_at b k).size) at

  -- this one has a tile
  pub one_filled : 0 < e.size → new ≡ old ++ slot ∷ [] → new ≡ slots_below b (n + 1)
  one_filled some added = elim (cases_Bool ((entry_at b n).size == 0)) [
    | inl none ↦ absurd (omega (arith, some, size_is, eqb-true (entry_at b n).size 0 none))
    | inr not ↦ added ∙ ap (λ (xs : List ℕ). xs ++ slot ∷ []) so ∙ ap (λ (k : ℕ). slots_below b n ++ k ∷ []) at
        ∙ sym (slots_next b n ∙ ap (λ (t : Bool). slots_below b n ++ (if t then [] else n ∷ [])) not)
  ]

  -- and this one has none
  pub none_filled : e.size ≡ 0 → old ≡ slots_below b (n + 1)
  none_filled none = so ∙ sym (append-nil (slots_below b n)) ∙ sym (slots_next b n ∙ ap (λ (k : ℕ). slots_below b n ++ (if k == 0 then [] else n ∷ [])) (sym size_is ∙ none))
