-- The tiles that were read slot by slot are the merged ones.
use Rattle.std.proofs.Common.{◌≡◌, ◌≢◌, inl, inr, ℕ, zero, suc, ◌+◌, ◌<◌, ◌≤◌, ◌==◌, List, [], ◌∷◌, length, slice_get, Option, Some, None, Bool, true, false, refl, sym, ap, subst, ◌∙◌, arith}
use Rattle.std.specs.Prelude.{if◌then◌else◌, nat_lt, take, drop}
use Rattle.std.proofs.lemmas.Bool.Decides.{nat_tests}
use Rattle.std.proofs.lemmas.Bool.{cases_Bool, cases_eq, cases_lt, eqb-true, eqb-false, lt-ltb}
use Rattle.std.proofs.lemmas.Option.{slice_get_within}
use Rattle.bundle_index.specs.Entry.{entry_at}
use Rattle.bundle_store.specs.declared.tile_rec.TileRec.{TileRec}
use Rattle.bundle_store.specs.Build.{map_after}
use Rattle.bundle_store.specs.Tiles.{TileMap, no_tiles, tile_in, tiles, with_tile}
use Rattle.bundle_store.specs.Session.{GetGives}
use Rattle.bundle_store.proofs.PutLaws.{after_join}
use Rattle.bundle_pack.specs.Chosen.{AreWhole, IsChosen}
use Rattle.std.specs.Option.{option_or}
use Rattle.bundle_pack.specs.Packing.{merged_tiles}
use Rattle.bundle_pack.specs.inside.Collecting.{IsMergedBelow, TakesTile}
use Rattle.bundle_pack.proofs.Choosing.{chosen_once}
use Rattle.bundle_pack.proofs.Volumes.{one_some}

pub tiles-at : (bundle : List ℕ) (slot : ℕ) → slot < 16384 → tiles bundle slot ≡ tile_in bundle (entry_at bundle slot)
unfolding tiles
tiles-at bundle slot below = ap (λ (t : Bool). if t then tile_in bundle (entry_at bundle slot) else None) (lt-ltb slot 16384 below)

eqb_yes : (n : ℕ) → n ≡ 0 → (n == 0) ≡ true
eqb_yes n is = ap (λ (k : ℕ). k == 0) is

eqb_no : (n : ℕ) → 0 < n → (n == 0) ≡ false
eqb_no n some = elim (cases_Bool (n == 0)) [ inl is ↦ absurd (omega (arith, some, eqb-true n 0 is)) | inr not ↦ not ]

pub tile_none : (bundle : List ℕ) (slot : ℕ) → slot < 16384 → (entry_at bundle slot).size ≡ 0 → tiles bundle slot ≡ None
tile_none bundle slot below none = tiles-at bundle slot below ∙ ap (λ (t : Bool). if t then None else Some (take (entry_at bundle slot).size (drop (entry_at bundle slot).offset bundle))) (eqb_yes (entry_at bundle slot).size none)

pub tile_some : (bundle tile : List ℕ) (slot : ℕ) → slot < 16384 → GetGives bundle slot tile → tiles bundle slot ≡ Some tile
tile_some bundle tile slot below gives =
    tiles-at bundle slot below ∙ ap (λ (t : Bool). if t then None else Some (take (entry_at bundle slot).size (drop (entry_at bundle slot).offset bundle))) (eqb_no (entry_at bundle slot).size gives.some)
    ∙ ap Some (sym gives.bytes)

-- what is merged at one slot
pub merged_none : (bundles : List (List ℕ)) (slot : ℕ) → slot < 16384 → ((i : ℕ) (b : List ℕ) → slice_get bundles i ≡ Some b → (entry_at b slot).size ≡ 0) → merged_tiles bundles slot ≡ None
merged_none [] slot below none = refl
merged_none (b ∷ bs) slot below none =
    (λ i. option_or (merged_none bs slot below (λ j c there. none (suc j) c there) i) (tile_none b slot below (none 0 b refl) i))

pub merged_some : (bundles : List (List ℕ)) (slot at : ℕ) (bundle tile : List ℕ) → slot < 16384 → IsChosen bundles slot at bundle → tiles bundle slot ≡ Some tile → merged_tiles bundles slot ≡ Some tile
merged_some [] slot at bundle tile below is tile_is = absurd (omega (arith, slice_get_within [] at bundle is.there))
merged_some (b ∷ bs) slot zero bundle tile below is tile_is =
    let same : b ≡ bundle = one_some b bundle is.there in
    (λ i. option_or (merged_none bs slot below (λ j c there. is.last (suc j) c (omega arith) there) i) ((ap (λ (c : List ℕ). tiles c slot) same ∙ tile_is) i))
merged_some (b ∷ bs) slot (suc at) bundle tile below is tile_is =
    let later = merged_some bs slot at bundle tile below (record { there = is.there; some = is.some; last = λ j c above there. is.last (suc j) c (omega (arith, above)) there }) tile_is in
    ap (λ (o : Option (List ℕ)). option_or o (tiles b slot)) later ∙ kept tile (tiles b slot)
  where
    kept : (y : List ℕ) (o : Option (List ℕ)) → option_or (Some y) o ≡ Some y
    kept y None = refl
    kept y (Some x) = refl

-- one slot more
pub merged_more : (bundles : List (List ℕ)) (n : ℕ) (old new : List TileRec) → n < 16384 → IsMergedBelow bundles n (map_after no_tiles old) → TakesTile bundles n old new → IsMergedBelow bundles (n + 1) (map_after no_tiles new)
merged_more bundles n old new below so (inl (none, same)) slot = (
  λ less. ap (λ (ts : List TileRec). map_after no_tiles ts slot) same ∙ elim (cases_lt slot n) [
    | inl under ↦ (so slot).0 under
    | inr past ↦ let is : slot ≡ n = omega (arith, less, past) in (so slot).1 past ∙ sym (ap (merged_tiles bundles) is ∙ merged_none bundles n below none)
  ],
  λ le. ap (λ (ts : List TileRec). map_after no_tiles ts slot) same ∙ (so slot).1 (omega (arith, le)),
)
merged_more bundles n old new below so (inr (at, (bundle, tile, (is, (gives, joined))))) slot =
    let after : map_after no_tiles new ≡ with_tile n tile (map_after no_tiles old) = ap (map_after no_tiles) joined ∙ after_join no_tiles old ((record { slot = n; bytes = tile }) ∷ []) in (
      λ less. ap (λ (m : TileMap). m slot) after ∙ elim (cases_eq slot n) [
        | inl same ↦
            ap (λ (t : Bool). if t then Some tile else map_after no_tiles old slot) (yes slot n same)
            ∙ sym (ap (merged_tiles bundles) same ∙ merged_some bundles n at bundle tile below is (tile_some bundle tile n below gives))
        | inr other ↦ ap (λ (t : Bool). if t then Some tile else map_after no_tiles old slot) (no slot n other) ∙ (so slot).0 (omega (arith, less, other))
      ],
      λ le. ap (λ (m : TileMap). m slot) after ∙ ap (λ (t : Bool). if t then Some tile else map_after no_tiles old slot) (no slot n (λ same. omega (arith, le, same))) ∙ (so slot).1 (omega (arith, le)),
    )
  where
    no : (a b : ℕ) → a ≢ b → (a == b) ≡ false
    no a b differs = elim (cases_Bool (a == b)) [ inl same ↦ absurd (differs (eqb-true a b same)) | inr not ↦ not ]

    yes : (a b : ℕ) → a ≡ b → (a == b) ≡ true
    yes a b same = elim (cases_Bool (a == b)) [ inl is ↦ is | inr not ↦ absurd (eqb-false a b not same) ]

pub whole_more : (bundles : List (List ℕ)) (n : ℕ) (old new : List TileRec) → AreWhole bundles n → TakesTile bundles n old new → AreWhole bundles (n + 1)
whole_more bundles n old new so takes slot at bundle less is = elim (cases_lt slot n) [
  | inl under ↦ so slot at bundle under is
  | inr past ↦ let same : slot ≡ n = omega (arith, less, past) in within takes same
]
  where
    within : TakesTile bundles n old new → slot ≡ n → (entry_at bundle slot).offset + (entry_at bundle slot).size ≤ length bundle
    within (inl (none, _)) same = absurd (omega (arith, is.some, none at bundle is.there, ap (λ (k : ℕ). (entry_at bundle k).size) same))
    within (inr (other, (b, tile, (chosen, (gives, _))))) same =
        let here : IsChosen bundles n at bundle = subst (λ (k : ℕ). IsChosen bundles k at bundle) same is in
        let e : b ≡ bundle = chosen_once bundles n other at b bundle chosen here in
        subst (λ (k : ℕ). (entry_at bundle k).offset + (entry_at bundle k).size ≤ length bundle) (sym same) (subst (λ (c : List ℕ). (entry_at c n).offset + (entry_at c n).size ≤ length c) e gives.within)

pub tiles_past : (bundle : List ℕ) (slot : ℕ) → 16384 ≤ slot → tiles bundle slot ≡ None
unfolding tiles
tiles_past bundle slot past = ap (λ (t : Bool). if t then tile_in bundle (entry_at bundle slot) else None) (not_below slot 16384 past)
  where
    not_below : (a b : ℕ) → b ≤ a → nat_lt a b ≡ false
    not_below a b le = grind (arith, nat_tests)

merged_past : (bundles : List (List ℕ)) (slot : ℕ) → 16384 ≤ slot → merged_tiles bundles slot ≡ None
merged_past [] slot past = refl
merged_past (b ∷ bs) slot past = (λ i. option_or (merged_past bs slot past i) (tiles_past b slot past i))

-- all slots were read
pub all_merged : (bundles : List (List ℕ)) (m : TileMap) → IsMergedBelow bundles 16384 m → m ≡ merged_tiles bundles
all_merged bundles m so = λ i slot. at slot i
  where
    at : (slot : ℕ) → m slot ≡ merged_tiles bundles slot
    at slot = elim (cases_lt slot 16384) [
      | inl less ↦ (so slot).0 less
      | inr past ↦ (so slot).1 past ∙ sym (merged_past bundles slot past)
    ]

-- before the first
pub merged_start : (bundles : List (List ℕ)) → AreWhole bundles 0 × IsMergedBelow bundles 0 (map_after no_tiles [])
merged_start bundles = (λ slot at bundle less is. absurd (let no : ⊥ = omega (arith, less) in no), λ slot. (λ less. absurd (let no : ⊥ = omega (arith, less) in no), λ le. refl))
