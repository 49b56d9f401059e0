-- Over steps each image stands for what they leave.
use Rattle.std.proofs.Common.{◌≡◌, ◌≢◌, inl, inr, ℕ, ◌==◌, ◌&&◌, Bool, true, false, List, [], ◌∷◌, Option, Some, refl, sym, subst, ◌∙◌}
use Rattle.std.specs.Prelude.{if◌then◌else◌}
use Rattle.outside_io.specs.volume.Disk.{Disk, IsDiskImage, settled}
use Rattle.outside_io.proofs.VolumeLemmas.Images.{only_image}
use Rattle.bundle_store.specs.Images.{EachImage, StandsFor}
use Rattle.bundle_store.specs.Starts.{CouldBe, EachIsSound, IsCrashOf}
use Rattle.bundle_store.specs.Tiles.{TileMap, with_tile}
use Rattle.bundle_store.proofs.Recovering.{one_map}
use Rattle.level_cache.specs.Places.{Corner, same_corner}
use Rattle.level_cache.specs.Crashes.{After, Behind, Disks, EachAfterPut, Either, IsStep, LastOrLater, Step, StepsKeepTiles}
use Rattle.level_cache.specs.Crashes.Step.{Put, Get, Crash, Kill}
use Rattle.level_cache.proofs.Corners.{by_bool, is_same, same_is}

-- ---- images

sound_map : (P : TileMap → Type 0) (d : Disk) (map : TileMap) → EachImage P d → CouldBe d map → P map
sound_map P d map each could =
    let s = each could.bundle could.journal could.image.bundle could.image.journal in
    subst P (one_map could.bundle could.journal s.map map s.stands could.stands) s.passes

could_be : (d : Disk) (b j : List ℕ) (map : TileMap) → IsDiskImage d b j → StandsFor b j map → CouldBe d map
could_be d b j map image stands = record { bundle = b; journal = j; image = image; stands = stands }

sound_by : (P : TileMap → Type 0) (d : Disk) → EachImage P d → EachIsSound d
sound_by P d each = λ b j ib ij. (let s = each b j ib ij in record { map = s.map; stands = s.stands; passes = tt })

-- a crash leaves one image
left_image : (old new : Disk) (b j : List ℕ) (is : IsCrashOf old new) → IsDiskImage new b j → (b ≡ is.bundle) × (j ≡ is.journal)
left_image old new b j is image =
    let at = subst (λ (d : Disk). IsDiskImage d b j) is.left image in
    (only_image (settled is.bundle) b refl at.bundle, only_image (settled is.journal) j refl at.journal)

-- ---- one step

-- what each place has behind a step, by what follows
abbrev Follows : Step → Corner → (ℕ → Option (List ℕ) → Type 0) → TileMap → TileMap → Type 0
Follows s base P start map = (slot : ℕ) → P slot (map slot) → After s base slot (start slot) (P slot)

abbrev Leads : Step → Corner → (ℕ → Option (List ℕ) → Type 0) → Disk → Disk → Type 0
Leads s base P old new = (map : TileMap) → CouldBe new map → (start : TileMap) × (CouldBe old start × Follows s base P start map)

-- a place of another bundle
other_place : (own base : Corner) (acknowledged : Bool) (at : ℕ) (tile : List ℕ) (P : ℕ → Option (List ℕ) → Type 0) (map : TileMap) → same_corner base own ≡ false → Follows (Put own at tile acknowledged) base P map map
other_place own base acknowledged at tile P map differs = λ slot holds.
    subst (λ (t : Bool). Either (t && (slot == at)) (Behind acknowledged (P slot (Some tile)) (P slot (map slot))) (P slot (map slot))) (sym differs) holds

-- a place of this bundle, where the slot has the tile
module _ (own base : Corner) (at : ℕ) (tile : List ℕ) (P : ℕ → Option (List ℕ) → Type 0) (start : TileMap) (is : same_corner base own ≡ true) where
  here : (acknowledged : Bool) (slot : ℕ) → Either (slot == at) (Behind acknowledged (P slot (Some tile)) (P slot (start slot))) (P slot (start slot)) → After (Put own at tile acknowledged) base slot (start slot) (P slot)
  here acknowledged slot found = subst (λ (t : Bool). Either (t && (slot == at)) (Behind acknowledged (P slot (Some tile)) (P slot (start slot))) (P slot (start slot))) (sym is) found

  new : (acknowledged : Bool) (N O : Type 0) → N → Behind acknowledged N O
  new true N O n = n
  new false N O n = inl n

  by_slot : (acknowledged : Bool) (t : Bool) (slot : ℕ) → P slot (if t then Some tile else start slot) → Either t (Behind acknowledged (P slot (Some tile)) (P slot (start slot))) (P slot (start slot))
  by_slot acknowledged true slot holds = new acknowledged _ _ holds
  by_slot acknowledged false slot holds = holds

  follows_with : (acknowledged : Bool) (map : TileMap) → map ≡ with_tile at tile start → Follows (Put own at tile acknowledged) base P start map
  follows_with acknowledged map same = λ slot holds. here acknowledged slot (by_slot acknowledged (slot == at) slot (subst (λ (m : TileMap). P slot (m slot)) same holds))

  old_one : (t : Bool) (slot : ℕ) → P slot (start slot) → Either t (Behind false (P slot (Some tile)) (P slot (start slot))) (P slot (start slot))
  old_one true slot holds = inr holds
  old_one false slot holds = holds

  follows_without : (map : TileMap) → map ≡ start → Follows (Put own at tile false) base P start map
  follows_without map same = λ slot holds. here false slot (old_one (slot == at) slot (subst (λ (m : TileMap). P slot (m slot)) same holds))

put_sound : (acknowledged : Bool) (at : ℕ) (tile : List ℕ) (old new : Disk) → EachAfterPut acknowledged at tile old new → EachIsSound new
put_sound true at tile old new each = sound_by _ new each
put_sound false at tile old new each = sound_by _ new each

put_leads : (acknowledged : Bool) (own base : Corner) (at : ℕ) (tile : List ℕ) (P : ℕ → Option (List ℕ) → Type 0) (old new : Disk) → same_corner base own ≡ true
    → EachAfterPut acknowledged at tile old new → Leads (Put own at tile acknowledged) base P old new
put_leads true own base at tile P old new is each = λ map could.
    let from = sound_map _ new map each could in (from.0, (from.1.0, follows_with own base at tile P from.0 is true map from.1.1))
put_leads false own base at tile P old new is each = λ map could.
    let from = sound_map _ new map each could in
    (from.0, (from.1.0, elim from.1.1 [ inl same ↦ follows_without own base at tile P from.0 is map same | inr more ↦ follows_with own base at tile P from.0 is false map more ]))

step_sound : (s : Step) (old new : Disks) → ((base : Corner) → EachIsSound (old base)) → IsStep s old new → (base : Corner) → EachIsSound (new base)
step_sound (Put own at tile acknowledged) old new sound is base = by_bool (same_corner base own) (EachIsSound (new base))
    (λ same. subst (λ (c : Corner). EachIsSound (new c)) (sym (same_is base own same)) (put_sound acknowledged at tile (old own) (new own) (is.1 (sound own))))
    (λ differs. subst EachIsSound (sym (is.0 base (other base own differs))) (sound base))
  where
    other : (a b : Corner) → same_corner a b ≡ false → a ≢ b
    other a b differs e = absurd (let clash : true ≡ false = sym (is_same a b e) ∙ differs in cc)
step_sound Get old new sound is base = λ b j ib ij.
    let one = is base b j ib ij in
    let was = sound base one.bundle one.journal one.bundle_is one.journal_is in
    record { map = was.map; stands = one.same was.map was.stands; passes = tt }
step_sound Crash old new sound is base = λ b j ib ij.
    let left = is base in
    let same = left_image (old base) (new base) b j left (record { bundle = ib; journal = ij }) in
    let was = sound base left.bundle left.journal left.image.bundle left.image.journal in
    record { map = was.map; stands = subst (λ (l : List ℕ). StandsFor l j was.map) (sym same.0) (subst (λ (l : List ℕ). StandsFor left.bundle l was.map) (sym same.1) was.stands); passes = tt }
step_sound Kill old new sound is base = λ b j ib ij.
    let image = (is base).images b j (record { bundle = ib; journal = ij }) in
    sound base b j image.bundle image.journal

step_leads : (s : Step) (old new : Disks) (P : ℕ → Option (List ℕ) → Type 0) → ((base : Corner) → EachIsSound (old base)) → IsStep s old new → (base : Corner) → Leads s base P (old base) (new base)
step_leads (Put own at tile acknowledged) old new P sound is base = by_bool (same_corner base own) (Leads (Put own at tile acknowledged) base P (old base) (new base))
    (λ same. subst (λ (c : Corner). Leads (Put own at tile acknowledged) base P (old c) (new c)) (sym (same_is base own same)) (put_leads acknowledged own base at tile P (old own) (new own) same (is.1 (sound own))))
    (λ differs. λ map could. (map, (subst (λ (d : Disk). CouldBe d map) (is.0 base (other base own differs)) could, other_place own base acknowledged at tile P map differs)))
  where
    other : (a b : Corner) → same_corner a b ≡ false → a ≢ b
    other a b differs e = absurd (let clash : true ≡ false = sym (is_same a b e) ∙ differs in cc)
step_leads Get old new P sound is base = λ map could.
    let one = is base could.bundle could.journal could.image.bundle could.image.journal in
    let was = sound base one.bundle one.journal one.bundle_is one.journal_is in
    let same = one_map could.bundle could.journal was.map map (one.same was.map was.stands) could.stands in
    (map, (could_be (old base) one.bundle one.journal map (record { bundle = one.bundle_is; journal = one.journal_is }) (subst (StandsFor one.bundle one.journal) same was.stands), λ slot holds. holds))
step_leads Crash old new P sound is base = λ map could.
    let left = is base in
    let same = left_image (old base) (new base) could.bundle could.journal left could.image in
    (map, (could_be (old base) left.bundle left.journal map left.image (subst (λ (l : List ℕ). StandsFor l left.journal map) same.0 (subst (λ (l : List ℕ). StandsFor could.bundle l map) same.1 could.stands)), λ slot holds. holds))
step_leads Kill old new P sound is base = λ map could.
    (map, (could_be (old base) could.bundle could.journal map ((is base).images could.bundle could.journal could.image) could.stands, λ slot holds. holds))

-- ---- any steps

pub steps_keep : StepsKeepTiles
steps_keep first [] sound are base = λ b j ib ij.
    let s = sound base b j ib ij in
    record { map = s.map; stands = s.stands; passes = (s.map, (could_be (first base) b j s.map (record { bundle = ib; journal = ij }) s.stands, λ slot. refl)) }
steps_keep first (s ∷ ss) sound are base = λ b j ib ij.
    let rest = steps_keep s.1 ss (step_sound s.0 first s.1 sound are.0) are.1 base b j ib ij in
    let from = step_leads s.0 first s.1 (λ slot now. LastOrLater ss base slot now (rest.map slot)) sound are.0 base rest.passes.0 rest.passes.1.0 in
    record { map = rest.map; stands = rest.stands; passes = (from.0, (from.1.0, λ slot. from.1.1 slot (rest.passes.1.1 slot))) }
