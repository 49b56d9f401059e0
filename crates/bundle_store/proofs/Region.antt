-- Parts of bundles that agree.
use Rattle.std.proofs.Common.{◌≡◌, inl, inr, Bool, true, false, ℕ, ◌+◌, ◌<◌, ◌≤◌, ◌==◌, nat_lt, List, ◌++◌, length, get_or, take, drop, Some, None, if◌then◌else◌, sym, ◌∙◌, ap, subst, arith}
use Rattle.std.proofs.lemmas.List.{places, same_lists, get_or_append_left, length-append}
use Rattle.std.proofs.lemmas.Bool.{cases_eq, cases_lt}
use Rattle.std.proofs.lemmas.Bool.Decides.{nat_tests}
use Rattle.bundle_index.specs.Entry.{entry_at, entry_of, place_of}
use Rattle.bundle_index.specs.declared.entry.Entry.{Entry}
use Rattle.bundle_index.proofs.Headers.{same_has}
use Rattle.bundle_index.proofs.Numbers.{same_u64}
use Rattle.bundle_store.specs.Session.{GetGives}
use Rattle.bundle_store.specs.Tiles.{IsBundle, IsWithin, TileMap, tile_in, tiles}

-- the bytes from one place to another are the same in both
abbrev pub Agree : ℕ → ℕ → List ℕ → List ℕ → Type 0
Agree least most b c = (i d : ℕ) → least ≤ i → i < most → get_or c i d ≡ get_or b i d

cut_at : (n at i d : ℕ) (c : List ℕ) → i < n → get_or (take n (drop at c)) i d ≡ get_or c (at + i) d
cut_at n at i d c lt = grind (arith, places)

cut_length : (n at : ℕ) (c : List ℕ) → at + n ≤ length c → length (take n (drop at c)) ≡ n
cut_length n at c within = grind (arith, places)

pub same_part : (n at : ℕ) (b c : List ℕ) → at + n ≤ length b → at + n ≤ length c → Agree at (at + n) b c → take n (drop at c) ≡ take n (drop at b)
same_part n at b c in_b in_c agree =
    same_lists _ _ (cut_length n at c in_c ∙ sym (cut_length n at b in_b)) (λ i d lt.
    let short : i < n = omega (arith, cut_length n at c in_c) in
    cut_at n at i d c short ∙ agree (at + i) d (omega arith) (omega arith) ∙ sym (cut_at n at i d b short))

pub same_entry : (b c : List ℕ) (slot : ℕ) → Agree (place_of slot) (place_of slot + 8) b c → entry_at c slot ≡ entry_at b slot
same_entry b c slot agree = ap entry_of (same_u64 c b (place_of slot) (place_of slot) (λ i lt. agree (place_of slot + i) 0 (omega arith) (omega arith)))

-- what an entry names, and that an entry of size 0 names nothing
test_zero : (n : ℕ) → n ≡ 0 → (n == 0) ≡ true
test_zero n is = grind (arith, nat_tests)

test_some : (n : ℕ) → 0 < n → (n == 0) ≡ false
test_some n some = grind (arith, nat_tests)

pub tile_none : (b : List ℕ) (e : Entry) → e.size ≡ 0 → tile_in b e ≡ None
tile_none b e is = ap (λ (t : Bool). if t then None else Some (take e.size (drop e.offset b))) (test_zero e.size is)

pub tile_some : (b : List ℕ) (e : Entry) → 0 < e.size → tile_in b e ≡ Some (take e.size (drop e.offset b))
tile_some b e some = ap (λ (t : Bool). if t then None else Some (take e.size (drop e.offset b))) (test_some e.size some)

-- the tile that an entry within one of them names is the same in both
pub same_tile : (b c : List ℕ) (e : Entry) → IsWithin b e → length b ≤ length c → Agree 131136 (length b) b c → tile_in c e ≡ tile_in b e
same_tile b c e within long agree = elim (cases_eq e.size 0) [
  | inl is ↦ tile_none c e is ∙ sym (tile_none b e is)
  | inr not ↦
      let some : 0 < e.size = omega (arith, not) in
      let here = within some in
      tile_some c e some
      ∙ ap (λ (l : List ℕ). Some l) (same_part e.size e.offset b c here.1 (omega (arith, here.1)) (λ i d ge lt. agree i d (omega (arith, here.0)) (omega (arith, here.1))))
      ∙ sym (tile_some b e some)
]

pub same_within : (b c : List ℕ) (e : Entry) → length b ≤ length c → IsWithin b e → IsWithin c e
same_within b c e long within = λ some. let here = within some in (here.0, omega (arith, here.1))

-- what a bundle has at a slot, and past the slots
test_lt : (n m : ℕ) → n < m → nat_lt n m ≡ true
test_lt n m lt = grind (arith, nat_tests)

test_ge : (n m : ℕ) → m ≤ n → nat_lt n m ≡ false
test_ge n m ge = grind (arith, nat_tests)

pub tiles_at : (b : List ℕ) (slot : ℕ) → slot < 16384 → tiles b slot ≡ tile_in b (entry_at b slot)
unfolding tiles
tiles_at b slot lt = ap (λ (t : Bool). if t then tile_in b (entry_at b slot) else None) (test_lt slot 16384 lt)

-- a map has nothing past the slots
abbrev pub IsMap : TileMap → Type 0
IsMap map = (slot : ℕ) → 16384 ≤ slot → map slot ≡ None

pub tiles_past : (b : List ℕ) → IsMap (tiles b)
unfolding tiles
tiles_past b = λ slot ge. ap (λ (t : Bool). if t then tile_in b (entry_at b slot) else None) (test_ge slot 16384 ge)

-- maps with the same tile in each slot
pub same_maps : (one two : TileMap) → IsMap one → IsMap two → ((slot : ℕ) → slot < 16384 → one slot ≡ two slot) → one ≡ two
same_maps one two is_one is_two same = λ i slot. by_slot slot i
  where
    by_slot : (slot : ℕ) → one slot ≡ two slot
    by_slot slot = elim (cases_lt slot 16384) [ inl lt ↦ same slot lt | inr ge ↦ is_one slot ge ∙ sym (is_two slot ge) ]

pub tiles_by : (b : List ℕ) (map : TileMap) → IsMap map → ((slot : ℕ) → slot < 16384 → tile_in b (entry_at b slot) ≡ map slot) → tiles b ≡ map
tiles_by b map is each = same_maps (tiles b) map (tiles_past b) is (λ slot lt. tiles_at b slot lt ∙ each slot lt)

-- a bundle that begins with another one
module _ (b rest : List ℕ) (is : IsBundle b) where
  abbrev both : List ℕ
  both = b ++ rest

  agree : (i d : ℕ) → i < length b → get_or both i d ≡ get_or b i d
  agree i d lt = get_or_append_left b rest d i lt

  longer : length b ≤ length both
  longer = omega (arith, length-append b rest)

  entry : (slot : ℕ) → slot < 16384 → entry_at both slot ≡ entry_at b slot
  entry slot lt = same_entry b both slot (λ i d ge below. agree i d (let l = is.index.long in omega arith))

  pub front_bundle : IsBundle both
  front_bundle = record {
    index = record {
      long = let l = is.index.long in omega (arith, longer);
      header = same_has b both (λ i lt. sym (agree i 0 (let l = is.index.long in omega arith))) is.index.header;
    };
    entries = λ slot lt. subst (IsWithin both) (sym (entry slot lt)) (same_within b both (entry_at b slot) longer (is.entries slot lt));
  }

  pub front_tiles : tiles both ≡ tiles b
  front_tiles = tiles_by both (tiles b) (tiles_past b) (λ slot lt.
      ap (tile_in both) (entry slot lt) ∙ same_tile b both (entry_at b slot) (is.entries slot lt) longer (λ i d ge below. agree i d below) ∙ sym (tiles_at b slot lt))

-- what a get gives is the slot's tile
pub gives_tile : (b : List ℕ) (slot : ℕ) (tile : List ℕ) → slot < 16384 → GetGives b slot tile → tiles b slot ≡ Some tile
gives_tile b slot tile lt gives = tiles_at b slot lt ∙ tile_some b (entry_at b slot) gives.some ∙ ap (λ (l : List ℕ). Some l) (sym gives.bytes)
