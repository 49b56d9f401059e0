-- Sizes and records, slot by slot.
use Rattle.std.proofs.Common.{◌≡◌, inl, inr, refl, ℕ, zero, suc, ◌+◌, ◌<◌, ◌≤◌, max, List, [], ◌++◌, length, Option, Some, None, IfSome, sym, ◌∙◌, ap, arith, length-append}
use Rattle.std.proofs.Common.{Bool, true, false, ◌==◌, if◌then◌else◌, drop, take}
use Rattle.std.proofs.lemmas.Bool.{cases_eq}
use Rattle.std.proofs.lemmas.Bool.Decides.{nat_tests}
use Rattle.std.proofs.lemmas.List.{places, same_lists}
use borrow.Rule.Slice.PartMut.{put_mid}
use Rattle.outside_io.specs.volume.Disk.{laid}
use Rattle.bundle_index.specs.Entry.{entry_bytes, word_of}
use Rattle.bundle_index.specs.Header.{bytes_left_behind}
use Rattle.bundle_index.specs.declared.entry.Entry.{Entry}
use Rattle.byteorder.specs.Endian.{little_bytes}
use Rattle.bundle_store.specs.inside.Table.{entry_of_size}
use Rattle.bundle_store.specs.Layout.{entries, greatest_size, entry_behind, record_of, records, size_of}
use Rattle.bundle_store.specs.Tiles.{AreTiles, TileMap}
use Rattle.bundle_store.proofs.Layouts.{entries_more, records_more}

abbrev Fits : Option (List ℕ) → Type 0
Fits o = IfSome o (λ t. (0 < length t) × (length t < 16777216))

no_record : (o : Option (List ℕ)) → Fits o → size_of o ≡ 0 → length (record_of o) ≡ 0
no_record None is zero_ = refl
no_record (Some t) is zero_ = absurd (omega (arith, is.0, zero_))

one_record : (o : Option (List ℕ)) → 0 < size_of o → length (record_of o) ≡ size_of o + 4
one_record None some = absurd (omega arith)
one_record (Some t) some = length-append (little_bytes 4 (length t)) t ∙ omega arith

pub size_below : (map : TileMap) (n : ℕ) → AreTiles map → size_of (map n) < 16777216
size_below map n are = below (map n) (are.sizes n)
  where
    below : (o : Option (List ℕ)) → Fits o → size_of o < 16777216
    below None is = omega arith
    below (Some t) is = is.1

-- the records, one slot more
pub no_more : (map : TileMap) (n : ℕ) → AreTiles map → size_of (map n) ≡ 0 → length (records map (n + 1)) ≡ length (records map n)
no_more map n are is =
    ap (λ (m : ℕ). length (records map m)) (let e : n + 1 ≡ suc n = omega arith in e)
    ∙ ap length (records_more map n) ∙ length-append (records map n) (record_of (map n)) ∙ omega (arith, no_record (map n) (are.sizes n) is)

pub one_more : (map : TileMap) (n : ℕ) → 0 < size_of (map n) → length (records map (n + 1)) ≡ length (records map n) + (size_of (map n) + 4)
one_more map n some =
    ap (λ (m : ℕ). length (records map m)) (let e : n + 1 ≡ suc n = omega arith in e)
    ∙ ap length (records_more map n) ∙ length-append (records map n) (record_of (map n)) ∙ omega (arith, one_record (map n) some)

pub greatest_more : (map : TileMap) (n : ℕ) → greatest_size map (n + 1) ≡ max (greatest_size map n) (size_of (map n))
unfolding greatest_size
greatest_more map n = ap (greatest_size map) (let e : n + 1 ≡ suc n = omega arith in e)

pub greatest_below : (map : TileMap) (n : ℕ) → AreTiles map → greatest_size map n < 16777216
unfolding greatest_size
greatest_below map zero are = omega arith
greatest_below map (suc n) are = omega (arith, greatest_below map n are, size_below map n are)

pub greatest_none : (map : TileMap) → greatest_size map 0 ≡ 0
unfolding greatest_size
greatest_none map = refl

pub records_none : (map : TileMap) → records map 0 ≡ []
unfolding records
records_none map = refl

pub entries_none : (map : TileMap) → entries map 0 ≡ []
unfolding entries
entries_none map = refl

test_zero : (n : ℕ) → n ≡ 0 → (n == 0) ≡ true
test_zero n is = grind (arith, nat_tests)

test_some : (n : ℕ) → 0 < n → (n == 0) ≡ false
test_some n some = grind (arith, nat_tests)

left_some : (n : ℕ) → 0 < n → bytes_left_behind n ≡ n + 4
left_some n some = ap (λ (t : Bool). if t then 0 else n + 4) (test_some n some)

record_by : (o : Option (List ℕ)) → Fits o → length (record_of o) ≡ bytes_left_behind (size_of o)
record_by None is = refl
record_by (Some t) is = one_record (Some t) is.0 ∙ sym (left_some (length t) is.0)

pub length-record_of : (map : TileMap) (n : ℕ) → AreTiles map → length (record_of (map n)) ≡ bytes_left_behind (size_of (map n))
length-record_of map n are = record_by (map n) (are.sizes n)

pub records_next : (map : TileMap) (n : ℕ) → AreTiles map → length (records map (n + 1)) ≡ length (records map n) + bytes_left_behind (size_of (map n))
records_next map n are =
    ap (λ (m : ℕ). length (records map m)) (let e : n + 1 ≡ suc n = omega arith in e)
    ∙ ap length (records_more map n) ∙ length-append (records map n) (record_of (map n)) ∙ ap (λ (k : ℕ). length (records map n) + k) (length-record_of map n are)

pub records_step : (map : TileMap) (n : ℕ) → records map (n + 1) ≡ records map n ++ record_of (map n)
records_step map n = ap (records map) (let e : n + 1 ≡ suc n = omega arith in e) ∙ records_more map n

laid_by : (before : ℕ) (o : Option (List ℕ)) → Fits o → entry_behind before o ≡ entry_of_size before (size_of o)
laid_by before None is = refl
laid_by before (Some t) is = sym (ap (λ (b : Bool). if b then (let e : Entry = record { offset = 0; size = 0 } in e) else record { offset = 131136 + before + 4; size = length t }) (test_some (length t) is.0))

pub entries_step : (map : TileMap) (n before : ℕ) → AreTiles map → before ≡ length (records map n) → entries map (n + 1) ≡ entries map n ++ entry_bytes (entry_of_size before (size_of (map n)))
entries_step map n before are is =
    ap (entries map) (let e : n + 1 ≡ suc n = omega arith in e) ∙ entries_more map n
    ∙ (λ i. entries map n ++ entry_bytes (laid_by (sym is i) (map n) (are.sizes n) i))

pub left_below : (n : ℕ) → n < 16777216 → bytes_left_behind n ≤ 16777219
left_below n small = elim (cases_eq n 0) [
  | inl is ↦ omega (arith, ap (λ (t : Bool). if t then 0 else n + 4) (test_zero n is))
  | inr not ↦ omega (arith, left_some n (omega (arith, not)))
]

-- one word more in a part of the index
pub part_step : (n k : ℕ) (part piece w : List ℕ) → length part ≡ n + k → length w ≡ 8 → 8 ≤ k → piece ≡ w ++ drop 8 (take k (drop n part)) → take (n + 8) (put_mid n k part piece) ≡ take n part ++ w
part_step n k part piece w size long room is = ap (λ (p : List ℕ). take (n + 8) (put_mid n k part p)) is ∙ same_lists _ _ (grind (arith, places)) (λ i d lt. grind (arith, places))

-- bytes laid at the end
pub laid_end : (at : ℕ) (bytes old : List ℕ) → at ≡ length old → laid at bytes old ≡ old ++ bytes
laid_end at bytes old is = same_lists _ _ (grind (arith, places)) (λ i d lt. grind (arith, places))

mid_length : (n k m : ℕ) (part w : List ℕ) → length part ≡ n + k → length w ≡ m → m ≤ k → length (put_mid n k part (w ++ drop m (take k (drop n part)))) ≡ n + k
mid_length n k m part w size long room = grind (arith, places)

pub length_mid : (n k : ℕ) (part piece w : List ℕ) → length part ≡ n + k → length w ≡ 8 → 8 ≤ k → piece ≡ w ++ drop 8 (take k (drop n part)) → length (put_mid n k part piece) ≡ n + k
length_mid n k part piece w size long room is = ap (λ (p : List ℕ). length (put_mid n k part p)) is ∙ mid_length n k 8 part w size long room

pub word_bytes : (e : Entry) (w : ℕ) → w ≡ word_of e → little_bytes 8 w ≡ entry_bytes e
unfolding entry_bytes
word_bytes e w is = ap (little_bytes 8) is
