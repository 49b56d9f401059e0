-- A layout, read back.
use Rattle.std.proofs.Common.{◌≡◌, ◌⊎◌, inl, inr, refl, ℕ, zero, suc, ◌+◌, ◌*◌, ◌<◌, ◌≤◌, List, [], ◌++◌, length, take, drop, Option, Some, None, IfSome, sym, ◌∙◌, ap, subst, arith}
use Rattle.std.proofs.lemmas.List.{places, same_lists, append-nil, append_assoc, length-append}
use Rattle.std.proofs.lemmas.Bool.{cases_eq}
use Rattle.byteorder.specs.Endian.{little_bytes}
use Rattle.bundle_index.specs.Entry.{IsEntry, entry_at, entry_bytes, entry_of, place_of}
use Rattle.bundle_index.specs.Header.{fresh_header}
use Rattle.bundle_index.specs.Numbers.{u64_at}
use Rattle.bundle_index.specs.declared.entry.Entry.{Entry}
use Rattle.bundle_index.proofs.Headers.{fresh_has, length-fresh_header}
use Rattle.bundle_index.proofs.Numbers.{entry_read, length-entry_bytes}
use Rattle.bundle_store.specs.Layout.{entries, greatest_size, entry_behind, layout, record_of, records}
use Rattle.bundle_store.specs.Tiles.{AreTiles, IsBundle, IsWithin, TileMap, no_tiles, tile_in, tiles}
use Rattle.bundle_store.proofs.Region.{tile_none, tile_some, tiles_by}

-- a list begins with another one
pub record Begins (front whole : List ℕ) : Type 0 where
  pub rest : List ℕ
  pub is : whole ≡ front ++ rest

begins_same : (l : List ℕ) → Begins l l
begins_same l = record { rest = []; is = sym (append-nil l) }

begins_more : (front whole more : List ℕ) → Begins front whole → Begins front (whole ++ more)
begins_more front whole more begins = record { rest = begins.rest ++ more; is = ap (λ (l : List ℕ). l ++ more) begins.is ∙ append_assoc front begins.rest more }

-- the end of a count
last_or_before : (n m : ℕ) → n ≤ suc m → (n ≡ suc m) ⊎ (n ≤ m)
last_or_before n m le = elim (cases_eq n (suc m)) [ inl is ↦ inl is | inr not ↦ inr (omega (arith, not)) ]

pub records_begin : (map : TileMap) (n m : ℕ) → n ≤ m → Begins (records map n) (records map m)
unfolding records
records_begin map n zero le = subst (λ (k : ℕ). Begins (records map k) (records map 0)) (let e : 0 ≡ n = omega arith in e) (begins_same (records map 0))
records_begin map n (suc m) le = elim (last_or_before n m le) [
  | inl is ↦ subst (λ (k : ℕ). Begins (records map k) (records map (suc m))) (sym is) (begins_same (records map (suc m)))
  | inr before ↦ begins_more (records map n) (records map m) (record_of (map m)) (records_begin map n m before)
]

pub entries_begin : (map : TileMap) (n m : ℕ) → n ≤ m → Begins (entries map n) (entries map m)
unfolding entries
entries_begin map n zero le = subst (λ (k : ℕ). Begins (entries map k) (entries map 0)) (let e : 0 ≡ n = omega arith in e) (begins_same (entries map 0))
entries_begin map n (suc m) le = elim (last_or_before n m le) [
  | inl is ↦ subst (λ (k : ℕ). Begins (entries map k) (entries map (suc m))) (sym is) (begins_same (entries map (suc m)))
  | inr before ↦ begins_more (entries map n) (entries map m) (entry_bytes (entry_behind (length (records map m)) (map m))) (entries_begin map n m before)
]

pub records_more : (map : TileMap) (n : ℕ) → records map (suc n) ≡ records map n ++ record_of (map n)
unfolding records
records_more map n = refl

pub entries_more : (map : TileMap) (n : ℕ) → entries map (suc n) ≡ entries map n ++ entry_bytes (entry_behind (length (records map n)) (map n))
unfolding entries
entries_more map n = refl

pub length-entries : (map : TileMap) (n : ℕ) → length (entries map n) ≡ 8 * n
unfolding entries
length-entries map zero = refl
length-entries map (suc n) =
    let e = entry_behind (length (records map n)) (map n) in
    length-append (entries map n) (entry_bytes e) ∙ omega (arith, length-entries map n, length-entry_bytes e)

length-record : (o : Option (List ℕ)) → IfSome o (λ t. (0 < length t) × (length t < 16777216)) → length (record_of o) ≤ 16777219
length-record None is = omega arith
length-record (Some t) is = omega (arith, length-append (little_bytes 4 (length t)) t, is.1)

pub length-records : (map : TileMap) (n : ℕ) → AreTiles map → length (records map n) ≤ 16777219 * n
unfolding records
length-records map zero are = omega arith
length-records map (suc n) are = omega (arith, length-append (records map n) (record_of (map n)), length-records map n are, length-record (map n) (are.sizes n))

-- where the parts of a layout stand
entry_in : (h i s e r t : List ℕ) → i ≡ (s ++ e) ++ r → h ++ (i ++ t) ≡ (h ++ s) ++ (e ++ (r ++ t))
entry_in h i s e r t is = ap (λ (l : List ℕ). h ++ (l ++ t)) is ∙ simp append_assoc

tile_part : (h i s x t r rs : List ℕ) (at : ℕ) → rs ≡ (s ++ (x ++ t)) ++ r → at ≡ length h + length i + length s + length x → take (length t) (drop at (h ++ (i ++ rs))) ≡ t
tile_part h i s x t r rs at is place =
    ap (λ (l : List ℕ). take (length t) (drop at (h ++ (i ++ l)))) is ∙ same_lists _ _ (grind (arith, places)) (λ k d lt. grind (arith, places))

length-three : (h i r : List ℕ) → length (h ++ (i ++ r)) ≡ length h + length i + length r
length-three h i r = grind (arith, places)

module _ (map : TileMap) (are : AreTiles map) where
  abbrev head : List ℕ
  head = fresh_header (greatest_size map 16384) (131136 + length (records map 16384))

  abbrev index : List ℕ
  index = entries map 16384

  abbrev recs : List ℕ
  recs = records map 16384

  abbrev laid_out : List ℕ
  laid_out = head ++ (index ++ recs)

  pub is_layout : layout map ≡ laid_out
  unfolding layout
  is_layout = refl

  long : length laid_out ≡ 131136 + length recs
  long = length-three head index recs ∙ omega (arith, length-fresh_header (greatest_size map 16384) (131136 + length recs), length-entries map 16384)

  abbrev own : ℕ → Entry
  own slot = entry_behind (length (records map slot)) (map slot)

  fits_by : (slot : ℕ) (o : Option (List ℕ)) → slot < 16384 → IfSome o (λ t. (0 < length t) × (length t < 16777216)) → IsEntry (entry_behind (length (records map slot)) o)
  fits_by slot None lt is = record { offset = omega arith; size = omega arith }
  fits_by slot (Some t) lt is = record { offset = omega (arith, length-records map slot are); size = omega (arith, is.1) }

  -- each slot's entry
  entry_is : (slot : ℕ) → slot < 16384 → entry_at laid_out slot ≡ own slot
  entry_is slot lt =
      let begins = entries_begin map (suc slot) 16384 (omega arith) in
      let whole : index ≡ (entries map slot ++ entry_bytes (own slot)) ++ begins.rest = begins.is ∙ ap (λ (l : List ℕ). l ++ begins.rest) (entries_more map slot) in
      let place : length (head ++ entries map slot) ≡ place_of slot = length-append head (entries map slot) ∙ omega (arith, length-fresh_header (greatest_size map 16384) (131136 + length recs), length-entries map slot) in
      ap (λ (l : List ℕ). entry_of (u64_at l (place_of slot))) (entry_in head index (entries map slot) (entry_bytes (own slot)) begins.rest recs whole)
      ∙ entry_read (head ++ entries map slot) (begins.rest ++ recs) (own slot) (place_of slot) place (fits_by slot (map slot) lt (are.sizes slot))

  -- what it names
  by_tile : (slot : ℕ) (o : Option (List ℕ)) → slot < 16384 → map slot ≡ o → IfSome o (λ t. (0 < length t) × (length t < 16777216))
      → IsWithin laid_out (entry_behind (length (records map slot)) o) × (tile_in laid_out (entry_behind (length (records map slot)) o) ≡ o)
  by_tile slot None lt is sizes = ((λ some. absurd (omega arith)), tile_none laid_out (entry_behind (length (records map slot)) None) refl)
  by_tile slot (Some t) lt is sizes =
      let begins = records_begin map (suc slot) 16384 (omega arith) in
      let whole : recs ≡ (records map slot ++ (little_bytes 4 (length t) ++ t)) ++ begins.rest = begins.is ∙ ap (λ (l : List ℕ). l ++ begins.rest) (records_more map slot ∙ ap (λ (o : Option (List ℕ)). records map slot ++ record_of o) is) in
      let head_size = length-fresh_header (greatest_size map 16384) (131136 + length recs) in
      let index_size = length-entries map 16384 in
      let part = length-append (records map slot ++ (little_bytes 4 (length t) ++ t)) begins.rest in
      let inner = length-append (records map slot) (little_bytes 4 (length t) ++ t) in
      let last = length-append (little_bytes 4 (length t)) t in
      let end : length (records map slot) + 4 + length t ≤ length recs = omega (arith, ap length whole, part, inner, last) in (
        (λ some. (omega arith, omega (arith, long, end))),
        tile_some laid_out (entry_behind (length (records map slot)) (Some t)) (omega (arith, sizes.0))
            ∙ ap (λ (l : List ℕ). Some l) (tile_part head index (records map slot) (little_bytes 4 (length t)) t begins.rest recs (131136 + length (records map slot) + 4) whole (omega (arith, head_size, index_size))),
      )

  laid_bundle : IsBundle laid_out
  laid_bundle = record {
    index = record { long = omega (arith, long); header = fresh_has (greatest_size map 16384) (131136 + length recs) (index ++ recs) };
    entries = λ slot lt. subst (IsWithin laid_out) (sym (entry_is slot lt)) (by_tile slot (map slot) lt refl (are.sizes slot)).0;
  }

  laid_tiles : tiles laid_out ≡ map
  laid_tiles = tiles_by laid_out map are.past (λ slot lt. ap (tile_in laid_out) (entry_is slot lt) ∙ (by_tile slot (map slot) lt refl (are.sizes slot)).1)

  pub length-layout : length (layout map) ≡ 131136 + length (records map 16384)
  length-layout = ap length is_layout ∙ long

  pub layout_bundle : IsBundle (layout map)
  layout_bundle = subst IsBundle (sym is_layout) laid_bundle

  pub layout_tiles : tiles (layout map) ≡ map
  layout_tiles = ap tiles is_layout ∙ laid_tiles

-- a layout of nothing
pub nothing_fits : AreTiles no_tiles
nothing_fits = record { past = λ slot ge. refl; sizes = λ slot. tt }

no_records : (n : ℕ) → length (records no_tiles n) ≡ 0
unfolding records
no_records zero = refl
no_records (suc n) = length-append (records no_tiles n) [] ∙ omega (arith, no_records n)

pub length-nothing : length (layout no_tiles) ≡ 131136
length-nothing = length-layout no_tiles nothing_fits ∙ ap (λ (n : ℕ). 131136 + n) (no_records 16384)
