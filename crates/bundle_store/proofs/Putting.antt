-- A put, read back.
use Rattle.std.proofs.Common.{◌≡◌, ◌≢◌, ◌⊎◌, inl, inr, refl, Bool, true, false, ℕ, ◌+◌, ◌-◌, ◌^◌, ◌<◌, ◌≤◌, ◌==◌, List, [], ◌++◌, length, get_or, take, drop, Some, if◌then◌else◌, sym, ◌∙◌, ap, subst, arith}
use Rattle.std.proofs.lemmas.List.{places, same_lists, get_or_append_left, length-append, length-take-le, get_or-take}
use Rattle.std.proofs.lemmas.Bool.{cases_eq, cases_lt}
use Rattle.std.proofs.lemmas.Bool.Decides.{nat_tests}
use Rattle.byteorder.specs.Endian.{little_bytes}
use Rattle.outside_io.specs.volume.Disk.{laid}
use Rattle.outside_io.proofs.VolumeLemmas.Laid.{length-laid, laid_before, laid_in, laid_after}
use Rattle.bundle_index.specs.Entry.{IsEntry, entry_at, entry_bytes, place_of}
use Rattle.bundle_index.specs.Header.{HasHeader}
use Rattle.bundle_index.specs.declared.entry.Entry.{Entry}
use Rattle.bundle_index.proofs.Headers.{after_has, length-header_after, same_has}
use Rattle.bundle_index.proofs.Numbers.{entry_read, length-entry_bytes}
use Rattle.bundle_store.specs.Appended.{with_entry, put_entry, put_header, bundle_with_tile}
use Rattle.bundle_store.specs.Layout.{record_bytes}
use Rattle.bundle_store.specs.Tiles.{HasIndex, IsBundle, IsWithin, TileMap, tile_in, tiles, with_tile}
use Rattle.bundle_store.proofs.Region.{Agree, same_entry, same_part, same_tile, same_within, tile_some, tiles_at, tiles_by, tiles_past}

-- a header and an entry laid over a bundle
module _ (header : List ℕ) (slot : ℕ) (e : Entry) (b : List ℕ) (header_size : length header ≡ 64) (below : slot < 16384) (long : 131136 ≤ length b) where
  abbrev over : List ℕ
  over = with_entry header slot e b

  front : length (laid 0 header b) ≡ length b
  front = length-laid 0 header b (omega arith) ∙ omega arith

  pub length-with_entry : length over ≡ length b
  length-with_entry = length-laid (place_of slot) (entry_bytes e) (laid 0 header b) (omega (arith, front)) ∙ omega (arith, front, length-entry_bytes e)

  -- the front is the header
  pub over_header : (i d : ℕ) → i < 64 → get_or over i d ≡ get_or header i d
  over_header i d lt = laid_before (place_of slot) (entry_bytes e) (laid 0 header b) i d (omega (arith, front)) (omega arith) ∙ laid_in 0 header b i d (omega arith) (omega arith) (omega arith) ∙ ap (λ (n : ℕ). get_or header n d) (let z : i - 0 ≡ i = omega arith in z)

  -- behind the header all but the entry is as it was
  pub over_other : (i d : ℕ) → 64 ≤ i → (i < place_of slot) ⊎ (place_of slot + 8 ≤ i) → get_or over i d ≡ get_or b i d
  over_other i d ge apart = elim apart [
    | inl before ↦ laid_before (place_of slot) (entry_bytes e) (laid 0 header b) i d (omega (arith, front)) before ∙ laid_after 0 header b i d (omega arith) (omega arith)
    | inr behind ↦ laid_after (place_of slot) (entry_bytes e) (laid 0 header b) i d (omega (arith, front)) (omega (arith, length-entry_bytes e)) ∙ laid_after 0 header b i d (omega arith) (omega arith)
  ]

  pub over_entry : IsEntry e → entry_at over slot ≡ e
  over_entry fits = entry_read (take (place_of slot) (laid 0 header b)) (drop (place_of slot + length (entry_bytes e)) (laid 0 header b)) e (place_of slot) (length-take-le (place_of slot) (laid 0 header b) (omega (arith, front))) fits

  pub over_other_entry : (other : ℕ) → other < 16384 → other ≢ slot → entry_at over other ≡ entry_at b other
  over_other_entry other lt differs = same_entry b over other (λ i d ge less. over_other i d (omega arith) (apart i ge less))
    where
      apart : (i : ℕ) → place_of other ≤ i → i < place_of other + 8 → (i < place_of slot) ⊎ (place_of slot + 8 ≤ i)
      apart i ge less = elim (cases_lt other slot) [
        | inl lower ↦ inl (omega arith)
        | inr higher ↦ inr (let more : slot < other = omega (arith, differs) in omega arith)
      ]

  pub over_has : HasHeader header → HasHeader over
  over_has has = same_has header over (λ i lt. sym (over_header i 0 (omega arith))) has

  pub over_behind : Agree 131136 (length b) b over
  over_behind i d ge lt = over_other i d (omega arith) (inr (omega arith))

test_same : (n m : ℕ) → n ≡ m → (n == m) ≡ true
test_same n m is = grind (arith, nat_tests)

test_differ : (n m : ℕ) → n ≢ m → (n == m) ≡ false
test_differ n m differs = grind (arith, nat_tests)

pub with_own : (slot : ℕ) (tile : List ℕ) (map : TileMap) (other : ℕ) → other ≡ slot → with_tile slot tile map other ≡ Some tile
with_own slot tile map other is = ap (λ (t : Bool). if t then Some tile else map other) (test_same other slot is)

pub with_other : (slot : ℕ) (tile : List ℕ) (map : TileMap) (other : ℕ) → other ≢ slot → with_tile slot tile map other ≡ map other
with_other slot tile map other differs = ap (λ (t : Bool). if t then Some tile else map other) (test_differ other slot differs)

-- The put of a tile on a bundle.
module _ (b tile : List ℕ) (slot : ℕ) (is : HasIndex b) (below : slot < 16384) (some : 0 < length tile) (small : length tile < 2 ^ 24) (room : length b + 4 + length tile ≤ 2 ^ 40) where
  abbrev whole : List ℕ
  whole = b ++ record_bytes tile

  abbrev header : List ℕ
  header = put_header b slot tile

  abbrev e : Entry
  e = put_entry b tile

  abbrev done : List ℕ
  done = with_entry header slot e whole

  long : 131136 ≤ length b
  long = is.long

  length-whole : length whole ≡ length b + (4 + length tile)
  length-whole = length-append b (record_bytes tile) ∙ ap (λ (n : ℕ). length b + n) (length-append (little_bytes 4 (length tile)) tile)

  front_size : length (take 64 b) ≡ 64
  front_size = length-take-le 64 b (omega arith)

  pub header_size : length header ≡ 64
  header_size = length-header_after (take 64 b) (entry_at b slot).size (length tile) (length b + 4 + length tile) front_size

  pub fits : IsEntry e
  fits = record { offset = omega arith; size = small }

  whole_long : 131136 ≤ length whole
  whole_long = omega (arith, length-whole)

  length-done : length done ≡ length whole
  length-done = length-with_entry header slot e whole header_size below whole_long

  -- behind the header and off the entry, the old bundle
  old_at : (i d : ℕ) → 64 ≤ i → i < length b → (i < place_of slot) ⊎ (place_of slot + 8 ≤ i) → get_or done i d ≡ get_or b i d
  old_at i d ge lt apart = over_other header slot e whole header_size below whole_long i d ge apart ∙ get_or_append_left b (record_bytes tile) d i lt

  behind : Agree 131136 (length b) b done
  behind i d ge lt = old_at i d (omega arith) lt (inr (omega arith))

  other_entry : (other : ℕ) → other < 16384 → other ≢ slot → entry_at done other ≡ entry_at b other
  other_entry other lt differs = over_other_entry header slot e whole header_size below whole_long other lt differs ∙ same_entry b whole other (λ i d ge less. get_or_append_left b (record_bytes tile) d i (omega arith))

  own_entry : entry_at done slot ≡ e
  own_entry = over_entry header slot e whole header_size below whole_long fits

  -- the new tile
  record_part : (front x t rest : List ℕ) (n : ℕ) → length x ≡ 4 → n ≡ length front + 4 → take (length t) (drop n (front ++ (x ++ t))) ≡ t
  record_part front x t rest n size at = same_lists _ _ (grind (arith, places)) (λ i d lt. grind (arith, places))

  own_tile : take (length tile) (drop (length b + 4) done) ≡ tile
  own_tile =
      same_part (length tile) (length b + 4) whole done (omega (arith, length-whole)) (omega (arith, length-whole, length-done)) (λ i d ge lt. over_other header slot e whole header_size below whole_long i d (omega arith) (inr (omega arith)))
      ∙ record_part b (little_bytes 4 (length tile)) tile [] (length b + 4) refl refl

  pub put_has : HasIndex done
  put_has = record {
    long = omega (arith, length-done, length-whole);
    header = over_has header slot e whole header_size below whole_long (after_has (take 64 b) (entry_at b slot).size (length tile) (length b + 4 + length tile) front_size
        (same_has b (take 64 b) (λ i lt. sym (get_or-take 64 b i 0 (omega arith))) is.header));
  }

  pub put_bundle : IsBundle b → IsBundle done
  put_bundle bundle = record {
    index = put_has;
    entries = λ other lt. elim (cases_eq other slot) [
      | inl same ↦ subst (IsWithin done) (sym (ap (entry_at done) same ∙ own_entry)) (λ positive. (omega arith, omega (arith, length-done, length-whole)))
      | inr differs ↦ subst (IsWithin done) (sym (other_entry other lt differs)) (same_within b done (entry_at b other) (omega (arith, length-done, length-whole)) (bundle.entries other lt))
    ];
  }

  pub put_tiles : IsBundle b → tiles done ≡ with_tile slot tile (tiles b)
  put_tiles bundle = tiles_by done (with_tile slot tile (tiles b)) (λ other ge. with_other slot tile (tiles b) other (λ same. absurd (omega (arith, same))) ∙ tiles_past b other ge) (λ other lt. elim (cases_eq other slot) [
    | inl same ↦ ap (tile_in done) (ap (entry_at done) same ∙ own_entry) ∙ tile_some done e some ∙ ap (λ (l : List ℕ). Some l) own_tile ∙ sym (with_own slot tile (tiles b) other same)
    | inr differs ↦ ap (tile_in done) (other_entry other lt differs) ∙ same_tile b done (entry_at b other) (bundle.entries other lt) (omega (arith, length-done, length-whole)) behind ∙ sym (tiles_at b other lt) ∙ sym (with_other slot tile (tiles b) other differs)
  ])

pub put_index : (b tile : List ℕ) (slot : ℕ) → HasIndex b → slot < 16384 → 0 < length tile → length tile < 2 ^ 24 → length b + 4 + length tile ≤ 2 ^ 40 → HasIndex (bundle_with_tile b slot tile)
unfolding bundle_with_tile
put_index b tile slot is below some small room = put_has b tile slot is below some small room

pub put_on_bundle : (b tile : List ℕ) (slot : ℕ) → IsBundle b → slot < 16384 → 0 < length tile → length tile < 2 ^ 24 → length b + 4 + length tile ≤ 2 ^ 40 → IsBundle (bundle_with_tile b slot tile)
unfolding bundle_with_tile
put_on_bundle b tile slot is below some small room = put_bundle b tile slot is.index below some small room is

pub put_on_tiles : (b tile : List ℕ) (slot : ℕ) → IsBundle b → slot < 16384 → 0 < length tile → length tile < 2 ^ 24 → length b + 4 + length tile ≤ 2 ^ 40 → tiles (bundle_with_tile b slot tile) ≡ with_tile slot tile (tiles b)
unfolding bundle_with_tile
put_on_tiles b tile slot is below some small room = put_tiles b tile slot is.index below some small room is

pub length-record_bytes : (tile : List ℕ) → length (record_bytes tile) ≡ 4 + length tile
length-record_bytes tile = length-append (little_bytes 4 (length tile)) tile
