-- The header and the index that a session keeps.
use Rattle.std.proofs.Common.{◌≡◌, ◌≢◌, inl, inr, ℕ, ◌+◌, ◌-◌, ◌*◌, ◌<◌, ◌≤◌, List, [], ◌++◌, length, get_or, replicate, take, drop, sym, ◌∙◌, ap, arith}
use Rattle.std.proofs.lemmas.Bool.{cases_lt}
use Rattle.std.proofs.lemmas.List.{append-nil, drop_all, get_or-drop, get_or-take, get_or_append_left, get_or_past, length-append, length-drop, length-take-le, places, same_lists}
use Rattle.std.proofs.Math.Seq.{take-append_seam}
use Rattle.outside_io.specs.volume.Disk.{laid}
use Rattle.outside_io.specs.volume.History.{ReadsAt}
use Rattle.outside_io.proofs.VolumeLemmas.Laid.{length-laid, laid_before, laid_in, laid_after}
use Rattle.bundle_index.specs.Entry.{entry_at, entry_bytes, entry_of, place_of}
use Rattle.bundle_index.specs.Header.{fresh_header}
use Rattle.bundle_index.specs.Numbers.{u64_at}
use Rattle.bundle_index.specs.declared.entry.Entry.{Entry}
use Rattle.bundle_index.proofs.Headers.{length-fresh_header}
use Rattle.bundle_index.proofs.Numbers.{length-entry_bytes, same_u64}
use Rattle.bundle_store.specs.Appended.{bundle_with_tile, put_entry, put_header, with_entry}
use Rattle.bundle_store.specs.Kept.{FrontBytes, Keeps, index_of}
use Rattle.bundle_store.specs.Layout.{entries, greatest_size, layout, record_bytes, records}
use Rattle.bundle_store.specs.Tiles.{AreTiles, TileMap}
use Rattle.bundle_store.proofs.Layouts.{is_layout, length-entries}
use Rattle.bundle_store.proofs.Padded.{zero_byte, zeros_of}
use Rattle.bundle_store.proofs.Putting.{length-with_entry, over_header}

pub index_at : (b : List ℕ) (i d : ℕ) → i < 131072 → get_or (index_of b) i d ≡ get_or b (64 + i) d
unfolding index_of
index_at b i d less = get_or-take 131072 (drop 64 b) i d less ∙ get_or-drop 64 b i d

pub length-index_of : (b : List ℕ) → 131136 ≤ length b → length (index_of b) ≡ 131072
unfolding index_of
length-index_of b long = length-take-le 131072 (drop 64 b) (omega (arith, length-drop 64 b, long))

-- the kept entry of a slot is the one at its place
in_index : (b words : List ℕ) (slot : ℕ) → words ≡ index_of b → slot < 16384 → u64_at words (8 * slot) ≡ u64_at b (place_of slot)
in_index b words slot is below =
    ap (λ (l : List ℕ). u64_at l (8 * slot)) is
    ∙ same_u64 (index_of b) b (8 * slot) (place_of slot) (λ i lt. index_at b (8 * slot + i) 0 (omega (arith, below, lt)) ∙ ap (λ (n : ℕ). get_or b n 0) (let e : 64 + (8 * slot + i) ≡ place_of slot + i = omega arith in e))

in_nothing : (b words : List ℕ) (slot : ℕ) → length b ≡ 0 → words ≡ replicate 131072 zero_byte → u64_at words (8 * slot) ≡ u64_at b (place_of slot)
in_nothing b words slot empty is =
    ap (λ (l : List ℕ). u64_at l (8 * slot)) is
    ∙ same_u64 (replicate 131072 zero_byte) b (8 * slot) (place_of slot) (λ i lt. zeros_of 131072 (8 * slot + i) ∙ sym (get_or_past b (place_of slot + i) 0 (omega (arith, empty))))

pub kept_entry : (b : List ℕ) (front : FrontBytes) (slot : ℕ) → Keeps front b → slot < 16384 → entry_of (u64_at front.index (8 * slot)) ≡ entry_at b slot
kept_entry b front slot keeps below = elim keeps [
  | inl none ↦ ap entry_of (in_nothing b front.index slot none.0 none.1)
  | inr is ↦ ap entry_of (in_index b front.index slot is.1 below)
]

-- what is kept of a bundle that is not empty
pub keeps_header : (b : List ℕ) (front : FrontBytes) → Keeps front b → length b ≢ 0 → front.header ≡ take 64 b
keeps_header b front keeps some = elim keeps [ inl none ↦ absurd (some none.0) | inr is ↦ is.0 ]

pub keeps_index : (b : List ℕ) (front : FrontBytes) → Keeps front b → length b ≢ 0 → front.index ≡ index_of b
keeps_index b front keeps some = elim keeps [ inl none ↦ absurd (some none.0) | inr is ↦ is.1 ]

-- as it was read
pub read_index : (b old buf : List ℕ) (n : ℕ) → ReadsAt b 64 n old buf → length old ≡ 131072 → 131136 ≤ length b → buf ≡ index_of b
unfolding index_of
read_index b old buf n reads size long =
    let count : n ≡ 131072 = omega (arith, reads.count, size, long) in
    let nothing : drop n old ≡ [] = drop_all n old (omega (arith, count, size)) in
    let front = take n (drop 64 b) in
    reads.bytes ∙ ap (λ (l : List ℕ). front ++ l) nothing ∙ append-nil front ∙ ap (λ (m : ℕ). take m (drop 64 b)) count

-- an entry laid over the kept index is laid over that of the bundle
module _ (h : List ℕ) (slot : ℕ) (e : Entry) (b rest : List ℕ) (size : length h ≡ 64) (below : slot < 16384) (long : 131136 ≤ length b) where
  abbrev whole : List ℕ
  whole = b ++ rest

  abbrev done : List ℕ
  done = with_entry h slot e whole

  whole_long : 131136 ≤ length whole
  whole_long = omega (arith, length-append b rest, long)

  front_long : length (laid 0 h whole) ≡ length whole
  front_long = length-laid 0 h whole (omega arith) ∙ omega (arith, size, whole_long)

  done_long : length done ≡ length whole
  done_long = length-with_entry h slot e whole size below whole_long

  word : length (entry_bytes e) ≡ 8
  word = length-entry_bytes e

  index_long : length (index_of b) ≡ 131072
  index_long = length-index_of b long

  laid_long : length (laid (8 * slot) (entry_bytes e) (index_of b)) ≡ 131072
  laid_long = length-laid (8 * slot) (entry_bytes e) (index_of b) (omega (arith, index_long, below)) ∙ omega (arith, index_long, word, below)

  done_index : length (index_of done) ≡ 131072
  done_index = length-index_of done (omega (arith, done_long, whole_long))

  pub kept_index : laid (8 * slot) (entry_bytes e) (index_of b) ≡ index_of done
  kept_index = same_lists _ _ (laid_long ∙ sym done_index) (λ i d lt.
      let less : i < 131072 = omega (arith, lt, laid_long) in
      by_place i d less ∙ sym (index_at done i d less))
    where
      old_part : (i d : ℕ) → i < 131072 → get_or (laid 0 h whole) (64 + i) d ≡ get_or (index_of b) i d
      old_part i d less = laid_after 0 h whole (64 + i) d (omega arith) (omega (arith, size)) ∙ get_or_append_left b rest d (64 + i) (omega (arith, less, long)) ∙ sym (index_at b i d less)

      by_place : (i d : ℕ) → i < 131072 → get_or (laid (8 * slot) (entry_bytes e) (index_of b)) i d ≡ get_or done (64 + i) d
      by_place i d less = elim (cases_lt i (8 * slot)) [
        | inl before ↦ laid_before (8 * slot) (entry_bytes e) (index_of b) i d (omega (arith, index_long, below)) before
            ∙ sym (laid_before (place_of slot) (entry_bytes e) (laid 0 h whole) (64 + i) d (omega (arith, front_long, whole_long, below)) (omega (arith, before)) ∙ old_part i d less)
        | inr above ↦ elim (cases_lt i (8 * slot + 8)) [
          | inl inside ↦ laid_in (8 * slot) (entry_bytes e) (index_of b) i d (omega (arith, index_long, below)) above (omega (arith, inside, word))
              ∙ ap (λ (n : ℕ). get_or (entry_bytes e) n d) (let same : i - 8 * slot ≡ 64 + i - place_of slot = omega (arith, above) in same)
              ∙ sym (laid_in (place_of slot) (entry_bytes e) (laid 0 h whole) (64 + i) d (omega (arith, front_long, whole_long, below)) (omega (arith, above)) (omega (arith, inside, word)))
          | inr behind ↦ laid_after (8 * slot) (entry_bytes e) (index_of b) i d (omega (arith, index_long, below)) (omega (arith, behind, word))
              ∙ sym (laid_after (place_of slot) (entry_bytes e) (laid 0 h whole) (64 + i) d (omega (arith, front_long, whole_long, below)) (omega (arith, behind, word)) ∙ old_part i d less)
        ]
      ]

  pub kept_header : h ≡ take 64 done
  kept_header = sym (same_lists (take 64 done) h (length-take-le 64 done (omega (arith, done_long, whole_long)) ∙ sym size) (λ i d lt.
      let less : i < 64 = omega (arith, lt, length-take-le 64 done (omega (arith, done_long, whole_long))) in
      get_or-take 64 done i d less ∙ over_header h slot e whole size below whole_long i d less))

-- what is kept, with one tile more, is what is kept of the bundle after the put
pub kept_put : (b tile header : List ℕ) (slot : ℕ) (e : Entry) (old new : FrontBytes) → Keeps old b → header ≡ put_header b slot tile → e ≡ put_entry b tile → length header ≡ 64 → slot < 16384 → 131136 ≤ length b
    → new.header ≡ header → new.index ≡ laid (8 * slot) (entry_bytes e) old.index → Keeps new (bundle_with_tile b slot tile)
unfolding bundle_with_tile
kept_put b tile header slot e old new keeps header_is e_is size below long new_header new_index =
    let some : length b ≢ 0 = λ zero. absurd (omega (arith, zero, long)) in
    let done : with_entry header slot e (b ++ record_bytes tile) ≡ bundle_with_tile b slot tile = λ i. with_entry (header_is i) slot (e_is i) (b ++ record_bytes tile) in
    inr (
      new_header ∙ kept_header header slot e b (record_bytes tile) size below long ∙ ap (take 64) done,
      new_index ∙ ap (laid (8 * slot) (entry_bytes e)) (keeps_index b old keeps some) ∙ kept_index header slot e b (record_bytes tile) size below long ∙ ap index_of done,
    )

-- what is kept of a new bundle
front_part : (h i r : List ℕ) → length h ≡ 64 → take 64 (h ++ (i ++ r)) ≡ h
front_part h i r size = ap (λ (n : ℕ). take n (h ++ (i ++ r))) (sym size) ∙ take-append_seam h (i ++ r)

index_part : (h i r : List ℕ) → length h ≡ 64 → length i ≡ 131072 → index_of (h ++ (i ++ r)) ≡ i
index_part h i r size long = same_lists _ _ (length-index_of (h ++ (i ++ r)) (omega (arith, length-append h (i ++ r), length-append i r, size, long)) ∙ sym long) (λ k d lt.
    let less : k < 131072 = omega (arith, lt, length-index_of (h ++ (i ++ r)) (omega (arith, length-append h (i ++ r), length-append i r, size, long))) in
    index_at (h ++ (i ++ r)) k d less ∙ in_middle k d less)
  where
    in_middle : (k d : ℕ) → k < 131072 → get_or (h ++ (i ++ r)) (64 + k) d ≡ get_or i k d
    in_middle k d less = grind (arith, places)

pub kept_layout : (map : TileMap) (front : FrontBytes) → AreTiles map → front.header ≡ fresh_header (greatest_size map 16384) (131136 + length (records map 16384)) → front.index ≡ entries map 16384
    → Keeps front (layout map)
kept_layout map front are header_is index_is =
    let head = fresh_header (greatest_size map 16384) (131136 + length (records map 16384)) in
    let size = length-fresh_header (greatest_size map 16384) (131136 + length (records map 16384)) in
    inr (
      header_is ∙ sym (front_part head (entries map 16384) (records map 16384) size) ∙ ap (take 64) (sym (is_layout map are)),
      index_is ∙ sym (index_part head (entries map 16384) (records map 16384) size (length-entries map 16384)) ∙ ap index_of (sym (is_layout map are)),
    )
