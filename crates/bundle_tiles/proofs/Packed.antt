-- The tiles of a map, put where there is nothing: the map, without slack.
use Rattle.std.proofs.Common.{◌≡◌, inl, inr, Bool, false, ℕ, zero, suc, ◌+◌, ◌-◌, ◌^◌, ◌<◌, ◌≤◌, ◌==◌, min, max, List, [], ◌∷◌, ◌++◌, length, get_or, take, drop, Option, Some, None, if◌then◌else◌, refl, sym, ap, subst, ◌∙◌, arith, append_assoc, length-append}
use Rattle.std.specs.Prelude.{IfSome}
use Rattle.std.proofs.lemmas.Bool.{cases_Bool, cases_eq, cases_lt, eqb-true}
use Rattle.std.proofs.lemmas.List.{append-nil, drop_all, get_or-append-add, get_or-take, get_or_append_left, length-take-le, take_at}
use Rattle.byteorder.specs.Endian.{little_number}
use Rattle.bundle_index.specs.Entry.{entry_at}
use Rattle.bundle_index.specs.Header.{bytes_left_behind, fresh_header, slack_after}
use Rattle.bundle_index.specs.Numbers.{u32_at, u64_at}
use Rattle.bundle_index.proofs.HeaderFields.{after_fields, fresh_fields}
use Rattle.bundle_index.proofs.Headers.{length-fresh_header, length-header_after}
use Rattle.bundle_index.proofs.Numbers.{same_u32, same_u64}
use Rattle.bundle_store.specs.declared.tile_rec.TileRec.{TileRec}
use Rattle.bundle_store.specs.Appended.{bundle_after_put, bundle_with_tile, put_entry, put_header}
use Rattle.bundle_store.specs.Build.{bytes_at, map_after}
use Rattle.bundle_store.specs.GroupPuts.{bundle_after_puts}
use Rattle.bundle_store.specs.Layout.{entries, greatest_size, layout, record_bytes, records}
use Rattle.bundle_store.specs.Tiles.{AreTiles, HasIndex, IsReadable, TileMap, no_tiles, tiles, with_tile}
use Rattle.bundle_store.proofs.Layouts.{layout_bundle, layout_tiles, length-layout, length-nothing, nothing_fits}
use Rattle.bundle_store.proofs.PutLaws.{after_join, on_bundle, on_nothing, put_readable, put_replaces}
use Rattle.bundle_store.proofs.Recovering.{nothing_at, tiles_empty}
use Rattle.bundle_store.proofs.Putting.{over_header, with_other, with_own}
use Rattle.bundle_lines.specs.Puts.{HaveRoom}
use Rattle.bundle_lines.proofs.Fitting.{bundles_join}
use Rattle.bundle_tiles.specs.Exported.{tile_of, tiles_below, tiles_of}
use Rattle.bundle_tiles.specs.Laws.{ExportsImportWhole, HoldsWithoutSlack, StreamsAreOfOneMap}
use Rattle.bundle_tiles.proofs.RawStreams.{streams_once}
use Rattle.bundle_tiles.proofs.TilesBySlot.{tile_at, tiles_more, tiles_none}

-- ---- a slot without a tile

eqb_no : (n : ℕ) → 0 < n → (n == 0) ≡ false
eqb_no n some = elim (cases_Bool (n == 0)) [ inl is ↦ absurd (omega (arith, some, eqb-true n 0 is)) | inr not ↦ not ]

some_none : (x : List ℕ) → ◌≡◌ {A = Option (List ℕ)} (Some x) None → ⊥
some_none x same = cc

-- its entry names nothing
no_entry : (b : List ℕ) (slot : ℕ) → slot < 16384 → tiles b slot ≡ None → (entry_at b slot).size ≡ 0
no_entry b slot below none = elim (cases_lt 0 (entry_at b slot).size) [
  | inl some ↦ absurd (some_none (take (entry_at b slot).size (drop (entry_at b slot).offset b))
      (sym (tile_at b slot below ∙ ap (λ (t : Bool). if t then None else Some (take (entry_at b slot).size (drop (entry_at b slot).offset b))) (eqb_no (entry_at b slot).size some)) ∙ none))
  | inr few ↦ omega (arith, few)
]

-- ---- the header

-- no bytes are left behind, and the greatest tile is one that a bundle can hold
pub record IsTight (b : List ℕ) : Type 0 where
  pub slack : u64_at b 16 ≡ 0
  pub greatest : u32_at b 8 < 16777216

slack_none : (front : List ℕ) (old : ℕ) → u64_at front 16 ≡ 0 → old ≡ 0 → slack_after front old ≡ 0
slack_none front old none first = λ i. min (none i + bytes_left_behind (first i)) (2 ^ 64 - 1)

-- a tile is put into a slot that has none
module _ (b tile : List ℕ) (slot : ℕ) (is : HasIndex b) (below : slot < 16384) (some : 0 < length tile) (small : length tile < 2 ^ 24) (room : length b + 4 + length tile ≤ 2 ^ 40) (none : (entry_at b slot).size ≡ 0) (tight : IsTight b) where
  front_size : length (take 64 b) ≡ 64
  front_size = length-take-le 64 b (omega (arith, is.long))

  front_at : (i : ℕ) → i < 64 → get_or (take 64 b) i 0 ≡ get_or b i 0
  front_at i lt = get_or-take 64 b i 0 lt

  front_slack : u64_at (take 64 b) 16 ≡ 0
  front_slack = same_u64 (take 64 b) b 16 16 (λ i lt. front_at (16 + i) (omega (arith, lt))) ∙ tight.slack

  front_greatest : u32_at (take 64 b) 8 ≡ u32_at b 8
  front_greatest = same_u32 (take 64 b) b 8 8 (λ i lt. front_at (8 + i) (omega (arith, lt)))

  long_whole : 131136 ≤ length (b ++ record_bytes tile)
  long_whole = omega (arith, is.long, length-append b (record_bytes tile))

  still_tight : IsTight (bundle_with_tile b slot tile)
  unfolding bundle_with_tile
  still_tight =
      let h = put_header b slot tile in
      let size : length h ≡ 64 = length-header_after (take 64 b) (entry_at b slot).size (length tile) (length b + 4 + length tile) front_size in
      let now = after_fields (take 64 b) (entry_at b slot).size (length tile) (length b + 4 + length tile) front_size (omega (arith, front_greatest, tight.greatest)) (omega (arith, small)) (omega (arith, room)) in
      let at : (i : ℕ) → i < 64 → get_or (bundle_with_tile b slot tile) i 0 ≡ get_or h i 0 = λ i lt. over_header h slot (put_entry b tile) (b ++ record_bytes tile) size below long_whole i 0 lt in
      record {
        slack = same_u64 (bundle_with_tile b slot tile) h 16 16 (λ i lt. at (16 + i) (omega (arith, lt))) ∙ now.slack ∙ slack_none (take 64 b) (entry_at b slot).size front_slack none;
        greatest =
            let same = same_u32 (bundle_with_tile b slot tile) h 8 8 (λ i lt. at (8 + i) (omega (arith, lt))) in
            omega (arith, same, now.greatest, front_greatest, tight.greatest, small);
      }

no_greatest : (n : ℕ) → greatest_size no_tiles n ≡ 0
unfolding greatest_size
no_greatest zero = refl
no_greatest (suc n) = ap (λ (m : ℕ). max m 0) (no_greatest n)

-- a bundle of no tiles, and no bundle
nothing_tight : IsTight (layout no_tiles)
unfolding layout
nothing_tight =
    let size = 131136 + length (records no_tiles 16384) in
    let h = fresh_header (greatest_size no_tiles 16384) size in
    let at : (i : ℕ) → i < 64 → get_or (layout no_tiles) i 0 ≡ get_or h i 0 = λ i lt. get_or_append_left h (entries no_tiles 16384 ++ records no_tiles 16384) 0 i (omega (arith, lt, length-fresh_header (greatest_size no_tiles 16384) size)) in
    let fields = fresh_fields (greatest_size no_tiles 16384) size (omega (arith, no_greatest 16384)) (omega (arith, length-nothing, length-layout no_tiles nothing_fits)) in
    record {
      slack = same_u64 (layout no_tiles) h 16 16 (λ i lt. at (16 + i) (omega (arith, lt))) ∙ fields.slack;
      greatest = (let same = same_u32 (layout no_tiles) h 8 8 (λ i lt. at (8 + i) (omega (arith, lt))) in omega (arith, same, fields.greatest_tile, no_greatest 16384));
    }

no_u32 : u32_at [] 8 ≡ 0
unfolding u32_at
no_u32 = ap (little_number 4) (drop_all 8 [] (omega arith))

-- ---- slot by slot

-- the tiles of the slots below a number are there, and no other
pub record Packed (map : TileMap) (n : ℕ) (b : List ℕ) : Type 0 where
  pub readable : IsReadable b
  pub tight : IsTight b
  pub below : (slot : ℕ) → slot < n → tiles b slot ≡ map slot
  pub past : (slot : ℕ) → n ≤ slot → tiles b slot ≡ None

packed_none : (map : TileMap) → Packed map 0 []
packed_none map = record {
  readable = inl refl;
  tight = record { slack = nothing_at 16; greatest = omega (arith, no_u32) };
  below = λ slot less. absurd (let no : ⊥ = omega (arith, less) in no);
  past = λ slot le. ap (λ (m : TileMap). m slot) tiles_empty;
}

-- a slot that has no tile
packed_skip : (map : TileMap) (n : ℕ) (b : List ℕ) → map n ≡ None → Packed map n b → Packed map (suc n) b
packed_skip map n b none so = record {
  readable = so.readable;
  tight = so.tight;
  below = λ slot less. elim (cases_lt slot n) [
    | inl under ↦ so.below slot under
    | inr past ↦ (let same : slot ≡ n = omega (arith, less, past) in so.past slot past ∙ sym (ap map same ∙ none))
  ];
  past = λ slot le. so.past slot (omega (arith, le));
}

-- and one that has one
module _ (map : TileMap) (n : ℕ) (b tile : List ℕ) (under : n < 16384) (is : map n ≡ Some tile) (some : 0 < length tile) (small : length tile < 2 ^ 24) (room : length b + 4 + length tile ≤ 2 ^ 40) (so : Packed map n b) where
  replaced : tiles (bundle_after_put b n tile) ≡ with_tile n tile (tiles b)
  replaced = put_replaces b tile n so.readable under some small room

  put_tight : IsTight (bundle_after_put b n tile)
  put_tight = elim (cases_eq (length b) 0) [
    | inl empty ↦ subst IsTight (sym (on_nothing b tile n empty))
        (still_tight (layout no_tiles) tile n (layout_bundle no_tiles nothing_fits).index under some small (omega (arith, length-nothing, small))
        (no_entry (layout no_tiles) n under (ap (λ (m : TileMap). m n) (layout_tiles no_tiles nothing_fits))) nothing_tight)
    | inr more ↦ subst IsTight (sym (on_bundle b tile n more)) (elim so.readable [
      | inl empty ↦ absurd (more empty)
      | inr bundle ↦ still_tight b tile n bundle.index under some small room (no_entry b n under (so.past n (omega arith))) so.tight
    ])
  ]

  packed_put : Packed map (suc n) (bundle_after_put b n tile)
  packed_put = record {
    readable = put_readable b tile n so.readable under some small room;
    tight = put_tight;
    below = λ slot less. elim (cases_eq slot n) [
      | inl same ↦ ap (λ (m : TileMap). m slot) replaced ∙ with_own n tile (tiles b) slot same ∙ sym (ap map same ∙ is)
      | inr other ↦ ap (λ (m : TileMap). m slot) replaced ∙ with_other n tile (tiles b) slot other ∙ so.below slot (omega (arith, less, other))
    ];
    past = λ slot le. ap (λ (m : TileMap). m slot) replaced ∙ with_other n tile (tiles b) slot (λ same. let no : ⊥ = omega (arith, le, same) in no) ∙ so.past slot (omega (arith, le));
  }

-- ---- all slots

-- the tiles of the first slots come first
begins : (map : TileMap) (n k : ℕ) → (rest : List TileRec) × (tiles_below map (k + n) ≡ tiles_below map n ++ rest)
begins map n zero = ([], ap (tiles_below map) (let e : 0 + n ≡ n = omega arith in e) ∙ sym (append-nil (tiles_below map n)))
begins map n (suc k) =
    let so = begins map n k in
    (so.0 ++ tile_of (k + n) (map (k + n)), ap (tiles_below map) (let e : suc k + n ≡ suc (k + n) = omega arith in e) ∙ tiles_more map (k + n) ∙ ap (λ (us : List TileRec). us ++ tile_of (k + n) (map (k + n))) so.1 ∙ append_assoc (tiles_below map n) so.0 (tile_of (k + n) (map (k + n))))

-- room for a tile behind some others
room_at : (us front rest : List TileRec) (slot : ℕ) (tile : List ℕ) → us ≡ front ++ (record { slot = slot; bytes = tile } ∷ rest) → HaveRoom [] us (length us) → length (bundle_after_puts [] front) + 4 + length tile ≤ 2 ^ 40
room_at us front rest slot tile is room =
    let t : TileRec = record { slot = slot; bytes = tile } in
    let many : length us ≡ length front + suc (length rest) = ap length is ∙ length-append front (t ∷ rest) in
    let first : take (length front) us ≡ front = ap (take (length front)) is ∙ take_at front (t ∷ rest) (length front) refl in
    let here : bytes_at us (length front) ≡ tile = ap (λ (xs : List TileRec). bytes_at xs (length front)) is ∙ ap (λ (k : ℕ). (get_or (front ++ (t ∷ rest)) k (record { slot = 0; bytes = [] })).bytes) (let e : length front ≡ length front + 0 = omega arith in e)
    ∙ ap (λ (u : TileRec). u.bytes) (get_or-append-add front (t ∷ rest) 0 (record { slot = 0; bytes = [] })) in
    let fits = room (length front) (omega (arith, many)) in
    omega (arith, fits, ap (λ (xs : List TileRec). length (bundle_after_puts [] xs)) first, ap length here)

packed_by : (map : TileMap) (n : ℕ) (o : Option (List ℕ)) → AreTiles map → n < 16384 → map n ≡ o → HaveRoom [] (tiles_of map) (length (tiles_of map)) → IfSome o (λ tile. (0 < length tile) × (length tile < 16777216))
    → Packed map n (bundle_after_puts [] (tiles_below map n)) → Packed map (suc n) (bundle_after_puts [] (tiles_below map n ++ tile_of n o))
packed_by map n None are under is room fits so =
    subst (λ (us : List TileRec). Packed map (suc n) (bundle_after_puts [] us)) (sym (append-nil (tiles_below map n))) (packed_skip map n (bundle_after_puts [] (tiles_below map n)) is so)
packed_by map n (Some tile) are under is room fits so =
    let t : TileRec = record { slot = n; bytes = tile } in
    let rest = begins map (suc n) (16384 - suc n) in
    let whole : tiles_of map ≡ tiles_below map (suc n) ++ rest.0 = ap (tiles_below map) (let e : 16384 ≡ (16384 - suc n) + suc n = omega (arith, under) in e) ∙ rest.1 in
    let here : tiles_below map (suc n) ≡ tiles_below map n ++ (t ∷ []) = tiles_more map n ∙ ap (λ (x : Option (List ℕ)). tiles_below map n ++ tile_of n x) is in
    let split : tiles_of map ≡ tiles_below map n ++ (t ∷ rest.0) = whole ∙ ap (λ (us : List TileRec). us ++ rest.0) here ∙ append_assoc (tiles_below map n) (t ∷ []) rest.0 in
    let fit = room_at (tiles_of map) (tiles_below map n) rest.0 n tile split room in
    subst (Packed map (suc n)) (sym (bundles_join [] (tiles_below map n) (t ∷ []))) (packed_put map n (bundle_after_puts [] (tiles_below map n)) tile under is fits.0 (omega (arith, fits.1)) fit so)

packed_below : (map : TileMap) (n : ℕ) → n ≤ 16384 → AreTiles map → HaveRoom [] (tiles_of map) (length (tiles_of map)) → Packed map n (bundle_after_puts [] (tiles_below map n))
packed_below map zero le are room = subst (λ (us : List TileRec). Packed map 0 (bundle_after_puts [] us)) (sym (tiles_none map)) (packed_none map)
packed_below map (suc n) le are room =
    subst (λ (us : List TileRec). Packed map (suc n) (bundle_after_puts [] us)) (sym (tiles_more map n))
    (packed_by map n (map n) are (omega (arith, le)) refl room (are.sizes n) (packed_below map n (omega (arith, le)) are room))

same_map : (map : TileMap) (b : List ℕ) → AreTiles map → Packed map 16384 b → tiles b ≡ map
same_map map b are so = λ i slot. at slot i
  where
    at : (slot : ℕ) → tiles b slot ≡ map slot
    at slot = elim (cases_lt slot 16384) [ inl less ↦ so.below slot less | inr past ↦ so.past slot past ∙ sym (are.past slot past) ]

pub import_whole : ExportsImportWhole
import_whole map bytes read are stream its room =
    let same : tiles_of map ≡ read = streams_once bytes (tiles_of map) read stream its in
    let so = packed_below map 16384 (omega arith) are (subst (λ (us : List TileRec). HaveRoom [] us (length us)) (sym same) room) in
    subst (λ (us : List TileRec). HoldsWithoutSlack (bundle_after_puts [] us) map) same (record { readable = so.readable; tiles_are = same_map map _ are so; slack = so.tight.slack })

-- ---- one map

-- the map of the tiles of the first slots
record Maps (map : TileMap) (n : ℕ) (m : TileMap) : Type 0 where
  pub below : (slot : ℕ) → slot < n → m slot ≡ map slot
  pub past : (slot : ℕ) → n ≤ slot → m slot ≡ None

maps_by : (map : TileMap) (n : ℕ) (o : Option (List ℕ)) (m : TileMap) → map n ≡ o → Maps map n m → Maps map (suc n) (map_after m (tile_of n o))
maps_by map n None m is so = record {
  below = λ slot less. elim (cases_lt slot n) [
    | inl under ↦ so.below slot under
    | inr past ↦ (let same : slot ≡ n = omega (arith, less, past) in so.past slot past ∙ sym (ap map same ∙ is))
  ];
  past = λ slot le. so.past slot (omega (arith, le));
}
maps_by map n (Some tile) m is so = record {
  below = λ slot less. elim (cases_eq slot n) [
    | inl same ↦ with_own n tile m slot same ∙ sym (ap map same ∙ is)
    | inr other ↦ with_other n tile m slot other ∙ so.below slot (omega (arith, less, other))
  ];
  past = λ slot le. with_other n tile m slot (λ same. let no : ⊥ = omega (arith, le, same) in no) ∙ so.past slot (omega (arith, le));
}

maps_below : (map : TileMap) (n : ℕ) → Maps map n (map_after no_tiles (tiles_below map n))
maps_below map zero = subst (λ (us : List TileRec). Maps map 0 (map_after no_tiles us)) (sym (tiles_none map)) (record { below = λ slot less. absurd (let no : ⊥ = omega (arith, less) in no); past = λ slot le. refl })
maps_below map (suc n) =
    subst (λ (m : TileMap). Maps map (suc n) m) (sym (ap (map_after no_tiles) (tiles_more map n) ∙ after_join no_tiles (tiles_below map n) (tile_of n (map n))))
    (maps_by map n (map n) (map_after no_tiles (tiles_below map n)) refl (maps_below map n))

pub map_is : (map : TileMap) → AreTiles map → map_after no_tiles (tiles_of map) ≡ map
map_is map are = λ i slot. at slot i
  where
    at : (slot : ℕ) → map_after no_tiles (tiles_of map) slot ≡ map slot
    at slot = elim (cases_lt slot 16384) [
      | inl less ↦ (maps_below map 16384).below slot less
      | inr past ↦ (maps_below map 16384).past slot past ∙ sym (are.past slot past)
    ]

pub one_map : StreamsAreOfOneMap
one_map bytes one two are also first second =
    sym (map_is one are) ∙ ap (map_after no_tiles) (streams_once bytes (tiles_of one) (tiles_of two) first second) ∙ map_is two also
