-- Puts at once are puts one after the other.
use Rattle.std.proofs.Common.{◌≡◌, refl, ℕ, ◌+◌, ◌^◌, ◌<◌, ◌≤◌, List, [], ◌∷◌, ◌++◌, length, take, drop, sym, ◌∙◌, ap, subst, arith}
use Rattle.std.proofs.lemmas.List.{append_assoc, append-nil, length-append, length-take-le, take-append-drop}
use Rattle.outside_io.specs.volume.Disk.{laid}
use Rattle.outside_io.proofs.VolumeLemmas.Laid.{length-laid}
use Rattle.bundle_index.specs.Entry.{entry_at, entry_bytes, place_of}
use Rattle.bundle_index.specs.declared.entry.Entry.{Entry}
use Rattle.bundle_index.proofs.Headers.{length-header_after}
use Rattle.bundle_store.specs.declared.tile_rec.TileRec.{TileRec}
use Rattle.bundle_store.specs.Appended.{bundle_with_tile, put_entry, put_header, with_entry}
use Rattle.bundle_store.specs.Build.{map_after}
use Rattle.bundle_store.specs.GroupPuts.{AreSlots, AreTilesIn, HasRoomFor, bundle_with_tiles, group_records, lay_entries, new_entries, with_entries}
use Rattle.side_journal.specs.Groups.{NewEntry}
use Rattle.bundle_store.specs.Layout.{record_bytes}
use Rattle.bundle_store.specs.Tiles.{HasIndex, IsBundle, TileMap, tiles}
use Rattle.bundle_store.proofs.Overlays.{header_under, laid_again, laid_append, lay_append, lay_join, length-with_entries, slots_join}
use Rattle.bundle_store.proofs.Putting.{length-record_bytes, length-with_entry, put_index, put_on_bundle, put_on_tiles}

-- a header and an entry over what others were laid over
pub one_more : (h k : List ℕ) (es : List NewEntry) (slot : ℕ) (e : Entry) (w r : List ℕ) → length h ≡ 64 → length k ≡ 64 → AreSlots es → 131136 ≤ length w
    → with_entry k slot e (with_entries h es w ++ r) ≡ with_entries k (es ++ (slot, e) ∷ []) (w ++ r)
one_more h k es slot e w r h_size k_size are long =
    let headed : length (laid 0 h w) ≡ length w = length-laid 0 h w (omega arith) ∙ omega (arith, h_size) in
    let inside : with_entries h es w ++ r ≡ lay_entries es (laid 0 h (w ++ r)) =
    sym (lay_append es (laid 0 h w) r are (omega (arith, headed))) ∙ ap (lay_entries es) (sym (laid_append 0 h w r (omega (arith, h_size)))) in
    let longer : 131136 ≤ length (w ++ r) = omega (arith, length-append w r) in
    let over : length (laid 0 h (w ++ r)) ≡ length (w ++ r) = length-laid 0 h (w ++ r) (omega arith) ∙ omega (arith, h_size, longer) in
    let headers : laid 0 k (with_entries h es w ++ r) ≡ lay_entries es (laid 0 k (w ++ r)) =
    ap (laid 0 k) inside ∙ header_under k es (laid 0 h (w ++ r)) k_size are (omega (arith, over)) ∙ ap (lay_entries es) (laid_again k h (w ++ r) (k_size ∙ sym h_size) (omega (arith, k_size, longer))) in
    ap (laid (place_of slot) (entry_bytes e)) headers ∙ sym (lay_join es ((slot, e) ∷ []) (laid 0 k (w ++ r)))

-- a put, by its parts, on what is no plain list
pub put_parts : (b : List ℕ) (u : TileRec) → bundle_with_tile b u.slot u.bytes ≡ with_entry (put_header b u.slot u.bytes) u.slot (put_entry b u.bytes) (b ++ record_bytes u.bytes)
unfolding bundle_with_tile
put_parts b u = refl

pub put_header_size : (b : List ℕ) (u : TileRec) → 131136 ≤ length b → length (put_header b u.slot u.bytes) ≡ 64
put_header_size b u long = length-header_after (take 64 b) (entry_at b u.slot).size (length u.bytes) (length b + 4 + length u.bytes) (length-take-le 64 b (omega arith))

-- what is laid over a bundle for tiles put at once: the header that the last put leaves
pub record Overlaid (b : List ℕ) (es : List NewEntry) (w : List ℕ) (us : List TileRec) : Type 0 where
  pub header : List ℕ
  pub size : length header ≡ 64
  pub is : bundle_with_tiles b us ≡ with_entries header (es ++ new_entries (length w) us) (w ++ group_records us)

pub all_more : (us : List TileRec) (h : List ℕ) (es : List NewEntry) (w b : List ℕ) → length h ≡ 64 → AreSlots es → 131136 ≤ length w → AreTilesIn us → b ≡ with_entries h es w → Overlaid b es w us
all_more [] h es w b size are long fit is = record {
  header = h;
  size = size;
  is = is ∙ (λ i. with_entries h ((sym (append-nil es)) i) ((sym (append-nil w)) i));
}
all_more (u ∷ us) h es w b size are long fit is =
    let long_b : length b ≡ length w = ap length is ∙ length-with_entries h es size are w long in
    let k = put_header b u.slot u.bytes in
    let k_size : length k ≡ 64 = put_header_size b u (omega (arith, long_b)) in
    let e : Entry = record { offset = length w + 4; size = length u.bytes } in
    let e_is : put_entry b u.bytes ≡ e = ap (λ (n : ℕ). let x : Entry = record { offset = n + 4; size = length u.bytes } in x) long_b in
    let next : bundle_with_tile b u.slot u.bytes ≡ with_entries k (es ++ (u.slot, e) ∷ []) (w ++ record_bytes u.bytes) =
    put_parts b u ∙ (λ i. with_entry k u.slot (e_is i) (is i ++ record_bytes u.bytes)) ∙ one_more h k es u.slot e w (record_bytes u.bytes) size k_size are long in
    let w_long : length (w ++ record_bytes u.bytes) ≡ length w + (4 + length u.bytes) = length-append w (record_bytes u.bytes) ∙ omega (arith, length-record_bytes u.bytes) in
    let rest = all_more us k (es ++ (u.slot, e) ∷ []) (w ++ record_bytes u.bytes) (bundle_with_tile b u.slot u.bytes) k_size (slots_join es ((u.slot, e) ∷ []) are (fit.0, tt)) (omega (arith, w_long)) fit.3 next in
    record {
      header = rest.header;
      size = rest.size;
      is = rest.is ∙ (λ i. with_entries rest.header ((append_assoc es ((u.slot, e) ∷ []) (new_entries (w_long i) us)) i) ((append_assoc w (record_bytes u.bytes) (group_records us)) i));
    }

-- a bundle is what its own header, laid over it, leaves
own_header : (b : List ℕ) → 131136 ≤ length b → b ≡ with_entries (take 64 b) [] b
own_header b long = sym (ap (λ (n : ℕ). take 64 b ++ drop n b) (let e : 0 + length (take 64 b) ≡ 64 = omega (arith, length-take-le 64 b (omega arith)) in e) ∙ take-append-drop 64 b)

pub group_is_puts : (b : List ℕ) (us : List TileRec) → 131136 ≤ length b → AreTilesIn us → Overlaid b [] b us
group_is_puts b us long fit = all_more us (take 64 b) [] b b (length-take-le 64 b (omega arith)) tt long fit (own_header b long)

-- ---- the tiles

pub put_long : (b : List ℕ) (u : TileRec) → 131136 ≤ length b → u.slot < 16384 → length (bundle_with_tile b u.slot u.bytes) ≡ length b + (4 + length u.bytes)
put_long b u long below =
    let joined : length (b ++ record_bytes u.bytes) ≡ length b + (4 + length u.bytes) = length-append b (record_bytes u.bytes) ∙ omega (arith, length-record_bytes u.bytes) in
    ap length (put_parts b u) ∙ length-with_entry (put_header b u.slot u.bytes) u.slot (put_entry b u.bytes) (b ++ record_bytes u.bytes) (put_header_size b u long) below (omega (arith, joined, long)) ∙ joined

-- tiles put one after the other replace their slots
pub puts_replace : (us : List TileRec) (b : List ℕ) → IsBundle b → AreTilesIn us → HasRoomFor (length b) us → IsBundle (bundle_with_tiles b us) × (tiles (bundle_with_tiles b us) ≡ map_after (tiles b) us)
puts_replace [] b is fit room = (is, refl)
puts_replace (u ∷ us) b is fit room =
    let fits : length b + 4 + length u.bytes ≤ 2 ^ 40 = room.0 in
    let rest = puts_replace us (bundle_with_tile b u.slot u.bytes) (put_on_bundle b u.bytes u.slot is fit.0 fit.1 fit.2 fits) fit.3
    (subst (λ (n : ℕ). HasRoomFor n us) (sym (put_long b u is.index.long fit.0)) room.1) in
    (rest.0, rest.1 ∙ ap (λ (m : TileMap). map_after m us) (put_on_tiles b u.bytes u.slot is fit.0 fit.1 fit.2 fits))

-- an index stays one
pub puts_index : (us : List TileRec) (b : List ℕ) → HasIndex b → AreTilesIn us → HasRoomFor (length b) us → HasIndex (bundle_with_tiles b us)
puts_index [] b is fit room = is
puts_index (u ∷ us) b is fit room =
    puts_index us (bundle_with_tile b u.slot u.bytes) (put_index b u.bytes u.slot is fit.0 fit.1 fit.2 room.0) fit.3 (subst (λ (n : ℕ). HasRoomFor n us) (sym (put_long b u is.long fit.0)) room.1)
