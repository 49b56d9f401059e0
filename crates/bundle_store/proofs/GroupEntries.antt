-- The entries, records and bundles of lists of tiles.
use Rattle.std.proofs.Common.{◌≡◌, ◌≢◌, inl, refl, ℕ, suc, ◌+◌, ◌-◌, ◌*◌, ◌^◌, ◌<◌, ◌≤◌, List, [], ◌∷◌, ◌++◌, length, get_or, take, sym, ◌∙◌, ap, subst, arith}
use Rattle.std.proofs.lemmas.List.{get_or_default, get_or-take, length-append, length-take-le, same_lists, take_more}
use Rattle.outside_io.specs.volume.Disk.{laid}
use Rattle.outside_io.proofs.VolumeLemmas.Laid.{length-laid, laid_in}
use Rattle.side_journal.specs.Groups.{AreNew, NewEntry}
use Rattle.bundle_store.specs.declared.tile_rec.TileRec.{TileRec}
use Rattle.bundle_store.specs.Appended.{bundle_with_tile}
use Rattle.bundle_store.specs.Build.{EachFits, bytes_at}
use Rattle.bundle_store.specs.GroupPuts.{AreSlots, AreTilesIn, HasRoomFor, bundle_after_puts, bundle_with_tiles, group_records, new_entries, with_entries}
use Rattle.bundle_store.specs.Kept.{FrontBytes, Keeps}
use Rattle.bundle_store.specs.Layout.{layout, record_bytes}
use Rattle.bundle_store.specs.Tiles.{no_tiles}
use Rattle.bundle_store.proofs.GroupWrites.{nobody, records_next, records_within}
use Rattle.bundle_store.proofs.Grouping.{group_is_puts, put_long}
use Rattle.bundle_store.proofs.Kept.{keeps_header}
use Rattle.bundle_store.proofs.Layouts.{length-nothing}
use Rattle.bundle_store.proofs.Overlays.{Off, lay_off}
use Rattle.bundle_store.proofs.PutLaws.{on_bundle, on_nothing}
use Rattle.bundle_store.proofs.Putting.{length-record_bytes}

-- the records of one tile more in front
pub records_long : (u : TileRec) (us : List TileRec) → length (group_records (u ∷ us)) ≡ 4 + length u.bytes + length (group_records us)
records_long u us = length-append (record_bytes u.bytes) (group_records us) ∙ ap (λ (n : ℕ). n + length (group_records us)) (length-record_bytes u.bytes)

-- the first few, with the next one
module _ (us : List TileRec) (i : ℕ) (r : TileRec) (is : r ≡ get_or us i r) (less : i < length us) where
  this : r ≡ get_or us i nobody
  this = is ∙ get_or_default us i r nobody less

  pub bytes_step : (s : TileRec) → length (get_or us i s).bytes ≡ length r.bytes
  bytes_step s = ap (λ (u : TileRec). length u.bytes) (get_or_default us i s r less ∙ sym is)

  pub take_step : take (i + 1) us ≡ take i us ++ r ∷ []
  take_step = take_more us i nobody less ∙ ap (λ (u : TileRec). take i us ++ u ∷ []) (sym this)

  pub records_step : length (group_records (take (i + 1) us)) ≡ length (group_records (take i us)) + (4 + length r.bytes)
  records_step = ap length (records_next us i less) ∙ length-append (group_records (take i us)) (record_bytes (bytes_at us i)) ∙ ap (λ (n : ℕ). length (group_records (take i us)) + n) (length-record_bytes (bytes_at us i))
      ∙ ap (λ (u : TileRec). length (group_records (take i us)) + (4 + length u.bytes)) (sym this)

  pub fits_step : EachFits us → (0 < length r.bytes) × (length r.bytes < 16777216)
  fits_step fit = subst (λ (u : TileRec). (0 < length u.bytes) × (length u.bytes < 16777216)) (sym this) (fit i less)

  pub within_step : length (group_records (take i us)) + (4 + length r.bytes) ≤ length (group_records us)
  within_step = subst (λ (u : TileRec). length (group_records (take i us)) + (4 + length u.bytes) ≤ length (group_records us)) (sym this) (records_within us i less)

-- the tile of a number, whatever stands for those that are not there
pub item_is : (us : List TileRec) (i : ℕ) → i < length us → get_or us i nobody ≡ get_or us i (get_or us i nobody)
item_is us i less = get_or_default us i nobody (get_or us i nobody) less

pub entries_next : (len : ℕ) (us : List TileRec) (u : TileRec) → new_entries len (us ++ u ∷ []) ≡ new_entries len us ++ new_entries (len + length (group_records us)) (u ∷ [])
entries_next len [] u = ap (λ (n : ℕ). new_entries n (u ∷ [])) (let e : len ≡ len + 0 = omega arith in e)
entries_next len (x ∷ us) u = ap (λ (l : List NewEntry). (x.slot, record { offset = len + 4; size = length x.bytes }) ∷ l) (entries_next (len + (4 + length x.bytes)) us u
    ∙ ap (λ (n : ℕ). new_entries (len + (4 + length x.bytes)) us ++ new_entries n (u ∷ [])) (let e : len + (4 + length x.bytes) + length (group_records us) ≡ len + length (group_records (x ∷ us)) = omega (arith, records_long x us) in e))

pub tiles_next : (us : List TileRec) (u : TileRec) → AreTilesIn us → u.slot < 16384 → 0 < length u.bytes → length u.bytes < 2 ^ 24 → AreTilesIn (us ++ u ∷ [])
tiles_next [] u are below some small = (below, some, small, tt)
tiles_next (x ∷ us) u are below some small = (are.0, are.1, are.2, tiles_next us u are.3 below some small)

pub with_next : (b : List ℕ) (us : List TileRec) (u : TileRec) → bundle_with_tiles b (us ++ u ∷ []) ≡ bundle_with_tile (bundle_with_tiles b us) u.slot u.bytes
with_next b [] u = refl
with_next b (x ∷ us) u = with_next (bundle_with_tile b x.slot x.bytes) us u

pub with_long : (b : List ℕ) (us : List TileRec) → 131136 ≤ length b → AreTilesIn us → length (bundle_with_tiles b us) ≡ length b + length (group_records us)
with_long b [] long are = omega arith
with_long b (u ∷ us) long are =
    let one = put_long b u long are.0 in
    omega (arith, with_long (bundle_with_tile b u.slot u.bytes) us (omega (arith, one, long)) are.3, one, records_long u us)

pub room_all : (us : List TileRec) (n : ℕ) → n + length (group_records us) ≤ 2 ^ 40 → HasRoomFor n us
room_all [] n room = tt
room_all (u ∷ us) n room = (omega (arith, room, records_long u us), room_all us (n + (4 + length u.bytes)) (omega (arith, room, records_long u us)))

pub entries_long : (us : List TileRec) (n : ℕ) → length (new_entries n us) ≡ length us
entries_long [] n = refl
entries_long (u ∷ us) n = ap suc (entries_long us (n + (4 + length u.bytes)))

pub entries_fit : (us : List TileRec) (n : ℕ) → AreTilesIn us → n + length (group_records us) ≤ 2 ^ 40 → AreNew (new_entries n us)
entries_fit [] n are room = tt
entries_fit (u ∷ us) n are room = (are.0, record { offset = omega (arith, room, records_long u us, are.1); size = are.2 }, entries_fit us (n + (4 + length u.bytes)) are.3 (omega (arith, room, records_long u us)))

pub entries_slots : (us : List TileRec) (n : ℕ) → AreTilesIn us → AreSlots (new_entries n us)
entries_slots [] n are = tt
entries_slots (u ∷ us) n are = (are.0, entries_slots us (n + (4 + length u.bytes)) are.3)

-- the records of tiles that fit
pub records_small : (us : List TileRec) → EachFits us → length (group_records us) ≤ 16777219 * length us
records_small [] fit = omega arith
records_small (u ∷ us) fit =
    let rest = records_small us (λ i less. fit (suc i) (omega (arith, less))) in
    let this = (fit 0 (omega arith)).1 in
    omega (arith, rest, this, records_long u us)

-- the front of what has a header laid over it
off_front : (es : List NewEntry) (i : ℕ) → i < 64 → Off es i
off_front [] i less = tt
off_front (e ∷ es) i less = (inl (omega (arith, less)), off_front es i less)

pub header_front : (h : List ℕ) (es : List NewEntry) (w : List ℕ) → length h ≡ 64 → AreSlots es → 131136 ≤ length w → length (with_entries h es w) ≡ length w → take 64 (with_entries h es w) ≡ h
header_front h es w size are long whole =
    let over : length (laid 0 h w) ≡ length w = length-laid 0 h w (omega arith) ∙ omega (arith, size, long) in
    let front : length (take 64 (with_entries h es w)) ≡ 64 = length-take-le 64 (with_entries h es w) (omega (arith, whole, long)) in
    same_lists _ _ (front ∙ sym size) (λ i d lt.
    let less : i < 64 = omega (arith, lt, front) in
    get_or-take 64 (with_entries h es w) i d less ∙ lay_off es (laid 0 h w) i d are (omega (arith, over, long)) (off_front es i less) ∙ laid_in 0 h w i d (omega arith) (omega arith) (omega (arith, less, size)) ∙ ap (λ (n : ℕ). get_or h n d) (let e : i - 0 ≡ i = omega arith in e))

-- tiles put at once, by the header that is kept of the bundle with them
pub group_done : (b : List ℕ) (us : List TileRec) (front : FrontBytes) → 131136 ≤ length b → AreTilesIn us → Keeps front (bundle_with_tiles b us)
    → with_entries front.header (new_entries (length b) us) (b ++ group_records us) ≡ bundle_with_tiles b us
group_done b us front long are keeps =
    let over = group_is_puts b us long are in
    let es = new_entries (length b) us in
    let w = b ++ group_records us in
    let joined : length w ≡ length b + length (group_records us) = length-append b (group_records us) in
    let whole : length (bundle_with_tiles b us) ≡ length w = with_long b us long are ∙ sym joined in
    let some : length (bundle_with_tiles b us) ≢ 0 = λ zero. absurd (omega (arith, zero, whole, joined, long)) in
    let kept : front.header ≡ over.header = keeps_header (bundle_with_tiles b us) front keeps some ∙ ap (take 64) over.is
    ∙ header_front over.header es w over.size (entries_slots us (length b) are) (omega (arith, joined, long)) (ap length (sym over.is) ∙ whole) in
    ap (λ (h : List ℕ). with_entries h es w) kept ∙ sym over.is

-- puts one after the other, by the length before them
pub puts_on : (b : List ℕ) (us : List TileRec) → 131136 ≤ length b → AreTilesIn us → bundle_after_puts b us ≡ bundle_with_tiles b us
puts_on b [] long are = refl
puts_on b (u ∷ us) long are =
    let one = put_long b u long are.0 in
    ap (λ (l : List ℕ). bundle_after_puts l us) (on_bundle b u.bytes u.slot (λ zero. absurd (omega (arith, zero, long))))
    ∙ puts_on (bundle_with_tile b u.slot u.bytes) us (omega (arith, one, long)) are.3

pub puts_on_nothing : (b : List ℕ) (us : List TileRec) → length b ≡ 0 → 1 ≤ length us → AreTilesIn us → bundle_after_puts b us ≡ bundle_with_tiles (layout no_tiles) us
puts_on_nothing b [] zero_long some are = absurd (omega (arith, some))
puts_on_nothing b (u ∷ us) zero_long some are =
    let one = put_long (layout no_tiles) u (omega (arith, length-nothing)) are.0 in
    ap (λ (l : List ℕ). bundle_after_puts l us) (on_nothing b u.bytes u.slot zero_long)
    ∙ puts_on (bundle_with_tile (layout no_tiles) u.slot u.bytes) us (omega (arith, one, length-nothing)) are.3
