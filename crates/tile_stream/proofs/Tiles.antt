-- Tiles are parts, and how they are taken.
use Rattle.std.proofs.Common.{◌≡◌, inl, inr, ℕ, ◌+◌, ◌*◌, ◌<◌, ◌≤◌, List, [], ◌++◌, length, get_or, take, drop, Option, Some, None, refl, sym, ap, ◌∙◌, subst, arith, append_assoc, length-append}
use Rattle.first_fault.specs.Faults.{Faults, none, wrong, unless, moved}
use Rattle.first_fault.specs.Parts.{IsSingle, IsPart}
use Rattle.first_fault.proofs.Parts.{single-none, single-unless, single-in_order, passed, behind_it, same_rest}
use Rattle.raster_values.specs.Raster.{Pixels}
use Rattle.raster_grids.specs.ReadGrid.{IsToldFault}
use Rattle.raster_grids.specs.Taken.{TookBytes}
use Rattle.raster_grids.specs.BandsGrid.{IsBandsGrid, bands_faults}
use Rattle.raster_grids.specs.declared.reading.GridReason.{GridReason}
use Rattle.raster_grids.specs.declared.reading.GridReason.TheVariants.{Truncated}
use Rattle.raster_grids.specs.declared.reading.GridStop.{GridStop}
use Rattle.raster_grids.specs.declared.reading.GridStop.TheVariants.{Fault as GridFault, Source as GridSource, OutOfMemory as GridMemory}
use Rattle.outside_io.specs.streams.Source.{IsAtEnd, TakesFront}
use Rattle.raster_grids.proofs.BandsGridLaws.{bands_grids_are_parts}
use Rattle.raster_grids.proofs.Taken.{ended}
use Rattle.raster_grids.proofs.TakenBytes.{took_join}
use Rattle.tile_stream.specs.declared.tile.Tile.{Tile}
use Rattle.tile_stream.specs.declared.tile.TileReason.{TileReason}
use Rattle.tile_stream.specs.declared.tile.TileReason.TheVariants.{BadTileMark, BadSlot, Grid}
use Rattle.tile_stream.specs.declared.tile.TileStop.TheVariants.{Fault}
use Rattle.tile_stream.specs.Tile.{IsTile, IsTileHead, IsToldStop, TilesAreParts, TookTile, col_faults, tile_cut, tile_head_faults, tile_mark_faults, of_grid, row_faults, tile_faults}
use Rattle.tile_stream.specs.inside.Stops.{stop_of}
use Rattle.tile_stream.proofs.Fronts.{head_of_all, split_heads}

-- ---- the head

head_once : (a b s t : List ℕ) (x y : ℕ) → IsTileHead a x → IsTileHead b y → a ++ s ≡ b ++ t → (a ≡ b) × (x ≡ y)
head_once a b s t x y ha hb e =
    let same : a ≡ b = split_heads a b s t 3 ha.size hb.size e in
    (same, ha.slot_is ∙ ap (λ (u : List ℕ). 128 * get_or u 1 0 + get_or u 2 0) same ∙ sym hb.slot_is)

no_head_fault : (a : List ℕ) (x : ℕ) (p : ℕ) (r : TileReason) → IsTileHead a x → tile_mark_faults a p r → ⊥
no_head_fault a x p r h w =
    let t1 = passed (1 ≤ length a) (unless (get_or a 0 0 ≡ 84) (wrong BadTileMark 0) (row_faults a)) (tile_cut a) (omega (arith, h.size)) p r w in
    let t2 = passed (get_or a 0 0 ≡ 84) (row_faults a) (wrong BadTileMark 0) h.mark p r t1 in
    let t3 = passed (2 ≤ length a) (unless (get_or a 1 0 ≤ 127) (wrong BadSlot 1) (col_faults a)) (tile_cut a) (omega (arith, h.size)) p r t2 in
    let t4 = passed (get_or a 1 0 ≤ 127) (col_faults a) (wrong BadSlot 1) h.row p r t3 in
    let t5 = passed (3 ≤ length a) (unless (get_or a 2 0 ≤ 127) (wrong BadSlot 2) none) (tile_cut a) (omega (arith, h.size)) p r t4 in
    passed (get_or a 2 0 ≤ 127) none (wrong BadSlot 2) h.col p r t5

one_mark : (a : List ℕ) → IsSingle (tile_mark_faults a)
one_mark a =
    let col : IsSingle (col_faults a) = single-unless (3 ≤ length a) (Grid Truncated) (length a) (unless (get_or a 2 0 ≤ 127) (wrong BadSlot 2) none) (single-unless (get_or a 2 0 ≤ 127) BadSlot 2 none single-none) in
    let row : IsSingle (row_faults a) = single-unless (2 ≤ length a) (Grid Truncated) (length a) (unless (get_or a 1 0 ≤ 127) (wrong BadSlot 1) (col_faults a)) (single-unless (get_or a 1 0 ≤ 127) BadSlot 1 (col_faults a) col) in
    single-unless (1 ≤ length a) (Grid Truncated) (length a) (unless (get_or a 0 0 ≡ 84) (wrong BadTileMark 0) (row_faults a)) (single-unless (get_or a 0 0 ≡ 84) BadTileMark 0 (row_faults a) row)

head_part : IsPart IsTileHead tile_head_faults
head_part = record {
  once = head_once;
  either = λ a s x p r h w. no_head_fault a x p r h (subst (λ (u : List ℕ). tile_mark_faults u p r) (head_of_all 3 a s (let few : length a ≤ 3 = omega (arith, h.size) in few) (λ fewer. absurd (let no : ⊥ = omega (arith, h.size) in no))) w);
  single = λ bytes. one_mark (take 3 bytes);
}

-- ---- the tile

single-of_grid : (faults : Faults GridReason) → IsSingle faults → IsSingle (of_grid faults)
single-of_grid faults one p q (Grid r) (Grid s) x y = let same = one p q r s x y in (same.0, ap Grid same.1)
single-of_grid faults one p q BadTileMark s x y = absurd x
single-of_grid faults one p q BadSlot s x y = absurd x
single-of_grid faults one p q (Grid r) BadTileMark x y = absurd y
single-of_grid faults one p q (Grid r) BadSlot x y = absurd y

no_grid_fault : (grid s : List ℕ) (bands : List Pixels) (p : ℕ) (reason : TileReason) → IsBandsGrid grid bands → of_grid (bands_faults (grid ++ s)) p reason → ⊥
no_grid_fault grid s bands p (Grid reason) is w = bands_grids_are_parts.either grid s bands p reason is w
no_grid_fault grid s bands p BadTileMark is w = w
no_grid_fault grid s bands p BadSlot is w = w

tile_once : (a b s t : List ℕ) (x y : Tile) → IsTile a x → IsTile b y → a ++ s ≡ b ++ t → (a ≡ b) × (x ≡ y)
tile_once a b s t x y ta tb e =
    let joined : ta.head ++ (ta.grid ++ s) ≡ tb.head ++ (tb.grid ++ t) =
    sym (append_assoc ta.head ta.grid s) ∙ sym (ap (λ (u : List ℕ). u ++ s) ta.joined) ∙ e ∙ ap (λ (u : List ℕ). u ++ t) tb.joined ∙ append_assoc tb.head tb.grid t in
    let heads = head_once ta.head tb.head (ta.grid ++ s) (tb.grid ++ t) x.slot y.slot ta.head_is tb.head_is joined in
    let grids = bands_grids_are_parts.once ta.grid tb.grid s t x.bands y.bands ta.grid_is tb.grid_is (same_rest ta.head tb.head (ta.grid ++ s) (tb.grid ++ t) heads.0 joined) in
    (ta.joined ∙ (λ i. heads.0 i ++ grids.0 i) ∙ sym tb.joined, λ i. record { slot = heads.1 i; bands = grids.1 i })

pub tile_part : TilesAreParts
tile_part = record {
  once = tile_once;
  either = λ a s x p r is w.
      let split : a ++ s ≡ is.head ++ (is.grid ++ s) = ap (λ (u : List ℕ). u ++ s) is.joined ∙ append_assoc is.head is.grid s in
      let behind = behind_it IsTileHead tile_head_faults (λ slot rest. of_grid (bands_faults rest)) head_part is.head (is.grid ++ s) x.slot is.head_is p r (subst (λ (u : List ℕ). tile_faults u p r) split w) in
      no_grid_fault is.grid s x.bands behind.0 r is.grid_is behind.1.1;
  single = λ bytes. single-in_order IsTileHead tile_head_faults (λ slot rest. of_grid (bands_faults rest)) head_part (λ slot rest. single-of_grid (bands_faults rest) (bands_grids_are_parts.single rest)) bytes;
}

-- ---- taking

-- what is wrong in the head, of which these bytes were taken
pub head_told : (old new : Option (List ℕ)) (at p place : ℕ) (reason : TileReason) (bytes : List ℕ) → TookBytes old new bytes → 0 < length bytes → length bytes ≤ 3 → place ≡ at + p
    → ((rest : List ℕ) → new ≡ Some rest → length bytes < 3 → rest ≡ []) → tile_mark_faults bytes p reason → IsToldStop old at (Fault (record { reason = reason; place = place }))
head_told None new at p place reason bytes took some few is end w = tt
head_told (Some left) new at p place reason bytes (rest, (joined, then)) some few is end w =
    let all : take 3 (bytes ++ rest) ≡ bytes = head_of_all 3 bytes rest few (end rest then) in
    let fault : tile_faults (bytes ++ rest) p reason = inl (subst (λ (u : List ℕ). tile_mark_faults u p reason) (sym all) w) in
    ((let size : length left ≡ length (bytes ++ rest) = ap length joined in omega (arith, length-append bytes rest)), (p, (is, subst (λ (u : List ℕ). tile_faults u p reason) (sym joined) fault)))

-- what is wrong in the grid, the head having been taken
pub grid_told : (slot : ℕ) (old mid : Option (List ℕ)) (head : List ℕ) (at next : ℕ) (stop : GridStop) → IsTileHead head slot → TookBytes old mid head → next ≡ at + 3 → IsToldFault bands_faults mid next stop → IsToldStop old at (stop_of stop)
grid_told slot None mid head at next (GridFault f) stands took is w = tt
grid_told slot None mid head at next GridSource stands took is w = tt
grid_told slot None mid head at next GridMemory stands took is w = tt
grid_told slot (Some left) mid head at next GridSource stands took is w = tt
grid_told slot (Some left) mid head at next GridMemory stands took is w = tt
grid_told slot (Some left) mid head at next (GridFault f) stands (rest, (joined, then)) is w =
    behind (subst (λ (o : Option (List ℕ)). IsToldFault bands_faults o next (GridFault f)) then w)
  where
    behind : moved next (bands_faults rest) f.place f.reason → IsToldStop (Some left) at (stop_of (GridFault f))
    behind (p, (there, wrong_)) =
        let size : length left ≡ length (head ++ rest) = ap length joined in
        let fault : tile_faults (head ++ rest) (length head + p) (Grid f.reason) = inr (record { front = head; rest = rest; value = slot; joined = refl; stands = stands; later = (p, (refl, wrong_)) }) in
        (omega (arith, length-append head rest, stands.size), (length head + p, ((let e : f.place ≡ at + (length head + p) = omega (arith, is, stands.size, there) in e), subst (λ (u : List ℕ). tile_faults u (length head + p) (Grid f.reason)) (sym joined) fault)))

-- no byte was left
pub none_left : (old new : Option (List ℕ)) (n : ℕ) (buf : List ℕ) → n ≡ 0 → IsAtEnd new → TakesFront old new n buf → TookTile old new None
none_left None new n buf zero end took = took
none_left (Some left) new n buf zero end took =
    let is : new ≡ Some left = took.0 ∙ ap (λ (k : ℕ). Some (drop k left)) zero in
    let empty : left ≡ [] = ended new left end is in
    (empty, is ∙ ap Some empty)

-- a head was taken, and a grid behind it
pub tile_taken : (old mid new : Option (List ℕ)) (head grid : List ℕ) (tile : Tile) → IsTileHead head tile.slot → IsBandsGrid grid tile.bands → TookBytes old mid head → TookBytes mid new grid → TookTile old new (Some tile)
tile_taken old mid new head grid tile head_is grid_is first second =
    (head ++ grid, (record { head = head; grid = grid; joined = refl; head_is = head_is; grid_is = grid_is }, took_join old mid new head grid first second))
