-- Bytes begin with a tile, or have a first fault.
use Rattle.std.proofs.Common.{◌≡◌, ℕ, ◌+◌, ◌*◌, ◌≤◌, List, ◌++◌, length, get_or, take, drop, refl, sym, ap, ◌∙◌, arith, ◌⊎◌, inl, inr, append_assoc}
use Rattle.std.proofs.lemmas.Bool.{cases_eq}
use Rattle.std.proofs.lemmas.List.{length-take, take-append-drop}
use Rattle.first_fault.specs.Faults.{none, wrong, unless}
use Rattle.first_fault.specs.Parts.{AreBytes, InFront, HasFault, IsDecided}
use Rattle.first_fault.proofs.Decided.{Joined, decided_in_order, decided_unless}
use Rattle.raster_values.specs.Raster.{Pixels}
use Rattle.raster_grids.specs.BandsGrid.{IsBandsGrid, bands_faults}
use Rattle.raster_grids.specs.declared.reading.GridReason.TheVariants.{Truncated}
use Rattle.raster_grids.proofs.BandsGridDecided.{bands_grids_are_decided}
use Rattle.tile_stream.specs.declared.tile.TileReason.TheVariants.{BadTileMark, BadSlot, Grid}
use Rattle.tile_stream.specs.Tile.{IsTile, IsTileHead, TilesAreDecided, col_faults, tile_cut, tile_head_faults, of_grid, row_faults, tile_faults}
use Rattle.tile_stream.proofs.Fronts.{at_most, the_fault}

-- ---- the head

three_bytes : (bytes : List ℕ) → 3 ≤ length (take 3 bytes) → length (take 3 bytes) ≡ 3
three_bytes bytes long = omega (arith, length-take 3 bytes)

head_there : (bytes : List ℕ) → 3 ≤ length (take 3 bytes) → get_or (take 3 bytes) 0 0 ≡ 84 → get_or (take 3 bytes) 1 0 ≤ 127 → get_or (take 3 bytes) 2 0 ≤ 127 → InFront IsTileHead bytes
head_there bytes long mark row col = record {
  front = take 3 bytes;
  rest = drop 3 bytes;
  value = 128 * get_or (take 3 bytes) 1 0 + get_or (take 3 bytes) 2 0;
  joined = sym (take-append-drop 3 bytes);
  stands = record { size = three_bytes bytes long; mark = mark; row = row; col = col; slot_is = refl };
}

head_decided : IsDecided IsTileHead tile_head_faults
head_decided bytes are =
    let head = take 3 bytes in
    decided_unless (1 ≤ length head) (tile_cut head) (unless (get_or head 0 0 ≡ 84) (wrong BadTileMark 0) (row_faults head)) (at_most 1 (length head)) (the_fault (Grid Truncated) (length head))
    (λ one. decided_unless (get_or head 0 0 ≡ 84) (wrong BadTileMark 0) (row_faults head) (cases_eq (get_or head 0 0) 84) (the_fault BadTileMark 0)
    (λ mark. decided_unless (2 ≤ length head) (tile_cut head) (unless (get_or head 1 0 ≤ 127) (wrong BadSlot 1) (col_faults head)) (at_most 2 (length head)) (the_fault (Grid Truncated) (length head))
    (λ two. decided_unless (get_or head 1 0 ≤ 127) (wrong BadSlot 1) (col_faults head) (at_most (get_or head 1 0) 127) (the_fault BadSlot 1)
    (λ row. decided_unless (3 ≤ length head) (tile_cut head) (unless (get_or head 2 0 ≤ 127) (wrong BadSlot 2) none) (at_most 3 (length head)) (the_fault (Grid Truncated) (length head))
    (λ three. decided_unless (get_or head 2 0 ≤ 127) (wrong BadSlot 2) none (at_most (get_or head 2 0) 127) (the_fault BadSlot 2)
    (λ col. inl (head_there bytes three mark row col)))))))

-- ---- the tile

-- a grid of bands stands in front
record Behind (slot : ℕ) (rest : List ℕ) (bands : List Pixels) : Type 0 where
  pub front : List ℕ
  pub behind : List ℕ
  pub joined : rest ≡ front ++ behind
  pub stands : IsBandsGrid front bands

grid_decided : (slot : ℕ) (rest : List ℕ) → AreBytes rest → ((bands : List Pixels) × Behind slot rest bands) ⊎ HasFault (of_grid (bands_faults rest))
grid_decided slot rest are = by (bands_grids_are_decided rest are)
  where
    by : InFront IsBandsGrid rest ⊎ HasFault (bands_faults rest) → ((bands : List Pixels) × Behind slot rest bands) ⊎ HasFault (of_grid (bands_faults rest))
    by (inl f) = inl (f.value, record { front = f.front; behind = f.rest; joined = f.joined; stands = f.stands })
    by (inr w) = inr (record { place = w.place; reason = Grid w.reason; fault = w.fault })

tile_there : (bytes : List ℕ) → Joined IsTileHead Behind bytes → InFront IsTile bytes
tile_there bytes j = record {
  front = j.first.front ++ j.stands.front;
  rest = j.stands.behind;
  value = record { slot = j.first.value; bands = j.last };
  joined = j.first.joined ∙ ap (λ (u : List ℕ). j.first.front ++ u) j.stands.joined ∙ sym (append_assoc j.first.front j.stands.front j.stands.behind);
  stands = record { head = j.first.front; grid = j.stands.front; joined = refl; head_is = j.first.stands; grid_is = j.stands.stands };
}

pub tiles_decided : TilesAreDecided
tiles_decided bytes are = by (decided_in_order IsTileHead tile_head_faults Behind (λ slot behind. of_grid (bands_faults behind)) head_decided grid_decided bytes are)
  where
    by : Joined IsTileHead Behind bytes ⊎ HasFault (tile_faults bytes) → InFront IsTile bytes ⊎ HasFault (tile_faults bytes)
    by (inl j) = inl (tile_there bytes j)
    by (inr w) = inr w
