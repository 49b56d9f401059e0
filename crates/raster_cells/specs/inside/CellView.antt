-- How bytes stand for values.
use Rattle.std.specs.Prelude.{ℤ, List, ◌≡◌, ◌≤◌, All, length, ◌*◌}
use Rattle.raster_cells.specs.declared.values.cells.Cells.TheInside.{Inside}
use Rattle.raster_cells.specs.CellList.{values_in, CellList}
use Rattle.raster_cells.specs.PixelType.{InRange, bytes_of}
use Rattle.raster_cells.specs.Values.{values_bytes}

abbrev pub listed : Inside → List ℤ
listed a = values_in a.kind a.count a.bytes.items

abbrev pub seen_cells : Inside → CellList
seen_cells a = record { kind = a.kind; values = listed a }

pub record IsCells (a : Inside) : Type 0 where
  pub few : a.count ≤ 16777216
  pub counted : length (listed a) ≡ a.count
  pub size : length a.bytes.items ≡ a.count * bytes_of a.kind
  pub bytes : a.bytes.items ≡ values_bytes a.kind (listed a)
  pub in_range : All (InRange a.kind) (listed a)
