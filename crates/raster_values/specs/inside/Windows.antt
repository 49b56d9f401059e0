-- Windows of the pixels of a raster, and what is put at one depth of them.
use Rattle.std.specs.Prelude.{◌≡◌, ℕ, ◌-◌, min, ◌+◌, ◌*◌, Bool, List, ℤ, ◌≤◌}
use Rattle.raster_cells.specs.CellList.{CellList, KeepsForm}
use Rattle.raster_values.specs.declared.blocks.window.Window.{Window}
use Rattle.raster_values.specs.inside.Runs.{rows_places, rows_values, LeavesRows}

-- the block of `side` rows and columns whose first place is (i, j), cut off at the edges
pub record IsBlockOf (rows cols i j side : ℕ) (w : Window) : Type 0 where
  pub across : w.cols ≡ cols
  pub row : w.row ≡ i
  pub col : w.col ≡ j
  pub high : w.high ≡ min side (rows - i)
  pub wide : w.wide ≡ min side (cols - j)

-- whole rows as one
pub record IsOneRowOf (v w : Window) : Type 0 where
  pub cols : w.cols ≡ (v.row + v.high) * v.cols
  pub row : w.row ≡ 0
  pub col : w.col ≡ v.row * v.cols
  pub high : w.high ≡ 1
  pub wide : w.wide ≡ v.high * v.cols

-- the marked places of a window
abbrev pub window_places : Window → List Bool → List ℕ
window_places w marks = rows_places marks w.cols w.row w.col w.high w.wide

-- their values at a depth
abbrev pub window_values : Window → ℕ → ℕ → List Bool → List ℤ → List ℤ
window_values w depth d marks values = rows_values depth d marks values w.cols w.row w.col w.high
    w.wide

-- the window lies among so many pixels
pub record IsWithin (w : Window) (pixels : ℕ) : Type 0 where
  pub rows : w.row + w.high ≤ 16777216
  pub all : (w.row + w.high) * w.cols ≤ pixels

-- and there is room for a number of each of its pixels
pub record HasRoom (w : Window) (pixels numbers : ℕ) : Type 0 where
  pub within : IsWithin w pixels
  pub room : w.high * w.wide ≤ numbers

-- the values at a depth of the marked pixels of a window are these, and no other was changed
pub record ScattersRows (depth d : ℕ) (marks : List Bool) (w : Window) (values : List ℤ)
    (old new : CellList) : Type 0 where
  pub scattered : window_values w depth d marks new.values ≡ values
  pub rest : LeavesRows depth d marks w.cols w.row w.col w.high w.wide old.values new.values
  pub form : KeepsForm old new
