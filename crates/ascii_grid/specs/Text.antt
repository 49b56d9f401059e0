-- The text of an ASCII grid of whole numbers, and its first fault.
use Rattle.std.specs.Prelude.{◌≡◌, ◌≢◌, ◌⊎◌, ◌↔◌, ℕ, ℤ, pos, negsuc, ◌*◌, ◌<◌, ◌≤◌, IsTrue, List, [], ◌∷◌, ◌++◌, length, map, Option, None, Some, Result, Ok, Err}
use Rattle.first_fault.specs.Faults.{Faults, choice, none, unless, wrong}
use Rattle.raster_cells.specs.declared.kind.PixelType.{PixelType}
use Rattle.raster_cells.specs.PixelType.{InRange}
use Rattle.ascii_grid.specs.declared.fault.AsciiReason.{AsciiReason}
use Rattle.ascii_grid.specs.declared.fault.AsciiReason.TheVariants.{BadNumber, Leftover, OutOfRange}
use Rattle.ascii_grid.specs.declared.words.Key.TheVariants.{XCenter, YCenter}
use Rattle.ascii_grid.specs.declared.fault.AsciiStop.{AsciiStop}
use Rattle.ascii_grid.specs.declared.fault.AsciiStop.TheVariants.{Fault, Source, OutOfMemory}
use Rattle.ascii_grid.specs.declared.grid.AsciiGrid.{AsciiGrid}
use Rattle.ascii_grid.specs.declared.grid.Georef.{Georef}
use Rattle.ascii_grid.specs.Tokens.{AreTokens, TokenAt, limit, seen, shown}
use Rattle.ascii_grid.specs.Endings.{ending, too_late}
use Rattle.ascii_grid.specs.Head.{ArePairs, BeginsWithLetter, HasAll, HeadFaults, IsInteger, Pair, Says, SaysKey, SaysNumber, SaysText, flat}

-- ---- the grid of a text

-- the number of an invalid pixel, -9999 where no pair says it
abbrev pub IsNodata : List Pair → ℤ → Type 0
IsNodata ps n = SaysNumber ps 5 n ⊎ ((¬ Says ps 5) × (n ≡ negsuc 9998))

-- the texts of the corner, or the centre of its cell, and of the cell's size
pub record IsGeo (ps : List Pair) (geo : Georef) : Type 0 where
  pub x : SaysText ps 2 geo.x
  pub x_centre : IsTrue geo.x_centre ↔ SaysKey ps XCenter
  pub y : SaysText ps 3 geo.y
  pub y_centre : IsTrue geo.y_centre ↔ SaysKey ps YCenter
  pub cell : SaysText ps 4 geo.cell
  pub nodata : IsNodata ps geo.nodata

-- a number, as a pixel: invalid where it is nodata, else of the type
abbrev pub IsCell : PixelType → ℤ → List ℕ → Option (List ℤ) → Type 0
IsCell kind nodata bytes p = (n : ℤ) × (IsInteger bytes n × (((n ≡ nodata) × (p ≡ None))
    ⊎ ((n ≢ nodata) × (InRange kind n × (p ≡ Some (n ∷ []))))))

-- one number for each pixel, row by row
abbrev pub AreCells : PixelType → ℤ → List TokenAt → List (Option (List ℤ)) → Type 0
AreCells kind nodata [] [] = Unit {0}
AreCells kind nodata [] (p ∷ ps) = ⊥
AreCells kind nodata (t ∷ ts) [] = ⊥
AreCells kind nodata (t ∷ ts) (p ∷ ps) =
    IsCell kind nodata t.bytes p × AreCells kind nodata ts ps

-- The text is that of this grid: pairs of a keyword and its value, each quantity once and all but
-- nodata there, and behind them a number for each pixel.
pub record IsAscii (text : List ℕ) (kind : PixelType) (g : AsciiGrid) : Type 0 where
  pub tokens : List TokenAt
  pub pairs : List Pair
  pub numbers : List TokenAt
  pub short : length text ≤ limit
  pub cut : AreTokens 0 text tokens
  pub joined : tokens ≡ flat pairs ++ numbers
  pub stand : ArePairs [] pairs
  pub all : HasAll pairs
  pub geo : IsGeo pairs g.geo
  pub rows : SaysNumber pairs 1 (pos g.raster.rows)
  pub cols : SaysNumber pairs 0 (pos g.raster.cols)
  pub kind_is : g.raster.kind ≡ kind
  pub depth : g.raster.depth ≡ 1
  pub count : length numbers ≡ g.raster.rows * g.raster.cols
  pub cells : AreCells kind g.geo.nodata numbers g.raster.pixels

-- ---- the first fault

-- what may be wrong with a number
abbrev pub cell_faults : PixelType → ℤ → TokenAt → Faults AsciiReason
cell_faults kind nodata t =
    unless ((n : ℤ) × IsInteger t.bytes n) (wrong BadNumber t.place)
    (unless ((p : Option (List ℤ)) × IsCell kind nodata t.bytes p) (wrong OutOfRange t.place) none)

-- what may be wrong behind so many numbers of `count`, in a text of `total` bytes
abbrev pub next_number : ℕ → PixelType → ℤ → ℕ → ℕ → List TokenAt → Faults AsciiReason
next_number total kind nodata count done [] =
    unless (count ≤ done) (ending total) (too_late total)
next_number total kind nodata count done (t ∷ ts) =
    choice (done < count) (cell_faults kind nodata t) (wrong Leftover t.place)

-- the first numbers stand, and what is behind them is wrong
pub record NumberFaults (total : ℕ) (kind : PixelType) (nodata : ℤ) (count : ℕ)
    (tokens : List TokenAt) (place : ℕ) (reason : AsciiReason) : Type 0 where
  pub before : List TokenAt
  pub rest : List TokenAt
  pub pixels : List (Option (List ℤ))
  pub joined : tokens ≡ before ++ rest
  pub stand : AreCells kind nodata before pixels
  pub few : length before ≤ count
  pub next : next_number total kind nodata count (length before) rest place reason

-- the pairs stand, and what is behind them is wrong
pub record CellFaults (total : ℕ) (kind : PixelType) (tokens : List TokenAt)
    (place : ℕ) (reason : AsciiReason) : Type 0 where
  pub pairs : List Pair
  pub first : TokenAt
  pub rest : List TokenAt
  pub nodata : ℤ
  pub rows : ℕ
  pub cols : ℕ
  pub joined : tokens ≡ flat pairs ++ first ∷ rest
  pub behind : ¬ BeginsWithLetter first.bytes
  pub stand : ArePairs [] pairs
  pub all : HasAll pairs
  pub nodata_is : IsNodata pairs nodata
  pub rows_are : SaysNumber pairs 1 (pos rows)
  pub cols_are : SaysNumber pairs 0 (pos cols)
  pub fault : NumberFaults total kind nodata (rows * cols) (first ∷ rest) place reason

-- What is wrong first in a text that is none: its tokens are looked at one after the other, each as
-- its first 33 bytes, and none that is not decided before the byte at the limit.
pub record AsciiFaults (kind : PixelType) (text : List ℕ) (place : ℕ) (reason : AsciiReason) :
    Type 0 where
  pub all : List TokenAt
  pub tokens : List TokenAt
  pub cut : AreTokens 0 text all
  pub looked : tokens ≡ map seen (shown (length text) all)
  pub fault : HeadFaults (ending (length text)) tokens place reason
      ⊎ CellFaults (length text) kind tokens place reason

-- what reading a text answers; the source may fail, and memory be wanting
abbrev pub AsciiRead : Result AsciiGrid AsciiStop → PixelType → List ℕ → Type 0
AsciiRead (Ok g) kind text = IsAscii text kind g
AsciiRead (Err (Fault f)) kind text = AsciiFaults kind text f.place f.reason
AsciiRead (Err Source) kind text = Unit {0}
AsciiRead (Err OutOfMemory) kind text = Unit {0}
