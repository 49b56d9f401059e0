-- How the fields of a mosaic stand for it.
use Rattle.std.specs.Prelude.{◌≡◌, ℕ, ◌*◌, ◌<◌, ◌≤◌, length, get_or, replicate}
use Rattle.raster_cells.specs.Shapes.{IsShape}
use Rattle.overview_tiles.specs.declared.mosaic.Mosaic.TheInside.{Inside}
use Rattle.overview_tiles.specs.Sums.{AreSums, Kept, no_sums}
use Rattle.overview_tiles.specs.Tiles.{Tiles}
use Rattle.overview_tiles.specs.inside.Numbers.{kinds_of, sums_of}

abbrev pub seen : Inside → Kept
seen a =
    record {
      kind = a.kind;
      rows = a.rows;
      cols = a.cols;
      depth = a.depth;
      laid = a.laid;
      bands = sums_of a.bands.items;
    }

-- there are as many numbers as the shape asks for
pub record HasRoom (m : Kept) : Type 0 where
  pub shape : IsShape m.rows m.cols m.depth
  pub some : 0 < length m.bands
  pub few : length m.bands ≤ 16
  pub size : length m.bands * (m.rows * m.cols * m.depth) ≤ 16777216
  pub laid : length m.laid ≡ 4
  pub counts : (b : ℕ) → b < length m.bands
      → length (get_or m.bands b no_sums).counts ≡ m.rows * m.cols
  pub sums : (b : ℕ) → b < length m.bands
      → length (get_or m.bands b no_sums).sums ≡ m.rows * m.cols * m.depth

-- the numbers are those of some tiles, and each band's are of the mosaic's type
pub record IsMosaic (a : Inside) : Type 0 where
  pub kinds : kinds_of a.bands.items ≡ replicate (length a.bands.items) a.kind
  pub room : HasRoom (seen a)
  pub tiles : Tiles
  pub sums : AreSums (seen a) tiles
