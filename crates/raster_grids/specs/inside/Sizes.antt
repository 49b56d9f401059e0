-- How many bytes a band takes.
use Rattle.std.specs.Prelude.{ℕ, ◌+◌, ◌*◌}
use Rattle.raster_cells.specs.PixelType.{bytes_of}
use Rattle.raster_values.specs.Raster.{Pixels, valid_count}

-- a raster's marks and values
abbrev pub band_bytes : Pixels → ℕ
band_bytes r = r.rows * r.cols + valid_count r * r.depth * bytes_of r.kind
