-- The header that is written for a raster.
use Rattle.std.specs.Prelude.{ℕ}
use Rattle.raster_values.specs.Raster.{Pixels, valid_count, values_of}
use Rattle.lerc_header.specs.declared.header.Header.{Header}
use Rattle.lerc_header.specs.declared.header.Version.{Version}
use Rattle.micro_block.specs.ChosenBlock.{least_value}
use Rattle.lerc_encode.specs.Ranges.{greatest_value}

-- with the side of its blocks, the number of its bytes and their checksum
unfoldable pub header_of : Pixels → Version → ℕ → ℕ → ℕ → ℕ → Header
header_of r version step side size checksum = record {
  version = version;
  checksum = checksum;
  rows = r.rows;
  cols = r.cols;
  depth = r.depth;
  valid = valid_count r;
  side = side;
  size = size;
  kind = r.kind;
  step = step;
  least = least_value (values_of r.pixels);
  greatest = greatest_value (values_of r.pixels);
}
