-- The lines of what a sample comes to.
use Rattle.std.specs.Prelude.{ℕ, List, ◌++◌, codes}
use Rattle.sample_tiles.specs.declared.adding.Sums.{Sums}
use Rattle.lerc_cli.specs.answers.Outline.{number_line}

-- how many tiles, how many bytes their blobs have, how far the worst pixel is from its decoded one,
-- and the sum of the blobs' checksums
abbrev pub sums_lines : Sums → List ℕ
sums_lines s =
    number_line (codes "tiles") s.tiles
    ++ (number_line (codes "bytes") s.bytes
    ++ (number_line (codes "worst") s.worst
    ++ number_line (codes "sum") s.checksums))
