-- The mask that is written for the marks of pixels.
use Rattle.std.specs.Prelude.{ℕ, ◌+◌, ◌*◌, Bool, false, not, ◌||◌, ◌&&◌, nat_eq, if◌then◌else◌}
use Rattle.std.specs.Prelude.{List, [], ◌++◌, length, get_or, map, Option, Some, None}
use Rattle.std.specs.Bool.{beq}
use Rattle.std.specs.Cmp.Lexicographic.{pointwise}
use Rattle.std.specs.List.{range_with_len}
use Rattle.raster_values.specs.Raster.{Pixels}
use Rattle.raster_values.specs.Flat.{marks_of}
use Rattle.byteorder.specs.Endian.{little_bytes}
use Rattle.mask_runs.specs.Chosen.{chosen_runs}
use Rattle.lerc_grammar.specs.Mask.{Previous, count_of, marks_before, mask_size}

-- 1 for a valid pixel
abbrev pub bit_of : List Bool → ℕ → ℕ
bit_of marks k = if get_or marks k false then 1 else 0

-- the bits of eight pixels from number k on, the first of them highest; a bit behind the last pixel
-- is 0
unfoldable pub mask_byte : List Bool → ℕ → ℕ
mask_byte marks k =
    128 * bit_of marks k + (64 * bit_of marks (k + 1) + (32 * bit_of marks (k + 2)
    + (16 * bit_of marks (k + 3) + (8 * bit_of marks (k + 4) + (4 * bit_of marks (k + 5)
    + (2 * bit_of marks (k + 6) + bit_of marks (k + 7)))))))

-- the bytes of a mask, eight pixels in each
unfoldable pub packed : List Bool → List ℕ
packed marks = map (λ i. mask_byte marks (i * 8)) (range_with_len 0 (mask_size (length marks)))

-- no pixel is valid, or every one
abbrev pub are_alike : List Bool → Bool
are_alike marks = nat_eq (count_of marks) 0 || nat_eq (count_of marks) (length marks)

-- the chosen runs of the mask, and none where all pixels are alike
unfoldable pub mask_runs_of : List Bool → List ℕ
mask_runs_of marks = if are_alike marks then [] else chosen_runs (packed marks)

-- ---- behind the blob of another raster

-- these are the same marks
abbrev pub are_same : Option (List Bool) → List Bool → Bool
are_same None marks = false
are_same (Some before) marks = pointwise beq before marks

-- The mask of the raster before is taken: that raster has as many rows and columns, the same pixels
-- are valid, and some are and some are not.
abbrev pub takes_mask : Option Previous → Pixels → Bool
takes_mask before r =
    are_same (marks_before before r.rows r.cols) (marks_of r) && not (are_alike (marks_of r))

-- the runs that are written: none where the mask is taken
abbrev pub runs_unless : Bool → List Bool → List ℕ
runs_unless taken marks = if taken then [] else mask_runs_of marks

abbrev pub runs_after : Option Previous → Pixels → List ℕ
runs_after before r = runs_unless (takes_mask before r) (marks_of r)

-- ---- what is written

-- the number of the runs' bytes, and they
unfoldable pub mask_part : List ℕ → List ℕ
mask_part runs = little_bytes 4 (length runs) ++ runs
