-- The least and the greatest values of a raster, and the lists in front of an image.
use Rattle.std.specs.Prelude.{ℕ, ℤ, pos, Bool, nat_eq, List, [], ◌∷◌, ◌++◌, map, fold}
use Rattle.std.specs.Int.{int_max}
use Rattle.std.specs.Ordering.{int_eq}
use Rattle.std.specs.Cmp.Lexicographic.{pointwise}
use Rattle.std.specs.List.{range_with_len}
use Rattle.raster_values.specs.Raster.{Pixels, valid_count, values_of}
use Rattle.raster_cells.specs.Values.{values_bytes}
use Rattle.lerc_header.specs.declared.header.Version.{Version}
use Rattle.lerc_header.specs.declared.header.Version.TheVariants.{V3, V4}
use Rattle.micro_block.specs.ChosenBlock.{least_value}
pub use Rattle.raster_values.specs.Flat.{at_depth}
unfoldable pub use Rattle.raster_values.specs.Flat.{depth_values}

-- the greatest value, and 0 of none
abbrev pub greatest_value : List ℤ → ℤ
greatest_value [] = pos 0
greatest_value (v ∷ values) = fold int_max v values

-- the least and the greatest value of each depth
abbrev pub leasts : Pixels → List ℤ
leasts r = map (λ d. least_value (depth_values r d)) (range_with_len 0 r.depth)

abbrev pub greatests : Pixels → List ℤ
greatests r = map (λ d. greatest_value (depth_values r d)) (range_with_len 0 r.depth)

-- the lists that stand behind the mask in version 4, and none in version 3
abbrev pub lists_bytes : Pixels → Version → List ℕ
lists_bytes r V3 = []
lists_bytes r V4 = values_bytes r.kind (leasts r ++ greatests r)

-- ---- images that end early

-- no pixel is valid
abbrev pub is_empty : Pixels → Bool
is_empty r = nat_eq (valid_count r) 0

-- all values are one
abbrev pub is_constant : Pixels → Bool
is_constant r = int_eq (least_value (values_of r.pixels)) (greatest_value (values_of r.pixels))

-- each depth has one value, so that the two lists are equal
abbrev pub has_equal_ranges : Pixels → Bool
has_equal_ranges r = pointwise int_eq (leasts r) (greatests r)
