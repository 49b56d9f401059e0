-- The images that are written for a raster: the forms of its values, and the one that is chosen.
use Rattle.std.specs.Prelude.{ℕ, Bool, true, false, ◌&&◌, nat_eq, if◌then◌else◌, List, [], ◌∷◌}
use Rattle.std.specs.Prelude.{◌++◌, length, Option, Some, unwrap_or}
use Rattle.std.specs.List.{flat_map, range_with_len}
use Rattle.raster_cells.specs.PixelType.{bytes_of}
use Rattle.raster_values.specs.Raster.{Pixels, values_of}
use Rattle.raster_cells.specs.Values.{values_bytes}
use Rattle.lerc_header.specs.declared.header.Header.{Header}
use Rattle.lerc_header.specs.declared.header.Version.{Version}
use Rattle.lerc_header.specs.declared.header.Version.TheVariants.{V3, V4}
use Rattle.micro_block.specs.Fewest.{allowed, first_least}
use Rattle.micro_block.specs.ChosenBlock.{block_bytes}
use Rattle.delta_mode.specs.Deltas.{deltas, plain as plain_symbols}
use Rattle.lerc_grammar.specs.Blocks.{block_col, coded_blocks, coded_values}
use Rattle.lerc_encode.specs.Heads.{header_of}
use Rattle.lerc_encode.specs.Ranges.{lists_bytes, has_equal_ranges, is_constant, is_empty}
use Rattle.lerc_encode.specs.Codings.{coding_bytes, have_codes}

-- the bytes of coded block number k
abbrev pub coded_bytes : Header → Pixels → ℕ → List ℕ
coded_bytes h r k = block_bytes h.kind (block_col h k) h.step (coded_values h r k)

-- the chosen blocks, one behind the other
unfoldable pub blocks_bytes : Header → Pixels → List ℕ
blocks_bytes h r = flat_map (coded_bytes h r) (range_with_len 0 (coded_blocks h))

-- a value takes one byte, and none may change: a mode byte stands in front of the blocks
abbrev pub has_mode : Pixels → ℕ → Bool
has_mode r step = nat_eq (bytes_of r.kind) 1 && nat_eq step 1

abbrev pub mode_bytes : Pixels → ℕ → List ℕ
mode_bytes r step = if has_mode r step then 0 ∷ [] else []

-- the symbols of the differences of all depths, one depth behind the other
unfoldable pub all_deltas : Pixels → List ℕ
all_deltas r = flat_map (deltas r) (range_with_len 0 r.depth)

abbrev pub is_v4 : Version → Bool
is_v4 V3 = false
is_v4 V4 = true

-- ---- the forms of the values, in order

pub data CodedForm : Type 0 where
  sweep : CodedForm
  blocks_8 : CodedForm
  blocks_16 : CodedForm
  delta : CodedForm
  plain : CodedForm

-- the side that the header says
abbrev pub side_of : CodedForm → ℕ
side_of sweep = 8
side_of blocks_8 = 8
side_of blocks_16 = 16
side_of delta = 8
side_of plain = 8

unfoldable pub coded_form_bytes : Pixels → Version → ℕ → CodedForm → List ℕ
coded_form_bytes r version step sweep = 1 ∷ values_bytes r.kind (values_of r.pixels)
coded_form_bytes r version step blocks_8 =
    0 ∷ (mode_bytes r step ++ blocks_bytes (header_of r version step 8 0 0) r)
coded_form_bytes r version step blocks_16 =
    0 ∷ (mode_bytes r step ++ blocks_bytes (header_of r version step 16 0 0) r)
coded_form_bytes r version step delta = 0 ∷ 1 ∷ coding_bytes (all_deltas r)
coded_form_bytes r version step plain = 0 ∷ 2 ∷ coding_bytes (plain_symbols r)

-- differences and plain symbols in code words: where a mode byte stands and the symbols have codes;
-- plain symbols in version 4
abbrev pub may_be_delta : Pixels → ℕ → Bool
may_be_delta r step = has_mode r step && have_codes (all_deltas r)

abbrev pub may_be_plain : Pixels → Version → ℕ → Bool
may_be_plain r version step =
    (has_mode r step && is_v4 version) && have_codes (plain_symbols r)

abbrev pub coded_forms : Pixels → Version → ℕ → List (Option CodedForm)
coded_forms r version step =
    Some sweep ∷ Some blocks_8 ∷ Some blocks_16 ∷ allowed (may_be_delta r step) delta
    ∷ allowed (may_be_plain r version step) plain ∷ []

-- the first of those with the fewest bytes
unfoldable pub chosen_coded_form : Pixels → Version → ℕ → CodedForm
chosen_coded_form r version step =
    unwrap_or
    (first_least (λ form. length (coded_form_bytes r version step form))
    (coded_forms r version step))
    sweep

-- ---- how the image ends: before the lists, behind them, or with the values in a form; these are
-- the images of the format, the last one those with coded values

pub data Tail : Type 0 where
  empty : Tail
  constant : Tail
  ranges : Tail
  coded : CodedForm → Tail

unfoldable pub tail : Pixels → Version → ℕ → Tail
tail r version step =
    if is_empty r then empty
    else (if is_constant r then constant
    else (if is_v4 version && has_equal_ranges r then ranges
    else coded (chosen_coded_form r version step)))

abbrev pub side_at : Tail → ℕ
side_at empty = 8
side_at constant = 8
side_at ranges = 8
side_at (coded form) = side_of form

abbrev pub image_bytes : Pixels → Version → ℕ → Tail → List ℕ
image_bytes r version step empty = []
image_bytes r version step constant = []
image_bytes r version step ranges = lists_bytes r version
image_bytes r version step (coded form) =
    lists_bytes r version ++ coded_form_bytes r version step form
