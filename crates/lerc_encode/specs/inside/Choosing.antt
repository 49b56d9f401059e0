-- The form that is chosen for the values of an image, and how the image ends.
use Rattle.std.specs.Prelude.{◌≡◌, ℕ, pos, ◌<◌, ◌≤◌, get_or, length, nat_eq, if◌then◌else◌}
use Rattle.std.specs.Prelude.{MatchOption, Option}
use Rattle.raster_values.specs.Raster.{Pixels, IsRaster, values_of}
use Rattle.lerc_header.specs.declared.header.Header.{Header}
use Rattle.lerc_header.specs.declared.header.Version.{Version}
use Rattle.lerc_header.specs.declared.header.Version.TheVariants.{V3}
use Rattle.raster_cells.specs.Step.{IsTwiceError}
use Rattle.lerc_encode.specs.Heads.{header_of}
use Rattle.micro_block.specs.ChosenBlock.{least_value}
use Rattle.lerc_encode.specs.Ranges.{depth_values, greatest_value, has_equal_ranges}
use Rattle.lerc_encode.specs.inside.Coded.{AreCodings}
use Rattle.lerc_encode.specs.inside.Blocked.{IsMeasured}
use Rattle.lerc_encode.specs.Images as images
use Rattle.lerc_encode.specs.Images.{CodedForm, chosen_coded_form, coded_form_bytes, tail}
use Rattle.lerc_encode.specs.declared.image.forms.ValueForm.{ValueForm}
use Rattle.lerc_encode.specs.declared.image.forms.ValueForm.TheVariants.{Sweep, SmallBlocks, LargeBlocks}
use Rattle.lerc_encode.specs.declared.image.forms.ValueForm.TheVariants.{Delta, Plain}
use Rattle.lerc_encode.specs.declared.blocks.chosen_blocks.Measured.{Measured}
use Rattle.lerc_encode.specs.declared.image.forms.Chosen.{Chosen}
use Rattle.lerc_encode.specs.declared.image.choosing.Tail.{Tail}
use Rattle.lerc_encode.specs.declared.image.choosing.Tail.TheVariants.{Empty, Constant}
use Rattle.lerc_encode.specs.declared.image.choosing.Tail.TheVariants.{Ranges as EqualRanges, Coded}
use Rattle.lerc_encode.specs.declared.image.ranging.Ranges.{Ranges}

-- the form of the definitions
abbrev pub named : ValueForm → CodedForm
named Sweep = images.sweep
named SmallBlocks = images.blocks_8
named LargeBlocks = images.blocks_16
named Delta = images.delta
named Plain = images.plain

-- the form at a place in their order
abbrev pub form_at : ℕ → ValueForm
form_at place =
    if nat_eq place 0 then Sweep else (if nat_eq place 1 then SmallBlocks
    else (if nat_eq place 2 then LargeBlocks else (if nat_eq place 3 then Delta else Plain)))

-- the header of a raster's blob as far as it is known before the blob is laid out, with side 8
pub record IsBase (h : Header) (r : Pixels) : Type 0 where
  pub sound : IsRaster r
  pub step : IsTwiceError h.step
  pub flat : h.version ≡ V3 → r.depth ≡ 1
  pub is : h ≡ header_of r h.version h.step 8 0 0

-- what is known of the blocks of a side where they are not left out
abbrev pub AreMeasured : Pixels → Version → ℕ → ℕ → Type 0 → Option Measured → Type 0
AreMeasured r version step side LeftOut found =
    MatchOption found LeftOut (IsMeasured (header_of r version step side 0 0) r)

-- the form that is chosen, the number of its bytes, the symbols, and the blocks, of which those of
-- a side that is not chosen may be left out
pub record IsChosen (r : Pixels) (version : Version) (step : ℕ) (c : Chosen) : Type 0 where
  pub form : named c.form ≡ chosen_coded_form r version step
  pub size : c.size ≡ length (coded_form_bytes r version step (chosen_coded_form r version step))
  pub few : c.size ≤ 67108865
  pub codings_are : AreCodings r version step c.codings
  pub small_are : AreMeasured r version step 8 (named c.form ≡ images.blocks_8 → ⊥) c.small
  pub large_are : AreMeasured r version step 16 (named c.form ≡ images.blocks_16 → ⊥) c.large

-- the least and the greatest of all values, whether each depth has one value, and the least and the
-- greatest value of each of the first 16 depths
pub record AreRanges (r : Pixels) (ranges : Ranges) : Type 0 where
  pub sound : IsRaster r
  pub least : ranges.whole.least ≡ least_value (values_of r.pixels)
  pub greatest : ranges.whole.greatest ≡ greatest_value (values_of r.pixels)
  pub equal : ranges.equal ≡ has_equal_ranges r
  pub kept_least : (d : ℕ) → d < 16 → d < r.depth
      → get_or ranges.leasts d (pos 0) ≡ least_value (depth_values r d)
  pub kept_greatest : (d : ℕ) → d < 16 → d < r.depth
      → get_or ranges.greatests d (pos 0) ≡ greatest_value (depth_values r d)

-- how the image ends
abbrev pub IsTail : Pixels → Version → ℕ → Tail → Type 0
IsTail r version step Empty = tail r version step ≡ images.empty
IsTail r version step Constant = tail r version step ≡ images.constant
IsTail r version step EqualRanges = tail r version step ≡ images.ranges
IsTail r version step (Coded c) =
    (tail r version step ≡ images.coded (chosen_coded_form r version step))
    × IsChosen r version step c
