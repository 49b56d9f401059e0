-- The block that is written for given values, of all those that could be.
use Rattle.std.specs.Prelude.{ℕ, ℤ, pos, ◌+◌, ◌*◌, ◌/◌, ◌%◌, ◌^◌, Bool, ◌&&◌, not, nat_eq, nat_le}
use Rattle.std.specs.Prelude.{nat_lt, int_le, if◌then◌else◌, List, [], ◌∷◌, ◌++◌, length, map}
use Rattle.std.specs.Prelude.{◌≡◌, true, Option, Some, unwrap_or, unsigned_abs, fold}
use Rattle.std.specs.Int.{int_min}
use Rattle.raster_cells.specs.declared.kind.PixelType.{PixelType}
use Rattle.raster_cells.specs.declared.kind.PixelType.TheVariants.{I8, U8, I16, U16, I32, U32}
use Rattle.raster_cells.specs.PixelType.{type_least, type_greatest, value_bytes}
use Rattle.raster_cells.specs.Values.{values_bytes}
use Rattle.bit_stuff.specs.Simple as numbers
use Rattle.micro_block.specs.Fewest.{allowed, first_least}
use Rattle.micro_block.specs.Near.{quantised, stands_for}
use Rattle.lut_stuff.specs.Tables.{distinct_above_0, table_bytes}

-- the least value, and 0 of none
abbrev pub least_value : List ℤ → ℤ
least_value [] = pos 0
least_value (v ∷ values) = fold int_min v values

abbrev pub quantised_values : ℕ → List ℤ → List ℕ
quantised_values step values = map (quantised step (least_value values)) values

-- ---- the offset

abbrev pub holds : PixelType → ℤ → Bool
holds kind v = int_le (type_least kind) v && int_le v (type_greatest kind)

-- the narrowest type that holds the value and that an offset may stand in, behind its code
abbrev pub narrowest : PixelType → ℤ → ℕ × PixelType
narrowest I8 v = (0, I8)
narrowest U8 v = (0, U8)
narrowest I16 v = if holds I8 v then (2, I8) else (if holds U8 v then (1, U8) else (0, I16))
narrowest U16 v = if holds U8 v then (1, U8) else (0, U16)
narrowest I32 v =
    if holds U8 v then (3, U8)
    else (if holds I16 v then (2, I16) else (if holds U16 v then (1, U16) else (0, I32)))
narrowest U32 v = if holds U8 v then (2, U8) else (if holds U16 v then (1, U16) else (0, U32))

abbrev pub narrow_code : PixelType → ℤ → ℕ
narrow_code kind v = (narrowest kind v).0

abbrev pub narrow_type : PixelType → ℤ → PixelType
narrow_type kind v = (narrowest kind v).1

unfoldable pub offset_bytes : PixelType → ℤ → List ℕ
offset_bytes kind v = value_bytes (narrow_type kind v) v

-- ---- the forms

pub data WrittenForm : Type 0 where
  zero : WrittenForm
  constant : WrittenForm
  raw : WrittenForm
  simple : WrittenForm
  table : WrittenForm

abbrev pub tag_byte : ℕ → ℕ → ℕ → ℕ
tag_byte col form code = form + 4 * (col / 8 % 16) + 64 * code

unfoldable pub written_form_bytes : PixelType → ℕ → ℕ → List ℤ → WrittenForm → List ℕ
written_form_bytes kind col step values zero = tag_byte col 2 0 ∷ []
written_form_bytes kind col step values constant =
    tag_byte col 3 (narrow_code kind (least_value values)) ∷ offset_bytes kind (least_value values)
written_form_bytes kind col step values raw = tag_byte col 0 0 ∷ values_bytes kind values
written_form_bytes kind col step values simple =
    tag_byte col 1 (narrow_code kind (least_value values))
    ∷ (offset_bytes kind (least_value values)
    ++ numbers.simple_bytes (quantised_values step values))
written_form_bytes kind col step values table =
    tag_byte col 1 (narrow_code kind (least_value values))
    ∷ (offset_bytes kind (least_value values) ++ table_bytes (quantised_values step values))

-- all are within half a step of the least
abbrev pub is_flat : ℕ → List ℤ → Bool
is_flat step values = nat_eq (numbers.greatest_number (quantised_values step values)) 0

-- no number is too large to be stuffed
abbrev pub is_stuffable : ℕ → List ℤ → Bool
is_stuffable step values = nat_lt (numbers.greatest_number (quantised_values step values)) (2 ^ 30)

abbrev pub forms : ℕ → List ℤ → List (Option WrittenForm)
forms step values =
    allowed (is_flat step values && nat_eq (unsigned_abs (least_value values)) 0) zero
    ∷ allowed (is_flat step values && nat_lt 0 (length values)) constant
    ∷ Some raw
    ∷ allowed (not (is_flat step values) && is_stuffable step values) simple
    ∷ allowed (not (is_flat step values) && (is_stuffable step values
    && nat_le (distinct_above_0 (quantised_values step values)) 254)) table
    ∷ []

-- what is true of the values where the form may be
abbrev pub May : ℕ → List ℤ → WrittenForm → Type 0
May step values zero =
    (is_flat step values && nat_eq (unsigned_abs (least_value values)) 0) ≡ true
May step values constant = (is_flat step values && nat_lt 0 (length values)) ≡ true
May step values raw = Unit {0}
May step values simple = (not (is_flat step values) && is_stuffable step values) ≡ true
May step values table =
    (not (is_flat step values) && (is_stuffable step values
    && nat_le (distinct_above_0 (quantised_values step values)) 254)) ≡ true

-- the first of those with the fewest bytes
unfoldable pub chosen_form : PixelType → ℕ → ℕ → List ℤ → WrittenForm
chosen_form kind col step values =
    unwrap_or (first_least (λ form. length (written_form_bytes kind col step values form))
    (forms step values)) raw

unfoldable pub block_bytes : PixelType → ℕ → ℕ → List ℤ → List ℕ
block_bytes kind col step values =
    written_form_bytes kind col step values (chosen_form kind col step values)

-- ---- what the written block stands for

-- what stands for a value v: v itself in the raw form, else so many steps from the least value
abbrev pub kept_by : WrittenForm → ℕ → ℤ → ℤ → ℤ → ℤ
kept_by raw step top least v = v
kept_by zero step top least v = stands_for step top least (quantised step least v)
kept_by constant step top least v = stands_for step top least (quantised step least v)
kept_by simple step top least v = stands_for step top least (quantised step least v)
kept_by table step top least v = stands_for step top least (quantised step least v)

unfoldable pub kept : PixelType → ℕ → ℕ → ℤ → List ℤ → ℤ → ℤ
kept kind col step top values v =
    kept_by (chosen_form kind col step values) step top (least_value values) v
