-- Which bytes are a block of given values.
use Rattle.std.specs.Prelude.{◌≡◌, ℕ, ℤ, pos, ◌/◌, ◌%◌, List, [], ◌∷◌, ◌++◌, length, get_or, map}
use Rattle.std.specs.Prelude.{replicate, Option, Some, None}
use Rattle.raster_cells.specs.declared.kind.PixelType.{PixelType}
use Rattle.raster_cells.specs.declared.kind.PixelType.TheVariants.{I8, U8, I16, U16, I32, U32}
use Rattle.raster_cells.specs.PixelType.{Spells, bytes_of}
use Rattle.raster_cells.specs.Values.{AreValues}
use Rattle.lut_stuff.specs.Lists.{IsList}
use Rattle.micro_block.specs.Frame.{Frame}
use Rattle.micro_block.specs.Near.{stands_for}

-- the types in which an offset may stand, by their codes
abbrev pub offset_types : PixelType → List (Option PixelType)
offset_types I8 = Some I8 ∷ Some I8 ∷ Some I8 ∷ Some I8 ∷ []
offset_types U8 = Some U8 ∷ Some U8 ∷ Some U8 ∷ Some U8 ∷ []
offset_types I16 = Some I16 ∷ Some U8 ∷ Some I8 ∷ []
offset_types U16 = Some U16 ∷ Some U8 ∷ []
offset_types I32 = Some I32 ∷ Some U16 ∷ Some I16 ∷ Some U8 ∷ []
offset_types U32 = Some U32 ∷ Some U16 ∷ Some U8 ∷ []

-- the type that a code names, and none for a code that is refused
abbrev pub offset_type : PixelType → ℕ → Option PixelType
offset_type kind code = get_or (offset_types kind) code None

-- bits 0 and 1 of the tag are the form, bits 2 to 5 the block's column, bits 6 and 7 the code of
-- the offset's type
pub record IsTag (f : Frame) (tag form code : ℕ) : Type 0 where
  pub form_bits : tag % 4 ≡ form
  pub column_bits : tag / 4 % 16 ≡ f.col / 8 % 16
  pub code_bits : tag / 64 ≡ code

-- the bytes are the offset in the type of this code
pub record IsOffset (kind : PixelType) (code : ℕ) (bytes : List ℕ) (offset : ℤ) : Type 0 where
  pub type : PixelType
  pub coded : offset_type kind code ≡ Some type
  pub size : length bytes ≡ bytes_of type
  pub spells : Spells type bytes offset

-- The bytes are a block of the values: in the raw form the values stand as they are; in the stuffed
-- form an offset and a list of numbers, each value being so many steps from the offset, or the top
-- where that is less; in the zero form nothing, each value being 0; in the constant form an offset,
-- each value being it. The code's bits mean nothing in the raw and in the zero form.
pub data IsBlock (f : Frame) (bytes : List ℕ) (values : List ℤ) : Type 0 where
  raw : (tag code : ℕ) (rest : List ℕ) → bytes ≡ tag ∷ rest → IsTag f tag 0 code
      → length values ≡ f.count → AreValues f.kind rest values → IsBlock f bytes values
  stuffed : (tag code : ℕ) (front back : List ℕ) (offset : ℤ) (qs : List ℕ)
      → bytes ≡ tag ∷ (front ++ back) → IsTag f tag 1 code → IsOffset f.kind code front offset
      → length qs ≡ f.count → IsList back qs → values ≡ map (stands_for f.step f.top offset) qs
      → IsBlock f bytes values
  zero : (tag code : ℕ) → bytes ≡ tag ∷ [] → IsTag f tag 2 code
      → values ≡ replicate f.count (pos 0) → IsBlock f bytes values
  constant : (tag code : ℕ) (front : List ℕ) (offset : ℤ) → bytes ≡ tag ∷ front
      → IsTag f tag 3 code → IsOffset f.kind code front offset
      → values ≡ replicate f.count offset → IsBlock f bytes values
