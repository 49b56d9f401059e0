-- A block by its tag, and what the steps of reading it leave.
use Rattle.std.specs.Prelude.{◌≡◌, ℕ, ℤ, pos, ◌+◌, ◌/◌, ◌%◌, ◌≤◌, List, [], ◌++◌, length, map}
use Rattle.std.specs.Prelude.{replicate, take, drop}
use Rattle.raster_cells.specs.declared.kind.PixelType.{PixelType}
use Rattle.raster_cells.specs.PixelType.{InRange, Spells, bytes_of}
use Rattle.raster_cells.specs.Values.{AreValues}
use Rattle.lane_kernels.specs.Kernels.{IsStepSize}
use Rattle.lut_stuff.specs.Lists.{IsListOf}
use Rattle.micro_block.specs.declared.context.SteppedBlock.{SteppedBlock}
use Rattle.micro_block.specs.Block.{IsOffset}
use Rattle.micro_block.specs.Frame.{Frame}
use Rattle.micro_block.specs.Near.{stands_for}

-- what follows a tag
pub data IsTagged (f : Frame) (tag : ℕ) (rest : List ℕ) (values : List ℤ) : Type 0 where
  as_raw : tag % 4 ≡ 0 → length values ≡ f.count → AreValues f.kind rest values
      → IsTagged f tag rest values
  as_stuffed : tag % 4 ≡ 1 → (front back : List ℕ) (offset : ℤ) (qs : List ℕ) → rest ≡ front ++ back
      → IsOffset f.kind (tag / 64) front offset → IsListOf f.count back qs
      → values ≡ map (stands_for f.step f.top offset) qs → IsTagged f tag rest values
  as_zero : tag % 4 ≡ 2 → rest ≡ [] → values ≡ replicate f.count (pos 0)
      → IsTagged f tag rest values
  as_constant : tag % 4 ≡ 3 → (offset : ℤ) → IsOffset f.kind (tag / 64) rest offset
      → values ≡ replicate f.count offset → IsTagged f tag rest values

-- the offset and the top are values of the type, and the step is from 1 to 2 ^ 33
abbrev pub FitSteps : PixelType → SteppedBlock → Type 0
FitSteps kind s = (InRange kind s.offset × InRange kind s.top) × IsStepSize s.step

-- each value of the second type is one of the first
abbrev pub LiesIn : PixelType → PixelType → Type 0
LiesIn kind type = (v : ℤ) → InRange type v → InRange kind v

-- the first bytes are an offset in this type, and each value is it
pub record HasConstant (type : PixelType) (bytes : List ℕ) (used count : ℕ) (values : List ℤ)
    : Type 0 where
  pub size : used ≡ bytes_of type
  pub room : used ≤ length bytes
  pub offset : ℤ
  pub spells : Spells type bytes offset
  pub same : values ≡ replicate count offset

-- the first bytes are a list of so many numbers of steps, and the values are that far from the
-- offset
pub record HasSteps (f : Frame) (offset : ℤ) (bytes : List ℕ) (used : ℕ) (values : List ℤ)
    : Type 0 where
  pub room : used ≤ length bytes
  pub qs : List ℕ
  pub list : IsListOf f.count (take used bytes) qs
  pub values_are : values ≡ map (stands_for f.step f.top offset) qs

-- the first bytes are an offset in this type and such a list
pub record HasStuffed (f : Frame) (type : PixelType) (bytes : List ℕ) (used : ℕ) (values : List ℤ)
    : Type 0 where
  pub room : bytes_of type ≤ length bytes
  pub offset : ℤ
  pub spells : Spells type bytes offset
  pub taken : ℕ
  pub size : used ≡ bytes_of type + taken
  pub steps : HasSteps f offset (drop (bytes_of type) bytes) taken values

-- the first bytes follow the tag, which is counted with them
pub record HasTagged (f : Frame) (tag : ℕ) (bytes : List ℕ) (used : ℕ) (values : List ℤ)
    : Type 0 where
  pub taken : ℕ
  pub size : used ≡ 1 + taken
  pub room : taken ≤ length bytes
  pub tagged : IsTagged f tag (take taken bytes) values
