-- What is promised of the definitions.
use Rattle.std.specs.Prelude.{◌≡◌, ◌⊎◌, ℕ, List}
use Rattle.raster_values.specs.Raster.{IsRaster}
use Rattle.ascii_grid.specs.declared.grid.AsciiGrid.{AsciiGrid}
use Rattle.raster_cells.specs.declared.kind.PixelType.{PixelType}
use Rattle.ascii_grid.specs.Tokens.{AreTokens, TokenAt}
use Rattle.first_fault.specs.Parts.{AreBytes, HasFault, IsSingle}
use Rattle.ascii_grid.specs.declared.fault.AsciiReason.{AsciiReason}
use Rattle.ascii_grid.specs.Text.{AsciiFaults, IsAscii}
use Rattle.ascii_grid.specs.Canon.{IsLawful, canon}
use Rattle.ascii_grid.specs.Lga.{IsLga, lga_faults, lga_of}

-- What is written of a grid is a text of it.
abbrev pub CanonStands : Type 0
CanonStands = (g : AsciiGrid) → IsLawful g → IsRaster g.raster → IsAscii (canon g) g.raster.kind g

-- A text has one list of tokens, and one grid at most.
abbrev pub OneTokens : Type 0
OneTokens = (from : ℕ) (text : List ℕ) (ts us : List TokenAt) → AreTokens from text ts →
    AreTokens from text us → ts ≡ us

abbrev pub OneGrid : Type 0
OneGrid = (text : List ℕ) (kind : PixelType) (g h : AsciiGrid) → IsAscii text kind g →
    IsAscii text kind h → g ≡ h

-- A text has one first fault at most, and none where it is that of a grid.
abbrev pub OneFault : Type 0
OneFault = (kind : PixelType) (text : List ℕ) → IsSingle (AsciiFaults kind text)

abbrev pub GridHasNoFault : Type 0
GridHasNoFault = (kind : PixelType) (text : List ℕ) (g : AsciiGrid) (place : ℕ)
    (reason : AsciiReason) → IsAscii text kind g → AsciiFaults kind text place reason → ⊥

-- A text is that of a grid, or it has a first fault.
abbrev pub IsEither : Type 0
IsEither = (kind : PixelType) (text : List ℕ) →
    ((g : AsciiGrid) × IsAscii text kind g) ⊎ HasFault (AsciiFaults kind text)

-- What is written of a grid is its `LGA1`.
abbrev pub LgaStands : Type 0
LgaStands = (g : AsciiGrid) → IsLawful g → IsRaster g.raster → IsLga (lga_of g) g

-- Bytes are the `LGA1` of one grid at most, which is lawful.
abbrev pub OneLga : Type 0
OneLga = (bytes : List ℕ) (g h : AsciiGrid) → IsLga bytes g → IsLga bytes h → g ≡ h

abbrev pub LgaIsLawful : Type 0
LgaIsLawful = (bytes : List ℕ) (g : AsciiGrid) → IsLga bytes g → IsLawful g

-- Bytes have one first fault at most, and none where they are an `LGA1`.
abbrev pub OneLgaFault : Type 0
OneLgaFault = (bytes : List ℕ) → IsSingle (lga_faults bytes)

abbrev pub LgaHasNoFault : Type 0
LgaHasNoFault = (bytes : List ℕ) (g : AsciiGrid) (place : ℕ) (reason : AsciiReason) →
    IsLga bytes g → lga_faults bytes place reason → ⊥

-- Bytes are an `LGA1`, or they have a first fault.
abbrev pub IsEitherLga : Type 0
IsEitherLga = (bytes : List ℕ) → AreBytes bytes →
    ((g : AsciiGrid) × IsLga bytes g) ⊎ HasFault (lga_faults bytes)
