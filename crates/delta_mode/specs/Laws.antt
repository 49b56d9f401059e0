-- The laws of symbols.
use Rattle.std.specs.Prelude.{ℕ, ◌≡◌, ◌*◌, ◌<◌, List, length, All}
use Rattle.raster_values.specs.Raster.{Pixels, IsRaster, valid_count}
use Rattle.raster_values.specs.Block.{SameMask}
use Rattle.raster_values.specs.Flat.{value_in}
use Rattle.delta_mode.specs.Symbols.{IsByteType}
use Rattle.delta_mode.specs.Deltas.{AreDeltas, ArePlain, TakesDeltas, TakesPlain}

-- the symbols of a depth have one list of values
abbrev pub OneDepth : Type 0
OneDepth = (r s : Pixels) (d : ℕ) (symbols : List ℕ) → IsRaster r → IsRaster s → IsByteType r.kind
    → SameMask r s → d < r.depth → AreDeltas r d symbols → AreDeltas s d symbols
    → (k : ℕ) → k < r.rows * r.cols → value_in r d k ≡ value_in s d k

-- the symbols of all depths have one raster of this type, shape and mask
abbrev pub OneRaster : Type 0
OneRaster = (r s : Pixels) (symbols : ℕ → List ℕ) → IsRaster r → IsRaster s → IsByteType r.kind
    → SameMask r s → ((d : ℕ) → d < r.depth → AreDeltas r d (symbols d))
    → ((d : ℕ) → d < r.depth → AreDeltas s d (symbols d)) → r ≡ s

-- and so have plain symbols
abbrev pub OnePlain : Type 0
OnePlain = (r s : Pixels) (symbols : List ℕ) → IsRaster r → IsRaster s → IsByteType r.kind
    → SameMask r s → ArePlain r symbols → ArePlain s symbols → r ≡ s

-- ---- rasters there are

-- so many symbols, each of them a byte
abbrev pub AreSymbols : ℕ → List ℕ → Type 0
AreSymbols count symbols = (length symbols ≡ count) × All (λ symbol. symbol < 256) symbols

-- the valid pixels of a raster of bytes may be given any symbols at a depth
abbrev pub DepthIsThere : Type 0
DepthIsThere = (r : Pixels) (d : ℕ) (symbols : List ℕ) → IsRaster r → IsByteType r.kind
    → d < r.depth
    → AreSymbols (valid_count r) symbols → (s : Pixels) × (IsRaster s × TakesDeltas r s d symbols)

-- and at all depths
abbrev pub RasterIsThere : Type 0
RasterIsThere = (r : Pixels) (symbols : ℕ → List ℕ) → IsRaster r → IsByteType r.kind
    → ((d : ℕ) → d < r.depth → AreSymbols (valid_count r) (symbols d))
    → (s : Pixels) × (IsRaster s × (SameMask r s
    × ((d : ℕ) → d < r.depth → AreDeltas s d (symbols d))))

-- and any plain symbols
abbrev pub PlainIsThere : Type 0
PlainIsThere = (r : Pixels) (symbols : List ℕ) → IsRaster r → IsByteType r.kind
    → AreSymbols (valid_count r * r.depth) symbols
    → (s : Pixels) × (IsRaster s × TakesPlain r s symbols)

-- no other lists are symbols
abbrev pub DeltasAreSymbols : Type 0
DeltasAreSymbols = (r : Pixels) (d : ℕ) (symbols : List ℕ) → IsRaster r → AreDeltas r d symbols
    → AreSymbols (valid_count r) symbols

abbrev pub PlainAreSymbols : Type 0
PlainAreSymbols = (r : Pixels) (symbols : List ℕ) → IsRaster r → ArePlain r symbols
    → AreSymbols (valid_count r * r.depth) symbols
