-- What a word of a command line stands for. A word is a list of bytes.
use Rattle.std.specs.Prelude.{◌≡◌, ℕ, ◌/◌, ◌%◌, ◌≤◌, List, codes}
use Rattle.outside_io.specs.program.Word.{IsNumber}
use Rattle.raster_cells.specs.declared.kind.PixelType.{PixelType}
use Rattle.raster_cells.specs.declared.kind.PixelType.TheVariants.{I8, U8, I16, U16, I32, U32}
use Rattle.lerc_header.specs.declared.header.Version.{Version}
use Rattle.lerc_header.specs.declared.header.Version.TheVariants.{V3, V4}

-- the word names the version of a blob
abbrev pub IsVersionWord : List ℕ → Version → Type 0
IsVersionWord word V3 = word ≡ codes "3"
IsVersionWord word V4 = word ≡ codes "4"

-- the word is a number within these limits
abbrev pub IsWithin : List ℕ → ℕ → ℕ → ℕ → Type 0
IsWithin word n least greatest = IsNumber word n × (least ≤ n) × (n ≤ greatest)

-- two words are the row and the column of the slot, each at most 127
abbrev pub AreSlotWords : List ℕ → List ℕ → ℕ → Type 0
AreSlotWords row col slot = IsWithin row (slot / 128) 0 127 × IsWithin col (slot % 128) 0 127

-- the name of a pixel type
abbrev pub type_name : PixelType → List ℕ
type_name I8 = codes "i8"
type_name U8 = codes "u8"
type_name I16 = codes "i16"
type_name U16 = codes "u16"
type_name I32 = codes "i32"
type_name U32 = codes "u32"
