-- The lines that tell what blobs say of themselves, fourteen for each.
use Rattle.std.specs.Prelude.{◌≡◌, ℕ, ℤ, List, [], ◌∷◌, ◌++◌, drop, Option, None, Some, codes, decimal}
use Rattle.std.specs.Fmt.{signed_decimal}
use Rattle.std.specs.List.{flat_map}
use Rattle.byteorder.specs.Endian.{little_bytes}
use Rattle.hex.specs.Hex.{encode_lower}
use Rattle.command_words.specs.Words.{type_name}
use Rattle.lerc_header.specs.declared.header.Header.{Header}
use Rattle.lerc_header.specs.Head.{version_number}
use Rattle.lerc_grammar.specs.declared.parts.MaskForm.{MaskForm}
use Rattle.lerc_grammar.specs.declared.parts.MaskForm.TheVariants.{Empty as NoneValid, Full, Runs, Previous}
use Rattle.lerc_grammar.specs.declared.parts.ImageForm.{ImageForm}
use Rattle.lerc_grammar.specs.declared.parts.ImageForm.TheVariants.{Empty, Constant, Ranges, Sweep, Blocks, Delta, Plain}
use Rattle.lerc_grammar.specs.declared.parts.Outline.{Outline}
use Rattle.lerc_grammar.specs.Outlines.{IsOutline}

-- a line: a name, a blank (32), a word and a line feed (10)
unfoldable pub word_line : List ℕ → List ℕ → List ℕ
word_line name word = name ++ (32 ∷ (word ++ 10 ∷ []))

-- the same with a number in decimal digits
abbrev pub number_line : List ℕ → ℕ → List ℕ
number_line name n = word_line name (decimal n)

abbrev pub signed_line : List ℕ → ℤ → List ℕ
signed_line name n = word_line name (signed_decimal n)

-- the line of a checksum: its four bytes in hexadecimal, the lowest first, as they stand in a blob
unfoldable pub checksum_line : ℕ → List ℕ
checksum_line checksum = word_line (codes "checksum") (encode_lower (little_bytes 4 checksum))

-- what the header says of the raster's shape: six lines
abbrev pub shape_lines : Header → List ℕ
shape_lines h =
    number_line (codes "version") (version_number h.version)
    ++ (word_line (codes "type") (type_name h.kind)
    ++ (number_line (codes "rows") h.rows
    ++ (number_line (codes "cols") h.cols
    ++ (number_line (codes "depth") h.depth
    ++ number_line (codes "valid") h.valid))))

-- what it says of the blob and of its values: six lines
abbrev pub value_lines : Header → List ℕ
value_lines h =
    number_line (codes "side") h.side
    ++ (number_line (codes "size") h.size
    ++ (number_line (codes "step") h.step
    ++ (signed_line (codes "least") h.least
    ++ (signed_line (codes "greatest") h.greatest
    ++ checksum_line h.checksum))))

-- the form of the mask, for runs with the number of their bytes
abbrev pub mask_line : MaskForm → List ℕ
mask_line NoneValid = word_line (codes "mask") (codes "empty")
mask_line Full = word_line (codes "mask") (codes "full")
mask_line (Runs at len) = number_line (codes "mask runs") len
mask_line Previous = word_line (codes "mask") (codes "previous")

abbrev pub image_name : ImageForm → List ℕ
image_name Empty = codes "empty"
image_name Constant = codes "constant"
image_name Ranges = codes "ranges"
image_name (Sweep at) = codes "sweep"
image_name (Blocks at) = codes "blocks"
image_name (Delta at) = codes "delta"
image_name (Plain at) = codes "plain"

-- all fourteen
abbrev pub outline_lines : Outline → List ℕ
outline_lines o =
    shape_lines o.header
    ++ (value_lines o.header
    ++ (mask_line o.mask ++ word_line (codes "image") (image_name o.image)))

-- What blobs of bands, one behind the other, say of themselves. Before each is how many pixels are
-- valid in the band before it.
abbrev pub AreOutlines : Option ℕ → List ℕ → List Outline → Type 0
AreOutlines before bytes [] = bytes ≡ []
AreOutlines before bytes (o ∷ more) = IsOutline before bytes o
    × AreOutlines (Some o.header.valid) (drop o.header.size bytes) more

-- the lines are those of what blobs say of themselves, blob by blob
abbrev pub AreLinesOf : List ℕ → List ℕ → Type 0
AreLinesOf blobs lines = (outlines : List Outline)
    × (AreOutlines None blobs outlines × (lines ≡ flat_map outline_lines outlines))
