-- The lines of an audit. Each ends with one line feed (10); the fields of a tile's line stand
-- between tabs (9), and one that has nothing to say is `-`.
use Rattle.std.specs.Prelude.{ℕ, ◌/◌, ◌%◌, ◌*◌, Bool, true, false, if◌then◌else◌, ◌||◌, ◌&&◌, not, List, [], ◌∷◌, ◌++◌, length, codes, decimal, flat_map, sum_by}
use Rattle.byteorder.specs.Endian.{little_bytes}
use Rattle.hex.specs.Hex.{encode_lower}
use Rattle.command_words.specs.Words.{type_name}
use Rattle.reason_names.specs.Names.{blob_name_of}
use Rattle.lerc_grammar.specs.declared.bands.BandReason.{BandReason}
use Rattle.lerc_grammar.specs.declared.bands.BandReason.TheVariants.{Blob, BadBand}
use Rattle.tile_audit.specs.declared.judged.Judged.{Judged}
use Rattle.tile_audit.specs.declared.judged.Judged.TheVariants.{Whole, Summed, Foreign, Unread, Damaged}
use Rattle.tile_audit.specs.declared.judged.Shape.{Shape}
use Rattle.tile_audit.specs.declared.told.AuditedTile.{AuditedTile}
use Rattle.tile_audit.specs.declared.told.Finding.{Finding}
use Rattle.tile_audit.specs.declared.told.Finding.TheVariants.{Failed, Beyond, Read}
use Rattle.tile_audit.specs.Audit.{count_of, is_damaged, is_foreign, is_summed, is_unread, is_whole}

-- ---- fields, each with the tab in front of it

abbrev pub field : List ℕ → List ℕ
field text = 9 ∷ text

abbrev pub no_field : List ℕ
no_field = field (codes "-")

abbrev pub number_field : ℕ → List ℕ
number_field n = field (decimal n)

-- a checksum: its four bytes in hexadecimal, the lowest first, as they stand in a blob
abbrev pub sum_field : ℕ → List ℕ
sum_field sum = field (encode_lower (little_bytes 4 sum))

-- the name of a reason that a tile is damaged for
abbrev pub reason_name_of : BandReason → List ℕ
reason_name_of (Blob reason) = blob_name_of reason
reason_name_of BadBand = codes "BadBand"

-- type, rows, columns, depth, bands and valid pixels
abbrev pub shape_fields : Shape → List ℕ
shape_fields s = field (type_name s.kind)
    ++ (number_field s.rows ++ (number_field s.cols ++ (number_field s.depth
    ++ (number_field s.bands ++ number_field s.valid))))

abbrev pub no_shape : List ℕ
no_shape = no_field ++ (no_field ++ (no_field ++ (no_field ++ (no_field ++ no_field))))

-- a verdict that says no more
abbrev pub plain_fields : List ℕ → List ℕ
plain_fields verdict = field verdict ++ (no_field ++ (no_field ++ no_shape))

-- a verdict with a reason, and a place or a number
abbrev pub fault_fields : List ℕ → List ℕ → List ℕ → List ℕ
fault_fields verdict reason place = field verdict ++ (field reason ++ (place ++ no_shape))

-- ---- the line of a tile

-- verdict, reason, place and shape, where the entry is good
abbrev pub judged_fields : Judged → List ℕ
judged_fields (Whole s) = field (codes "whole") ++ (no_field ++ (no_field ++ shape_fields s))
judged_fields Summed = plain_fields (codes "summed")
judged_fields Foreign = plain_fields (codes "foreign")
judged_fields Unread = fault_fields (codes "unread") (codes "BadVersion") (number_field 6)
judged_fields (Damaged f) =
    fault_fields (codes "damaged") (reason_name_of f.reason) (number_field f.place)

-- the same where the entry is bad, which is told where nothing is wrong with the bytes
abbrev pub misplaced_fields : Judged → List ℕ
misplaced_fields (Damaged f) = judged_fields (Damaged f)
misplaced_fields _ = fault_fields (codes "damaged") (codes "BadRecord") no_field

-- checksum, verdict, reason, place and shape
abbrev pub finding_fields : Finding → List ℕ
finding_fields Failed =
    no_field ++ fault_fields (codes "damaged") (codes "Failed") no_field
finding_fields (Beyond got) =
    no_field ++ fault_fields (codes "damaged") (codes "Beyond") (number_field got)
finding_fields (Read judged sum true) = sum_field sum ++ misplaced_fields judged
finding_fields (Read judged sum false) = sum_field sum ++ judged_fields judged

-- row, column, offset, size, and what is found
unfoldable pub tile_line : AuditedTile → List ℕ
tile_line t = decimal (t.slot / 128)
    ++ (number_field (t.slot % 128) ++ (number_field t.entry.offset ++ (number_field t.entry.size
    ++ (finding_fields t.finding ++ 10 ∷ []))))

-- ---- all lines

-- whether a tile has a line: each has where that is asked for, else those that are neither whole
-- nor summed
abbrev pub has_line : Bool → Finding → Bool
has_line all finding = all || (not (is_whole finding) && not (is_summed finding))

abbrev pub line_or_none : Bool → AuditedTile → List ℕ
line_or_none all t = if has_line all t.finding then tile_line t else []

-- the lines of tiles
abbrev pub audit_lines : Bool → List AuditedTile → List ℕ
audit_lines all tiles = flat_map (line_or_none all) tiles

-- ---- totals

-- how many bytes the tiles have
abbrev pub byte_count : List AuditedTile → ℕ
byte_count tiles = sum_by (λ t. t.entry.size) tiles

-- how many pixels the bands of a tile that is whole have
abbrev pub pixels_in : Finding → ℕ
pixels_in (Read (Whole s) sum false) = s.rows * s.cols * s.bands
pixels_in _ = 0

abbrev pub pixel_count : List AuditedTile → ℕ
pixel_count tiles = sum_by (λ t. pixels_in t.finding) tiles

-- a name, a blank (32) and a number
abbrev pub total_line : List ℕ → ℕ → List ℕ
total_line name n = name ++ (32 ∷ (decimal n ++ 10 ∷ []))

-- how many tiles and bytes there are, how many tiles of each verdict, and how many pixels of those
-- that are whole
unfoldable pub total_lines : List AuditedTile → List ℕ
total_lines tiles = total_line (codes "tiles") (length tiles)
    ++ (total_line (codes "bytes") (byte_count tiles)
    ++ (total_line (codes "whole") (count_of is_whole tiles)
    ++ (total_line (codes "summed") (count_of is_summed tiles)
    ++ (total_line (codes "foreign") (count_of is_foreign tiles)
    ++ (total_line (codes "unread") (count_of is_unread tiles)
    ++ (total_line (codes "damaged") (count_of (is_damaged false) tiles)
    ++ total_line (codes "pixels") (pixel_count tiles)))))))

-- all that an audit gives
abbrev pub audit_output : Bool → List AuditedTile → List ℕ
audit_output all tiles = audit_lines all tiles ++ total_lines tiles
