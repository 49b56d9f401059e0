-- The lines that are given of a bundle. Each ends with one line feed (10).
use Rattle.std.specs.Prelude.{ℕ, zero, suc, ◌/◌, ◌%◌, ◌==◌, if◌then◌else◌, List, [], ◌∷◌, ◌++◌, length, codes, decimal, Option, Some, None}
use Rattle.std.specs.List.{flat_map}
use Rattle.outside_io.specs.program.Line.{and_number}
use Rattle.bundle_index.specs.Entry.{entry_at}
use Rattle.bundle_index.specs.declared.entry.Entry.{Entry}
use Rattle.bundle_store.specs.declared.check.CheckReport.{CheckReport}
use Rattle.bundle_store.specs.declared.recovery.Recovery.{Recovery}
use Rattle.bundle_store.specs.declared.recovery.Recovery.TheVariants.{Closed, Applied, Emptied}
use Rattle.bundle_store.specs.declared.tile_rec.TileRec.{TileRec}

-- a name, its numbers, and a line feed
abbrev pub named_line : List ℕ → List ℕ → List ℕ
named_line name numbers = name ++ (numbers ++ 10 ∷ [])

-- a slot's row and its column
abbrev pub slot_text : ℕ → List ℕ
slot_text slot = and_number (slot / 128) ++ and_number (slot % 128)

-- a tile of so many bytes was put into the slot
unfoldable pub put_line_of : ℕ → ℕ → List ℕ
put_line_of slot size = named_line (codes "put") (slot_text slot ++ and_number size)

abbrev pub put_line : TileRec → List ℕ
put_line tile = put_line_of tile.slot (length tile.bytes)

-- tiles were put in this order
abbrev pub put_lines : List TileRec → List ℕ
put_lines tiles = flat_map put_line tiles

-- a bundle of so many tiles and bytes was built
unfoldable pub built_line : ℕ → ℕ → List ℕ
built_line tiles len = named_line (codes "built") (and_number tiles ++ and_number len)

-- the slot's entry; a slot without a tile has no line
unfoldable pub list_line : ℕ → Entry → List ℕ
list_line slot e =
    if e.size == 0 then []
    else named_line (decimal (slot / 128)) (and_number (slot % 128)
    ++ (and_number e.offset ++ and_number e.size))

-- the lines of the slots below a number, in their order
unfoldable pub listing : List ℕ → ℕ → List ℕ
listing bundle zero = []
listing bundle (suc slot) = listing bundle slot ++ list_line slot (entry_at bundle slot)

abbrev pub first_line : Option ℕ → List ℕ
first_line None = []
first_line (Some slot) = named_line (codes "first") (slot_text slot)

-- what a check found
unfoldable pub check_lines : CheckReport → List ℕ
check_lines report = named_line (codes "tiles") (and_number report.tiles)
    ++ (named_line (codes "bytes") (and_number report.bytes)
    ++ (named_line (codes "bad") (and_number report.bad) ++ first_line report.first_bad))

-- what a recovery did
unfoldable pub recovery_line : Recovery → List ℕ
recovery_line Closed = named_line (codes "closed") []
recovery_line Applied = named_line (codes "applied") []
recovery_line Emptied = named_line (codes "emptied") []
