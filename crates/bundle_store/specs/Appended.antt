-- A bundle after a put.
use Rattle.std.specs.Prelude.{ℕ, ◌+◌, ◌==◌, List, ◌++◌, length, take, if◌then◌else◌}
use Rattle.outside_io.specs.volume.Disk.{laid}
use Rattle.bundle_index.specs.Entry.{entry_at, entry_bytes, place_of}
use Rattle.bundle_index.specs.Header.{header_after}
use Rattle.bundle_index.specs.declared.entry.Entry.{Entry}
use Rattle.bundle_store.specs.Layout.{layout, record_bytes}
use Rattle.bundle_store.specs.Tiles.{no_tiles}

-- the bundle with a header laid over its front and an entry over its place
abbrev pub with_entry : List ℕ → ℕ → Entry → List ℕ → List ℕ
with_entry header slot entry bundle = laid (place_of slot) (entry_bytes entry)
    (laid 0 header bundle)

-- the entry of a tile whose record stands at the bundle's end
abbrev pub put_entry : List ℕ → List ℕ → Entry
put_entry bundle tile = record { offset = length bundle + 4; size = length tile }

-- the header with that tile
abbrev pub put_header : List ℕ → ℕ → List ℕ → List ℕ
put_header bundle slot tile = header_after (take 64 bundle) (entry_at bundle slot).size
    (length tile) (length bundle + 4 + length tile)

-- the bundle, the tile's size and the tile, with the new header and the new entry laid over
unfoldable pub bundle_with_tile : List ℕ → ℕ → List ℕ → List ℕ
bundle_with_tile bundle slot tile = with_entry (put_header bundle slot tile) slot
    (put_entry bundle tile) (bundle ++ record_bytes tile)

-- the same; an empty file is first made a bundle of no tiles
abbrev pub bundle_after_put : List ℕ → ℕ → List ℕ → List ℕ
bundle_after_put bundle slot tile = if length bundle == 0 then bundle_with_tile
    (layout no_tiles) slot tile else bundle_with_tile bundle slot tile
