-- What a journal of tiles lays over its bundle, in either form.
use Rattle.std.specs.Prelude.{ℕ, List, [], ◌∷◌}
use Rattle.side_journal.specs.Groups.{NewEntry}
use Rattle.side_journal.specs.declared.body.Body.{Body}
use Rattle.side_journal.specs.declared.body.Body.TheVariants.{Tile, Build, Group}
use Rattle.bundle_store.specs.GroupPuts.{with_entries}

-- the body is of tiles: of one in the first form, of some in the second
abbrev pub IsOfTiles : Body → Type 0
IsOfTiles (Tile slot entry size header) = Unit {0}
IsOfTiles Build = ⊥
IsOfTiles (Group entries size header) = Unit {0}

-- their entries
abbrev pub entries_in : Body → List NewEntry
entries_in (Tile slot entry size header) = (slot, entry) ∷ []
entries_in Build = []
entries_in (Group entries size header) = entries

-- the bundle's new header
abbrev pub header_in : Body → List ℕ
header_in (Tile slot entry size header) = header
header_in Build = []
header_in (Group entries size header) = header

-- the length that the bundle has with them
abbrev pub size_in : Body → ℕ
size_in (Tile slot entry size header) = size
size_in Build = 0
size_in (Group entries size header) = size

-- the place at which the journal has this length
abbrev pub size_place : Body → ℕ
size_place (Tile slot entry size header) = 24
size_place Build = 0
size_place (Group entries size header) = 16

-- the bundle with the header laid over its front, and then each entry over its place
abbrev pub with_body : Body → List ℕ → List ℕ
with_body body bundle = with_entries (header_in body) (entries_in body) bundle
