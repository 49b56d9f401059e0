-- What a run that ends well leaves, in the words of its command.
use Rattle.std.specs.Prelude.{ℕ, List, length, Bool, IsTrue, Option, Ok}
use Rattle.outside_io.specs.streams.Sink.{Holds}
use Rattle.outside_io.specs.volume.History.{History}
use Rattle.program_ends.specs.Moves.{SinkMove}
use Rattle.lerc_header.specs.declared.header.Version.{Version}
use Rattle.grid_blobs.specs.Blobs.{AreBlobsOf}
use Rattle.level_cache.specs.Calls.{GetsFrom, Lends, PutsIn}
use Rattle.level_cache.specs.Names.{IsName}
use Rattle.level_cache.specs.Places.{Corner, base_of, slot_of}
use Rattle.level_cache.specs.Shelf.{SameBeside}
use Rattle.level_cli.specs.Names.{name_line, put_line}
use Rattle.level_cli.specs.Run.{ShelfMove}

-- The blobs of the input's grid were put at the place: its volume was lent and has gained them in
-- the place's slot, and no other volume has changed. The output has gained the line of that.
pub record PutsTile {V : Type 0} (told : V → Bool) (history : V → History) (faults : V → ℕ)
    (version : Version) (error : ℕ) (place : Corner) (input : Option (List ℕ)) (out : SinkMove)
    (shelf : ShelfMove V) : Type 0 where
  pub tile : List ℕ
  pub blobs : AreBlobsOf version error input tile
  pub line : Holds out.held.old out.held.new (put_line place (length tile))
  pub puts : IsTrue shelf.told → Lends {X = Unit {0}} told history faults
      (λ r old new. PutsIn r (slot_of place) tile old new) (Ok tt)
      (shelf.volumes.old (base_of place)) (shelf.volumes.new (base_of place))
  pub beside : IsTrue shelf.told
      → SameBeside (base_of place) shelf.volumes.old shelf.volumes.new

-- The place's volume was lent and has the tile in the place's slot, no other volume has changed,
-- and the output has gained the tile.
pub record GetsTile {V : Type 0} (told : V → Bool) (history : V → History) (faults : V → ℕ)
    (place : Corner) (out : SinkMove) (shelf : ShelfMove V) : Type 0 where
  pub tile : List ℕ
  pub given : Holds out.held.old out.held.new tile
  pub gets : IsTrue shelf.told → Lends told history faults
      (λ r old new. GetsFrom r (slot_of place) old new) (Ok tile)
      (shelf.volumes.old (base_of place)) (shelf.volumes.new (base_of place))
  pub beside : IsTrue shelf.told
      → SameBeside (base_of place) shelf.volumes.old shelf.volumes.new

-- the output has gained the name of the place's bundle
abbrev pub GaveName : Corner → SinkMove → Type 0
GaveName place out = (name : List ℕ)
    × (IsName (base_of place) name × Holds out.held.old out.held.new (name_line name))
