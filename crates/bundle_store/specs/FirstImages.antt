-- What an image stood for before journals had a second form.
use Rattle.std.specs.Prelude.{ℕ, List}
use Rattle.side_journal.specs.FirstForm.{Said}
use Rattle.side_journal.specs.declared.body.JournalState.{JournalState}
use Rattle.bundle_store.specs.Images.{Shows}
use Rattle.bundle_store.specs.Tiles.{TileMap}

-- The image was sound, and this is the map that it stood for: a journal counted with 96 bytes
-- alone, and said one tile, or a bundle that was being built.
pub record StoodFor (bundle journal : List ℕ) (map : TileMap) : Type 0 where
  pub state : JournalState
  pub said : Said journal state
  pub shows : Shows state bundle map
