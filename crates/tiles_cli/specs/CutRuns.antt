-- Imports that kills and crashes cut off, each begun on what was handed on of the one before.
use Rattle.std.specs.Prelude.{◌≡◌, ℕ, ◌≤◌, List, [], ◌∷◌, take, Bool, IsTrue, Option}
use Rattle.outside_io.specs.volume.Disk.{Disk}
use Rattle.outside_io.specs.volume.History.{History, IsPresent, current}
use Rattle.bundle_store.specs.declared.tile_rec.TileRec.{TileRec}
use Rattle.bundle_store.specs.Build.{map_after}
use Rattle.bundle_store.specs.Images.{EachImage}
use Rattle.bundle_store.specs.Starts.{CouldBe, Cut, EachIsSound, IsCutOf}
use Rattle.bundle_store.specs.Tiles.{TileMap}
use Rattle.bundle_lines.specs.Puts.{marked}
use Rattle.bundle_tiles.specs.Imported.{StartsWith}
use Rattle.opened_bundle.specs.Left.{IsReady}
use Rattle.tiles_cli.specs.Run.{KeepsImport}

-- An import of these bytes, with its volume's history, and how it was cut off: by what, at which
-- moment, and what that handed on of both files. One that returned may be cut off at its last
-- moment.
pub record CutImport : Type 0 where
  pub bytes : List ℕ
  pub told : Bool
  pub old : History
  pub new : History
  pub held_old : Option (List ℕ)
  pub held_new : Option (List ℕ)
  pub moment : ℕ
  pub cut : Cut
  pub left : Disk

-- It began on this disk, of which what is read is an image, as of each volume that tells its files,
-- and has kept its tiles, which `run_tiles` promises. It was cut off at a moment from its start to
-- its return.
pub record IsCutImport (first : Disk) (r : CutImport) : Type 0 where
  pub tells : IsTrue r.told
  pub begins : current r.old ≡ first
  pub present : IsPresent r.old
  pub kept : (start : TileMap) → IsReady r.told r.old start
      → KeepsImport r.bytes start r.old r.new r.held_old r.held_new
  pub from : r.old.moment ≤ r.moment
  pub to : r.moment ≤ r.new.moment
  pub left : IsCutOf r.cut (r.new.disk_at r.moment) r.left

-- the first began on this disk, and each other one on what was handed on of the one before
abbrev pub AreCutImports : Disk → List CutImport → Type 0
AreCutImports first [] = Unit {0}
AreCutImports first (r ∷ rs) = IsCutImport first r × AreCutImports r.left rs

-- what was handed on of the last
abbrev pub left_by : Disk → List CutImport → Disk
left_by first [] = first
left_by first (r ∷ rs) = left_by r.left rs

-- The map at the start with the first few tiles of each import put, one import after the other: at
-- least those that had a mark by the moment at which it was cut off.
abbrev pub IsAfterImports : TileMap → List CutImport → TileMap → Type 0
IsAfterImports start [] map = map ≡ start
IsAfterImports start (r ∷ rs) map = (tiles : List TileRec) × ((marks : List ℕ)
    × (StartsWith r.bytes tiles × ((count : ℕ) × ((marked marks r.moment ≤ count)
    × IsAfterImports (map_after start (take count tiles)) rs map))))

-- However many imports were cut off, by kills and crashes in any order: where each image of the
-- first disk is sound, each of the last stands for such a map, from one that an image stood for
-- first.
abbrev pub SurvivesCuts : Type 0
SurvivesCuts = (first : Disk) (imports : List CutImport) → EachIsSound first
    → AreCutImports first imports → EachImage (λ map. (start : TileMap)
    × (CouldBe first start × IsAfterImports start imports map)) (left_by first imports)
