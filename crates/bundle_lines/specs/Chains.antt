-- Runs on one bundle, each cut off by a kill or a crash, and begun on what that handed on.
use Rattle.std.specs.Prelude.{◌≡◌, ℕ, ◌≤◌, List, [], ◌∷◌, take}
use Rattle.outside_io.specs.volume.Disk.{Disk}
use Rattle.outside_io.specs.volume.History.{DuringAt, History, current}
use Rattle.bundle_store.specs.declared.tile_rec.TileRec.{TileRec}
use Rattle.bundle_store.specs.Build.{map_after}
use Rattle.bundle_store.specs.Images.{EachImage}
use Rattle.bundle_store.specs.Starts.{CouldBe, Cut, EachIsSound, IsCutOf}
use Rattle.bundle_store.specs.Tiles.{TileMap}
use Rattle.bundle_lines.specs.Puts.{marked}

-- A map that an image at the start stood for, with the first few updates done: at least so many.
pub record IsAfterFirst (first : Disk) (updates : List TileRec) (least : ℕ) (map : TileMap) : Type 0
  where
    pub start : TileMap
    pub could : CouldBe first start
    pub count : ℕ
    pub enough : least ≤ count
    pub map_is : map ≡ map_after start (take count updates)

-- at each moment each image stands for such a map, those with a mark by then being done
abbrev pub KeepsFirst : List TileRec → List ℕ → History → History → Type 0
KeepsFirst updates marks old new = DuringAt (λ t d.
    EachImage (IsAfterFirst (current old) updates (marked marks t)) d) old new

-- A run, and how it was cut off: by what, at which moment, and what that handed on. A run that
-- returned may be cut off at its last moment.
pub record CutRun : Type 0 where
  pub updates : List TileRec
  pub marks : List ℕ
  pub old : History
  pub new : History
  pub moment : ℕ
  pub cut : Cut
  pub left : Disk

-- It began on this disk, and where each image of that was sound it has kept the tiles of each.
pub record IsCutRun (first : Disk) (r : CutRun) : Type 0 where
  pub begins : current r.old ≡ first
  pub kept : EachIsSound first → KeepsFirst r.updates r.marks r.old r.new
  pub from : r.old.moment ≤ r.moment
  pub to : r.moment ≤ r.new.moment
  pub left : IsCutOf r.cut (r.new.disk_at r.moment) r.left

-- each of them, the first on this disk, and each other on what the one before handed on
abbrev pub AreCutRuns : Disk → List CutRun → Type 0
AreCutRuns first [] = Unit {0}
AreCutRuns first (r ∷ rs) = IsCutRun first r × AreCutRuns r.left rs

-- what the last handed on
abbrev pub left_by : Disk → List CutRun → Disk
left_by first [] = first
left_by first (r ∷ rs) = left_by r.left rs

-- The map with the first few updates of each run done, one run after the other: at least those that
-- had a mark by the moment at which it was cut off.
abbrev pub IsAfterRuns : TileMap → List CutRun → TileMap → Type 0
IsAfterRuns start [] map = map ≡ start
IsAfterRuns start (r ∷ rs) map = (count : ℕ) × ((marked r.marks r.moment ≤ count)
    × IsAfterRuns (map_after start (take count r.updates)) rs map)

-- Over any runs from a disk of which each image is sound, each image of the last disk stands for a
-- map that one stood for first, with those updates done.
abbrev pub SurvivesCuts : Type 0
SurvivesCuts = (first : Disk) (runs : List CutRun) → EachIsSound first → AreCutRuns first runs
    → EachImage (λ map. (start : TileMap)
    × (CouldBe first start × IsAfterRuns start runs map)) (left_by first runs)
