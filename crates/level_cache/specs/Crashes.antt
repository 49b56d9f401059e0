-- Calls on a level, and crashes and kills between and within them, by what a crash may leave of
-- each volume.
use Rattle.std.specs.Prelude.{◌≡◌, ◌≢◌, ◌⊎◌, ◌==◌, ◌&&◌, ℕ, List, [], ◌∷◌, Bool, true, false, Option, None, Some, IfSome, IsTrue, if◌then◌else◌}
use Rattle.outside_io.specs.volume.Disk.{Disk}
use Rattle.outside_io.specs.volume.History.{History, current}
use Rattle.bundle_store.specs.Images.{EachImage}
use Rattle.bundle_store.specs.Recover.{EachStandsForOneOf}
use Rattle.bundle_store.specs.Starts.{CouldBe, EachIsSound, IsCrashOf, IsKillOf}
use Rattle.bundle_store.specs.Tiles.{TileMap}
use Rattle.level_cache.specs.Places.{Corner, same_corner}
use Rattle.level_cache.specs.Shelf.{empty_disk}
use Rattle.level_cache.specs.Calls.{EachWith, EachWithOrWithout}

-- the disk of each base: an image of a shelf is one image of each
abbrev pub Disks : Type 0
Disks = Corner → Disk

-- the disk of a volume; where there is none, a new one is empty
abbrev pub disk_of : {V : Type 0} → (V → History) → Option V → Disk
disk_of history None = empty_disk
disk_of history (Some v) = current (history v)

abbrev pub disks_of : {V : Type 0} → (V → History) → (Corner → Option V) → Disks
disks_of history volumes base = disk_of history (volumes base)

-- each volume tells its files
abbrev pub Tells : {V : Type 0} → (V → Bool) → (Corner → Option V) → Type 0
Tells told volumes = (base : Corner) → IfSome (volumes base) (λ v. IsTrue (told v))

-- one of them is another
abbrev pub with_disk : Corner → Disk → Disks → Disks
with_disk base d disks other = if same_corner other base then d else disks other

-- what is done to a level: a put, acknowledged or not, a get, a crash of the machine, or a kill of
-- the process alone
pub data Step : Type 0 where
  Put : Corner → ℕ → List ℕ → Bool → Step
  Get : Step
  Crash : Step
  Kill : Step

-- each image stands for a map that one stood for before, with the tile, or also without it where
-- the put was not acknowledged
abbrev pub EachAfterPut : Bool → ℕ → List ℕ → Disk → Disk → Type 0
EachAfterPut true slot tile old new = EachWith slot tile old new
EachAfterPut false slot tile old new = EachWithOrWithout slot tile old new

-- What a step makes of the disks. A put that did not return, since a kill or a crash came within
-- it, is one that is not acknowledged.
abbrev pub IsStep : Step → Disks → Disks → Type 0
IsStep (Put base slot tile acknowledged) old new =
    ((other : Corner) → other ≢ base → new other ≡ old other)
    × (EachIsSound (old base) → EachAfterPut acknowledged slot tile (old base) (new base))
IsStep Get old new = (base : Corner) → EachStandsForOneOf (old base) (new base)
IsStep Crash old new = (base : Corner) → IsCrashOf (old base) (new base)
IsStep Kill old new = (base : Corner) → IsKillOf (old base) (new base)

-- the steps, one after the other, with the disks between them
abbrev pub AreSteps : List (Step × Disks) → Disks → Type 0
AreSteps [] old = Unit {0}
AreSteps (s ∷ ss) old = IsStep s.0 old s.1 × AreSteps ss s.1

-- the disks behind the last
abbrev pub last_disks : List (Step × Disks) → Disks → Disks
last_disks [] old = old
last_disks (s ∷ ss) old = last_disks ss s.1

abbrev pub Either : Bool → Type 0 → Type 0 → Type 0
Either true P Q = P
Either false P Q = Q

-- What a place has behind a put of a tile into it, by what it has behind the tile and behind what
-- it had.
abbrev pub Behind : Bool → Type 0 → Type 0 → Type 0
Behind true New Old = New
Behind false New Old = New ⊎ Old

-- the same of any step
abbrev pub After : Step → Corner → ℕ → Option (List ℕ) → (Option (List ℕ) → Type 0) → Type 0
After (Put base own tile acknowledged) at slot had Rest =
    Either (same_corner at base && (slot == own))
    (Behind acknowledged (Rest (Some tile)) (Rest had))
    (Rest had)
After Get at slot had Rest = Rest had
After Crash at slot had Rest = Rest had
After Kill at slot had Rest = Rest had

-- What a place that had this may have behind the steps: the tile that was put there last and
-- acknowledged, or one that was put there later and was not; where none was acknowledged, also what
-- it had.
abbrev pub LastOrLater : List (Step × Disks) → Corner → ℕ → Option (List ℕ) → Option (List ℕ)
    → Type 0
LastOrLater [] at slot had x = x ≡ had
LastOrLater (s ∷ ss) at slot had x = After s.0 at slot had (λ now. LastOrLater ss at slot now x)

-- Over any steps from disks of which each image is sound, each image is sound, and each place has
-- the last acknowledged tile or a later one that was not acknowledged.
abbrev pub StepsKeepTiles : Type 0
StepsKeepTiles = (first : Disks) (steps : List (Step × Disks))
    → ((base : Corner) → EachIsSound (first base))
    → AreSteps steps first → (base : Corner) → EachImage (λ map. (start : TileMap)
    × (CouldBe (first base) start
    × ((slot : ℕ) → LastOrLater steps base slot (start slot) (map slot))))
    (last_disks steps first base)
