-- A build of all updates at once: what is given, what the bundle reads as, the marks, and what a
-- crash leaves at each moment.
use Rattle.std.specs.Prelude.{◌≡◌, ◌⊎◌, ℕ, ◌<◌, ◌≤◌, List, [], length, replicate, take, Option, Result, Ok, Err}
use Rattle.outside_io.specs.streams.Sink.{Holds, HoldsPrefix}
use Rattle.outside_io.specs.volume.History.{History, DuringAt, current}
use Rattle.bundle_index.specs.Sizes.{slot_count}
use Rattle.bundle_store.specs.declared.tile_rec.TileRec.{TileRec}
use Rattle.bundle_store.specs.Build.{last_tiles, map_after}
use Rattle.bundle_store.specs.Built.{filled}
use Rattle.bundle_store.specs.Images.{EachImage}
use Rattle.bundle_store.specs.Layout.{layout}
use Rattle.bundle_store.specs.Tiles.{TileMap}
use Rattle.bundle_lines.specs.declared.stop.BuildStop.{BuildStop}
use Rattle.bundle_lines.specs.declared.stop.BuildStop.TheVariants.{Output, Volume, NotEmpty, OutOfMemory}
use Rattle.bundle_lines.specs.Lines.{built_line}
use Rattle.bundle_lines.specs.Puts.{KeptOr, marked}

abbrev pub BuildEnd : Type 0
BuildEnd = Result (Unit {0}) BuildStop

-- the line of the bundle of each slot's last tile
abbrev pub built_line_of : List TileRec → List ℕ
built_line_of updates =
    built_line (filled (last_tiles updates) slot_count) (length (layout (last_tiles updates)))

-- The line, or where the output failed a prefix of it. By each other end the first type holds: the
-- output is as it was.
abbrev pub BuildGave : BuildEnd → List TileRec → Type 0 → Option (List ℕ) → Option (List ℕ) → Type 0
BuildGave (Ok x) updates same old new = Holds old new (built_line_of updates)
BuildGave (Err Output) updates same old new = HoldsPrefix old new (built_line_of updates)
BuildGave (Err stop) updates same old new = same

-- One mark for each update, all this moment; and none where nothing was built.
abbrev pub BuildMarks : BuildEnd → List TileRec → List ℕ → ℕ → Type 0
BuildMarks (Ok x) updates marks moment = marks ≡ replicate (length updates) moment
BuildMarks (Err Output) updates marks moment = marks ≡ replicate (length updates) moment
BuildMarks (Err stop) updates marks moment = marks ≡ []

-- The bundle was empty, and is now that of each slot's last tile; or it is as it was, and not empty
-- where that is the cause.
abbrev pub BuildReads : BuildEnd → List TileRec → List ℕ → List ℕ → Type 0
BuildReads (Ok x) updates old new = (old ≡ []) × (new ≡ layout (last_tiles updates))
BuildReads (Err Output) updates old new = (old ≡ []) × (new ≡ layout (last_tiles updates))
BuildReads (Err Volume) updates old new = Unit {0}
BuildReads (Err (NotEmpty len)) updates old new = (len ≡ length old) × (new ≡ old)
BuildReads (Err OutOfMemory) updates old new = new ≡ old

-- where nothing was built, and the volume did not fail
abbrev pub OnNoBuild : BuildEnd → Type 0 → Type 0
OnNoBuild (Err (NotEmpty len)) P = P
OnNoBuild (Err OutOfMemory) P = P
OnNoBuild end P = Unit {0}

-- unless the volume failed
abbrev pub OnBuildAnswer : BuildEnd → Type 0 → Type 0
OnBuildAnswer (Ok x) P = P
OnBuildAnswer (Err Output) P = P
OnBuildAnswer (Err Volume) P = Unit {0}
OnBuildAnswer (Err (NotEmpty len)) P = P
OnBuildAnswer (Err OutOfMemory) P = P

-- the kept length is that of a bundle that is not empty, whatever the volume tells
abbrev pub KeepsSomeLength : BuildEnd → Type 0
KeepsSomeLength (Err (NotEmpty len)) = 0 < len
KeepsSomeLength end = Unit {0}

-- The map at the start with all updates done or none: all, where one has a mark by this moment.
pub record IsAllOrNone (start : TileMap) (updates : List TileRec) (marks : List ℕ) (t : ℕ)
    (map : TileMap) : Type 0 where
  pub count : ℕ
  pub least : marked marks t ≤ count
  pub either : (count ≡ 0) ⊎ (count ≡ length updates)
  pub map_is : map ≡ map_after start (take count updates)

-- at each moment each image is sound and stands for such a map
abbrev pub BuildKeeps : TileMap → List TileRec → List ℕ → History → History → Type 0
BuildKeeps start updates marks old new =
    DuringAt (λ t d. EachImage (IsAllOrNone start updates marks t) d) old new

-- the same behind a recovery, whatever is pending as that starts: what was read then stands for
-- this map
abbrev pub BuildKeepsFrom : TileMap → List TileRec → List ℕ → History → History → Type 0
BuildKeepsFrom start updates marks old new = DuringAt (λ t d. EachImage (λ map.
    KeptOr (current old) marks t (IsAllOrNone start updates marks t map) map) d) old new
