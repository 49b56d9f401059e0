-- What a run leaves of the objects that it is lent, whatever it answers.
use Rattle.std.specs.Prelude.{◌≡◌, ◌⊎◌, ℕ, ◌<◌, ◌≤◌, List, [], ◌∷◌, length, slice_get, Some, Result, Ok, Err, IfErr, OnOk, Bool, IsTrue, All, codes}
use Rattle.outside_io.specs.declared.volume.VolFile.TheVariants.{Bundle}
use Rattle.outside_io.specs.program.Line.{GivesLine}
use Rattle.outside_io.specs.streams.Faults.{FailedBetween, IsCause}
use Rattle.outside_io.specs.streams.Sink.{Holds}
use Rattle.outside_io.specs.volume.Disk.{Disk, IsImage}
use Rattle.outside_io.specs.volume.History.{During, History, contents, current}
use Rattle.bundle_index.specs.Sizes.{slot_count}
use Rattle.bundle_store.specs.declared.fault.StoreFault.TheVariants.{Device}
use Rattle.bundle_store.specs.Built.{filled}
use Rattle.bundle_store.specs.Images.{EachImage, HoldsClosed}
use Rattle.bundle_store.specs.Layout.{layout}
use Rattle.bundle_store.specs.Starts.{CouldBe, EachIsSound, KeepsStart}
use Rattle.bundle_store.specs.Tiles.{TileMap, no_tiles}
use Rattle.opened_bundle.specs.Files.{Files}
use Rattle.opened_bundle.specs.Left.{IsShut}
use Rattle.program_ends.specs.Moves.{Change, SinkMove, VolumeMove}
use Rattle.program_ends.specs.Stop.{Gained}
use Rattle.program_ends.specs.declared.stop.Stop.TheVariants.{Output, OutOfMemory}
use Rattle.bundle_pack.specs.declared.fault.PackFault.{PackFault}
use Rattle.bundle_pack.specs.declared.fault.PackFault.TheVariants.{Target}
use Rattle.bundle_pack.specs.declared.packing.PackReport.{PackReport}
use Rattle.bundle_pack.specs.Files.{all_files, files_in}
use Rattle.bundle_pack.specs.Merged.{merged}
use Rattle.bundle_pack.specs.Names.{End, GivesLineOf, line_of, packed_line, status_at, stop_of}
use Rattle.bundle_pack.specs.Opening.{StandsLeft}
use Rattle.bundle_pack.specs.Packing.{HoldsMerged, IsOfSources, OnTarget, OnUnpacked, PackSays, TargetKeeps}
use Rattle.bundle_pack.specs.Recovering.{AtMostRecovers}
use Rattle.bundle_pack.specs.Refusals.{PackFails}
use Rattle.bundle_pack.specs.Sources.{DeviceAt, Each, EachShut, SourceMoves}

-- ---- causes

-- one of a list of volumes failed
abbrev pub SomeFailed : {V : Type 0} → (V → ℕ) → List V → List V → Type 0
SomeFailed {V} faults old new = (i : ℕ) × ((v : V) × ((w : V) × ((slice_get old i ≡ Some v)
    × ((slice_get new i ≡ Some w) × FailedBetween (faults v) (faults w)))))

-- A source's failure, or the target's, is the cause of P, and nothing else is.
pub record IsVolumeCause {V : Type 0} (faults : V → ℕ) (P : Type 0) (old new : List V)
    (target : Change ℕ) : Type 0 where
  pub counts : Each (λ i v w. faults v ≤ faults w) old new
  pub target_counts : target.old ≤ target.new
  pub failed : P → SomeFailed faults old new ⊎ FailedBetween target.old target.new
  pub rose : Each (λ i v w. faults v < faults w → P) old new
  pub target_rose : target.old < target.new → P

-- ---- what is left of each object

-- what packing answered, as the end of a run
abbrev pub EndsAs : Result PackReport PackFault → End → Type 0
EndsAs (Ok report) (Ok u) = Unit {0}
EndsAs (Ok report) (Err Output) = Unit {0}
EndsAs (Ok report) (Err _) = ⊥
EndsAs (Err fault) (Ok u) = ⊥
EndsAs (Err fault) (Err stop) = stop ≡ stop_of fault

-- what the output is to gain
abbrev pub gives : Result PackReport PackFault → List ℕ
gives (Ok report) = packed_line report
gives (Err fault) = []

-- the end that an answer comes to where the output does not fail
abbrev pub end_for : Result PackReport PackFault → End
end_for (Ok report) = Ok tt
end_for (Err fault) = Err (stop_of fault)

-- The output gains the line of what was packed, or where it failed a prefix of that. It is left
-- alone where packing refuses.
pub record OfOutput (answer : Result PackReport PackFault) (end : End) (out : SinkMove) : Type 0
  where
    pub cause : IsCause (end ≡ Err Output) out.faults.old out.faults.new
    pub gave : Gained end out.held (gives answer)
    pub idle : IfErr answer (λ f. out.same)

-- The target, beside sources that tell these files, or do not tell.
pub record OfTarget (all_told : Type 0) (sources : List Files)
    (answer : Result PackReport PackFault) (to : VolumeMove) : Type 0 where
  pub cause : IsCause (answer ≡ Err (Target Device)) to.faults.old to.faults.new
  pub told : to.told.new ≡ to.told.old
  pub untouched : IsOfSources answer → to.same
  pub keeps : all_told → IsTrue to.told.old →
      TargetKeeps sources (files_in to.history.old) to.history.old to.history.new
  pub unpacked : IsTrue to.told.old →
      OnUnpacked answer (AtMostRecovers to.history.old to.history.new)
  pub left : IsTrue to.told.old → OnTarget answer (StandsLeft to.history.old to.history.new)
  pub packed : all_told → IsTrue to.told.old →
      OnOk answer (HoldsMerged sources (current to.history.new))

-- What a run of packing leaves, and what it ends with: packing answers in one way, which says the
-- rest.
pub record OfRun {V : Type 0} (told : V → Bool) (history : V → History) (faults : V → ℕ)
    (old new : List V) (status : ℕ) (to : VolumeMove) (out err : SinkMove) : Type 0 where
  pub answer : Result PackReport PackFault
  pub end : End
  pub ends : EndsAs answer end
  pub status_is : status ≡ status_at end
  pub says : All (λ v. IsTrue (told v)) old → IsTrue to.told.old →
      PackSays (all_files history old) (files_in to.history.old) answer
  pub fails : IfErr answer (λ f. PackFails (length old) f)
  pub sources : Each (λ i v w. SourceMoves told history faults (DeviceAt answer i) v w) old new
  pub shut : EachShut told history answer old new
  pub target : OfTarget (All (λ v. IsTrue (told v)) old) (all_files history old) answer to
  pub output : OfOutput answer end out
  pub line : GivesLineOf end err

-- what a run ends with whose packing answers so, where the output does not fail
pub record EndsWith (answer : Result PackReport PackFault) (status : ℕ) (out err : SinkMove) :
    Type 0 where
  pub status_is : status ≡ status_at (end_for answer)
  pub output : Holds out.held.old out.held.new (gives answer)
  pub line : GivesLineOf (end_for answer) err

-- Memory for the words was refused: the line of that is all that was given.
pub record IsUnread (same : Type 0) (status : ℕ) (to : VolumeMove) (out err : SinkMove) : Type 0
  where
    pub status_is : status ≡ 6
    pub sources : same
    pub target : to.same
    pub output : out.same
    pub line : GivesLine err.held.old err.held.new err.faults.old err.faults.new
        (line_of OutOfMemory)

-- ---- in the words of the tiles

-- The target holds the merged tiles and no slack, and the output has gained how much that is.
abbrev pub PackedAll : List TileMap → Disk → SinkMove → Type 0
PackedAll maps d out = HoldsClosed (layout (merged maps)) d
    × Holds out.held.old out.held.new (packed_line (record {
      tiles = filled (merged maps) slot_count;
      length = length (layout (merged maps));
    }))

-- The target at each moment: each image stands for a map that one stood for at the start, or, where
-- what was read there had no tiles, for those of the sources merged.
abbrev pub KeepsOrPacks : List TileMap → TileMap → History → History → Type 0
KeepsOrPacks maps start old new = During (EachImage (λ map. CouldBe (current old) map
    ⊎ ((start ≡ no_tiles) × (map ≡ merged maps)))) old new

-- each image of each source whose images are sound at the start stands at each moment for a map
-- that one stood for there, whatever was pending
abbrev pub EachKeepsStart : {V : Type 0} → (V → Bool) → (V → History) → List V → List V → Type 0
EachKeepsStart told history old new = Each (λ i v w. IsTrue (told v)
    → EachIsSound (current (history v)) → KeepsStart (history v) (history w)) old new

-- at each moment, whatever a crash leaves, the bundle has its bytes
abbrev pub KeepsBytes : History → History → Type 0
KeepsBytes old new = During (λ d. (b : List ℕ) → IsImage d.bundle b → b ≡ contents Bundle old)
    old new

-- each source does whose journal is not open, and of which nothing is pending
abbrev pub EachKeepsBytes : {V : Type 0} → (V → Bool) → (V → History) → List V → List V → Type 0
EachKeepsBytes told history old new = Each (λ i v w. IsTrue (told v) → IsShut (current (history v))
    → KeepsBytes (history v) (history w)) old new

-- ---- the words

-- the words that a command line asks with: `pack` where there is any behind the program's name
abbrev pub asked_by : List (List ℕ) → List (List ℕ)
asked_by [] = []
asked_by (name ∷ []) = []
asked_by (name ∷ (target ∷ sources)) = codes "pack" ∷ []
