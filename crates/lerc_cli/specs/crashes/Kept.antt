-- What a crash may leave at each moment of a run.
use Rattle.std.specs.Prelude.{◌≡◌, ℕ, List, Bool}
use Rattle.outside_io.specs.declared.volume.VolFile.TheVariants.{Bundle, Journal}
use Rattle.outside_io.specs.volume.Disk.{IsQuiet}
use Rattle.outside_io.specs.volume.History.{During, History, contents, current}
use Rattle.bundle_store.specs.Tiles.{TileMap}
use Rattle.bundle_store.specs.declared.tile_rec.TileRec.{TileRec}
use Rattle.bundle_store.specs.Images.{EachImage}
use Rattle.bundle_store.specs.Starts.{KeepsStart}
use Rattle.bundle_lines.specs.Builds.{BuildKeeps, BuildKeepsFrom}
use Rattle.bundle_lines.specs.Puts.{AreWhole, PutsKeep, PutsKeepFrom}
use Rattle.opened_bundle.specs.Left.{IsLeft, IsReady}
use Rattle.lerc_cli.specs.declared.words.Command.{Command}
use Rattle.lerc_cli.specs.declared.words.Command.TheVariants.{Build, Put}
use Rattle.lerc_cli.specs.inputs.Given.{Given}
use Rattle.lerc_cli.specs.answers.Names.{End}
use Rattle.lerc_cli.specs.crashes.Phase.{UpdatesAt}

-- At each moment each image is sound, and stands for a map that one stood for at the start, while
-- no update has a mark; or else, for `put`, for the tiles that were read at the start with the
-- first few updates done: those with a mark by then, or also the next group, whole. The groups are
-- of up to 64, over the bundle that a recovery leaves; the updates with a mark are whole groups,
-- and the marks of one are equal. For `build` all are done, or none that has a mark by then. For
-- any other command each image stands for a map that one stood for at the start.
abbrev pub KeepsTiles : Command → List TileRec → List ℕ → TileMap → History → History → Type 0
KeepsTiles (Build version error workers) updates marks start old new =
    BuildKeepsFrom start updates marks old new
KeepsTiles (Put version error workers) updates marks start old new = (bundle : List ℕ)
    × (IsLeft (contents Bundle old) (contents Journal old) bundle
    × AreWhole bundle updates marks × PutsKeepFrom bundle start updates marks old new)
KeepsTiles c updates marks start old new = KeepsStart old new

-- What a run promises of kills and crashes: from files of which each image that a crash might leave
-- is sound, whatever is pending, it keeps the tiles at each moment, with the first few of its
-- updates done.
abbrev pub KeepsUpdates : Command → Given → End → List ℕ → Bool → History → History → Type 0
KeepsUpdates c g end marks told old new = (start : TileMap) → IsReady told old start
    → (updates : List TileRec) × (UpdatesAt c g end updates
    × KeepsTiles c updates marks start old new)

-- ---- from rest

-- The same of a start where nothing is pending: each image at each moment stands for the tiles that
-- were read there, with the first few updates done.
abbrev pub KeepsOneMap : Command → List TileRec → List ℕ → TileMap → History → History → Type 0
KeepsOneMap (Build version error workers) updates marks start old new =
    BuildKeeps start updates marks old new
KeepsOneMap (Put version error workers) updates marks start old new = (bundle : List ℕ)
    × (IsLeft (contents Bundle old) (contents Journal old) bundle
    × AreWhole bundle updates marks × PutsKeep bundle start updates marks old new)
KeepsOneMap c updates marks start old new = During (EachImage (λ map. map ≡ start)) old new

-- so what a run keeps is that one map where nothing is pending at its start
abbrev pub RestsKeepOneMap : Type 0
RestsKeepOneMap = (c : Command) (told : Bool) (updates : List TileRec) (marks : List ℕ)
    (start : TileMap) (old new : History) → IsQuiet (current old) → IsReady told old start
    → KeepsTiles c updates marks start old new → KeepsOneMap c updates marks start old new
