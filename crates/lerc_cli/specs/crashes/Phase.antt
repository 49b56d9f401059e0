-- How far a run comes with its volume, which its end tells, and what the volume is left as then.
use Rattle.std.specs.Prelude.{◌≡◌, ◌≢◌, ◌⊎◌, ℕ, List, [], length, take, IsTrue, Result, Ok, Err}
use Rattle.outside_io.specs.declared.volume.VolFile.TheVariants.{Bundle, Journal}
use Rattle.outside_io.specs.volume.Disk.{Disk, IsQuiet}
use Rattle.outside_io.specs.volume.History.{contents, current}
use Rattle.bundle_store.specs.declared.tile_rec.TileRec.{TileRec}
use Rattle.bundle_store.specs.Build.{last_tiles}
use Rattle.bundle_store.specs.Layout.{layout}
use Rattle.bundle_lines.specs.Puts.{bundle_after_puts}
use Rattle.program_ends.specs.Moves.{VolumeMove}
use Rattle.program_ends.specs.declared.stop.Stop.{Stop}
use Rattle.program_ends.specs.declared.stop.Stop.TheVariants.{Usage, Source, Output, Volume, OutOfMemory, Refused}
use Rattle.opened_bundle.specs.declared.refusal.StoreRefusal.TheVariants.{BadJournal, Full}
use Rattle.opened_bundle.specs.Left.{IsLeft, IsShut}
use Rattle.lerc_cli.specs.declared.words.Command.{Command}
use Rattle.lerc_cli.specs.declared.words.Command.TheVariants.{Encode, Decode, Info, Build, Put, Get, GetRaw, List as ListAll, Check, Recover, Sample}
use Rattle.lerc_cli.specs.declared.refusal.Refusal.{Refusal}
use Rattle.lerc_cli.specs.declared.refusal.Refusal.TheVariants.{Input, Store, Stream}
use Rattle.lerc_cli.specs.inputs.Given.{Given}
use Rattle.lerc_cli.specs.answers.Names.{End}
use Rattle.lerc_cli.specs.answers.Table.{UpdatesOf}

-- The volume is not called; or the bundle is recovered, or refused in that or behind it, and no
-- more is done; or the updates are begun.
pub data Phase : Type 0 where
  NotCalled : Phase
  Recovered : Phase
  Updated : Phase

-- ---- which phase

-- How far a command comes that makes updates, by its end. The whole input is read before the volume
-- is called. Memory may be wanted before that call, or behind the recovery.
abbrev pub UpdatesComeTo : End → Phase → Type 0
UpdatesComeTo (Ok x) phase = phase ≡ Updated
UpdatesComeTo (Err Usage) phase = ⊥
UpdatesComeTo (Err Source) phase = phase ≡ NotCalled
UpdatesComeTo (Err Output) phase = phase ≡ Updated
UpdatesComeTo (Err Volume) phase = phase ≡ Updated
UpdatesComeTo (Err OutOfMemory) phase = (phase ≡ NotCalled) ⊎ (phase ≡ Recovered)
UpdatesComeTo (Err (Refused (Input fault))) phase = phase ≡ NotCalled
UpdatesComeTo (Err (Refused (Stream refusal))) phase = phase ≡ NotCalled
UpdatesComeTo (Err (Refused (Store (Full len)))) phase = phase ≡ Updated
UpdatesComeTo (Err (Refused (Store refusal))) phase = phase ≡ Recovered

-- how far a command comes that ends so
abbrev pub ComesTo : Command → End → Phase → Type 0
ComesTo (Encode version error) end phase = phase ≡ NotCalled
ComesTo Decode end phase = phase ≡ NotCalled
ComesTo Info end phase = phase ≡ NotCalled
ComesTo (Build version error workers) end phase = UpdatesComeTo end phase
ComesTo (Put version error workers) end phase = UpdatesComeTo end phase
ComesTo (Get slot) end phase = phase ≡ Recovered
ComesTo (GetRaw slot) end phase = phase ≡ Recovered
ComesTo ListAll end phase = phase ≡ Recovered
ComesTo Check end phase = phase ≡ Recovered
ComesTo Recover end phase = phase ≡ Recovered
ComesTo (Sample start count) end phase = phase ≡ NotCalled

-- ---- its updates

-- the updates that may be done: those of the input once they are begun, and none before
abbrev pub UpdatesIn : Phase → Command → Given → List TileRec → Type 0
UpdatesIn NotCalled c g updates = updates ≡ []
UpdatesIn Recovered c g updates = updates ≡ []
UpdatesIn Updated c g updates = UpdatesOf c g updates

-- the same of a command that ends so
abbrev pub UpdatesAt : Command → Given → End → List TileRec → Type 0
UpdatesAt c g end updates = (phase : Phase) × (ComesTo c end phase × UpdatesIn phase c g updates)

-- the bundle with these updates done: a build makes one of no updates, too
abbrev pub with_updates : Command → List ℕ → List TileRec → List ℕ
with_updates (Build version error workers) bundle updates = layout (last_tiles updates)
with_updates (Put version error workers) bundle updates = bundle_after_puts bundle updates
with_updates c bundle updates = bundle

-- ---- what the volume is left as

-- What stands behind a stop, unless the volume failed: where a test of the journal failed, it reads
-- as it did, and no bundle was opened.
abbrev pub RestsBehind : Stop Refusal → List ℕ → Disk → Type 0
RestsBehind Volume journal d = Unit {0}
RestsBehind (Refused (Store (BadJournal place found))) journal d =
    IsQuiet d × (d.journal.now ≡ journal)
RestsBehind stop journal d = IsShut d

-- the same behind any end of a command on a bundle
abbrev pub Rests : {X : Type 0} → Result X (Stop Refusal) → List ℕ → Disk → Type 0
Rests (Ok x) journal d = IsShut d
Rests (Err stop) journal d = RestsBehind stop journal d

-- The bundle reads as a recovery leaves it. Nothing is pending, and the journal is not open, unless
-- it was refused.
pub record ReadsRecovered (end : End) (vol : VolumeMove) : Type 0 where
  pub reads : IsLeft (contents Bundle vol.history.old) (contents Journal vol.history.old)
      (contents Bundle vol.history.new)
  pub rests : Rests end (contents Journal vol.history.old) (current vol.history.new)

-- The bundle reads as a recovery leaves it, with those updates of the input done that have a mark.
-- Nothing is pending, and the journal is not open.
pub record ReadsUpdated (c : Command) (g : Given) (marks : List ℕ) (vol : VolumeMove) : Type 0 where
  pub updates : List TileRec
  pub are : UpdatesOf c g updates
  pub bundle : List ℕ
  pub left : IsLeft (contents Bundle vol.history.old) (contents Journal vol.history.old) bundle
  pub reads : contents Bundle vol.history.new
      ≡ with_updates c bundle (take (length marks) updates)
  pub rests : IsShut (current vol.history.new)

-- What the volume is left as, by the phase. What it reads as is said where it tells that, and has
-- not failed.
abbrev pub IsLeftIn : Phase → Command → Given → End → List ℕ → VolumeMove → Type 0
IsLeftIn NotCalled c g end marks vol = vol.same
IsLeftIn Recovered c g end marks vol =
    IsTrue vol.told.old → end ≢ Err Volume → ReadsRecovered end vol
IsLeftIn Updated c g end marks vol =
    IsTrue vol.told.old → end ≢ Err Volume → ReadsUpdated c g marks vol
