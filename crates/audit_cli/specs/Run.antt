-- What a run leaves of the objects that it is lent, whatever it answers.
use Rattle.std.specs.Prelude.{◌≡◌, ◌⊎◌, ℕ, ◌+◌, ◌≤◌, List, IsTrue, Ok, Err}
use Rattle.outside_io.specs.declared.volume.VolFile.TheVariants.{Bundle}
use Rattle.outside_io.specs.program.Line.{GivesLine}
use Rattle.outside_io.specs.streams.Faults.{FailedBetween}
use Rattle.outside_io.specs.streams.Sink.{Holds, HoldsPrefix}
use Rattle.outside_io.specs.volume.History.{During, contents, current}
use Rattle.opened_bundle.specs.Files.{files_of}
use Rattle.program_ends.specs.Moves.{SinkMove, VolumeMove}
use Rattle.program_ends.specs.declared.stop.Stop.TheVariants.{Usage, Source, Output, Volume, OutOfMemory, Refused}
use Rattle.tile_audit.specs.declared.told.AuditedTile.{AuditedTile}
use Rattle.tile_audit.specs.Gave.{IsAuditOfAll, IsFrontOf}
use Rattle.tile_audit.specs.Lines.{audit_lines, audit_output}
use Rattle.audit_cli.specs.declared.refusal.Refusal.TheVariants.{Damaged}
use Rattle.audit_cli.specs.declared.command.Command.{Command}
use Rattle.audit_cli.specs.Names.{End, GivesLineOf, audited_end, line_of, status_at}
use Rattle.audit_cli.specs.Opening.{IsAuditable, Refuses, files_at}

-- ---- the volume

-- It was read alone: at each moment the disk is that of the start.
pub record OnlyRead (vol : VolumeMove) : Type 0 where
  pub told : vol.told.new ≡ vol.told.old
  pub counts : vol.faults.old ≤ vol.faults.new
  pub during : IsTrue vol.told.old →
      During (λ d. d ≡ current vol.history.old) vol.history.old vol.history.new

-- the tiles of all slots, or of some of the first, as an audit has them
abbrev pub TellsAll : VolumeMove → List AuditedTile → Type 0
TellsAll vol tiles = IsAuditOfAll vol.told.old (contents Bundle vol.history.old) tiles
    vol.faults.old vol.faults.new

abbrev pub TellsFront : VolumeMove → List AuditedTile → Type 0
TellsFront vol tiles = IsFrontOf vol.told.old (contents Bundle vol.history.old) tiles
    vol.faults.old vol.faults.new

-- ---- ends

-- where the volume tells its files, nothing refuses them
abbrev pub MayAudit : VolumeMove → Type 0
MayAudit vol = IsTrue vol.told.old → IsAuditable (files_at vol.history.old)

-- The bundle was audited: the lines, the totals and the end are those of the tiles.
pub record AuditsAll (c : Command) (end : End) (vol : VolumeMove) (out : SinkMove) : Type 0 where
  pub may : MayAudit vol
  pub tiles : List AuditedTile
  pub tells : TellsAll vol tiles
  pub gave : Holds out.held.old out.held.new (audit_output c.all tiles)
  pub ends : end ≡ audited_end c.strict tiles

-- Memory was refused: the lines of some of the first slots were given.
abbrev pub GaveLines : Command → VolumeMove → SinkMove → Type 0
GaveLines c vol out = (tiles : List AuditedTile)
    × (TellsFront vol tiles × Holds out.held.old out.held.new (audit_lines c.all tiles))

-- The output failed: it has gained a prefix of such lines, or of all lines and the totals.
abbrev pub GavePrefix : Command → VolumeMove → SinkMove → Type 0
GavePrefix c vol out = (tiles : List AuditedTile)
    × ((TellsFront vol tiles × HoldsPrefix out.held.old out.held.new (audit_lines c.all tiles))
    ⊎ (TellsAll vol tiles × HoldsPrefix out.held.old out.held.new (audit_output c.all tiles)))

-- The volume failed before the index was read, by its sixth call at most. Nothing was given.
pub record EndsEarly (vol : VolumeMove) (out : SinkMove) : Type 0 where
  pub failed : FailedBetween vol.faults.old vol.faults.new
  pub early : vol.history.new.moment ≤ vol.history.old.moment + 6
  pub output : out.same

-- what is left behind each end
abbrev pub OfEnd : Command → End → VolumeMove → SinkMove → Type 0
OfEnd c (Ok u) vol out = AuditsAll c (Ok u) vol out
OfEnd c (Err Output) vol out = MayAudit vol × GavePrefix c vol out
OfEnd c (Err Volume) vol out = EndsEarly vol out
OfEnd c (Err OutOfMemory) vol out = MayAudit vol × GaveLines c vol out
OfEnd c (Err (Refused (Damaged damaged tiles))) vol out =
    AuditsAll c (Err (Refused (Damaged damaged tiles))) vol out
OfEnd c (Err (Refused refusal)) vol out =
    Refuses (files_of vol.told.old vol.history.old) refusal × out.same
OfEnd c (Err Usage) vol out = ⊥
OfEnd c (Err Source) vol out = ⊥

-- What a run of the command leaves, and what it ends with: it ends in one way, which says the rest.
pub record OfRun (c : Command) (status : ℕ) (vol : VolumeMove) (out err : SinkMove) : Type 0 where
  pub end : End
  pub status_is : status ≡ status_at end
  pub reads : OnlyRead vol
  pub leaves : OfEnd c end vol out
  pub line : GivesLineOf end err

-- The same of a run that went through: it ends well where no tile is damaged, and else tells how
-- many are.
pub record OfAudit (c : Command) (status : ℕ) (vol : VolumeMove) (out err : SinkMove) : Type 0 where
  pub may : MayAudit vol
  pub tiles : List AuditedTile
  pub tells : TellsAll vol tiles
  pub gave : Holds out.held.old out.held.new (audit_output c.all tiles)
  pub status_is : status ≡ status_at (audited_end c.strict tiles)
  pub line : GivesLineOf (audited_end c.strict tiles) err

-- Memory for the words was refused: the line of that is all that was given.
pub record IsUnread (status : ℕ) (vol : VolumeMove) (out err : SinkMove) : Type 0 where
  pub status_is : status ≡ 6
  pub volume : vol.same
  pub output : out.same
  pub line : GivesLine err.held.old err.held.new err.faults.old err.faults.new
      (line_of OutOfMemory)
