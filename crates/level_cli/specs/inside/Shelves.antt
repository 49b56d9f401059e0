-- What a command leaves of the shelf, beside its volumes.
use Rattle.std.specs.Prelude.{◌≡◌, ℕ, Bool, Option, None, Err}
use Rattle.outside_io.specs.streams.Faults.{IsCause}
use Rattle.program_ends.specs.declared.stop.Stop.TheVariants.{Refused, Volume}
use Rattle.level_cli.specs.declared.refusal.Refusal.TheVariants.{ShelfFailed}
use Rattle.level_cli.specs.Names.{End}
use Rattle.level_cli.specs.Run.{IsVolumeCause}

-- No volume is out, it tells its volumes exactly where it told them before, and its counts of
-- faults are as the end says.
pub record KeepsShelf {H X : Type 0} (out : H → Option X) (tells : H → Bool)
    (faults volume_faults : H → ℕ) (end : End) (old new : H) : Type 0 where
  pub none_out : out new ≡ None
  pub same : tells new ≡ tells old
  pub shelf : IsCause (end ≡ Err (Refused ShelfFailed)) (faults old) (faults new)
  pub volume : IsVolumeCause (end ≡ Err Volume) (end ≡ Err (Refused ShelfFailed))
      (volume_faults old) (volume_faults new)
