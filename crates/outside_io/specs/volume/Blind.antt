-- A volume that tells nothing of its files.
use Rattle.std.specs.Prelude.{◌≡◌, ℕ, [], IsErr, Result}
use Rattle.outside_io.specs.declared.streams.failed.Failed.{Failed}
use Rattle.outside_io.specs.streams.Faults.{CountsFaults, one_more}
use Rattle.outside_io.specs.volume.Disk.{settled}
use Rattle.outside_io.specs.volume.History.{History, Ticks}

-- all that contracts see of it: its clock and its count of faults
pub record Blind : Type 0 where
  pub moment : ℕ
  pub faults : ℕ

-- as it is made
abbrev pub unused : Blind
unused = record { moment = 0; faults = 0 }

-- what it says of its files is the same at each moment, and says nothing
abbrev pub blind_history : Blind → History
blind_history b = record {
  moment = b.moment;
  disk_at = λ _. record { bundle = settled []; journal = settled [] };
}

-- after one more call, which failed
abbrev pub after_failure : Blind → Blind
after_failure b = record { moment = one_more b.moment; faults = one_more b.faults }

-- A call failed, which took a moment and is counted.
pub record FailsOnce {T : Type 0} (result : Result T Failed) (old new : Blind) : Type 0 where
  pub fails : IsErr result
  pub after : new ≡ after_failure old
  pub time : Ticks (blind_history old) (blind_history new) result
  pub counted : CountsFaults result old.faults new.faults
