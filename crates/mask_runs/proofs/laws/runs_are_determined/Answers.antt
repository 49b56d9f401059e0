use Rattle.std.proofs.Common.{length, refl}
use Rattle.mask_runs.proofs.Stops.{one_mask, one_fault, runs_or_fault}
use Rattle.mask_runs.proofs.laws.runs_are_determined.Goals as goal

pub returns-clause-one_mask : goal.returns-clause-one_mask
returns-clause-one_mask c = one_mask

pub returns-clause-one_fault : goal.returns-clause-one_fault
returns-clause-one_fault c = one_fault

pub returns-clause-either : goal.returns-clause-either
returns-clause-either c = λ bytes mask place runs fault. runs_or_fault bytes mask (length mask) place runs refl fault
