-- Counts of faults over several calls, for whoever calls.
use Rattle.std.proofs.Common.{◌≡◌, ℕ, ◌≤◌, Result, subst, arith, inl, inr}
use Rattle.outside_io.specs.declared.streams.failed.Failed.{Failed}
use Rattle.outside_io.specs.streams.Faults.{FailedBetween, CountsFaults}

-- a call behind calls that were Ok
pub CountsFaults_behind : {X : Type 0} (result : Result X Failed) (old mid new : ℕ) → mid ≡ old → CountsFaults result mid new → CountsFaults result old new
CountsFaults_behind result old mid new same counts = subst (λ m. CountsFaults result m new) same counts

-- who failed in a later part of a call failed in the call
pub FailedBetween_wider : (old mid new : ℕ) → old ≤ mid → FailedBetween mid new → FailedBetween old new
FailedBetween_wider old mid new below (inl rose) = inl (omega arith)
FailedBetween_wider old mid new below (inr full) = inr full
