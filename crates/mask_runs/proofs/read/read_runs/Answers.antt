use Rattle.std.proofs.Common.{◌≡◌, ℕ, ◌+◌, List, length, Result, Ok, Err, refl, sym, ap, ◌∙◌, subst}
use Rattle.mask_runs.specs.declared.read.RunFault.{RunFault}
use Rattle.mask_runs.specs.Fault.{FirstRunFault}
use Rattle.mask_runs.proofs.Stops.{one_mask, one_fault, runs_or_fault}
use Rattle.mask_runs.proofs.Steps.{steps_over, ends, ends_whole, ends_before, stops_here}
use Rattle.mask_runs.proofs.read.read_runs.Goals as goal

-- the answer tells the first fault and no other place
first_fault : (bytes : List ℕ) (n at place : ℕ) → FirstRunFault bytes n at
    → (◌≡◌ {A = Result (Unit {0}) RunFault} (Err (record { at = at })) (Err (record { at = place })) → FirstRunFault bytes n place)
    × (FirstRunFault bytes n place → ◌≡◌ {A = Result (Unit {0}) RunFault} (Err (record { at = at })) (Err (record { at = place })))
first_fault bytes n at place fault =
    ((λ e. let same : at ≡ place = ap (λ (r : Result (Unit {0}) RunFault). elim r as (λ _. ℕ) [ Ok _ ↦ at | Err f ↦ f.at ]) e in subst (FirstRunFault bytes n) same fault), λ other. ap (λ p. Err (record { at = p })) (one_fault bytes n at place fault other))

pub loop-taken-preserved : goal.loop-taken-preserved
loop-taken-preserved c =
    let i = c.loop-taken.invariant in
    let step = steps_over c.args.bytes.now c.loop-taken.out c.read_run.new.rest c.loop-taken.at c.loop-taken.filled c.in-Taken.taken c.in-Taken.given i.within i.room i.joined c.in-Taken.ensures in
    record { within = step.within; room = step.room; joined = step.joined }

pub returns-then-at-bytes-clause-ok : goal.returns-then-at-bytes-clause-ok
returns-then-at-bytes-clause-ok c =
    let i = c.loop-taken.invariant in
    let end = ends c.args.bytes.now c.loop-taken.out c.read_run.new.rest c.loop-taken.at c.loop-taken.filled i.within i.room i.joined c.in-End.ensures in
    ends_whole c.args.bytes.now _ _ c.loop-taken.at end c.if-at-bytes.true

pub returns-then-at-bytes-clause-complete : goal.returns-then-at-bytes-clause-complete
returns-then-at-bytes-clause-complete c =
    let i = c.loop-taken.invariant in
    let end = ends c.args.bytes.now c.loop-taken.out c.read_run.new.rest c.loop-taken.at c.loop-taken.filled i.within i.room i.joined c.in-End.ensures in
    λ mask size runs. (refl, one_mask c.args.bytes.now _ mask (ends_whole c.args.bytes.now _ _ c.loop-taken.at end c.if-at-bytes.true) runs)

pub returns-then-at-bytes-clause-fault : goal.returns-then-at-bytes-clause-fault
returns-then-at-bytes-clause-fault c =
    let i = c.loop-taken.invariant in
    let end = ends c.args.bytes.now c.loop-taken.out c.read_run.new.rest c.loop-taken.at c.loop-taken.filled i.within i.room i.joined c.in-End.ensures in
    λ place. ((λ e. absurd (cc)), λ fault. absurd (runs_or_fault c.args.bytes.now _ (length c.args.out.now) place (ends_whole c.args.bytes.now _ _ c.loop-taken.at end c.if-at-bytes.true) (end.full ∙ c.loop-taken.auto.out) fault))

pub returns-else-at-bytes-clause-complete : goal.returns-else-at-bytes-clause-complete
returns-else-at-bytes-clause-complete c =
    let i = c.loop-taken.invariant in
    let end = ends c.args.bytes.now c.loop-taken.out c.read_run.new.rest c.loop-taken.at c.loop-taken.filled i.within i.room i.joined c.in-End.ensures in
    let fault = ends_before c.args.bytes.now _ _ c.loop-taken.at end c.if-at-bytes.false in
    λ mask size runs. absurd (runs_or_fault c.args.bytes.now mask _ _ runs (size ∙ sym c.loop-taken.auto.out) fault)

pub returns-else-at-bytes-clause-fault : goal.returns-else-at-bytes-clause-fault
returns-else-at-bytes-clause-fault c =
    let i = c.loop-taken.invariant in
    let end = ends c.args.bytes.now c.loop-taken.out c.read_run.new.rest c.loop-taken.at c.loop-taken.filled i.within i.room i.joined c.in-End.ensures in
    let fault = subst (λ n. FirstRunFault c.args.bytes.now n (c.loop-taken.at + 2)) c.loop-taken.auto.out (ends_before c.args.bytes.now _ _ c.loop-taken.at end c.if-at-bytes.false) in
    λ place. first_fault c.args.bytes.now (length c.args.out.now) (c.loop-taken.at + 2) place fault

pub returns-in-Fault-clause-complete : goal.returns-in-Fault-clause-complete
returns-in-Fault-clause-complete c =
    let i = c.loop-taken.invariant in
    let fault = stops_here c.args.bytes.now c.loop-taken.out c.loop-taken.at c.loop-taken.filled i.within i.room i.joined c.in-Fault.ensures in
    λ mask size runs. absurd (runs_or_fault c.args.bytes.now mask _ _ runs (size ∙ sym c.loop-taken.auto.out) fault)

pub returns-in-Fault-clause-fault : goal.returns-in-Fault-clause-fault
returns-in-Fault-clause-fault c =
    let i = c.loop-taken.invariant in
    let fault = subst (λ n. FirstRunFault c.args.bytes.now n c.loop-taken.at) c.loop-taken.auto.out (stops_here c.args.bytes.now c.loop-taken.out c.loop-taken.at c.loop-taken.filled i.within i.room i.joined c.in-Fault.ensures) in
    λ place. first_fault c.args.bytes.now (length c.args.out.now) c.loop-taken.at place fault
