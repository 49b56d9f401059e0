-- What a status tells of an end, and the other way round.
use Rattle.std.proofs.Common.{◌≡◌, ℕ, ◌<◌, ◌⊎◌, List, Ok, Err, refl, sym, ap, subst, ◌∙◌, inl, inr, arith}
use Rattle.outside_io.specs.program.Line.{GivesLine}
use Rattle.outside_io.specs.streams.Faults.{IsCause}
use Rattle.program_ends.specs.Moves.{SinkMove}
use Rattle.program_ends.specs.Stop.{End, GivesLineOf, IsRefusalStatus, line_by, status_at, status_by}
use Rattle.program_ends.specs.declared.stop.Stop.{Stop}
use Rattle.program_ends.specs.declared.stop.Stop.TheVariants.{Usage, Source, Output, Volume, OutOfMemory, Refused}

-- a cause under another name
pub caused : (P Q : Type 0) (old new : ℕ) → (P → Q) → (Q → P) → IsCause P old new → IsCause Q old new
caused P Q old new to from c = record { counts = c.counts; failed = λ q. c.failed (from q); rose = λ rose. to (c.rose rose) }

module _ {R : Type 0} (status : R → ℕ) (own : (r : R) → IsRefusalStatus (status r)) where
  -- a reason's status is neither 0 nor that of another stop
  other_status : (r : R) (n : ℕ) → status r ≡ n → (n ≡ 2 → ⊥) → (6 < n → ⊥) → ⊥
  other_status r n is two more = elim (own r) [ inl same ↦ two (sym is ∙ same) | inr above ↦ more (subst (λ (k : ℕ). 6 < k) is above) ]

  pub ok_at : (end : End R) → status_at status end ≡ 0 → end ≡ Ok tt
  ok_at (Ok x) is = refl
  ok_at (Err Usage) is = absurd (omega arith)
  ok_at (Err Source) is = absurd (omega arith)
  ok_at (Err Output) is = absurd (omega arith)
  ok_at (Err Volume) is = absurd (omega arith)
  ok_at (Err OutOfMemory) is = absurd (omega arith)
  ok_at (Err (Refused r)) is = absurd (other_status r 0 is (λ e. omega arith) (λ e. omega arith))

  pub usage_at : (end : End R) → status_at status end ≡ 1 → end ≡ Err Usage
  usage_at (Ok x) is = absurd (omega arith)
  usage_at (Err Usage) is = refl
  usage_at (Err Source) is = absurd (omega arith)
  usage_at (Err Output) is = absurd (omega arith)
  usage_at (Err Volume) is = absurd (omega arith)
  usage_at (Err OutOfMemory) is = absurd (omega arith)
  usage_at (Err (Refused r)) is = absurd (other_status r 1 is (λ e. omega arith) (λ e. omega arith))

  pub source_at : (end : End R) → status_at status end ≡ 3 → end ≡ Err Source
  source_at (Ok x) is = absurd (omega arith)
  source_at (Err Usage) is = absurd (omega arith)
  source_at (Err Source) is = refl
  source_at (Err Output) is = absurd (omega arith)
  source_at (Err Volume) is = absurd (omega arith)
  source_at (Err OutOfMemory) is = absurd (omega arith)
  source_at (Err (Refused r)) is = absurd (other_status r 3 is (λ e. omega arith) (λ e. omega arith))

  pub output_at : (end : End R) → status_at status end ≡ 4 → end ≡ Err Output
  output_at (Ok x) is = absurd (omega arith)
  output_at (Err Usage) is = absurd (omega arith)
  output_at (Err Source) is = absurd (omega arith)
  output_at (Err Output) is = refl
  output_at (Err Volume) is = absurd (omega arith)
  output_at (Err OutOfMemory) is = absurd (omega arith)
  output_at (Err (Refused r)) is = absurd (other_status r 4 is (λ e. omega arith) (λ e. omega arith))

  pub volume_at : (end : End R) → status_at status end ≡ 5 → end ≡ Err Volume
  volume_at (Ok x) is = absurd (omega arith)
  volume_at (Err Usage) is = absurd (omega arith)
  volume_at (Err Source) is = absurd (omega arith)
  volume_at (Err Output) is = absurd (omega arith)
  volume_at (Err Volume) is = refl
  volume_at (Err OutOfMemory) is = absurd (omega arith)
  volume_at (Err (Refused r)) is = absurd (other_status r 5 is (λ e. omega arith) (λ e. omega arith))

  pub memory_at : (end : End R) → status_at status end ≡ 6 → end ≡ Err OutOfMemory
  memory_at (Ok x) is = absurd (omega arith)
  memory_at (Err Usage) is = absurd (omega arith)
  memory_at (Err Source) is = absurd (omega arith)
  memory_at (Err Output) is = absurd (omega arith)
  memory_at (Err Volume) is = absurd (omega arith)
  memory_at (Err OutOfMemory) is = refl
  memory_at (Err (Refused r)) is = absurd (other_status r 6 is (λ e. omega arith) (λ e. omega arith))

  -- so an object's cause of an end is that of its status

  pub source_status : (end : End R) (n old new : ℕ) → n ≡ status_at status end → IsCause (end ≡ Err Source) old new → IsCause (n ≡ 3) old new
  source_status end n old new is c = caused (end ≡ Err Source) (n ≡ 3) old new (λ e. is ∙ ap (λ (x : End R). status_at status x) e) (λ three. source_at end (sym is ∙ three)) c

  pub output_status : (end : End R) (n old new : ℕ) → n ≡ status_at status end → IsCause (end ≡ Err Output) old new → IsCause (n ≡ 4) old new
  output_status end n old new is c = caused (end ≡ Err Output) (n ≡ 4) old new (λ e. is ∙ ap (λ (x : End R). status_at status x) e) (λ four. output_at end (sym is ∙ four)) c

  pub volume_status : (end : End R) (n old new : ℕ) → n ≡ status_at status end → IsCause (end ≡ Err Volume) old new → IsCause (n ≡ 5) old new
  volume_status end n old new is c = caused (end ≡ Err Volume) (n ≡ 5) old new (λ e. is ∙ ap (λ (x : End R). status_at status x) e) (λ five. volume_at end (sym is ∙ five)) c

pub some_status : {R : Type 0} (status : R → ℕ) (end : End R) (n : ℕ) → n ≡ status_at status end → (n ≡ 0) ⊎ ((stop : Stop R) × (n ≡ status_by status stop))
some_status status (Ok x) n is = inl is
some_status status (Err stop) n is = inr (stop, is)

-- ---- the line of an end

module _ {R : Type 0} (text : R → List ℕ) (usage : List ℕ) where
  pub usage_said : (end : End R) (err : SinkMove) → end ≡ Err Usage → GivesLineOf text usage end err
      → GivesLine err.held.old err.held.new err.faults.old err.faults.new (line_by text usage Usage)
  usage_said end err is said =
      let here : GivesLineOf text usage (Err Usage) err = subst (λ (x : End R). GivesLineOf text usage x err) is said in here

  pub unsaid : (end : End R) (err : SinkMove) → end ≡ Ok tt → GivesLineOf text usage end err → err.same
  unsaid end err is said =
      let here : GivesLineOf text usage (Ok tt) err = subst (λ (x : End R). GivesLineOf text usage x err) is said in here
