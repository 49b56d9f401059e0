-- What an end tells of the status, and the other way round.
use Rattle.std.proofs.Common.{◌≡◌, ℕ, ◌⊎◌, Ok, Err, refl, sym, subst, ◌∙◌, inl, inr, arith}
use Rattle.outside_io.specs.program.Line.{GivesLine}
use Rattle.outside_io.specs.streams.Faults.{IsCause}
use Rattle.program_ends.specs.Moves.{SinkMove}
use Rattle.program_ends.specs.Stop.{IsRefusalStatus}
use Rattle.program_ends.specs.declared.stop.Stop.{Stop}
use Rattle.program_ends.specs.declared.stop.Stop.TheVariants.{Usage, Refused, Source, Output, Volume, OutOfMemory}
use Rattle.program_ends.proofs.Ends as ends
use Rattle.lerc_cli.specs.declared.words.Command.{Command}
use Rattle.lerc_cli.specs.declared.refusal.Fault.{Fault}
use Rattle.lerc_cli.specs.declared.refusal.Refusal.{Refusal}
use Rattle.lerc_cli.specs.declared.refusal.Refusal.TheVariants.{Input, Store, Stream}
use Rattle.lerc_cli.specs.answers.Names.{End, GivesLineOf, line_of, refusal_status, refusal_text, status_at, status_of, usage_text}
use Rattle.lerc_cli.specs.answers.Table.{Answers}
use Rattle.lerc_cli.specs.inputs.Given.{Given}
use Rattle.lerc_cli.specs.run.Run.{OfOutput}

pub never_usage : (c : Command) (g : Given) (n : ℕ) (end : End) (sink : SinkMove) → OfOutput c g n end sink → end ≡ Err Usage → ⊥
never_usage c g n end sink out is =
    let none : Answers c g n (Err Usage) out.gave.0 = subst (λ (x : End). Answers c g n x out.gave.0) is out.gave.1.0 in none

pub own : (r : Refusal) → IsRefusalStatus (refusal_status r)
own (Input fault) = inl refl
own (Store refusal) = inr (omega arith)
own (Stream refusal) = inr (omega arith)

-- a status tells its end
pub ok_at : (end : End) → status_at end ≡ 0 → end ≡ Ok tt
ok_at end is = ends.ok_at refusal_status own end is

pub output_at : (end : End) → status_at end ≡ 4 → end ≡ Err Output
output_at end is = ends.output_at refusal_status own end is

pub memory_at : (end : End) → status_at end ≡ 6 → end ≡ Err OutOfMemory
memory_at end is = ends.memory_at refusal_status own end is

pub refused_at : (end : End) → status_at end ≡ 2 → (fault : Fault) × (end ≡ Err (Refused (Input fault)))
refused_at (Ok x) is = absurd (omega arith)
refused_at (Err Usage) is = absurd (omega arith)
refused_at (Err Source) is = absurd (omega arith)
refused_at (Err Output) is = absurd (omega arith)
refused_at (Err Volume) is = absurd (omega arith)
refused_at (Err OutOfMemory) is = absurd (omega arith)
refused_at (Err (Refused (Input f))) is = (f, refl)
refused_at (Err (Refused (Store r))) is = absurd (omega arith)
refused_at (Err (Refused (Stream r))) is = absurd (omega arith)

pub usage_status : (end : End) (status : ℕ) → status ≡ status_at end → status ≡ 1 → end ≡ Err Usage
usage_status end status is one = ends.usage_at refusal_status own end (sym is ∙ one)

pub source_status : (end : End) (status old new : ℕ) → status ≡ status_at end → IsCause (end ≡ Err Source) old new → IsCause (status ≡ 3) old new
source_status end status old new is c = ends.source_status refusal_status own end status old new is c

pub output_status : (end : End) (status old new : ℕ) → status ≡ status_at end → IsCause (end ≡ Err Output) old new → IsCause (status ≡ 4) old new
output_status end status old new is c = ends.output_status refusal_status own end status old new is c

pub volume_status : (end : End) (status old new : ℕ) → status ≡ status_at end → IsCause (end ≡ Err Volume) old new → IsCause (status ≡ 5) old new
volume_status end status old new is c = ends.volume_status refusal_status own end status old new is c

pub some_status : (end : End) (status : ℕ) → status ≡ status_at end → (status ≡ 0) ⊎ ((stop : Stop Refusal) × (status ≡ status_of stop))
some_status end status is = ends.some_status refusal_status end status is

-- the line of an end
pub usage_said : (end : End) (err : SinkMove) → end ≡ Err Usage → GivesLineOf end err
    → GivesLine err.held.old err.held.new err.faults.old err.faults.new (line_of Usage)
usage_said end err is said = ends.usage_said refusal_text usage_text end err is said

pub unsaid : (end : End) (err : SinkMove) → end ≡ Ok tt → GivesLineOf end err → err.same
unsaid end err is said = ends.unsaid refusal_text usage_text end err is said
