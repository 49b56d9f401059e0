-- What a status tells of an end.
use Rattle.std.proofs.Common.{◌≡◌, ℕ, Ok, Err, refl, sym, ◌∙◌, inl, arith}
use Rattle.outside_io.specs.program.Line.{GivesLine}
use Rattle.outside_io.specs.streams.Faults.{IsCause}
use Rattle.program_ends.specs.Moves.{SinkMove}
use Rattle.program_ends.specs.Stop.{IsRefusalStatus}
use Rattle.program_ends.specs.declared.stop.Stop.TheVariants.{Usage, Refused, Source, Output, Volume, OutOfMemory}
use Rattle.program_ends.proofs.Ends as ends
use Rattle.ascii_cli.specs.declared.refusal.Refusal.{Refusal}
use Rattle.ascii_cli.specs.Names.{End, GivesLineOf, line_of, refusal_status, refusal_text, status_at, usage_text}

pub own : (r : Refusal) → IsRefusalStatus (refusal_status r)
own r = inl refl

pub ok_at : (end : End) → status_at end ≡ 0 → end ≡ Ok tt
ok_at end is = ends.ok_at refusal_status own end is

pub refused_at : (end : End) → status_at end ≡ 2 → (r : Refusal) × (end ≡ Err (Refused r))
refused_at (Ok x) is = absurd (omega arith)
refused_at (Err Usage) is = absurd (omega arith)
refused_at (Err Source) is = absurd (omega arith)
refused_at (Err Output) is = absurd (omega arith)
refused_at (Err Volume) is = absurd (omega arith)
refused_at (Err OutOfMemory) is = absurd (omega arith)
refused_at (Err (Refused r)) is = (r, refl)

pub usage_status : (end : End) (status : ℕ) → status ≡ status_at end → status ≡ 1 → end ≡ Err Usage
usage_status end status is one = ends.usage_at refusal_status own end (sym is ∙ one)

pub source_status : (end : End) (status old new : ℕ) → status ≡ status_at end → IsCause (end ≡ Err Source) old new → IsCause (status ≡ 3) old new
source_status end status old new is c = ends.source_status refusal_status own end status old new is c

pub output_status : (end : End) (status old new : ℕ) → status ≡ status_at end → IsCause (end ≡ Err Output) old new → IsCause (status ≡ 4) old new
output_status end status old new is c = ends.output_status refusal_status own end status old new is c

pub usage_said : (end : End) (err : SinkMove) → end ≡ Err Usage → GivesLineOf end err → GivesLine err.held.old err.held.new err.faults.old err.faults.new (line_of Usage)
usage_said end err is said = ends.usage_said refusal_text usage_text end err is said
