-- What a status tells of an end.
use Rattle.std.proofs.Common.{◌≡◌, subst, ℕ, ◌<◌, Ok, Err, refl, sym, ap, ◌∙◌, inl, inr, arith}
use Rattle.outside_io.specs.program.Line.{GivesLine}
use Rattle.outside_io.specs.streams.Faults.{IsCause}
use Rattle.program_ends.specs.Moves.{SinkMove}
use Rattle.program_ends.specs.Stop.{IsRefusalStatus}
use Rattle.program_ends.specs.declared.stop.Stop.TheVariants.{Usage, Refused, Source, Output, Volume, OutOfMemory}
use Rattle.program_ends.proofs.Ends as ends
use Rattle.level_cli.specs.declared.refusal.Refusal.{Refusal}
use Rattle.level_cli.specs.declared.refusal.Refusal.TheVariants.{Input, Store, TooLarge, ShelfFailed}
use Rattle.level_cli.specs.Names.{End, GivesLineOf, line_of, refusal_status, refusal_text, status_at, usage_text}
use Rattle.level_cli.specs.Run.{IsVolumeCause}

pub own : (r : Refusal) → IsRefusalStatus (refusal_status r)
own (Input f) = inl refl
own (Store s) = inr (let more : 6 < 7 = omega arith in more)
own (TooLarge n) = inr (let more : 6 < 7 = omega arith in more)
own ShelfFailed = inr (let more : 6 < 8 = omega arith in more)

pub ok_at : (end : End) → status_at end ≡ 0 → end ≡ Ok tt
ok_at end is = ends.ok_at refusal_status own end is

pub usage_status : (end : End) (status : ℕ) → status ≡ status_at end → status ≡ 1 → end ≡ Err Usage
usage_status end status is one = ends.usage_at refusal_status own end (sym is ∙ one)

pub source_status : (end : End) (status old new : ℕ) → status ≡ status_at end → IsCause (end ≡ Err Source) old new → IsCause (status ≡ 3) old new
source_status end status old new is c = ends.source_status refusal_status own end status old new is c

pub output_status : (end : End) (status old new : ℕ) → status ≡ status_at end → IsCause (end ≡ Err Output) old new → IsCause (status ≡ 4) old new
output_status end status old new is c = ends.output_status refusal_status own end status old new is c

pub usage_said : (end : End) (err : SinkMove) → end ≡ Err Usage → GivesLineOf end err → GivesLine err.held.old err.held.new err.faults.old err.faults.new (line_of Usage)
usage_said end err is said = ends.usage_said refusal_text usage_text end err is said

pub refused_said : (end : End) (r : Refusal) (err : SinkMove) → end ≡ Err (Refused r) → GivesLineOf end err → GivesLine err.held.old err.held.new err.faults.old err.faults.new (line_of (Refused r))
refused_said end r err is said = subst (λ (e : End). GivesLineOf e err) is said

shelf_at : (end : End) → status_at end ≡ 8 → end ≡ Err (Refused ShelfFailed)
shelf_at (Ok x) is = absurd (omega (arith, is))
shelf_at (Err Usage) is = absurd (omega (arith, is))
shelf_at (Err Source) is = absurd (omega (arith, is))
shelf_at (Err Output) is = absurd (omega (arith, is))
shelf_at (Err Volume) is = absurd (omega (arith, is))
shelf_at (Err OutOfMemory) is = absurd (omega (arith, is))
shelf_at (Err (Refused (Input f))) is = absurd (omega (arith, is))
shelf_at (Err (Refused (Store s))) is = absurd (omega (arith, is))
shelf_at (Err (Refused (TooLarge n))) is = absurd (omega (arith, is))
shelf_at (Err (Refused ShelfFailed)) is = refl

pub shelf_status : (end : End) (status old new : ℕ) → status ≡ status_at end → IsCause (end ≡ Err (Refused ShelfFailed)) old new → IsCause (status ≡ 8) old new
shelf_status end status old new is c =
    ends.caused (end ≡ Err (Refused ShelfFailed)) (status ≡ 8) old new (λ e. is ∙ ap status_at e) (λ eight. shelf_at end (sym is ∙ eight)) c

pub volume_status : (end : End) (status old new : ℕ) → status ≡ status_at end → IsVolumeCause (end ≡ Err Volume) (end ≡ Err (Refused ShelfFailed)) old new → IsVolumeCause (status ≡ 5) (status ≡ 8) old new
volume_status end status old new is c = record {
  counts = c.counts;
  cause = λ five. c.cause (ends.volume_at refusal_status own end (sym is ∙ five));
  rose = λ more. elim (c.rose more) [ inl e ↦ inl (is ∙ ap status_at e) | inr e ↦ inr (is ∙ ap status_at e) ];
}
