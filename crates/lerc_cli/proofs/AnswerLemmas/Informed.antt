-- What the end of `info` tells of its input and its output.
use Rattle.std.proofs.Common.{◌≡◌, ℕ, ◌⊎◌, ◌↔◌, List, Option, Some, Ok, Err, sym, subst, ◌∙◌, inl, inr, arith}
use Rattle.program_ends.specs.Moves.{SinkMove}
use Rattle.lerc_cli.specs.declared.words.Command.TheVariants.{Info}
use Rattle.program_ends.specs.declared.stop.Stop.TheVariants.{Usage, Refused, Source, Output, Volume, OutOfMemory}
use Rattle.lerc_cli.specs.declared.refusal.Refusal.TheVariants.{Input, Store, Stream}
use Rattle.lerc_cli.specs.answers.Names.{End, status_at}
use Rattle.lerc_cli.specs.answers.Table.{Answers}
use Rattle.opened_bundle.specs.Files.{Files}
use Rattle.lerc_cli.specs.inputs.Refused.{IsBandsBlob}
use Rattle.lerc_cli.specs.run.Run.{OfOutput}
use Rattle.lerc_cli.specs.inputs.Given.{given}
use Rattle.lerc_cli.specs.run.InWords.{GivesLines}
use Rattle.lerc_cli.proofs.AnswerLemmas.Statuses.{ok_at}
use Rattle.lerc_grammar.proofs.WholeBands.{bands_or_fault}

decides : (input : List ℕ) (files : Option Files) (n status : ℕ) (end : End) (output : List ℕ) → status ≡ status_at end → (status ≡ 0) ⊎ (status ≡ 2)
    → Answers Info (given (Some input) files) n end output → (status ≡ 0) ↔ IsBandsBlob input
decides input files n status (Ok x) output is which e = (λ zero. subst IsBandsBlob (sym e.1.1) e.1.0, λ b. is)
decides input files n status (Err (Refused (Input f))) output is which e = (λ zero. absurd (omega arith), λ b. absurd (bands_or_fault input b.0 f.place e.0.0 b.1 e.0.1.1))
decides input files n status (Err Usage) output is which e = absurd e
decides input files n status (Err Source) output is which e = absurd (elim which [ inl z ↦ omega arith | inr z ↦ omega arith ])
decides input files n status (Err Output) output is which e = absurd (elim which [ inl z ↦ omega arith | inr z ↦ omega arith ])
decides input files n status (Err Volume) output is which e = absurd (elim which [ inl z ↦ omega arith | inr z ↦ omega arith ])
decides input files n status (Err OutOfMemory) output is which e = absurd (elim which [ inl z ↦ omega arith | inr z ↦ omega arith ])
decides input files n status (Err (Refused (Store r))) output is which e = absurd (elim which [ inl z ↦ omega arith | inr z ↦ omega arith ])
decides input files n status (Err (Refused (Stream r))) output is which e = absurd (elim which [ inl z ↦ omega arith | inr z ↦ omega arith ])

pub informed_exactly : (left : Option (List ℕ)) (input : List ℕ) (files : Option Files) (n status : ℕ) (end : End) (sink : SinkMove)
    → left ≡ Some input → status ≡ status_at end → (status ≡ 0) ⊎ (status ≡ 2) → OfOutput Info (given left files) n end sink → (status ≡ 0) ↔ IsBandsBlob input
informed_exactly left input files n status end sink told is which out =
    decides input files n status end out.gave.0 is which (subst (λ (x : Option (List ℕ)). Answers Info (given x files) n end out.gave.0) told out.gave.1.0)

pub informed : (left : Option (List ℕ)) (files : Option Files) (n status : ℕ) (end : End) (sink : SinkMove)
    → status ≡ status_at end → status ≡ 0 → OfOutput Info (given left files) n end sink → GivesLines left sink.held
informed left files n status end sink is zero out =
    let here : OfOutput Info (given left files) n (Ok tt) sink =
    subst (λ (x : End). OfOutput Info (given left files) n x sink) (ok_at end (sym is ∙ zero)) out in
    let e = here.gave.1.0 in (e.0, (e.1.0, e.1.1, (here.gave.0, (e.1.2, here.gave.1.1))))
