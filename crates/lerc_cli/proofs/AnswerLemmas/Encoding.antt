-- What the end of `encode` tells of its input.
use Rattle.std.proofs.Common.{◌≡◌, ℕ, ◌⊎◌, ◌↔◌, List, Option, Some, Ok, Err, subst, inl, inr, arith}
use Rattle.lerc_header.specs.declared.header.Version.{Version}
use Rattle.program_ends.specs.Moves.{SinkMove}
use Rattle.lerc_cli.specs.declared.words.Command.TheVariants.{Encode}
use Rattle.program_ends.specs.declared.stop.Stop.TheVariants.{Usage, Refused, Source, Output, Volume, OutOfMemory}
use Rattle.lerc_cli.specs.declared.refusal.Refusal.TheVariants.{Input, Store, Stream}
use Rattle.lerc_cli.specs.answers.Names.{End, status_at}
use Rattle.lerc_cli.specs.answers.Table.{Answers}
use Rattle.opened_bundle.specs.Files.{Files}
use Rattle.lerc_cli.specs.run.InWords.{IsGridFor}
use Rattle.lerc_cli.specs.run.Run.{OfOutput}
use Rattle.lerc_cli.specs.inputs.Given.{given}
use Rattle.lerc_cli.proofs.InputLemmas.WholeGrids.{grid_or_refusal}

decides : (version : Version) (error : ℕ) (input : List ℕ) (files : Option Files) (n status : ℕ) (end : End) (output : List ℕ) → status ≡ status_at end → (status ≡ 0) ⊎ (status ≡ 2)
    → Answers (Encode version error) (given (Some input) files) n end output → (status ≡ 0) ↔ IsGridFor version input
decides version error input files n status (Ok x) output is which e = (λ zero. (e.0, (e.1.1, e.1.2)), λ b. is)
decides version error input files n status (Err (Refused (Input f))) output is which e = (λ zero. absurd (omega arith), λ b. absurd (grid_or_refusal version input files b.0 b.1.0 b.1.1 f.place f.reason e.0))
decides version error input files n status (Err Usage) output is which e = absurd e
decides version error input files n status (Err Source) output is which e = absurd (elim which [ inl z ↦ omega arith | inr z ↦ omega arith ])
decides version error input files n status (Err Output) output is which e = absurd (elim which [ inl z ↦ omega arith | inr z ↦ omega arith ])
decides version error input files n status (Err Volume) output is which e = absurd (elim which [ inl z ↦ omega arith | inr z ↦ omega arith ])
decides version error input files n status (Err OutOfMemory) output is which e = absurd (elim which [ inl z ↦ omega arith | inr z ↦ omega arith ])
decides version error input files n status (Err (Refused (Store r))) output is which e = absurd (elim which [ inl z ↦ omega arith | inr z ↦ omega arith ])
decides version error input files n status (Err (Refused (Stream r))) output is which e = absurd (elim which [ inl z ↦ omega arith | inr z ↦ omega arith ])

pub encoded_exactly : (version : Version) (error : ℕ) (left : Option (List ℕ)) (input : List ℕ) (files : Option Files) (n status : ℕ) (end : End) (sink : SinkMove)
    → left ≡ Some input → status ≡ status_at end → (status ≡ 0) ⊎ (status ≡ 2) → OfOutput (Encode version error) (given left files) n end sink → (status ≡ 0) ↔ IsGridFor version input
encoded_exactly version error left input files n status end sink told is which out =
    decides version error input files n status end out.gave.0 is which (subst (λ (x : Option (List ℕ)). Answers (Encode version error) (given x files) n end out.gave.0) told out.gave.1.0)
