-- What the end of `decode` tells of its input and its output.
use Rattle.std.proofs.Common.{◌≡◌, ℕ, ◌⊎◌, ◌↔◌, List, Option, Some, Ok, Err, sym, ap, subst, ◌∙◌, inl, inr, arith}
use Rattle.std.specs.Prelude.{◌≢◌}
use Rattle.outside_io.specs.streams.Sink.{Holds, HoldsPrefix}
use Rattle.program_ends.specs.Moves.{Change, SinkMove}
use Rattle.lerc_cli.specs.declared.words.Command.{Command}
use Rattle.lerc_cli.specs.declared.words.Command.TheVariants.{Decode}
use Rattle.program_ends.specs.declared.stop.Stop.TheVariants.{Usage, Refused, Source, Output, Volume, OutOfMemory}
use Rattle.lerc_cli.specs.declared.refusal.Refusal.{Refusal}
use Rattle.lerc_cli.specs.declared.refusal.Refusal.TheVariants.{Input, Store, Stream}
use Rattle.lerc_cli.specs.answers.Names.{End, status_at, GivesLineOf}
use Rattle.lerc_cli.specs.answers.Table.{Answers, IsOutput, IsAllTold}
use Rattle.opened_bundle.specs.Files.{Files}
use Rattle.lerc_cli.specs.inputs.Given.{Given, given}
use Rattle.lerc_cli.specs.inputs.Refused.{IsBandsBlob, band_reason_of}
use Rattle.lerc_cli.specs.run.Run.{OfOutput}
use Rattle.program_ends.specs.Stop.{Gained}
use Rattle.lerc_cli.specs.run.InWords.{GivesGrid, GivesGridPrefix, TellsFault, ToldHead}
use Rattle.lerc_cli.proofs.AnswerLemmas.Statuses.{ok_at, refused_at, output_at, memory_at}
use Rattle.lerc_cli.proofs.AnswerLemmas.Once.{answers_once}
use Rattle.lerc_grammar.proofs.WholeBands.{bands_or_fault}

decides : (input : List ℕ) (files : Option Files) (n status : ℕ) (end : End) (output : List ℕ) → status ≡ status_at end → (status ≡ 0) ⊎ (status ≡ 2)
    → Answers Decode (given (Some input) files) n end output → (status ≡ 0) ↔ IsBandsBlob input
decides input files n status (Ok x) output is which e = (λ zero. (e.0, e.1.1), λ b. is)
decides input files n status (Err (Refused (Input f))) output is which e = (λ zero. absurd (omega arith), λ b. absurd (bands_or_fault input b.0 f.place e.0.0 b.1 e.0.1.1))
decides input files n status (Err Usage) output is which e = absurd e
decides input files n status (Err Source) output is which e = absurd (elim which [ inl z ↦ omega arith | inr z ↦ omega arith ])
decides input files n status (Err Output) output is which e = absurd (elim which [ inl z ↦ omega arith | inr z ↦ omega arith ])
decides input files n status (Err Volume) output is which e = absurd (elim which [ inl z ↦ omega arith | inr z ↦ omega arith ])
decides input files n status (Err OutOfMemory) output is which e = absurd (elim which [ inl z ↦ omega arith | inr z ↦ omega arith ])
decides input files n status (Err (Refused (Store r))) output is which e = absurd (elim which [ inl z ↦ omega arith | inr z ↦ omega arith ])
decides input files n status (Err (Refused (Stream r))) output is which e = absurd (elim which [ inl z ↦ omega arith | inr z ↦ omega arith ])

pub exact : (left : Option (List ℕ)) (input : List ℕ) (files : Option Files) (n status : ℕ) (end : End) (sink : SinkMove)
    → left ≡ Some input → status ≡ status_at end → (status ≡ 0) ⊎ (status ≡ 2) → OfOutput Decode (given left files) n end sink → (status ≡ 0) ↔ IsBandsBlob input
exact left input files n status end sink told is which out =
    decides input files n status end out.gave.0 is which (subst (λ (x : Option (List ℕ)). Answers Decode (given x files) n end out.gave.0) told out.gave.1.0)

-- ---- the same at a known end

at_end : (g : Given) (n : ℕ) (end other : End) (sink : SinkMove) → end ≡ other
    → OfOutput Decode g n end sink → OfOutput Decode g n other sink
at_end g n end other sink is out = subst (λ (x : End). OfOutput Decode g n x sink) is out

pub decoded : (left : Option (List ℕ)) (files : Option Files) (n status : ℕ) (end : End) (sink : SinkMove)
    → status ≡ status_at end → status ≡ 0 → OfOutput Decode (given left files) n end sink → GivesGrid left sink.held
decoded left files n status end sink is zero out =
    let here = at_end (given left files) n end (Ok tt) sink (ok_at end (sym is ∙ zero)) out in
    let e = here.gave.1.0 in (e.0, (e.1.0, e.1.1, subst (Holds sink.held.old sink.held.new) e.1.2 here.gave.1.1))

pub cut_short : (left : Option (List ℕ)) (files : Option Files) (n status : ℕ) (end : End) (sink : SinkMove)
    → status ≡ status_at end → status ≡ 4 → OfOutput Decode (given left files) n end sink → GivesGridPrefix left sink.held
cut_short left files n status end sink is four out =
    let here = at_end (given left files) n end (Err Output) sink (output_at end (sym is ∙ four)) out in
    let e = here.gave.1.0 in (e.0, (e.1.0, e.1.1, subst (HoldsPrefix sink.held.old sink.held.new) e.1.2 here.gave.1.1))

pub refused : (left : Option (List ℕ)) (files : Option Files) (n status : ℕ) (end : End) (sink err : SinkMove)
    → status ≡ status_at end → status ≡ 2 → OfOutput Decode (given left files) n end sink → GivesLineOf end err → TellsFault left err
refused left files n status end sink err is two out line =
    let r = refused_at end (sym is ∙ two) in
    let here = at_end (given left files) n end (Err (Refused (Input r.0))) sink r.1 out in
    let none = here.gave.1.0.0 in
    let fault : r.0 ≡ record { reason = band_reason_of none.0; place = r.0.place } = λ i. record { reason = none.1.0 i; place = r.0.place } in
    let there : GivesLineOf (Err (Refused (Input (record { reason = band_reason_of none.0; place = r.0.place })))) err =
    subst (λ (x : End). GivesLineOf x err) (r.1 ∙ ap (λ x. Err (Refused (Input x))) fault) line in
    (r.0.place, (none.0, (none.1.1, there)))

pub wanted : (left : Option (List ℕ)) (files : Option Files) (n status : ℕ) (end : End) (sink : SinkMove)
    → status ≡ status_at end → status ≡ 6 → OfOutput Decode (given left files) n end sink → ToldHead left
wanted left files n status end sink is six out =
    let here = at_end (given left files) n end (Err OutOfMemory) sink (memory_at end (sym is ∙ six)) out in here.gave.1.0.0

-- ---- where all is told that a command reads, and has an output, it gets that

completes : (c : Command) (g : Given) (n m status : ℕ) (end : End) (output given_out : List ℕ) (held : Change (Option (List ℕ))) → IsAllTold c g → status ≡ status_at end
    → IsOutput c g n output → Answers c g m end given_out → Gained end held given_out
    → status ≢ 3 → status ≢ 4 → status ≢ 5 → status ≢ 6 → (status ≡ 0) × Holds held.old held.new output
completes c g n m status (Ok x) output given_out held told is has e gained s o v w =
    let once = answers_once c g n m (Ok x) (Ok x) output given_out told tt tt has e in (is, subst (Holds held.old held.new) (sym once.1) gained)
completes c g n m status (Err Usage) output given_out held told is has e gained s o v w = absurd e
completes c g n m status (Err (Refused (Input f))) output given_out held told is has e gained s o v w =
    let once = answers_once c g n m (Ok tt) (Err (Refused (Input f))) output given_out told tt tt has e in absurd (let never = ap status_at once.0 in omega arith)
completes c g n m status (Err Source) output given_out held told is has e gained s o v w = absurd (s is)
completes c g n m status (Err Output) output given_out held told is has e gained s o v w = absurd (o is)
completes c g n m status (Err Volume) output given_out held told is has e gained s o v w = absurd (v is)
completes c g n m status (Err OutOfMemory) output given_out held told is has e gained s o v w = absurd (w is)
completes c g n m status (Err (Refused (Store r))) output given_out held told is has e gained s o v w =
    let once = answers_once c g n m (Ok tt) (Err (Refused (Store r))) output given_out told tt tt has e in absurd (let never = ap status_at once.0 in omega arith)
completes c g n m status (Err (Refused (Stream r))) output given_out held told is has e gained s o v w =
    let once = answers_once c g n m (Ok tt) (Err (Refused (Stream r))) output given_out told tt tt has e in absurd (let never = ap status_at once.0 in omega arith)

pub complete : (c : Command) (g : Given) (n m status : ℕ) (end : End) (output : List ℕ) (sink : SinkMove)
    → IsAllTold c g → status ≡ status_at end → IsOutput c g n output → OfOutput c g m end sink
    → status ≢ 3 → status ≢ 4 → status ≢ 5 → status ≢ 6 → (status ≡ 0) × Holds sink.held.old sink.held.new output
complete c g n m status end output sink told is has out =
    completes c g n m status end output out.gave.0 sink.held told is has out.gave.1.0 out.gave.1.1

-- ---- and where it is refused, it ends with that

refuses : (c : Command) (g : Given) (n m status : ℕ) (end : End) (refusal : Refusal) (output given_out : List ℕ) (sink err : SinkMove) → IsAllTold c g → status ≡ status_at end
    → Answers c g n (Err (Refused refusal)) output → Answers c g m end given_out → Gained end sink.held given_out → GivesLineOf end err
    → status ≢ 3 → status ≢ 4 → status ≢ 5 → status ≢ 6
    → (status ≡ status_at (Err (Refused refusal))) × Holds sink.held.old sink.held.new output × GivesLineOf (Err (Refused refusal)) err
refuses c g n m status (Ok x) refusal output given_out sink err told is has e gained line s o v w =
    let once = answers_once c g n m (Err (Refused refusal)) (Ok tt) output given_out told tt tt has e in absurd (let never = once.0 in cc)
refuses c g n m status (Err Usage) refusal output given_out sink err told is has e gained line s o v w = absurd e
refuses c g n m status (Err Source) refusal output given_out sink err told is has e gained line s o v w = absurd (s is)
refuses c g n m status (Err Output) refusal output given_out sink err told is has e gained line s o v w = absurd (o is)
refuses c g n m status (Err Volume) refusal output given_out sink err told is has e gained line s o v w = absurd (v is)
refuses c g n m status (Err OutOfMemory) refusal output given_out sink err told is has e gained line s o v w = absurd (w is)
refuses c g n m status (Err (Refused r)) refusal output given_out sink err told is has e gained line s o v w =
    let once = answers_once c g n m (Err (Refused refusal)) (Err (Refused r)) output given_out told tt tt has e in
    (is ∙ ap status_at (sym once.0), subst (Holds sink.held.old sink.held.new) (sym once.1) gained, subst (λ (x : End). GivesLineOf x err) (sym once.0) line)

pub refused_so : (c : Command) (g : Given) (n m status : ℕ) (end : End) (refusal : Refusal) (output : List ℕ) (sink err : SinkMove)
    → IsAllTold c g → status ≡ status_at end → Answers c g n (Err (Refused refusal)) output → OfOutput c g m end sink → GivesLineOf end err
    → status ≢ 3 → status ≢ 4 → status ≢ 5 → status ≢ 6
    → (status ≡ status_at (Err (Refused refusal))) × Holds sink.held.old sink.held.new output × GivesLineOf (Err (Refused refusal)) err
refused_so c g n m status end refusal output sink err told is has out line =
    refuses c g n m status end refusal output out.gave.0 sink err told is has out.gave.1.0 out.gave.1.1 line
