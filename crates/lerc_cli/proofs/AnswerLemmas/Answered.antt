-- The answers of a command: its ends, but where an object failed or memory was refused.
use Rattle.std.proofs.Common.{◌≡◌, ℕ, List, Ok, Err, refl, sym, subst, ◌∙◌}
use Rattle.lerc_cli.specs.declared.words.Command.{Command}
use Rattle.lerc_cli.specs.declared.refusal.Refusal.{Refusal}
use Rattle.program_ends.specs.declared.stop.Stop.TheVariants.{Usage, Refused, Source, Output, Volume, OutOfMemory}
use Rattle.lerc_cli.specs.declared.refusal.Refusal.TheVariants.{Input, Store, Stream}
use Rattle.lerc_cli.specs.answers.Table.{Answers, IsAnswer, IsRefusal}
use Rattle.lerc_cli.specs.inputs.Given.{Given}
use Rattle.lerc_cli.specs.answers.Names.{End}

pub data Answer : Type 0 where
  well : Answer
  refused : Refusal → Answer

abbrev pub end_at : Answer → End
end_at well = Ok tt
end_at (refused refusal) = Err (Refused refusal)

answer_of : (end : End) → IsAnswer end → (x : Answer) × (end ≡ end_at x)
answer_of (Ok x) is = (well, refl)
answer_of (Err Usage) is = absurd is
answer_of (Err Source) is = absurd is
answer_of (Err Output) is = absurd is
answer_of (Err Volume) is = absurd is
answer_of (Err OutOfMemory) is = absurd is
answer_of (Err (Refused refusal)) is = (refused refusal, refl)

-- two answers of a command to what it is given are one, with one output
abbrev pub Once : Command → Given → Type 0
Once c g = (n m : ℕ) (x y : Answer) (output another : List ℕ)
    → Answers c g n (end_at x) output → Answers c g m (end_at y) another → (end_at x ≡ end_at y) × (output ≡ another)

-- so two ends are, which are answers
pub once_of : (c : Command) (g : Given) → Once c g → (n m : ℕ) (end other : End) (output another : List ℕ) → IsAnswer end → IsAnswer other
    → Answers c g n end output → Answers c g m other another → (end ≡ other) × (output ≡ another)
once_of c g once n m end other output another one two a b =
    let x = answer_of end one in
    let y = answer_of other two in
    let same = once n m x.0 y.0 output another (subst (λ (e : End). Answers c g n e output) x.1 a) (subst (λ (e : End). Answers c g m e another) y.1 b) in
    (x.1 ∙ same.0 ∙ sym y.1, same.1)

-- the refusal of an answer
pub refusal_of : (c : Command) (g : Given) (n : ℕ) (r : Refusal) (output : List ℕ) → Answers c g n (Err (Refused r)) output → IsRefusal c g n (Refused r)
refusal_of c g n (Input fault) output a = a.0
refusal_of c g n (Store refusal) output a = a.0
refusal_of c g n (Stream refusal) output a = a.0
