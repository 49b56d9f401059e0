use Rattle.std.proofs.Common.{◌≡◌, ◌↔◌, ℕ, Option, Some, None, subst, arith}
use Rattle.command_words.specs.Words.{IsWithin}
use Rattle.command_words.proofs.number.number_up_to.Goals as goal

pub overflow_cast-result : goal.overflow_cast-result
overflow_cast-result c = omega (arith, ((c.number_within.ensures c.in-Some.n).0 c.in-Some.is).2, c.into.ensures)

pub returns-in-Some : goal.returns-in-Some
returns-in-Some c =
    subst (λ (g : ℕ). (n : ℕ) → (◌≡◌ {A = Option ℕ} (Some c.in-Some.n) (Some n)) ↔ IsWithin c.args.word.now n 0 g) c.into.ensures
    (subst (λ (found : Option ℕ). (n : ℕ) → (found ≡ Some n) ↔ IsWithin c.args.word.now n 0 c.into.result) c.in-Some.is c.number_within.ensures)

pub returns-in-None : goal.returns-in-None
returns-in-None c =
    subst (λ (g : ℕ). (n : ℕ) → (◌≡◌ {A = Option ℕ} None (Some n)) ↔ IsWithin c.args.word.now n 0 g) c.into.ensures
    (subst (λ (found : Option ℕ). (n : ℕ) → (found ≡ Some n) ↔ IsWithin c.args.word.now n 0 c.into.result) c.in-None.is c.number_within.ensures)
