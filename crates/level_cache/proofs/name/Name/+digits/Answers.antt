use Rattle.std.proofs.Common.{◌∙◌, ap, arith, List, ℕ, ◌++◌, ◌∷◌, []}
use Rattle.level_cache.proofs.Naming.{more_digits, one_digit}
use Rattle.level_cache.proofs.name.Name.+digits.Goals as goal
use Rattle.level_cache.proofs.name.Name.+digits.Goals.{then-count-gt1, else-count-gt1}

pub returns-clause-added : goal.returns-clause-added
returns-clause-added t c = elim c.if-count-gt1.branch [
  | then-count-gt1 w ↦ more_digits c.args.n c.args.count c.digit.result c.args.self.now w.digits.new.self c.text.new.self w.digits.ensures.added w.if-count-gt1.true c.digit.ensures.digit c.digit.ensures.value
      (c.text.ensures.bytes ∙ ap (λ (l : List ℕ). l ++ (c.digit.result ∷ [])) w.self-is)
  | else-count-gt1 w ↦ one_digit c.args.n c.args.count c.digit.result c.args.self.now c.text.new.self (omega (arith, c.requires.some, w.if-count-gt1.false)) c.requires.fits c.digit.ensures.digit c.digit.ensures.value
      (c.text.ensures.bytes ∙ ap (λ (l : List ℕ). l ++ (c.digit.result ∷ [])) w.self-is)
]
