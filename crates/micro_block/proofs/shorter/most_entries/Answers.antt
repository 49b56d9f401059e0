use Rattle.std.proofs.Common.{◌≡◌, ◌<◌, ℕ, true, refl, sym, subst, arith}
use Rattle.micro_block.specs.declared.shorter.TheConstants.{MOST_OF_8, MOST_OF_16, MOST_OF_64, MOST_OF_256}
use Rattle.micro_block.specs.inside.Shorter.{IsLong}
use Rattle.micro_block.proofs.KeptBounds.{all_long, from_first}
use Rattle.micro_block.proofs.shorter.most_entries.Goals as goal

tested_8 : all_long 8 0 MOST_OF_8 ≡ true
tested_8 = refl

tested_16 : all_long 16 0 MOST_OF_16 ≡ true
tested_16 = refl

tested_64 : all_long 64 0 MOST_OF_64 ≡ true
tested_64 = refl

tested_256 : all_long 256 0 MOST_OF_256 ≡ true
tested_256 = refl

pub returns-in-8-clause-long : goal.returns-in-8-clause-long
returns-in-8-clause-long c d above few =
    subst (λ (n : ℕ). IsLong n c.args.width d) (sym c.in-8.is)
    (from_first 8 MOST_OF_8 c.args.width d tested_8 (let le = c.requires.width.1 in omega (arith, le)) (subst (λ (n : ℕ). n < d) c.from.ensures above) few)

pub returns-in-16-clause-long : goal.returns-in-16-clause-long
returns-in-16-clause-long c d above few =
    subst (λ (n : ℕ). IsLong n c.args.width d) (sym c.in-16.is)
    (from_first 16 MOST_OF_16 c.args.width d tested_16 (let le = c.requires.width.1 in omega (arith, le)) (subst (λ (n : ℕ). n < d) c.from-in-16.ensures above) few)

pub returns-in-64-clause-long : goal.returns-in-64-clause-long
returns-in-64-clause-long c d above few =
    subst (λ (n : ℕ). IsLong n c.args.width d) (sym c.in-64.is)
    (from_first 64 MOST_OF_64 c.args.width d tested_64 (let le = c.requires.width.1 in omega (arith, le)) (subst (λ (n : ℕ). n < d) c.from-in-64.ensures above) few)

pub returns-in-256-clause-long : goal.returns-in-256-clause-long
returns-in-256-clause-long c d above few =
    subst (λ (n : ℕ). IsLong n c.args.width d) (sym c.in-256.is)
    (from_first 256 MOST_OF_256 c.args.width d tested_256 (let le = c.requires.width.1 in omega (arith, le)) (subst (λ (n : ℕ). n < d) c.from-in-256.ensures above) few)
