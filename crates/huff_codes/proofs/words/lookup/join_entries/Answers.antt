use Rattle.std.proofs.Common.{◌≡◌, ℕ, ◌+◌, List, [], ◌∷◌, ◌++◌, take, refl, sym, ap, ◌∙◌, arith}
use Rattle.huff_codes.specs.inside.Lookup.{symbols_of}
use Rattle.huff_codes.proofs.Lookups.{entry_both}
use Rattle.huff_codes.proofs.words.lookup.join_entries.Goals as goal

pub returns-then-one-two-le11-clause-is : goal.returns-then-one-two-le11-clause-is
returns-then-one-two-le11-clause-is c codes number p q =
    let one = c.args.one in
    let two = c.args.two in
    let first : symbols_of one ≡ one.first ∷ [] = ap (λ (n : ℕ). take n (one.first ∷ (one.second ∷ []))) c.if-one-eq1.true in
    let second : symbols_of two ≡ two.first ∷ [] = ap (λ (n : ℕ). take n (two.first ∷ (two.second ∷ []))) c.if-two-eq1.true in
    let both : symbols_of one ++ symbols_of two ≡ one.first ∷ (two.first ∷ []) =
    ap (λ (xs : List ℕ). xs ++ symbols_of two) first ∙ ap (λ (xs : List ℕ). one.first ∷ xs) second in
    entry_both codes number one two (record { first = one.first; second = two.first; count = 2; length = one.length + two.length }) p q (omega (arith, c.if-one-two-le11.true)) (sym both) refl
