use Rattle.std.proofs.Common.{◌≡◌, ◌≤◌, ◌↔◌, ◌∙◌, Contains, List, ℕ, length, replicate, sym, subst, arith}
use Rattle.std.proofs.lemmas.List.{length-take-le, take_at}
use Rattle.lut_stuff.specs.Names.{named_values}
use Rattle.lerc_encode.proofs.blocks.chosen_blocks.sorted_values.Goals as goal

pub returns-then-is_spent-clause-members : goal.returns-then-is_spent-clause-members
returns-then-is_spent-clause-members c = λ alive. absurd (alive (sym c.is_spent.ensures ∙ c.if-is_spent.true))

pub returns-clause-members : goal.returns-clause-members
returns-clause-members c = λ alive.
    let n = c.count-count.result in
    let out = c.sort_into.new.out in
    let few : n ≤ 256 = omega (arith, c.count-count.ensures, c.args.names.now.are.few) in
    let long : length out ≡ n = omega (arith, c.sort_into.auto.out, length-take-le {A = ℕ} n (replicate 256 0) few) in
    subst (λ (xs : List ℕ). (v : ℕ) → Contains xs v ↔ Contains (named_values c.args.names.now) v) (sym (take_at out _ n long)) c.sort_into.ensures.members
