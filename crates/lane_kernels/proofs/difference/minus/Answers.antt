use Rattle.std.proofs.Common.{◌≡◌, ◌+◌, ◌≤◌, take, drop, length, map, ap, ◌∙◌, sym, arith, ◌-ℤ◌}
use Rattle.std.proofs.lemmas.List.Elements.{recursion_from_All, All-take, All-drop}
use Rattle.lane_kernels.proofs.Eight.{IsSmall, same_bits, asks_all, eight_more}
use Rattle.lane_kernels.proofs.difference.minus.Goals as goal

pub overflow_sub-out : goal.overflow_sub-out
overflow_sub-out c =
    asks_all c.args.least (take 8 (drop c.loop-at.at c.args.values.now)) 8 c.requires.small_least
    (recursion_from_All IsSmall _ (All-take IsSmall 8 (drop c.loop-at.at c.args.values.now) (All-drop IsSmall c.loop-at.at c.args.values.now c.requires.small)))

pub loop-at-preserved : goal.loop-at-preserved
loop-at-preserved c =
    let values = c.args.values.now in
    let bits = same_bits c.args.least c.requires.small_least in
    let before : take c.loop-at.at c.loop-at.out ≡ map (λ v. v -ℤ c.args.least) (take c.loop-at.at values) = c.loop-at.invariant.1 ∙ ap (λ y. map (λ v. v -ℤ y) (take c.loop-at.at values)) bits in
    let within : c.loop-at.at + 8 ≤ length values = omega arith in (
      within,
      eight_more c.args.least values c.loop-at.out c.loop-at.at (c.loop-at.auto.out ∙ c.requires.lengths) within c.requires.small_least c.requires.small before
          ∙ ap (λ y. map (λ v. v -ℤ y) (take (c.loop-at.at + 8) values)) (sym bits),
    )
