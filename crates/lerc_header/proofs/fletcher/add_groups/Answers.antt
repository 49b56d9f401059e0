use Rattle.std.proofs.Common.{◌≡◌, ◌+◌, ◌-◌, ◌*◌, ◌/◌, length, take, drop, sum, arith, ap, ◌∙◌}
use Rattle.lerc_header.specs.Checksum.{words, weighted, folded, Sums, after_groups, after_group, groups_of}
use Rattle.lerc_header.proofs.Words.{words_group, groups_more, groups_all}
use Rattle.lerc_header.proofs.fletcher.add_groups.Goals as goal

pub loop-g-preserved : goal.loop-g-preserved
loop-g-preserved c =
    let g = c.loop-g.g in
    let ws = words c.args.bytes.now in
    let n = (length c.args.bytes.now / 2 + 358) / 359 in
    let old : Sums = record { first = c.loop-g.sum1; second = c.loop-g.sum2 } in
    let group : words (take (c.min.result - g * 718) (drop (g * 718) c.args.bytes.now)) ≡ take 359 (drop (359 * g) ws) = words_group c.args.bytes.now g (c.min.result - g * 718) (omega (arith, c.min.ensures)) in
    let first : c.fold-sum1.result ≡ folded (c.loop-g.sum1 + sum (take 359 (drop (359 * g) ws))) =
    c.fold-sum1.ensures.value ∙ ap folded (c.add_group-sums.ensures.first ∙ ap (λ xs. c.loop-g.sum1 + sum xs) group) in
    let second : c.fold-sum2.result ≡ folded (c.loop-g.sum2 + length (take 359 (drop (359 * g) ws)) * c.loop-g.sum1 + weighted (take 359 (drop (359 * g) ws))) =
    c.fold-sum2.ensures.value ∙ ap folded (c.add_group-sums.ensures.second ∙ ap (λ xs. c.loop-g.sum2 + length xs * c.loop-g.sum1 + weighted xs) group) in
    let new : Sums = record { first = c.fold-sum1.result; second = c.fold-sum2.result } in
    let is : new ≡ after_group old (take 359 (drop (359 * g) ws)) = λ i. record { first = first i; second = second i } in
    record {
      told = ap (λ s. after_groups (n - (g + 1)) s (drop (359 * (g + 1)) ws)) is ∙ groups_more n g old ws (groups_of c.args.bytes.now) (omega arith) c.loop-g.invariant.told;
      small = (c.fold-sum1.ensures.small, c.fold-sum2.ensures.small);
    }

pub returns-clause-first : goal.returns-clause-first
returns-clause-first c =
    ap (λ (s : Sums). s.first) (groups_all ((length c.args.bytes.now / 2 + 358) / 359) c.loop-g.g (record { first = c.loop-g.sum1; second = c.loop-g.sum2 }) (drop (359 * c.loop-g.g) (words c.args.bytes.now)) (groups_of c.args.bytes.now) (omega arith) c.loop-g.invariant.told)

pub returns-clause-second : goal.returns-clause-second
returns-clause-second c =
    ap (λ (s : Sums). s.second) (groups_all ((length c.args.bytes.now / 2 + 358) / 359) c.loop-g.g (record { first = c.loop-g.sum1; second = c.loop-g.sum2 }) (drop (359 * c.loop-g.g) (words c.args.bytes.now)) (groups_of c.args.bytes.now) (omega arith) c.loop-g.invariant.told)
