use Rattle.std.proofs.Common.{◌≡◌, ◌+◌, ◌*◌, ◌/◌, length, take, drop, sum, arith, ap, ◌∙◌}
use Rattle.lerc_header.specs.Checksum.{words}
use Rattle.lerc_header.proofs.LaneSums.{parts}
use Rattle.lerc_header.proofs.fletcher.add_group.Goals as goal

pub returns-clause-first : goal.returns-clause-first
returns-clause-first c =
    let bytes = c.args.bytes.now in
    let front = c.split_at.result.0.now in
    let back = c.split_at.result.1.now in
    let cut : length bytes / 16 * 16 ≡ 2 * (length bytes / 16 * 8) = omega arith in
    let are = parts (length bytes / 16 * 8) bytes front back (c.split_at.ensures.front ∙ ap (λ n. take n bytes) cut) (c.split_at.ensures.back ∙ ap (λ n. drop n bytes) cut) in
    omega (arith, c.add_words.ensures.first, c.sums_of_eights-total.ensures.sum, are.total)

pub returns-clause-second : goal.returns-clause-second
returns-clause-second c =
    let bytes = c.args.bytes.now in
    let front = c.split_at.result.0.now in
    let back = c.split_at.result.1.now in
    let cut : length bytes / 16 * 16 ≡ 2 * (length bytes / 16 * 8) = omega arith in
    let are = parts (length bytes / 16 * 8) bytes front back (c.split_at.ensures.front ∙ ap (λ n. take n bytes) cut) (c.split_at.ensures.back ∙ ap (λ n. drop n bytes) cut) in
    let rest = length (words back) in
    let times : length (words bytes) * c.args.first ≡ (length front / 2 + rest) * c.args.first = ap (λ n. n * c.args.first) are.count in
    let behind : rest * c.sums_of_eights-total.result.0 ≡ rest * sum (words front) = ap (λ n. rest * n) c.sums_of_eights-total.ensures.sum in
    omega (arith, c.add_words.ensures.second, c.sums_of_eights-total.ensures.weighted, are.weight, times, behind)
