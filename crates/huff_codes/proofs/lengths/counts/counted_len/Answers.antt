use Rattle.std.proofs.Common.{rules, ◌≡◌, ℕ, ◌+◌, ◌*◌, ◌/◌, ◌^◌, ◌≤◌, List, slice_index, ap, sym, ◌∙◌, arith}
use Rattle.huff_codes.specs.Sums.{sum_below}
use Rattle.huff_codes.proofs.Tallies.{counted_few, counted_long}
use Rattle.huff_codes.proofs.Totals.{sum_is}
use Rattle.huff_codes.proofs.lengths.counts.counted_len.Goals as goal

-- the bits of all codes
bits_are : (c : goal.After-counted_bits) → c.counted_bits.result ≡ sum_below 256 (λ s. slice_index c.args.counts.now s * slice_index c.args.lengths.now s)
bits_are c = c.counted_bits.ensures ∙ ap (λ (l : List ℕ). sum_below 256 (λ s. slice_index c.args.counts.now s * slice_index l s)) c.all.ensures.is

few_bits : (c : goal.After-counted_bits) → c.counted_bits.result ≤ 2 ^ 29
few_bits c =
    let is = bits_are c in
    let most = counted_few c.args.lengths.now c.args.counts.now c.all.ensures.lengths in
    let total = sum_is c.args.counts.now c.told-counts in
    omega (arith, is, most, total, c.requires)

pub overflow_add-result : goal.overflow_add-result
overflow_add-result c = let few = few_bits c in search rules

pub returns-clause-size : goal.returns-clause-size
returns-clause-size c = λ symbols is.
    let long = counted_long c.args.lengths.now symbols c.args.counts.now c.all.ensures.lengths is in
    by c.counted_bits.result _ (bits_are c ∙ sym long)
  where
    by : (bits long : ℕ) → bits ≡ long → (bits + 31) / 32 * 4 + 4 ≡ 4 * ((long + 31) / 32) + 4
    by bits long e = omega (arith, e)

pub returns-clause-few : goal.returns-clause-few
returns-clause-few c = let few = few_bits c in omega (arith, few)
