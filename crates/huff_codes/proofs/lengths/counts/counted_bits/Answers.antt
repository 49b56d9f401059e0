use Rattle.std.proofs.Common.{◌≡◌, ℕ, ◌*◌, ◌^◌, ◌<◌, ◌≤◌, slice_index, ap, sym, ◌∙◌, arith}
use Rattle.huff_codes.specs.Sums.{sum_below}
use Rattle.huff_codes.proofs.Kraft.{sum-zero, sum-more}
use Rattle.huff_codes.proofs.Tallies.{bits_at, bits-is, bits_sum}
use Rattle.std.proofs.Math.Nat.{mul-le-mul}
use Rattle.huff_codes.proofs.lengths.counts.counted_bits.Goals as goal

-- the product of a count and a length is low
product_low : (c l : ℕ) → c < 2 ^ 32 → l < 2 ^ 8 → c * l ≤ 2 ^ 40
product_low c l a b = mul-le-mul {n₂ = 2 ^ 32} {m₂ = 2 ^ 8} (omega (arith, a)) (omega (arith, b))

pub loop-s-init : goal.loop-s-init
loop-s-init c = record { small = omega arith; bits_are = sym (sum-zero (bits_at c.args.counts.now c.args.lengths.now)) }

pub loop-s-preserved : goal.loop-s-preserved
loop-s-preserved c =
    let counts = c.args.counts.now in
    let lengths = c.args.lengths.now in
    let s = c.loop-s.s in
    let is : c.from.result ≡ slice_index lengths s = c.from.ensures in
    let count : slice_index counts s < 2 ^ 32 = (let fit = c.fits-counts s in omega (arith, fit)) in
    let length_ : slice_index lengths s < 2 ^ 8 = (let fit = c.fits-lengths s in omega (arith, fit)) in
    let low = product_low (slice_index counts s) (slice_index lengths s) count length_ in
    let same : slice_index counts s * c.from.result ≡ bits_at counts lengths s = ap (λ n. slice_index counts s * n) is ∙ sym (bits-is counts lengths s) in
    let value = bits-is counts lengths s in
    record {
      small = omega (arith, c.loop-s.invariant.small, low, same, value);
      bits_are = omega (arith, c.loop-s.invariant.bits_are, same, sum-more s (bits_at counts lengths));
    }

pub returns : goal.returns
returns c =
    let all : c.loop-s.s ≡ 256 = omega arith in
    c.loop-s.invariant.bits_are ∙ ap (λ (n : ℕ). sum_below n (bits_at c.args.counts.now c.args.lengths.now)) all ∙ bits_sum c.args.counts.now c.args.lengths.now
