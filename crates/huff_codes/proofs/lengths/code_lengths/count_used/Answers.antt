use Rattle.std.proofs.Common.{◌≡◌, ◌≢◌, ℕ, slice_index, sym, ap, ◌∙◌, arith}
use Rattle.huff_codes.specs.Sums.{sum_below}
use Rattle.huff_codes.proofs.Kraft.{sum-zero, sum-more}
use Rattle.huff_codes.proofs.Uses.{use_at, used-is, use-none, use-some}
use Rattle.huff_codes.proofs.lengths.code_lengths.count_used.Goals as goal
use Rattle.huff_codes.proofs.lengths.code_lengths.count_used.Goals.{then-count-gt0, else-count-gt0}

pub loop-count-init : goal.loop-count-init
loop-count-init c = record { small = omega arith; sum = sym (sum-zero (use_at c.args.counts.now)) }

pub loop-count-preserved : goal.loop-count-preserved
loop-count-preserved c =
    let counts = c.args.counts.now in
    let i = c.loop-count.count-index in
    elim c.if-count-gt0.branch [
      | then-count-gt0 w ↦
          let some : slice_index counts i ≢ 0 = (let h = w.if-count-gt0.true in λ e. omega arith) in record {
            small = omega (arith, w.n-is, c.loop-count.invariant.small);
            sum = omega (arith, w.n-is, c.loop-count.invariant.sum, sum-more i (use_at counts), use-some counts i some);
          }
      | else-count-gt0 w ↦
          let none : slice_index counts i ≡ 0 = (let h = w.if-count-gt0.false in omega arith) in record {
            small = omega (arith, w.n-is, c.loop-count.invariant.small);
            sum = omega (arith, w.n-is, c.loop-count.invariant.sum, sum-more i (use_at counts), use-none counts i none);
          }
    ]

pub returns : goal.returns
returns c =
    let all : c.loop-count.count-index ≡ 256 = omega arith in
    c.loop-count.invariant.sum ∙ ap (λ (n : ℕ). sum_below n (use_at c.args.counts.now)) all ∙ sym (used-is c.args.counts.now)
