use Rattle.std.proofs.Common.{◌≡◌, ℕ, ◌+◌, ◌%◌, inl, inr, length, take, drop, ◌∙◌, arith}
use Rattle.std.specs.Prelude.{sum}
use Rattle.std.proofs.lemmas.Bool.{cases_lt}
use Rattle.std.proofs.lemmas.Simd.{get_or-put_chunk_at, get_or-put_chunk_below, get_or-put_chunk_above, get_or-replicate}
use Rattle.lane_kernels.proofs.running.sum_sixteen.Goals as goal

pub returns-clause-sums : goal.returns-clause-sums
returns-clause-sums c i lt =
    let old = c.args.bytes.now in
    let sums = c.add_lanes-sums.result in
    let long : length sums ≡ 16 = c.add_lanes-sums.ensures.len in
    get_or-put_chunk_at c.args.at old sums i 0 (omega (arith, long, lt)) (omega (arith, long, c.requires.room))
    ∙ c.add_lanes-sums.ensures.lanes i lt ∙ (λ j. (c.sums_of.ensures.sums i lt j + get_or-replicate {A = ℕ} 16 i c.args.before 0 lt j) % 256)
    ∙ (let s = sum (take (i + 1) (take 16 (drop c.args.at old))) in let e : (s % 256 + c.args.before) % 256 ≡ (c.args.before + s) % 256 = omega arith in e)

pub returns-clause-rest : goal.returns-clause-rest
returns-clause-rest c k out =
    let old = c.args.bytes.now in
    let sums = c.add_lanes-sums.result in
    let long : length sums ≡ 16 = c.add_lanes-sums.ensures.len in
    elim (cases_lt k c.args.at) [
      | inl before ↦ get_or-put_chunk_below c.args.at old sums k 0 before
      | inr from ↦ elim (cases_lt k (c.args.at + 16)) [
        | inl inside ↦ absurd (out from inside)
        | inr behind ↦ get_or-put_chunk_above c.args.at old sums k 0 (omega (arith, long, behind))
      ]
    ]
