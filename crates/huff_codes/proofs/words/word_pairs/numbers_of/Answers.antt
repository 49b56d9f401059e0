use Rattle.std.proofs.Common.{◌≢◌, ℕ, ◌<◌, Bool, List, get_or, slice_set, sym, subst, ◌∙◌, arith, below_more}
use Rattle.std.proofs.lemmas.List.{get_or-set_same, get_or-set_other}
use Rattle.std.proofs.Math.ListN.{length-set}
use Rattle.huff_codes.specs.Codes.{code_at}
use Rattle.huff_codes.specs.inside.Filling.{IsNumbered, no_number}
use Rattle.huff_codes.specs.inside.Spans.{no_code}
use Rattle.huff_codes.specs.inside.Stored.{codes_held}
use Rattle.huff_codes.proofs.Begun.{are_numbers, numbered_held}
use Rattle.huff_codes.proofs.Held.{held-at}
use Rattle.huff_codes.proofs.words.word_pairs.numbers_of.Goals as goal

pub loop-s-preserved : goal.loop-s-preserved
loop-s-preserved c =
    let codes = c.args.codes.now in
    let numbers = c.loop-s.numbers in
    let s = c.loop-s.s in
    let n = c.number_of.result in
    let lt : s < 256 = c.loop-s-test.true in
    let inv = c.loop-s.invariant in
    record {
      room = length-set numbers s n ∙ inv.room;
      done = below_more (λ k. IsNumbered (code_at (codes_held codes) k) (get_or (slice_set numbers s n) k no_number)) s
          (λ k below. let ne : k ≢ s = omega (arith, below) in subst (IsNumbered (code_at (codes_held codes) k)) (sym (get_or-set_other numbers s k n no_number ne)) (inv.done k below))
          (subst (IsNumbered (code_at (codes_held codes) s)) (sym (get_or-set_same numbers s n no_number (omega (arith, lt, inv.room))))
          (subst (λ (bits : List Bool). IsNumbered bits n) (sym (held-at codes s no_code (omega (arith, lt, c.requires.size)))) c.number_of.ensures));
    }

-- the numbers of all codes
all_done : (c : goal.After-loop-s) → (s : ℕ) → s < 256 → IsNumbered (code_at (codes_held c.args.codes.now) s) (get_or c.loop-s.numbers s no_number)
all_done c = λ s lt. c.loop-s.invariant.done s (let past = c.loop-s-test.false in omega (arith, past, lt))

pub returns-clause-numbers : goal.returns-clause-numbers
returns-clause-numbers c = are_numbers c.loop-s.numbers c.args.codes.now c.loop-s.invariant.room c.requires.size (all_done c)

pub returns-clause-codes : goal.returns-clause-codes
returns-clause-codes c = numbered_held c.loop-s.numbers c.args.codes.now c.loop-s.invariant.room c.requires.size (all_done c)
