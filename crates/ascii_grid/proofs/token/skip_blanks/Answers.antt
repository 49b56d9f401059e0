use Rattle.std.proofs.Common.{◌∙◌, ◌+◌, ap, sym, length, ℕ}
use Rattle.std.proofs.lemmas.Result.{err_from_is_err_and}
use Rattle.ascii_grid.specs.inside.Reading.{tokens_of}
use Rattle.ascii_grid.proofs.ReadSteps.{skip_blank, skip_dark, skip_end, skip_stopped}
use Rattle.ascii_grid.proofs.token.skip_blanks.Goals as goal

pub returns-in_err-byte-clause-skipped : goal.returns-in_err-byte-clause-skipped
returns-in_err-byte-clause-skipped g c = λ text ahead.
    let so = c.loop-byte.invariant.ahead text ahead in
    let p = err_from_is_err_and c.from_residual.result c.from_residual.ensures.1 in
    rw (p.1, p.2) (skip_stopped c.in_err-byte.field-0.0 (g.S.Source.left c.peek.new.src) c.loop-byte.window c.peek.new.self c.args.window.now.place c.loop-byte.window.place text so.0 (λ i. c.loop-byte.window.place) so.1.1.0 so.1.1.1 (c.in_err-byte.ensures.long so.0 so.1.0))

pub returns-in-None-clause-skipped : goal.returns-in-None-clause-skipped
returns-in-None-clause-skipped g c = λ text ahead.
    let so = c.loop-byte.invariant.ahead text ahead in
    let same = c.in_ok-byte.ensures.place in
    let none = rw c.in-None.is at (c.in_ok-byte.ensures.end so.0 so.1.0) in
    skip_end _ _ _ text so.0 (record {
      ahead = c.in_ok-byte.ensures.ahead so.0 so.1.0;
      total = ap (λ (q : ℕ). q + length so.0) same ∙ so.1.1.0;
      tokens = ap (λ (q : ℕ). tokens_of q so.0) same ∙ so.1.1.1;
    }) c.in_ok-byte.ensures.within none

pub returns-then-not-is_blank-clause-skipped : goal.returns-then-not-is_blank-clause-skipped
returns-then-not-is_blank-clause-skipped g c = λ text ahead.
    let so = c.loop-byte.invariant.ahead text ahead in
    let same = c.in_ok-byte.ensures.place in
    let some = rw c.in-Some.is at c.in_ok-byte.ensures.byte in
    skip_dark _ _ _ text so.0 some.1.0 c.in-Some.byte (record {
      ahead = c.in_ok-byte.ensures.ahead so.0 so.1.0;
      total = ap (λ (q : ℕ). q + length so.0) same ∙ so.1.1.0;
      tokens = ap (λ (q : ℕ). tokens_of q so.0) same ∙ so.1.1.1;
    }) c.in_ok-byte.ensures.within some.1.1 (sym c.is_blank.ensures ∙ c.if-not-is_blank.true)

pub loop-byte-preserved : goal.loop-byte-preserved
loop-byte-preserved g c = record {
  faults = c.in_ok-byte.ensures.counted ∙ c.loop-byte.invariant.faults;
  ahead = λ text ahead.
      let so = c.loop-byte.invariant.ahead text ahead in
      let same = c.in_ok-byte.ensures.place in
      let some = rw c.in-Some.is at c.in_ok-byte.ensures.byte in
      let on = skip_blank _ c.peek.new.self c.step.new.self c.args.window.now.place text so.0 some.1.0 c.in-Some.byte (record {
        ahead = c.in_ok-byte.ensures.ahead so.0 so.1.0;
        total = ap (λ (q : ℕ). q + length so.0) same ∙ so.1.1.0;
        tokens = ap (λ (q : ℕ). tokens_of q so.0) same ∙ so.1.1.1;
      }) some.1.1 (c.step.ensures.bytes c.in-Some.byte some.1.0 some.1.1) c.step.ensures.place (sym c.is_blank.ensures ∙ c.if-not-is_blank.false) in
      (on.0, (on.1.ahead, (on.1.total, on.1.tokens)));
}
