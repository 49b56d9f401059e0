use Rattle.std.proofs.Common.{◌≡◌, ◌∙◌, ◌+◌, ◌<◌, ◌++◌, ◌∷◌, [], ap, sym, arith, length, length-append, List, ℕ}
use Rattle.std.proofs.lemmas.Result.{err_from_is_err_and}
use Rattle.std.proofs.lemmas.List.Elements.{All-push}
use Rattle.ascii_grid.specs.Tokens.{IsDark, TokenAt}
use Rattle.ascii_grid.proofs.ReadSteps.{ends_blank, ends_none, word_step, word_stopped}
use Rattle.ascii_grid.proofs.token.take_dark.Goals as goal

pub returns-in_err-byte-clause-taken : goal.returns-in_err-byte-clause-taken
returns-in_err-byte-clause-taken g c = λ text ahead.
    let inv = c.loop-window.invariant in
    let so = inv.ahead text ahead in
    let p = err_from_is_err_and c.from_residual.result c.from_residual.ensures.1 in
    let few : length c.loop-window.token.bytes < 33 = omega (arith, c.loop-window-test.true, c.len.ensures) in
    rw (p.1, p.2) (word_stopped c.in_err-byte.field-0.0 (g.S.Source.left c.loop-window.src) (g.S.Source.left c.peek.new.src) c.loop-window.window c.peek.new.self c.args.window.now.place c.loop-window.window.place text c.loop-window.token.bytes so.0 so.1.1 inv.dark few inv.at (c.in_err-byte.ensures.long so.0 so.1.0))

pub loop-window-preserved : goal.loop-window-preserved
loop-window-preserved g c =
    let inv = c.loop-window.invariant in
    let some = rw c.in-Some.is at c.in_ok-byte.ensures.byte in
    let word : c.push.new.self.bytes ≡ c.loop-window.token.bytes ++ c.in-Some.byte ∷ [] = ap (λ (t : TokenAt). t.bytes) c.push.ensures in
    let size : length c.push.new.self.bytes ≡ length c.loop-window.token.bytes + 1 = ap length word ∙ length-append c.loop-window.token.bytes (c.in-Some.byte ∷ []) in
    let dark : IsDark c.in-Some.byte = sym c.is_blank.ensures ∙ c.if-not-is_blank.true in
    record {
      faults = c.in_ok-byte.ensures.counted ∙ inv.faults;
      place = ap (λ (t : TokenAt). t.place) c.push.ensures ∙ inv.place;
      within = omega (arith, some.0, c.step.ensures.place);
      few = omega (arith, size, c.loop-window-test.true, c.len.ensures);
      dark = rw word (All-push IsDark c.loop-window.token.bytes c.in-Some.byte inv.dark dark);
      at = omega (arith, size, c.step.ensures.place, c.in_ok-byte.ensures.place, inv.at);
      ahead = λ text ahead.
          let so = inv.ahead text ahead in
          let on = word_step _ c.peek.new.self c.step.new.self c.args.window.now.place text c.loop-window.token.bytes so.0 some.1.0 c.in-Some.byte (record { ahead = c.in_ok-byte.ensures.ahead so.0 so.1.0; joined = so.1.1 }) some.1.1 (c.step.ensures.bytes c.in-Some.byte some.1.0 some.1.1) in
          (on.0, (on.1.ahead, on.1.joined ∙ ap (λ (u : List ℕ). u ++ on.0) (sym word)));
    }

pub returns-in_default-clause-taken : goal.returns-in_default-clause-taken
returns-in_default-clause-taken g c = λ text ahead.
    let inv = c.loop-window.invariant in
    let so = inv.ahead text ahead in
    let some = rw c.in-Some.is at c.in_ok-byte.ensures.byte in
    let after = c.in_ok-byte.ensures.ahead so.0 so.1.0 in (
      so.0,
      record {
        ahead = after;
        joined = so.1.1;
        place = c.in_ok-byte.ensures.place ∙ inv.at;
        within = c.in_ok-byte.ensures.within;
        dark = inv.dark;
        few = inv.few;
        ends = λ less. (ends_blank _ c.peek.new.self so.0 some.1.0 c.in-Some.byte some.1.1 (sym c.is_blank.ensures ∙ c.if-not-is_blank.false) after, λ more. some.0);
      },
    )

pub returns-in_default-2-clause-taken : goal.returns-in_default-2-clause-taken
returns-in_default-2-clause-taken g c = λ text ahead.
    let inv = c.loop-window.invariant in
    let so = inv.ahead text ahead in
    let none = rw c.in_default.is at (c.in_ok-byte.ensures.end so.0 so.1.0) in (
      so.0,
      record {
        ahead = c.in_ok-byte.ensures.ahead so.0 so.1.0;
        joined = so.1.1;
        place = c.in_ok-byte.ensures.place ∙ inv.at;
        within = c.in_ok-byte.ensures.within;
        dark = inv.dark;
        few = inv.few;
        ends = λ less. (ends_none so.0 none, λ more. absurd (more none));
      },
    )

pub returns-clause-taken : goal.returns-clause-taken
returns-clause-taken g c = λ text ahead.
    let inv = c.loop-window.invariant in
    let so = inv.ahead text ahead in (
      so.0,
      record {
        ahead = so.1.0;
        joined = so.1.1;
        place = inv.at;
        within = inv.within;
        dark = inv.dark;
        few = inv.few;
        ends = λ less. absurd (let no : ⊥ = omega (arith, less, c.loop-window-test.false, c.len.ensures) in no);
      },
    )
