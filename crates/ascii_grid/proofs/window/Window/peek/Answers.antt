use Rattle.std.proofs.Common.{◌≡◌, ◌∙◌, ap, sym, arith}
use Rattle.ascii_grid.specs.inside.Reading.{Held}
use Rattle.ascii_grid.specs.Tokens.{limit}
use Rattle.ascii_grid.proofs.Windows.{holds_first, holds_none, holds_some, some_ahead, too_long_told}
use Rattle.ascii_grid.proofs.window.Window.peek.Goals as goal

pub returns-then-self-clause-end : goal.returns-then-self-clause-end
returns-then-self-clause-end g c = λ bytes ahead.
    let none = holds_none c.self.inside.buffer c.self.inside.at c.self.inside.end c.if-self.true in
    (c.in_ok-fill.ensures.ahead bytes ahead).1 (ap (λ (h : Held). h.bytes) (sym c.self.view_is) ∙ none)

pub returns-then-self-eq-LIMIT-clause-long : goal.returns-then-self-eq-LIMIT-clause-long
returns-then-self-eq-LIMIT-clause-long g c = λ bytes ahead.
    let after = c.in_ok-fill.ensures.ahead bytes ahead in
    let some = holds_some c.self.inside.buffer c.self.inside.at c.self.inside.end (omega (arith, c.if-self.false)) (omega arith) in
    let same : c.self.inside.place ≡ c.fill.new.self.place = ap (λ (h : Held). h.place) c.self.view_is in
    let at : c.args.self.now.place ≡ limit = omega (arith, same, c.if-self-eq-LIMIT.true, c.in_ok-fill.ensures.place) in
    too_long_told c.stop.result _ bytes c.stop.ensures at (some_ahead c.fill.new.self.bytes after.0.rest bytes (λ none. some (ap (λ (h : Held). h.bytes) c.self.view_is ∙ none)) after.0.joined)

pub returns-clause-byte : goal.returns-clause-byte
returns-clause-byte g c =
    let first = holds_first c.self.inside.buffer c.self.inside.at c.self.inside.end 0 (omega (arith, c.if-self.false)) (omega arith) in
    ((let same : c.self.inside.place ≡ c.fill.new.self.place = ap (λ (h : Held). h.place) c.self.view_is in omega (arith, same, c.if-self-eq-LIMIT.false)), (_, ap (λ (h : Held). h.bytes) (sym c.self.view_is) ∙ first))
