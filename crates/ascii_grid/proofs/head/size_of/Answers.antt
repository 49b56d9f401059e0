use Rattle.std.proofs.Common.{◌∙◌, sym, refl, inl, inr, subst, w64}
use Rattle.std.proofs.lemmas.Int.{to_z-of_z}
use Rattle.ascii_grid.specs.Head.{IsInteger}
use Rattle.ascii_grid.proofs.DigitSteps.{no_some}
use Rattle.ascii_grid.proofs.head.size_of.Goals as goal

pub returns-in_default-clause-err : goal.returns-in_default-clause-err
returns-in_default-clause-err c = inl (refl, λ z is. no_some z (sym c.in_default.is ∙ (c.integer_of.ensures.value z).1 is))

pub returns-in_default-size_from-clause-err : goal.returns-in_default-size_from-clause-err
returns-in_default-size_from-clause-err c =
    let same = to_z-of_z w64 c.in-Some.number (rw c.in-Some.is at c.integer_of.ensures.fits) in
    let never = rw c.in_default-size_from.is at c.size_from.ensures.none in
    inr (inl (refl, (c.in-Some.number, ((c.integer_of.ensures.value c.in-Some.number).0 c.in-Some.is, λ n some e. never n some (same ∙ e)))))

pub returns-then-size-other-clause-err : goal.returns-then-size-other-clause-err
returns-then-size-other-clause-err c =
    let found = rw c.in-Some-size_from.is at c.size_from.ensures.some in
    let same = to_z-of_z w64 c.in-Some.number (rw c.in-Some.is at c.integer_of.ensures.fits) in
    let number = (c.integer_of.ensures.value c.in-Some.number).0 c.in-Some.is in
    inr (inr (refl, (c.in-Some-size_from.size, c.in-Some-other.other, (subst (IsInteger c.args.bytes.now) (sym same ∙ found.0) number, (found.1, (c.in-Some-other.is, c.if-size-other.true))))))

pub returns-else-size-other-clause-ok : goal.returns-else-size-other-clause-ok
returns-else-size-other-clause-ok c =
    let found = rw c.in-Some-size_from.is at c.size_from.ensures.some in
    let same = to_z-of_z w64 c.in-Some.number (rw c.in-Some.is at c.integer_of.ensures.fits) in
    let number = (c.integer_of.ensures.value c.in-Some.number).0 c.in-Some.is in
    (subst (IsInteger c.args.bytes.now) (sym same ∙ found.0) number, (found.1, rw c.in-Some-other.is c.if-size-other.false))

pub returns-in_default-other-clause-ok : goal.returns-in_default-other-clause-ok
returns-in_default-other-clause-ok c =
    let found = rw c.in-Some-size_from.is at c.size_from.ensures.some in
    let same = to_z-of_z w64 c.in-Some.number (rw c.in-Some.is at c.integer_of.ensures.fits) in
    let number = (c.integer_of.ensures.value c.in-Some.number).0 c.in-Some.is in
    (subst (IsInteger c.args.bytes.now) (sym same ∙ found.0) number, (found.1, rw c.in_default-other.is tt))
