-- Whether a source has a byte more.
use Rattle.std.proofs.Common.{◌≡◌, ℕ, true, false, List, [], drop, Option, Some, None, Ok, Err, refl, sym, ap, subst, ◌∙◌, arith}
use Rattle.outside_io.specs.declared.streams.failed.Failed.{Failed}
use Rattle.outside_io.specs.streams.Source.{IsAtEnd, TakesFront, TakesUpTo}
use Rattle.outside_io.specs.streams.Asks.{AsksOne}

pub none_more : (left new : Option (List ℕ)) (n : ℕ) (buf : List ℕ) → TakesFront left new n buf → n ≡ 0 → IsAtEnd new → AsksOne (Ok false) left new
none_more None new n buf takes zero end = takes
none_more (Some left) new n buf takes zero end =
    let at : drop n left ≡ [] = subst IsAtEnd takes.0 end in (sym (ap (λ k. drop k left) zero) ∙ at, takes.0 ∙ ap Some at)

pub some_more : (left new : Option (List ℕ)) (n : ℕ) (buf : List ℕ) → TakesFront left new n buf → n ≡ 1 → AsksOne (Ok true) left new
some_more None new n buf takes one = takes
some_more (Some left) new n buf takes one = (omega (arith, takes.1.0, one), takes.0 ∙ ap (λ k. Some (drop k left)) one)

pub not_asked : (left new : Option (List ℕ)) (limit : ℕ) (e : Failed) → TakesUpTo limit left new → limit ≡ 0 → AsksOne (Err e) left new
not_asked None new limit e takes zero = takes
not_asked (Some left) new limit e (m, (few, (within, is))) zero = let none : m ≡ 0 = omega (arith, zero, few) in is ∙ ap (λ k. Some (drop k left)) none

pub asked_end : (mid new : Option (List ℕ)) → AsksOne (Ok false) mid new → IsAtEnd new
asked_end None new asks = subst IsAtEnd (sym asks) tt
asked_end (Some rest) new asks = subst IsAtEnd (sym asks.1) refl
