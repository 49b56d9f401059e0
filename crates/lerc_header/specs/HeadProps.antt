-- A header stands in bytes in one way at most: for types that keep that it does.
use Rattle.std.specs.Prelude.{ℕ, ℤ, ◌⊎◌, List}
use Rattle.std.proofs.Common.{inl, inr, ap, arith}
use Rattle.std.proofs.Props.{props}
use Rattle.raster_cells.specs.declared.kind.PixelType.{PixelType}
use Rattle.double_bits.specs.Halves.{IsTwiceZero, IsTwiceNormal, HalfDouble}
use Rattle.lerc_header.specs.Head.{HeadAt, HasRange, RangeAt}
use Rattle.lerc_header.specs.declared.header.Header.{Header}

-- two facts that exclude each other
one_of-prop : {A B : Type 0} → IsProp A → IsProp B → (A → B → ⊥) → IsProp (A ⊎ B)
one_of-prop a b apart (inl x) (inl y) = ap inl (a x y)
one_of-prop a b apart (inl x) (inr y) = absurd (apart x y)
one_of-prop a b apart (inr x) (inl y) = absurd (apart y x)
one_of-prop a b apart (inr x) (inr y) = ap inr (b x y)

IsTwiceZero-prop : (bits : ℕ) (h : ℤ) → IsProp (IsTwiceZero bits h)
IsTwiceZero-prop bits h = hlevel props

IsTwiceNormal-prop : (bits : ℕ) (h : ℤ) → IsProp (IsTwiceNormal bits h)
IsTwiceNormal-prop bits h = hlevel props

HalfDouble-prop : (bits : ℕ) (h : ℤ) → IsProp (HalfDouble bits h)
HalfDouble-prop bits h =
    one_of-prop (IsTwiceZero-prop bits h) (IsTwiceNormal-prop bits h)
    (λ a b. omega (arith, a.no_exponent, b.exponent_above))

HasRange-prop : (bytes : List ℕ) (place : ℕ) (kind : PixelType) (least greatest : ℤ)
    → IsProp (HasRange bytes place kind least greatest)
HasRange-prop bytes place kind least greatest = hlevel (props, HalfDouble-prop)

RangeAt-prop : (bytes : List ℕ) (place : ℕ) (kind : PixelType) (valid : ℕ) (least greatest : ℤ)
    → IsProp (RangeAt bytes place kind valid least greatest)
RangeAt-prop bytes place kind valid least greatest =
    one_of-prop (hlevel (props, HasRange-prop)) (hlevel props) (λ a b. omega (arith, a.0, b.0))

pub HeadAt-prop : (bytes : List ℕ) (h : Header) → IsProp (HeadAt bytes h)
HeadAt-prop bytes h = hlevel (props, HalfDouble-prop, RangeAt-prop)
