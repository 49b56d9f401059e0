use Rattle.std.proofs.Common.{◌≡◌, ℤ, ◌*ℤ◌, pos, ◌↔◌, Option, Some, None, sym, ◌∙◌, subst, arith}
use Rattle.std.proofs.lemmas.Int.{ints}
use mir.Syntax.{w64}
use mir.Val.{to_z, of_z}
use Rattle.double_bits.specs.Halves.{HalfDouble}
use Rattle.double_bits.proofs.HalfBits.{half_small}
use Rattle.double_bits.proofs.OneHalf.{one_half}
use Rattle.lerc_header.specs.Head.{double_at}
use Rattle.lerc_header.proofs.Exits.{none_exit, none_of, some_has}
use Rattle.lerc_header.proofs.reading.whole_at.Goals as goal

pub returns-in_err-halves_of : goal.returns-in_err-halves_of
returns-in_err-halves_of c =
    let bits = double_at c.args.bytes.now c.args.place in
    let exact = subst (λ b. (h : ℤ) → (◌≡◌ {A = Option ℤ} None (Some h)) ↔ HalfDouble b h) c.bits_at.ensures c.in_err-halves_of.ensures.exact in
    none_exit (λ z. HalfDouble bits (pos 2 *ℤ z)) (λ z h. none_of (HalfDouble bits) exact (pos 2 *ℤ z) h) c.from_residual.result c.from_residual.ensures

pub returns : goal.returns
returns c =
    let bits = double_at c.args.bytes.now c.args.place in
    let twice = c.in_ok-halves_of.field-0 in
    let has = some_has (HalfDouble c.bits_at.result) twice c.in_ok-halves_of.ensures.exact in
    let small = half_small c.bits_at.result twice has in
    let cast : to_z w64 (of_z w64 twice) ≡ twice = omega (arith, ints, small) in
    let is : HalfDouble bits twice = subst (λ b. HalfDouble b twice) c.bits_at.ensures has in
    λ z. (
      λ found. subst (HalfDouble bits) (sym cast ∙ (c.half.ensures z).0 found) is,
      λ other. (c.half.ensures z).1 (cast ∙ one_half bits twice (pos 2 *ℤ z) is other),
    )
