use Rattle.std.proofs.Common.{◌≡◌, pos, ◌*ℤ◌, ◌++◌, ◌<◌, ◌^◌, sym, ap, ◌∙◌, subst, arith}
use Rattle.std.specs.Prelude.{unsigned_abs}
use Rattle.std.proofs.lemmas.Int.{ints}
use mir.Syntax.{w64}
use mir.Val.{to_z}
use Rattle.byteorder.specs.Endian.{little_bytes}
use Rattle.double_bits.specs.Bits.{half_bits}
use Rattle.lerc_header.specs.inside.Laid.{AreLaid}
use Rattle.lerc_header.proofs.LaidLemmas.{laid_join}
use Rattle.lerc_header.proofs.WrittenHeads.{ends_small, twice_small, same_twice}
use Rattle.lerc_header.proofs.writing.put_doubles.Goals as goal

pub bits_of-requires-2 : goal.bits_of-requires-2
bits_of-requires-2 c =
    let h = c.args.header.now in
    let small = ends_small h.kind h.valid h.least h.greatest c.requires.header.ends in
    subst (λ z. unsigned_abs z < 2 ^ 34) (sym (same_twice h.least small.least_small)) (twice_small h.least small.least_small)

pub bits_of-requires-3 : goal.bits_of-requires-3
bits_of-requires-3 c =
    let h = c.args.header.now in
    let small = ends_small h.kind h.valid h.least h.greatest c.requires.header.ends in
    subst (λ z. unsigned_abs z < 2 ^ 34) (sym (same_twice h.greatest small.greatest_small)) (twice_small h.greatest small.greatest_small)

pub overflow_mul-header : goal.overflow_mul-header
overflow_mul-header c =
    let h = c.args.header.now in
    let small = ends_small h.kind h.valid h.least h.greatest c.requires.header.ends in
    omega (arith, ints, small.least_small)

pub overflow_mul-header-2 : goal.overflow_mul-header-2
overflow_mul-header-2 c =
    let h = c.args.header.now in
    let small = ends_small h.kind h.valid h.least h.greatest c.requires.header.ends in
    omega (arith, ints, small.greatest_small)

pub returns-clause-laid : goal.returns-clause-laid
returns-clause-laid c =
    let h = c.args.header.now in
    let allowed = c.requires.header.step_allowed in
    let small = ends_small h.kind h.valid h.least h.greatest c.requires.header.ends in
    let cast : to_z w64 h.step ≡ pos h.step = omega (arith, ints, allowed.below) in
    let step : c.bits_of.result ≡ half_bits (pos h.step) = c.bits_of.ensures.value ∙ ap half_bits cast in
    let least : c.bits_of-2.result ≡ half_bits (pos 2 *ℤ h.least) = c.bits_of-2.ensures.value ∙ ap half_bits (same_twice h.least small.least_small) in
    let greatest : c.bits_of-3.result ≡ half_bits (pos 2 *ℤ h.greatest) = c.bits_of-3.ensures.value ∙ ap half_bits (same_twice h.greatest small.greatest_small) in
    let first = subst (λ b. AreLaid c.args.out.now c.args.place c.put_double-place.result (little_bytes 8 b) c.put_double-place.new.out) step c.put_double-place.ensures.laid in
    let second = subst (λ b. AreLaid c.put_double-place.new.out c.put_double-place.result c.put_double-place-2.result (little_bytes 8 b) c.put_double-place-2.new.out) least c.put_double-place-2.ensures.laid in
    let third = subst (λ b. AreLaid c.put_double-place-2.new.out c.put_double-place-2.result c.put_double.result (little_bytes 8 b) c.put_double.new.out) greatest c.put_double.ensures.laid in
    laid_join _ _ _ _ (little_bytes 8 (half_bits (pos h.step))) _ (little_bytes 8 (half_bits (pos 2 *ℤ h.least)) ++ little_bytes 8 (half_bits (pos 2 *ℤ h.greatest))) _ first
    (laid_join _ _ _ _ (little_bytes 8 (half_bits (pos 2 *ℤ h.least))) _ (little_bytes 8 (half_bits (pos 2 *ℤ h.greatest))) _ second third)
