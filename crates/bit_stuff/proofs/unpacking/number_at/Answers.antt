use Rattle.std.proofs.Common.{◌≡◌, ◌∙◌, ◌≤◌, ◌+◌, ◌-◌, ◌*◌, ◌/◌, ◌%◌, ◌^◌, ℕ, ap, arith}
use Rattle.std.proofs.lemmas.Nat.{mul-le}
use Rattle.bit_stuff.specs.Stuffed.{number_of_bytes}
use Rattle.bit_stuff.proofs.unpacking.number_at.Goals as goal

pub overflow_mul-place : goal.overflow_mul-place
overflow_mul-place c = omega (arith, mul-le c.args.width c.args.i 31 (2 ^ 24) c.requires.width (omega arith))

pub returns : goal.returns
returns c =
    let place = c.args.width * c.args.i in
    let at = c.min-at.result in
    let before : 8 * at ≤ place = omega (arith, c.min-at.ensures) in
    let parts : 8 * at + (place - 8 * at) ≡ place = omega (arith, before) in
    c.bits_from.ensures ∙ ap (λ (k : ℕ). number_of_bytes c.args.bytes.now / 2 ^ k % 2 ^ c.args.width) parts
