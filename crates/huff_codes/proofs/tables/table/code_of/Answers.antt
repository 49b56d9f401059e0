use Rattle.std.proofs.Common.{◌≡◌, ◌+◌, ◌<◌, ◌≤◌, ◌-◌, ◌*◌, ◌/◌, ◌%◌, ◌^◌, ap, ◌∙◌, arith}
use Rattle.std.proofs.lemmas.Nat.{pow_pos, shr_split, shr_high}
use Rattle.std.proofs.Math.Nat.{mod-eq_of_lt}
use Rattle.huff_codes.proofs.Held.{code_bits-is}
use Rattle.huff_codes.proofs.BitLists.{same_from_top}
use Rattle.huff_codes.proofs.tables.table.code_of.Goals as goal

pub returns-clause-bits : goal.returns-clause-bits
returns-clause-bits c =
    let k = 32 - c.args.length in
    let word = c.args.word in
    let bits = c.from.result / 2 ^ k * 2 ^ k % 18446744073709551616 in
    let same : c.from.result ≡ word = c.from.ensures in
    let low : c.from.result / 2 ^ k * 2 ^ k ≤ c.from.result = omega (arith, shr_split c.from.result k) in
    let fits : c.from.result / 2 ^ k * 2 ^ k < 18446744073709551616 = omega (arith, low, same, c.ranges.word.fits) in
    let cleared : bits ≡ c.from.result / 2 ^ k * 2 ^ k + 0 = mod-eq_of_lt fits ∙ (let e : c.from.result / 2 ^ k * 2 ^ k ≡ c.from.result / 2 ^ k * 2 ^ k + 0 = omega arith in e) in
    let top : bits / 2 ^ k ≡ word / 2 ^ k =
    ap (λ x. x / 2 ^ k) cleared ∙ shr_high (c.from.result / 2 ^ k) k 0 (pow_pos k) ∙ ap (λ x. x / 2 ^ k) same in
    code_bits-is (record { bits = bits; length = c.args.length }) ∙ same_from_top c.args.length word bits c.requires top
