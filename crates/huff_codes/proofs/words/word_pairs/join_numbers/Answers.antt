use Rattle.std.proofs.Common.{rules, ◌≡◌, ℕ, ◌+◌, ◌*◌, ◌%◌, ◌^◌, ◌<◌, ◌≤◌, ap, ◌∙◌, sym, subst}
use Rattle.huff_codes.specs.Bits.{bits_of}
use Rattle.huff_codes.proofs.Windows.{bits-append}
use Rattle.huff_codes.proofs.Pushing.{pair_fits, pair_small, pair_value}
use Rattle.huff_codes.proofs.words.word_pairs.join_numbers.Goals as goal

value_of : (x y a b la lb : ℕ) → x ≡ a → y ≡ b → a < 2 ^ la → la + lb ≤ 32 → x * 2 ^ lb % 18446744073709551616 + y ≡ a * 2 ^ lb + b
value_of x y a b la lb ex ey small short = (λ i. ex i * 2 ^ lb % 18446744073709551616 + ey i) ∙ pair_value a b la lb small short

pub overflow_cast-result-2 : goal.overflow_cast-result-2
overflow_cast-result-2 c =
    let one = c.args.one in
    let two = c.args.two in
    let is = value_of c.from.result c.from-2.result one.number two.number one.length two.length c.from.ensures c.from-2.ensures c.requires.one c.requires.short in
    let fits : c.from.result * 2 ^ two.length % 18446744073709551616 + c.from-2.result < 4294967296 =
    subst (λ x. x < 4294967296) (sym is) (pair_fits one.number two.number one.length two.length c.requires.one c.requires.two c.requires.short) in
    search rules

pub returns-clause-small : goal.returns-clause-small
returns-clause-small c =
    let one = c.args.one in
    let two = c.args.two in
    let is = value_of c.from.result c.from-2.result one.number two.number one.length two.length c.from.ensures c.from-2.ensures c.requires.one c.requires.short in
    subst (λ x. x < 2 ^ (one.length + two.length)) (sym is) (pair_small one.number two.number one.length two.length c.requires.one c.requires.two)

pub returns-clause-bits : goal.returns-clause-bits
returns-clause-bits c =
    let one = c.args.one in
    let two = c.args.two in
    let is = value_of c.from.result c.from-2.result one.number two.number one.length two.length c.from.ensures c.from-2.ensures c.requires.one c.requires.short in
    ap (bits_of (one.length + two.length)) is ∙ sym (bits-append one.length two.length one.number two.number c.requires.two)
