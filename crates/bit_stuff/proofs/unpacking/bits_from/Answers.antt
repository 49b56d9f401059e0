use Rattle.std.proofs.Common.{◌∙◌, ◌/◌, ◌%◌, ◌^◌, ℕ, ap, arith}
use Rattle.bit_stuff.specs.Stuffed.{number_of_bytes}
use Rattle.bit_stuff.proofs.Numbers.{word_from, window_field}
use Rattle.bit_stuff.proofs.unpacking.bits_from.Goals as goal

pub returns : goal.returns
returns c =
    let bytes = c.args.bytes.now in
    c.field.ensures
    ∙ ap (λ (n : ℕ). n / 2 ^ c.args.shift % 2 ^ c.args.width) (c.read_u64.ensures ∙ word_from bytes c.args.at c.requires.whole (λ i. omega (arith, c.type_inv.bytes i)))
    ∙ window_field (number_of_bytes bytes) c.args.at c.args.shift c.args.width c.requires.word
