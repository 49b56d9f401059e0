use Rattle.std.proofs.Common.{◌≡◌, ◌-◌, ◌/◌, ◌<◌, ◌^◌, sym, ap, ◌∙◌, subst}
use Rattle.huff_codes.specs.Bits.{bits_of}
use Rattle.huff_codes.proofs.Filling.{code_low, code_number_bits}
use Rattle.huff_codes.proofs.words.word_pairs.number_of.Goals as goal

pub returns : goal.returns
returns c =
    let l = c.args.code.length in
    let is : c.from.result / 2 ^ (32 - l) ≡ c.args.code.bits / 2 ^ (32 - l) = ap (λ x. x / 2 ^ (32 - l)) c.from.ensures in
    record {
      low = c.requires.low;
      small = subst (λ x. x < 2 ^ l) (sym is) (code_low c.args.code c.requires);
      same = ap (bits_of l) is ∙ sym (code_number_bits c.args.code c.requires);
    }
