use Rattle.std.proofs.Common.{◌≡◌, ◌<◌, length, get_or, slice_index, sym, ap, ◌∙◌, arith}
use Rattle.huff_codes.specs.Codes.{canonical_codes}
use Rattle.huff_codes.proofs.Reading.{joined_codes-nil}
use Rattle.huff_codes.proofs.Filling.{bits_more}
use Rattle.huff_codes.proofs.words.writing.bits_of_all.Goals as goal

pub loop-symbol-init : goal.loop-symbol-init
loop-symbol-init c = record { few = omega arith; bits_are = sym (ap length (joined_codes-nil (canonical_codes c.args.lengths.now))) }

pub loop-symbol-preserved : goal.loop-symbol-preserved
loop-symbol-preserved c =
    let lengths = c.args.lengths.now in
    let symbols = c.args.symbols.now in
    let k = c.loop-symbol.symbol-index in
    let byte = c.type_inv.symbols k in
    let low : get_or symbols k 0 < 256 = omega (arith, byte) in
    let is : c.from-bits.result ≡ slice_index lengths (get_or symbols k 0) = c.from-bits.ensures ∙ ap (slice_index lengths) c.from.ensures in
    let short = c.requires.lengths.low (get_or symbols k 0) low in
    record {
      few = omega (arith, c.loop-symbol.invariant.few, is, short);
      bits_are = bits_more lengths symbols k c.loop-symbol.bits c.from-bits.result c.requires.lengths c.loop-symbol-test.true low c.loop-symbol.invariant.bits_are is;
    }
