use Rattle.std.proofs.Common.{◌≡◌, ◌-◌, ◌+◌, ◌*◌, ◌/◌, ap, ◌∙◌, refl, take, drop, length}
use Rattle.std.proofs.lemmas.List.{length-take-le, length-drop, take_rest}
use Rattle.raster_cells.specs.inside.Bits.{bit_after}
use Rattle.raster_cells.proofs.MaskBytes.{bits_joined, bits_packed}
use Rattle.raster_cells.proofs.marks.mask.put_bits.Goals as goal

pub returns-clause-bits : goal.returns-clause-bits
returns-clause-bits c = λ k.
    let old = c.args.bytes.now.items in
    let mid = c.put_packed.new.bytes.items in
    let marks = c.args.marks.now in
    let from = c.args.from in
    let w = c.whole_marks-whole.result in
    let within = c.whole_marks-whole.ensures.within in
    let front = take w marks in
    let back = take (length marks - w) (drop w marks) in
    let rest : back ≡ drop w marks = take_rest marks w in
    let long : length front ≡ w = length-take-le w marks within in
    let behind : length back ≡ length marks - w = ap length rest ∙ length-drop w marks in
    bits_joined old mid c.put_each.new.bytes.items marks front back from w k within refl rest
    (c.put_packed.ensures.bits k ∙ ap (λ n. bit_after old front (8 * (from / 8)) n k) long ∙ bits_packed old front from w k c.whole_marks-whole.ensures.bytes)
    (c.put_each.ensures.bits k ∙ ap (λ n. bit_after mid back (from + w) n k) behind)
