use Rattle.std.proofs.Common.{◌≤◌, ◌+◌, ◌-◌, ◌*◌, length, take, drop, refl, sym, ap, ◌∙◌, subst, arith, w32}
use lib.Lanes.{fold_l}
use mir.Val.{Fits}
use Rattle.lerc_header.specs.Checksum.{words}
use Rattle.lerc_header.proofs.LaneSums.{sixteen_more, all_taken}
use Rattle.lerc_header.proofs.lanes.sums_of_eights.Goals as goal

pub overflow_add-between : goal.overflow_add-between
overflow_add-between c =
    let bytes = c.args.bytes.now in
    (sixteen_more bytes c.loop-i.i c.loop-i.sums c.loop-i.earlier c.four_words.result (take 4 (words (take (length bytes - (16 * c.loop-i.i + 8)) (drop (16 * c.loop-i.i + 8) bytes)))) c.type_inv.bytes c.requires.short c.requires.eights (omega arith) c.loop-i.invariant c.four_words.ensures refl).between_fits

pub overflow_add-earlier : goal.overflow_add-earlier
overflow_add-earlier c =
    let bytes = c.args.bytes.now in
    (sixteen_more bytes c.loop-i.i c.loop-i.sums c.loop-i.earlier c.four_words.result (take 4 (words (take (length bytes - (16 * c.loop-i.i + 8)) (drop (16 * c.loop-i.i + 8) bytes)))) c.type_inv.bytes c.requires.short c.requires.eights (omega arith) c.loop-i.invariant c.four_words.ensures refl).earlier_fits

pub overflow_add-earlier-in-loop-i : goal.overflow_add-earlier-in-loop-i
overflow_add-earlier-in-loop-i c =
    let bytes = c.args.bytes.now in
    (sixteen_more bytes c.loop-i.i c.loop-i.sums c.loop-i.earlier c.four_words.result (take 4 (words (take (length bytes - (16 * c.loop-i.i + 8)) (drop (16 * c.loop-i.i + 8) bytes)))) c.type_inv.bytes c.requires.short c.requires.eights (omega arith) c.loop-i.invariant c.four_words.ensures refl).before_fits

pub overflow_add-sums : goal.overflow_add-sums
overflow_add-sums c =
    (sixteen_more c.args.bytes.now c.loop-i.i c.loop-i.sums c.loop-i.earlier c.four_words.result c.four_words-in-loop-i.result c.type_inv.bytes c.requires.short c.requires.eights (omega arith) c.loop-i.invariant c.four_words.ensures c.four_words-in-loop-i.ensures).sums_fit

pub loop-i-preserved : goal.loop-i-preserved
loop-i-preserved c =
    (sixteen_more c.args.bytes.now c.loop-i.i c.loop-i.sums c.loop-i.earlier c.four_words.result c.four_words-in-loop-i.result c.type_inv.bytes c.requires.short c.requires.eights (omega arith) c.loop-i.invariant c.four_words.ensures c.four_words-in-loop-i.ensures).taken

pub overflow_add-weight : goal.overflow_add-weight
overflow_add-weight c =
    (all_taken c.args.bytes.now c.loop-i.i c.loop-i.sums c.loop-i.earlier c.type_inv.bytes c.requires.short c.requires.eights (omega arith) c.loop-i.invariant).earlier_fit

pub overflow_mul-weight : goal.overflow_mul-weight
overflow_mul-weight c =
    (all_taken c.args.bytes.now c.loop-i.i c.loop-i.sums c.loop-i.earlier c.type_inv.bytes c.requires.short c.requires.eights (omega arith) c.loop-i.invariant).product_fits

pub weighted_lanes-requires-clause-fits : goal.weighted_lanes-requires-clause-fits
weighted_lanes-requires-clause-fits c =
    (all_taken c.args.bytes.now c.loop-i.i c.loop-i.sums c.loop-i.earlier c.type_inv.bytes c.requires.short c.requires.eights (omega arith) c.loop-i.invariant).weighted_fits

pub overflow_add-weight-2 : goal.overflow_add-weight-2
overflow_add-weight-2 c =
    subst (λ n. Fits w32 (4 * fold_l (λ s x. s + x) 0 c.loop-i.earlier + n)) (sym c.weighted_lanes.ensures)
    (all_taken c.args.bytes.now c.loop-i.i c.loop-i.sums c.loop-i.earlier c.type_inv.bytes c.requires.short c.requires.eights (omega arith) c.loop-i.invariant).weight_fits

pub overflow_add-result : goal.overflow_add-result
overflow_add-result c =
    (all_taken c.args.bytes.now c.loop-i.i c.loop-i.sums c.loop-i.earlier c.type_inv.bytes c.requires.short c.requires.eights (omega arith) c.loop-i.invariant).sums_fit

pub returns-clause-sum : goal.returns-clause-sum
returns-clause-sum c =
    (all_taken c.args.bytes.now c.loop-i.i c.loop-i.sums c.loop-i.earlier c.type_inv.bytes c.requires.short c.requires.eights (omega arith) c.loop-i.invariant).total

pub returns-clause-weighted : goal.returns-clause-weighted
returns-clause-weighted c =
    ap (λ n. 4 * fold_l (λ s x. s + x) 0 c.loop-i.earlier + n) c.weighted_lanes.ensures
    ∙ (all_taken c.args.bytes.now c.loop-i.i c.loop-i.sums c.loop-i.earlier c.type_inv.bytes c.requires.short c.requires.eights (omega arith) c.loop-i.invariant).weight

pub returns-clause-small : goal.returns-clause-small
returns-clause-small c =
    subst (λ n. (fold_l (λ s x. s + x) 0 c.loop-i.sums ≤ 23068320) × (4 * fold_l (λ s x. s + x) 0 c.loop-i.earlier + n ≤ 4071558480)) (sym c.weighted_lanes.ensures)
    (all_taken c.args.bytes.now c.loop-i.i c.loop-i.sums c.loop-i.earlier c.type_inv.bytes c.requires.short c.requires.eights (omega arith) c.loop-i.invariant).small
