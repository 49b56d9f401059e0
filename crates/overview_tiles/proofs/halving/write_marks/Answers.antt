use Rattle.std.proofs.Common.{◌-◌, ◌*◌, ℕ, List, take, drop, ◌∙◌, arith}
use Rattle.std.proofs.lemmas.List.{get_or-drop, get_or-take}
use Rattle.overview_tiles.proofs.MarkBytes.{next_byte}
use Rattle.overview_tiles.proofs.halving.write_marks.Goals as goal

pub loop-i-init : goal.loop-i-init
loop-i-init c k low less = absurd (let no : ⊥ = omega (arith, low) in no)

pub loop-i-preserved : goal.loop-i-preserved
loop-i-preserved c k low less =
    let counts = c.args.counts.now in
    let mask = c.loop-i.mask in
    let i = c.loop-i.i in
    let end = c.min-end.result in
    let part : List ℕ = take (end - 8 * i) (drop (8 * i) counts) in
    next_byte counts part mask i c.mark_byte.result k (omega (arith, c.loop-i-test.true, c.loop-i.auto.mask)) low less c.mark_byte.ensures
    (λ q few under. get_or-take (end - 8 * i) (drop (8 * i) counts) q 0 (omega (arith, c.min-end.ensures, few, under)) ∙ get_or-drop (8 * i) counts q 0)
    c.loop-i.invariant

pub returns : goal.returns
returns c k less = c.loop-i.invariant k (omega (arith, less, c.loop-i-test.false, c.loop-i.auto.mask, c.requires.size)) less
