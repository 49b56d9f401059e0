use Rattle.std.proofs.Common.{◌≡◌, ◌-◌, ◌<◌, ◌^◌, List, ℕ, sym, ap, subst, ◌∙◌, arith, length, drop, map}
use Rattle.std.specs.Prelude.{All}
use Rattle.std.proofs.lemmas.List.{length-take, length-drop}
use Rattle.bit_stuff.specs.Stuffed.{stuffed_size}
use Rattle.bit_stuff.specs.Simple.{binary_digits, greatest_number, simple_bytes, width_of}
use Rattle.bit_stuff.proofs.Digits.{below_width, width_of-le}
use Rattle.bit_stuff.proofs.HeadLaws.{length-simple_bytes, simple_written}
use Rattle.micro_block.specs.declared.spreading.Spread.{Spread}
use Rattle.micro_block.specs.inside.Stepping.{steps_above}
use Rattle.micro_block.proofs.Above.{all_below}
use Rattle.micro_block.proofs.writing.write_simple_steps.Goals as goal

-- the width is that of the list
wide : (step width : ℕ) (s : Spread) (ds qs : List ℕ) → qs ≡ map (steps_above step s.least) ds → s.most ≡ greatest_number (map (steps_above step s.least) ds) → width ≡ binary_digits s.most → width ≡ width_of qs
wide step width s ds qs e most is = is ∙ ap binary_digits (most ∙ ap greatest_number (sym e))

pub write_head-used-requires-clause-width : goal.write_head-used-requires-clause-width
write_head-used-requires-clause-width c =
    let qs = c.steps_each.new.out in
    let w = wide c.args.step c.digit_count-width.result c.args.spread c.args.distances.now qs c.steps_each.ensures c.requires.most c.digit_count-width.ensures.value in
    omega (arith, w, width_of-le 31 qs (all_below c.args.step c.args.spread.least c.args.distances.now qs c.steps_each.ensures c.requires.listable.few))

pub write_head-used-requires-clause-room : goal.write_head-used-requires-clause-room
write_head-used-requires-clause-room c =
    let same = ap (λ (qs : List ℕ). length (simple_bytes qs)) c.steps_each.ensures in
    omega (arith, c.requires.room, same, length-simple_bytes c.steps_each.new.out)

pub stuff-requires-clause-width : goal.stuff-requires-clause-width
stuff-requires-clause-width c =
    let qs = c.steps_each.new.out in
    let w = wide c.args.step c.digit_count-width.result c.args.spread c.args.distances.now qs c.steps_each.ensures c.requires.most c.digit_count-width.ensures.value in
    omega (arith, w, width_of-le 31 qs (all_below c.args.step c.args.spread.least c.args.distances.now qs c.steps_each.ensures c.requires.listable.few))

pub stuff-requires-clause-values : goal.stuff-requires-clause-values
stuff-requires-clause-values c =
    let qs = c.steps_each.new.out in
    let w = wide c.args.step c.digit_count-width.result c.args.spread c.args.distances.now qs c.steps_each.ensures c.requires.most c.digit_count-width.ensures.value in
    subst (λ (width : ℕ). All (λ v. v < 2 ^ width) qs) (sym w) (below_width 31 qs (all_below c.args.step c.args.spread.least c.args.distances.now qs c.steps_each.ensures c.requires.listable.few))

pub stuff-requires-clause-size : goal.stuff-requires-clause-size
stuff-requires-clause-size c =
    let qs = c.steps_each.new.out in
    let out = c.write_head-used.new.out in
    let used = c.write_head-used.result in
    let w = wide c.args.step c.digit_count-width.result c.args.spread c.args.distances.now qs c.steps_each.ensures c.requires.most c.digit_count-width.ensures.value in
    let size = ap (stuffed_size (length qs)) w in
    let same = ap (λ (us : List ℕ). length (simple_bytes us)) c.steps_each.ensures in
    omega (arith, length-take (length out - used) (drop used out), length-drop used out, c.write_head-used.auto.out, c.write_head-used.ensures.used, c.requires.room, same, length-simple_bytes qs, size)

pub slice_bounds-stuff-start : goal.slice_bounds-stuff-start
slice_bounds-stuff-start c =
    let same = ap (λ (qs : List ℕ). length (simple_bytes qs)) c.steps_each.ensures in
    omega (arith, c.write_head-used.auto.out, c.write_head-used.ensures.used, c.requires.room, same, length-simple_bytes c.steps_each.new.out)

pub slice_bounds-stuff-count : goal.slice_bounds-stuff-count
slice_bounds-stuff-count c =
    let same = ap (λ (qs : List ℕ). length (simple_bytes qs)) c.steps_each.ensures in
    omega (arith, c.write_head-used.auto.out, c.write_head-used.ensures.used, c.requires.room, same, length-simple_bytes c.steps_each.new.out)

pub returns : goal.returns
returns c =
    let qs = c.steps_each.new.out in
    let w = wide c.args.step c.digit_count-width.result c.args.spread c.args.distances.now qs c.steps_each.ensures c.requires.most c.digit_count-width.ensures.value in
    simple_written qs c.args.out.now c.write_head-used.new.out c.stuff.new.out c.digit_count-width.result c.write_head-used.result w c.write_head-used.ensures.used c.write_head-used.ensures.bytes c.stuff.ensures.bytes
    ∙ ap simple_bytes c.steps_each.ensures
