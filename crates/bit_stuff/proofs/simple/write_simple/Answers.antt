use Rattle.std.proofs.Common.{◌-◌, List, ℕ, sym, ap, arith, length, drop, subst}
use Rattle.std.proofs.lemmas.List.{length-take, length-drop}
use Rattle.bit_stuff.specs.Stuffed.{stuffed_size}
use Rattle.bit_stuff.specs.Simple.{IsSimpleList}
use Rattle.bit_stuff.proofs.Digits.{width_of-le}
use Rattle.bit_stuff.proofs.HeadLaws.{length-simple_bytes, simple_bytes-list, simple_written}
use Rattle.bit_stuff.proofs.simple.write_simple.Goals as goal

pub write_head-used-requires-clause-width : goal.write_head-used-requires-clause-width
write_head-used-requires-clause-width c = omega (arith, c.list_width-width.ensures.value, width_of-le 31 c.args.values.now c.requires.values)

pub stuff-requires-clause-width : goal.stuff-requires-clause-width
stuff-requires-clause-width c = omega (arith, c.list_width-width.ensures.value, width_of-le 31 c.args.values.now c.requires.values)

pub stuff-requires-clause-size : goal.stuff-requires-clause-size
stuff-requires-clause-size c =
    let out = c.write_head-used.new.out in
    let used = c.write_head-used.result in
    let size = ap (stuffed_size (length c.args.values.now)) c.list_width-width.ensures.value in
    omega (arith, length-take (length out - used) (drop used out), length-drop used out, c.write_head-used.auto.out, c.write_head-used.ensures.used, c.requires.room, length-simple_bytes c.args.values.now, size)

pub returns-clause-bytes : goal.returns-clause-bytes
returns-clause-bytes c =
    simple_written c.args.values.now c.args.out.now c.write_head-used.new.out c.stuff.new.out c.list_width-width.result c.write_head-used.result
    c.list_width-width.ensures.value c.write_head-used.ensures.used c.write_head-used.ensures.bytes c.stuff.ensures.bytes

pub returns-clause-list : goal.returns-clause-list
returns-clause-list c =
    let bytes =
    simple_written c.args.values.now c.args.out.now c.write_head-used.new.out c.stuff.new.out c.list_width-width.result c.write_head-used.result
    c.list_width-width.ensures.value c.write_head-used.ensures.used c.write_head-used.ensures.bytes c.stuff.ensures.bytes in
    subst (λ (bs : List ℕ). IsSimpleList bs c.args.values.now) (sym bytes) (simple_bytes-list c.args.values.now (omega arith) c.requires.values)

pub write_head-used-requires-clause-room : goal.write_head-used-requires-clause-room
write_head-used-requires-clause-room c = omega (arith, c.requires.room, length-simple_bytes c.args.values.now)

pub slice_bounds-stuff-start : goal.slice_bounds-stuff-start
slice_bounds-stuff-start c = omega (arith, c.write_head-used.auto.out, c.write_head-used.ensures.used, c.requires.room, length-simple_bytes c.args.values.now)

pub slice_bounds-stuff-count : goal.slice_bounds-stuff-count
slice_bounds-stuff-count c = omega (arith, c.write_head-used.auto.out, c.write_head-used.ensures.used, c.requires.room, length-simple_bytes c.args.values.now)
