use Rattle.std.proofs.Common.{◌+◌, ◌-◌, length, map, drop, ◌∙◌, arith}
use Rattle.std.proofs.lemmas.List.{length-drop, length-take}
use mir.Syntax.{w64}
use mir.Val.{of_z, to_z}
use Rattle.bit_stuff.specs.Simple.{simple_bytes}
use Rattle.raster_cells.specs.PixelType.{bytes_of}
use Rattle.micro_block.specs.ChosenBlock.{narrow_type, narrow_code, offset_bytes, tag_byte}
use Rattle.micro_block.specs.inside.Stepping.{steps_above}
use Rattle.micro_block.proofs.WriteSteps.{least_again, offset_len, rest_written, simple_above, simple_above_len}
use Rattle.micro_block.proofs.writing.write_simple_form.Goals as goal

pub write_offset-used-requires-clause-room : goal.write_offset-used-requires-clause-room
write_offset-used-requires-clause-room c =
    let ctx = c.args.ctx.now in
    let ds = c.args.distances.now in
    let s = c.args.spread in
    let size = simple_above_len ctx.kind ctx.col ctx.step ds s (to_z w64 (of_z w64 c.value_of.result)) c.requires.spread (least_again ctx.kind ctx.step ds s c.value_of.result c.requires.spread c.value_of.ensures) in
    omega (arith, c.requires.room, size)

pub slice_bounds-write_simple_list-count : goal.slice_bounds-write_simple_list-count
slice_bounds-write_simple_list-count c =
    let ctx = c.args.ctx.now in
    let ds = c.args.distances.now in
    let s = c.args.spread in
    let size = simple_above_len ctx.kind ctx.col ctx.step ds s (to_z w64 (of_z w64 c.value_of.result)) c.requires.spread (least_again ctx.kind ctx.step ds s c.value_of.result c.requires.spread c.value_of.ensures) in
    omega (arith, c.write_offset-used.auto.out, c.write_offset-used.ensures.used, c.requires.room, size)

pub slice_bounds-write_simple_list-start : goal.slice_bounds-write_simple_list-start
slice_bounds-write_simple_list-start c =
    let ctx = c.args.ctx.now in
    let ds = c.args.distances.now in
    let s = c.args.spread in
    let size = simple_above_len ctx.kind ctx.col ctx.step ds s (to_z w64 (of_z w64 c.value_of.result)) c.requires.spread (least_again ctx.kind ctx.step ds s c.value_of.result c.requires.spread c.value_of.ensures) in
    omega (arith, c.write_offset-used.auto.out, c.write_offset-used.ensures.used, c.requires.room, size)

pub write_simple_list-requires-clause-room : goal.write_simple_list-requires-clause-room
write_simple_list-requires-clause-room c =
    let ctx = c.args.ctx.now in
    let ds = c.args.distances.now in
    let s = c.args.spread in
    let out = c.write_offset-used.new.out in
    let used = c.write_offset-used.result in
    let size = simple_above_len ctx.kind ctx.col ctx.step ds s (to_z w64 (of_z w64 c.value_of.result)) c.requires.spread (least_again ctx.kind ctx.step ds s c.value_of.result c.requires.spread c.value_of.ensures) in
    omega (arith, length-take (length out - used) (drop used out), length-drop used out, c.write_offset-used.auto.out, c.write_offset-used.ensures.used, c.requires.room, size)

pub returns : goal.returns
returns c =
    let ctx = c.args.ctx.now in
    let ds = c.args.distances.now in
    let s = c.args.spread in
    let k = to_z w64 (of_z w64 c.value_of.result) in
    rest_written (tag_byte ctx.col 1 (narrow_code ctx.kind k)) (offset_bytes ctx.kind k) (drop (1 + bytes_of (narrow_type ctx.kind k)) c.args.out.now) c.write_offset-used.new.out c.write_simple_list.new.out
    (simple_bytes (map (steps_above ctx.step s.least) ds)) c.write_offset-used.result (omega (arith, c.write_offset-used.ensures.used, offset_len ctx.kind k)) c.write_offset-used.ensures.bytes c.write_simple_list.ensures
    ∙ simple_above ctx.kind ctx.col ctx.step ds s k c.requires.spread (least_again ctx.kind ctx.step ds s c.value_of.result c.requires.spread c.value_of.ensures)
