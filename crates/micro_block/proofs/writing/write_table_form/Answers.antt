use Rattle.std.proofs.Common.{◌≡◌, ◌+◌, ◌-◌, ◌++◌, ℕ, length, map, drop, sym, ap, ◌∙◌, arith}
use Rattle.std.proofs.lemmas.List.{drop-drop, length-drop, length-take}
use mir.Syntax.{w64}
use mir.Val.{of_z, to_z}
use Rattle.lut_stuff.specs.Tables.{table_bytes}
use Rattle.raster_cells.specs.PixelType.{bytes_of}
use Rattle.micro_block.specs.ChosenBlock.{narrow_type, narrow_code, offset_bytes, tag_byte}
use Rattle.micro_block.specs.inside.Stepping.{steps_above}
use Rattle.micro_block.proofs.WriteSteps.{least_again, offset_len, rest_over, table_above, table_above_len}
use Rattle.micro_block.proofs.writing.write_table_form.Goals as goal

pub write_offset-used-requires-clause-room : goal.write_offset-used-requires-clause-room
write_offset-used-requires-clause-room c =
    let ctx = c.args.ctx.now in
    let ds = c.args.distances.now in
    let s = c.args.spread in
    let size = table_above_len ctx.kind ctx.col ctx.step ds s (to_z w64 (of_z w64 c.value_of.result)) c.requires.spread (least_again ctx.kind ctx.step ds s c.value_of.result c.requires.spread c.value_of.ensures) in
    omega (arith, c.requires.room, size)

pub overflow_add-result : goal.overflow_add-result
overflow_add-result c =
    let ctx = c.args.ctx.now in
    let ds = c.args.distances.now in
    let s = c.args.spread in
    let least = to_z w64 (of_z w64 c.value_of.result) in
    let same = least_again ctx.kind ctx.step ds s c.value_of.result c.requires.spread c.value_of.ensures in
    let size = table_above_len ctx.kind ctx.col ctx.step ds s least c.requires.spread same in
    let used = c.write_offset-used.ensures.used in
    omega (arith, c.requires.room, size, used, c.write_table_list.ensures.count)

pub slice_bounds-write_table_list-count : goal.slice_bounds-write_table_list-count
slice_bounds-write_table_list-count c =
    let ctx = c.args.ctx.now in
    let ds = c.args.distances.now in
    let s = c.args.spread in
    let size = table_above_len ctx.kind ctx.col ctx.step ds s (to_z w64 (of_z w64 c.value_of.result)) c.requires.spread (least_again ctx.kind ctx.step ds s c.value_of.result c.requires.spread c.value_of.ensures) in
    omega (arith, c.write_offset-used.auto.out, c.write_offset-used.ensures.used, c.requires.room, size)

pub slice_bounds-write_table_list-start : goal.slice_bounds-write_table_list-start
slice_bounds-write_table_list-start c =
    let ctx = c.args.ctx.now in
    let ds = c.args.distances.now in
    let s = c.args.spread in
    let size = table_above_len ctx.kind ctx.col ctx.step ds s (to_z w64 (of_z w64 c.value_of.result)) c.requires.spread (least_again ctx.kind ctx.step ds s c.value_of.result c.requires.spread c.value_of.ensures) in
    omega (arith, c.write_offset-used.auto.out, c.write_offset-used.ensures.used, c.requires.room, size)

pub write_table_list-requires-clause-room : goal.write_table_list-requires-clause-room
write_table_list-requires-clause-room c =
    let ctx = c.args.ctx.now in
    let ds = c.args.distances.now in
    let s = c.args.spread in
    let out = c.write_offset-used.new.out in
    let used = c.write_offset-used.result in
    let size = table_above_len ctx.kind ctx.col ctx.step ds s (to_z w64 (of_z w64 c.value_of.result)) c.requires.spread (least_again ctx.kind ctx.step ds s c.value_of.result c.requires.spread c.value_of.ensures) in
    omega (arith, length-take (length out - used) (drop used out), length-drop used out, c.write_offset-used.auto.out, c.write_offset-used.ensures.used, c.requires.room, size)

pub returns-clause-count : goal.returns-clause-count
returns-clause-count c =
    let ctx = c.args.ctx.now in
    let ds = c.args.distances.now in
    let s = c.args.spread in
    let size = table_above_len ctx.kind ctx.col ctx.step ds s (to_z w64 (of_z w64 c.value_of.result)) c.requires.spread (least_again ctx.kind ctx.step ds s c.value_of.result c.requires.spread c.value_of.ensures) in
    omega (arith, c.write_offset-used.ensures.used, c.write_table_list.ensures.count, size)

pub returns-clause-bytes : goal.returns-clause-bytes
returns-clause-bytes c =
    let ctx = c.args.ctx.now in
    let ds = c.args.distances.now in
    let s = c.args.spread in
    let old = c.args.out.now in
    let k = to_z w64 (of_z w64 c.value_of.result) in
    let r = c.write_table_list.result in
    let used = c.write_offset-used.result in
    let list = table_bytes (map (steps_above ctx.step s.least) ds) in
    let written = rest_over (tag_byte ctx.col 1 (narrow_code ctx.kind k)) (offset_bytes ctx.kind k) (drop (1 + bytes_of (narrow_type ctx.kind k)) old) c.write_offset-used.new.out c.write_table_list.new.out
    list used r (omega (arith, c.write_offset-used.ensures.used, offset_len ctx.kind k)) c.write_offset-used.ensures.bytes c.write_table_list.ensures.bytes in
    let behind : drop r (drop (1 + bytes_of (narrow_type ctx.kind k)) old) ≡ drop (used + r) old = ap (λ (n : ℕ). drop r (drop n old)) (sym c.write_offset-used.ensures.used) ∙ drop-drop r used old in
    written ∙ (λ i. table_above ctx.kind ctx.col ctx.step ds s k c.requires.spread (least_again ctx.kind ctx.step ds s c.value_of.result c.requires.spread c.value_of.ensures) i ++ behind i)
