use Rattle.std.proofs.Common.{◌+◌, length, ap, ◌∙◌, arith}
use Rattle.bit_stuff.specs.Stuffed.{stuffed_size}
use Rattle.lut_stuff.proofs.Ranked.{known_table, known_written, length-known}
use Rattle.lut_stuff.proofs.known.write_known.Goals as goal

pub stuffed_len-requires-2-clause-width : goal.stuffed_len-requires-2-clause-width
stuffed_len-requires-2-clause-width c = let few = c.digit_count-digits.ensures.least 8 (omega arith) in omega (arith, few)

pub write_head-used-requires-clause-room : goal.write_head-used-requires-clause-room
write_head-used-requires-clause-room c = omega (arith, c.requires.room, length-known c.args.width c.args.entries.now c.args.indexes.now)

pub slice_bounds-write_tabled-end : goal.slice_bounds-write_tabled-end
slice_bounds-write_tabled-end c =
    let entries = c.stuffed_len.ensures.value in
    let indexes = c.stuffed_len-2.ensures.value ∙ ap (stuffed_size (length c.args.indexes.now)) c.digit_count-digits.ensures.value in
    omega (arith, c.write_head-used.auto.out, c.write_head-used.ensures.used, c.requires.room, length-known c.args.width c.args.entries.now c.args.indexes.now, entries, indexes)

pub returns-clause-count : goal.returns-clause-count
returns-clause-count c =
    let entries = c.stuffed_len.ensures.value in
    let indexes = c.stuffed_len-2.ensures.value ∙ ap (stuffed_size (length c.args.indexes.now)) c.digit_count-digits.ensures.value in
    omega (arith, c.write_head-used.ensures.used, length-known c.args.width c.args.entries.now c.args.indexes.now, entries, indexes)

pub returns-clause-bytes : goal.returns-clause-bytes
returns-clause-bytes c =
    let entries = c.stuffed_len.ensures.value in
    let indexes = c.stuffed_len-2.ensures.value ∙ ap (stuffed_size (length c.args.indexes.now)) c.digit_count-digits.ensures.value in
    known_written c.args.entries.now c.args.indexes.now c.args.out.now c.write_head-used.new.out c.write_tabled.new.out c.args.width c.write_head-used.result (c.stuffed_len.result + c.stuffed_len-2.result)
    c.write_head-used.ensures.used (omega (arith, entries, indexes)) c.write_head-used.ensures.bytes c.write_tabled.ensures

pub returns-clause-table : goal.returns-clause-table
returns-clause-table c = λ values width entries indexes. known_table values c.args.entries.now c.args.indexes.now c.args.width width entries indexes
