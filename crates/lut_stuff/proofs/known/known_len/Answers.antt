use Rattle.std.proofs.Common.{◌≡◌, ◌+◌, ◌<◌, ◌≤◌, Some, sym, ap, ◌∙◌, length, arith}
use Rattle.bit_stuff.specs.Stuffed.{stuffed_size}
use Rattle.lut_stuff.specs.Tables.{distinct_above_0, table_bytes}
use Rattle.lut_stuff.proofs.Ranked.{known_size}
use Rattle.lut_stuff.proofs.Tabled.{table_size_some}
use Rattle.lut_stuff.proofs.known.known_len.Goals as goal

pub stuffed_len-indexes-requires-clause-width : goal.stuffed_len-indexes-requires-clause-width
stuffed_len-indexes-requires-clause-width c = let few = c.digit_count.ensures.least 8 (omega arith) in omega (arith, few)

pub returns-clause-value : goal.returns-clause-value
returns-clause-value c = λ values count width different.
    let none = c.if-different-eq0.false in
    let more = c.if-different-gt254.false in
    let some : 0 < distinct_above_0 values = omega (arith, none, different) in
    let few : distinct_above_0 values ≤ 254 = omega (arith, more, different) in
    let entries = c.stuffed_len-entries.ensures.value in
    let indexes = c.stuffed_len-indexes.ensures.value ∙ ap (stuffed_size c.args.count) c.digit_count.ensures.value in
    let size = known_size values c.args.count c.args.width c.args.different count width different in
    let all : c.head_len.result + 1 + c.stuffed_len-entries.result + c.stuffed_len-indexes.result ≡ length (table_bytes values) = omega (arith, c.head_len.ensures, entries, indexes, size) in
    ap Some all ∙ sym (table_size_some values some few)

pub returns-clause-size : goal.returns-clause-size
returns-clause-size c =
    let more = c.if-different-gt254.false in
    let entries = c.stuffed_len-entries.ensures.value in
    let indexes = c.stuffed_len-indexes.ensures.value ∙ ap (stuffed_size c.args.count) c.digit_count.ensures.value in
    (omega (arith, more), omega (arith, c.head_len.ensures, entries, indexes))
