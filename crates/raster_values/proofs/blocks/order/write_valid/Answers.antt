use Rattle.std.proofs.Common.{◌+◌, ◌-◌, ◌*◌, ap, ◌∙◌, sym, length, arith, rules}
use Rattle.raster_cells.specs.PixelType.{bytes_of}
use Rattle.raster_values.proofs.Scattered.{writes_none, writes_within, writes_more, written_all, run_within, run_bytes, piece_long}
use Rattle.raster_values.proofs.blocks.order.write_valid.Goals as goal

pub loop-at-init : goal.loop-at-init
loop-at-init c = writes_none c.args.values.now.kind c.args.depth c.args.marks.now c.args.values.now.values (length c.args.out.now) c.args.out.now c.requires.room

pub overflow_mul-count : goal.overflow_mul-count
overflow_mul-count c =
    let h = run_within c.args.depth c.next_run-run.ensures.runs c.requires.size in
    omega arith

pub overflow_mul-run : goal.overflow_mul-run
overflow_mul-run c =
    let h = run_within c.args.depth c.next_run-run.ensures.runs c.requires.size in
    omega arith

pub overflow_mul-next : goal.overflow_mul-next
overflow_mul-next c =
    let h = writes_within c.next_run-run.ensures.runs c.loop-at.invariant c.requires.size (c.bytes-size.ensures ∙ ap bytes_of c.kind.ensures) in
    omega arith

pub overflow_add-next : goal.overflow_add-next
overflow_add-next c =
    let h = writes_within c.next_run-run.ensures.runs c.loop-at.invariant c.requires.size (c.bytes-size.ensures ∙ ap bytes_of c.kind.ensures) in
    omega arith

pub bytes_of_run-requires : goal.bytes_of_run-requires
bytes_of_run-requires c = run_within c.args.depth c.next_run-run.ensures.runs c.requires.size

pub slice_bounds-copy_from_slice-end : goal.slice_bounds-copy_from_slice-end
slice_bounds-copy_from_slice-end c =
    let h = writes_within c.next_run-run.ensures.runs c.loop-at.invariant c.requires.size (c.bytes-size.ensures ∙ ap bytes_of c.kind.ensures) in
    let same = c.loop-at.auto.out in
    search rules

pub copy_from_slice-requires : goal.copy_from_slice-requires
copy_from_slice-requires c =
    let runs = c.next_run-run.ensures.runs in
    let size = c.bytes-size.ensures ∙ ap bytes_of c.kind.ensures in
    let count = (c.next_run-run.result.end - c.next_run-run.result.start) * c.args.depth in
    let within = writes_within runs c.loop-at.invariant c.requires.size size in
    piece_long c.loop-at.from (count * c.bytes-size.result) c.loop-at.out (omega (arith, within, c.loop-at.auto.out)) ∙ ap (λ n. count * n) size
    ∙ sym (ap length c.bytes_of_run.ensures ∙ run_bytes c.args.values.now.kind c.args.depth c.args.values.now.values runs c.requires.size)

pub loop-at-preserved : goal.loop-at-preserved
loop-at-preserved c =
    let size = c.bytes-size.ensures ∙ ap bytes_of c.kind.ensures in
    let count = (c.next_run-run.result.end - c.next_run-run.result.start) * c.args.depth in
    writes_more c.next_run-run.ensures.runs c.loop-at.invariant c.requires.size c.loop-at.auto.out (ap (λ n. c.loop-at.from + count * n) size) (c.copy_from_slice.ensures.after ∙ c.bytes_of_run.ensures)

pub returns : goal.returns
returns c = written_all (omega (arith, c.len.ensures.value, c.loop-at-test.false)) c.loop-at.auto.out c.loop-at.invariant
