use Rattle.std.proofs.Common.{◌+◌, ◌-◌, ◌*◌, ap, ◌∙◌, sym, take, drop, arith, rules, refl}
use Rattle.raster_cells.specs.declared.kind.PixelType.{PixelType}
use Rattle.raster_cells.specs.PixelType.{bytes_of}
use Rattle.raster_cells.specs.CellList.{CellList}
use Rattle.raster_cells.proofs.Spelled.{bytes_put}
use Rattle.raster_values.proofs.Scattered.{scatters_none, scatters_within, scatters_more, scattered_all, run_within, piece_long}
use Rattle.raster_values.proofs.blocks.order.scatter_bytes.Goals as goal

pub loop-at-init : goal.loop-at-init
loop-at-init g c = record { kind = refl; kept = refl; scatters = scatters_none (g.V.CellStore.cells c.args.values.now).kind c.args.depth (g.M.MarkSource.marks c.args.marks.now) c.args.bytes.now (g.V.CellStore.cells c.args.values.now).values c.requires.count }

pub overflow_mul-count : goal.overflow_mul-count
overflow_mul-count g c =
    let h = run_within c.args.depth c.next_run-run.ensures.runs c.requires.size in
    omega arith

pub overflow_mul-run : goal.overflow_mul-run
overflow_mul-run g c =
    let h = run_within c.args.depth c.next_run-run.ensures.runs c.requires.size in
    omega arith

pub overflow_mul-next : goal.overflow_mul-next
overflow_mul-next g c =
    let h = scatters_within c.next_run-run.ensures.runs c.loop-at.invariant.scatters c.requires.size (c.bytes-size.ensures ∙ ap bytes_of c.kind.ensures) in
    omega arith

pub overflow_add-next : goal.overflow_add-next
overflow_add-next g c =
    let h = scatters_within c.next_run-run.ensures.runs c.loop-at.invariant.scatters c.requires.size (c.bytes-size.ensures ∙ ap bytes_of c.kind.ensures) in
    omega arith

pub put_bytes-requires-clause-within : goal.put_bytes-requires-clause-within
put_bytes-requires-clause-within g c =
    run_within c.args.depth c.next_run-run.ensures.runs (c.loop-at.invariant.scatters.fills.kept.size ∙ c.requires.size)

pub slice_bounds-put_bytes-end : goal.slice_bounds-put_bytes-end
slice_bounds-put_bytes-end g c =
    let h = scatters_within c.next_run-run.ensures.runs c.loop-at.invariant.scatters c.requires.size (c.bytes-size.ensures ∙ ap bytes_of c.kind.ensures) in
    search rules

pub put_bytes-requires-clause-size : goal.put_bytes-requires-clause-size
put_bytes-requires-clause-size g c =
    let size = c.bytes-size.ensures ∙ ap bytes_of c.kind.ensures in
    let count = (c.next_run-run.result.end - c.next_run-run.result.start) * c.args.depth in
    piece_long c.loop-at.from (count * c.bytes-size.result) c.args.bytes.now (scatters_within c.next_run-run.ensures.runs c.loop-at.invariant.scatters c.requires.size size)
    ∙ ap (λ n. count * n) (size ∙ ap bytes_of (sym c.loop-at.invariant.kind))

pub loop-at-preserved : goal.loop-at-preserved
loop-at-preserved g c =
    let size = c.bytes-size.ensures ∙ ap bytes_of c.kind.ensures in
    let count = (c.next_run-run.result.end - c.next_run-run.result.start) * c.args.depth in
    let next = c.loop-at.from + count * c.bytes-size.result in
    let piece = take (next - c.loop-at.from) (drop c.loop-at.from c.args.bytes.now) in
    record {
      kind = ap (λ (l : CellList). l.kind) c.put_bytes.ensures.put ∙ c.loop-at.invariant.kind;
      scatters = scatters_more c.next_run-run.ensures.runs c.loop-at.invariant.scatters c.requires.size (λ i. omega (arith, c.type_inv.bytes i)) (ap (λ n. c.loop-at.from + count * n) size)
          (ap (λ (l : CellList). l.values) c.put_bytes.ensures.put ∙ ap (λ (k : PixelType). bytes_put k (g.V.CellStore.cells c.loop-at.values).values (c.next_run-run.result.start * c.args.depth) count piece) c.loop-at.invariant.kind);
      kept = c.put_bytes.ensures.kept ∙ c.loop-at.invariant.kept;
    }

pub returns-clause-scattered : goal.returns-clause-scattered
returns-clause-scattered g c = scattered_all (omega (arith, c.len.ensures.value, c.loop-at-test.false)) c.loop-at.invariant.scatters
