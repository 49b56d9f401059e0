use Rattle.std.proofs.Common.{◌≡◌, ◌≤◌, ◌+◌, ◌-◌, ◌*◌, ap, ◌∙◌, sym, subst, length, take, drop, arith, rules}
use Rattle.std.specs.Prelude.{All}
use Rattle.std.proofs.lemmas.List.{length-take-le, length-drop}
use Rattle.std.proofs.Math.Nat.{mul-le-mul_right}
use Rattle.raster_cells.specs.declared.kind.PixelType.{PixelType}
use Rattle.raster_cells.specs.PixelType.{bytes_of, InRange}
use Rattle.raster_cells.specs.CellList.{CellList}
use Rattle.raster_cells.specs.MarkRuns.{AreRuns}
use Rattle.raster_values.specs.Ordered.{PutsMarkedBytes}
use Rattle.raster_cells.proofs.Spelled.{AreBytes, bytes_put, length-bytes_put, bytes_put_in_range}
use Rattle.raster_values.proofs.Pack.{apart}
use Rattle.raster_values.proofs.Scattered.{piece_are}
use Rattle.raster_values.proofs.AllCells.{puts_more}
use Rattle.raster_values.proofs.OrderSteps.{run_cut}
use Rattle.raster_values.proofs.blocks.order.put_cells.Goals as goal

pub overflow_mul-from : goal.overflow_mul-from
overflow_mul-from c =
    let h = run_cut c.args.values.now.kind c.args.depth c.next_run-run.ensures.runs c.requires.size c.requires.few (c.bytes-size.ensures ∙ ap bytes_of c.kind.ensures) c.requires.bytes in
    omega arith

pub overflow_mul-end : goal.overflow_mul-end
overflow_mul-end c =
    let h = run_cut c.args.values.now.kind c.args.depth c.next_run-run.ensures.runs c.requires.size c.requires.few (c.bytes-size.ensures ∙ ap bytes_of c.kind.ensures) c.requires.bytes in
    omega arith

pub overflow_sub-end : goal.overflow_sub-end
overflow_sub-end c =
    let h = run_cut c.args.values.now.kind c.args.depth c.next_run-run.ensures.runs c.requires.size c.requires.few (c.bytes-size.ensures ∙ ap bytes_of c.kind.ensures) c.requires.bytes in
    omega arith

pub overflow_mul-from-in-loop-at : goal.overflow_mul-from-in-loop-at
overflow_mul-from-in-loop-at c =
    let h = run_cut c.args.values.now.kind c.args.depth c.next_run-run.ensures.runs c.requires.size c.requires.few (c.bytes-size.ensures ∙ ap bytes_of c.kind.ensures) c.requires.bytes in
    omega arith

pub overflow_mul-end-in-loop-at : goal.overflow_mul-end-in-loop-at
overflow_mul-end-in-loop-at c =
    let h = run_cut c.args.values.now.kind c.args.depth c.next_run-run.ensures.runs c.requires.size c.requires.few (c.bytes-size.ensures ∙ ap bytes_of c.kind.ensures) c.requires.bytes in
    omega arith

pub slice_bounds-put_bytes-end : goal.slice_bounds-put_bytes-end
slice_bounds-put_bytes-end c =
    let h = run_cut c.args.values.now.kind c.args.depth c.next_run-run.ensures.runs c.requires.size c.requires.few (c.bytes-size.ensures ∙ ap bytes_of c.kind.ensures) c.requires.bytes in
    search rules

pub put_bytes-requires-clause-within : goal.put_bytes-requires-clause-within
put_bytes-requires-clause-within c =
    let h = run_cut c.args.values.now.kind c.args.depth c.next_run-run.ensures.runs c.requires.size c.requires.few (c.bytes-size.ensures ∙ ap bytes_of c.kind.ensures) c.requires.bytes in
    omega (arith, c.loop-at.invariant.form.size)

pub loop-at-preserved : goal.loop-at-preserved
loop-at-preserved c =
    let start = c.next_run-run.result.start in
    let end = c.next_run-run.result.end in
    let runs : AreRuns c.args.marks.now c.loop-at.at start end = c.next_run-run.ensures.runs in
    let kind = c.args.values.now.kind in
    let depth = c.args.depth in
    let from = start * depth in
    let count = end * depth - from in
    let s = c.bytes-size.result in
    let piece = take (end * depth * s - from * s) (drop (from * s) c.args.bytes.now) in
    let old = c.args.values.now.values in
    let vs = c.loop-at.values.values in
    let new = c.put_bytes.new.self.values in
    let size : s ≡ bytes_of kind = c.bytes-size.ensures ∙ ap bytes_of c.kind.ensures in
    let are : AreBytes c.args.bytes.now = λ i. omega (arith, c.type_inv.bytes i) in
    let low : from ≤ end * depth = mul-le-mul_right depth runs.second in
    let up : end * depth ≤ length c.args.marks.now * depth = mul-le-mul_right depth runs.within in
    let full : length vs ≡ length c.args.marks.now * depth = c.loop-at.invariant.form.size ∙ c.requires.size in
    let within : from + count ≤ length vs = omega (arith, full) in
    let is : new ≡ bytes_put kind vs from count piece = ap (λ (l : CellList). l.values) c.put_bytes.ensures.put ∙ ap (λ (k : PixelType). bytes_put k vs from count piece) c.loop-at.invariant.form.kind in
    let cut : piece ≡ take (count * bytes_of kind) (drop (from * bytes_of kind) c.args.bytes.now) =
    ap (λ n. take (end * depth * n - from * n) (drop (from * n) c.args.bytes.now)) size
    ∙ ap (λ n. take n (drop (from * bytes_of kind) c.args.bytes.now)) (sym (apart from (end * depth) (bytes_of kind) low)) in
    record {
      within = runs.within;
      form = record {
        kind = ap (λ (l : CellList). l.kind) c.put_bytes.ensures.put ∙ c.loop-at.invariant.form.kind;
        in_range = λ before. subst (All (InRange kind)) (sym is) (bytes_put_in_range kind vs from count piece (c.loop-at.invariant.form.in_range before) (piece_are (end * depth * s - from * s) (from * s) c.args.bytes.now are));
        size = ap length is ∙ length-bytes_put kind vs from count piece within ∙ c.loop-at.invariant.form.size;
      };
      put = subst (PutsMarkedBytes kind depth end c.args.marks.now c.args.bytes.now old) (sym is)
          (puts_more kind depth c.args.marks.now c.args.bytes.now old vs c.loop-at.at start end count piece are full
          (c.requires.bytes ∙ ap (λ n. n * bytes_of kind) (sym c.loop-at.invariant.form.size)) runs (omega arith) cut c.loop-at.invariant.put);
    }

pub put_bytes-requires-clause-size : goal.put_bytes-requires-clause-size
put_bytes-requires-clause-size c =
    let h = run_cut c.args.values.now.kind c.args.depth c.next_run-run.ensures.runs c.requires.size c.requires.few (c.bytes-size.ensures ∙ ap bytes_of c.kind.ensures) c.requires.bytes in
    let s = c.bytes-size.result in
    let from = c.next_run-run.result.start * c.args.depth in
    let end = c.next_run-run.result.end * c.args.depth in
    let rest = drop (from * s) c.args.bytes.now in
    let size : s ≡ bytes_of c.loop-at.values.kind =
    c.bytes-size.ensures ∙ ap bytes_of (c.kind.ensures ∙ sym c.loop-at.invariant.form.kind) in
    length-take-le (end * s - from * s) rest
    (omega (arith, length-drop (from * s) c.args.bytes.now, h.bytes_within))
    ∙ sym (apart from end s h.order) ∙ ap (λ n. (end - from) * n) size
