use Rattle.std.proofs.Common.{◌≡◌, ◌≤◌, ◌+◌, ◌-◌, ◌*◌, ◌∙◌, ℕ, ap, List, refl, sym, subst, length, map, get_or, take, drop, arith, rules}
use Rattle.std.specs.Prelude.{ℤ, pos}
use Rattle.std.specs.List.{range_with_len}
use Rattle.std.proofs.lemmas.List.{length-take-le, length-drop}
use Rattle.std.proofs.Math.Nat.{mul-le-mul_right}
use Rattle.raster_values.specs.declared.blocks.window.Plane.{Plane}
use Rattle.raster_values.specs.declared.blocks.window.Window.{Window}
use Rattle.raster_cells.specs.Distance.{distance_of}
use Rattle.raster_values.specs.inside.Windows.{IsWithin}
use Rattle.raster_values.proofs.CellDistances.{next_row, row_fits, row_within, rows_pushed}
use Rattle.raster_values.proofs.blocks.gathering.gather_whole_rows.Goals as goal

-- the values of the rows are there
among : (p : Plane) (w : Window) → IsWithin w (length p.marks.now) → (w.row + w.high) * w.cols * p.depth ≤ length p.samples.now.values
among p w within =
    let up : (w.row + w.high) * w.cols * p.depth ≤ length p.marks.now * p.depth = mul-le-mul_right p.depth within.all in
    omega (arith, up, p.size)

pub overflow_add-first : goal.overflow_add-first
overflow_add-first c = let some : c.args.window.row + c.loop-i.i ≤ 16777216 = omega arith in search rules

cut : (out : List ℕ) (n wide : ℕ) → n + wide ≤ length out → length (take (n + wide - n) (drop n out)) ≡ wide
cut out n wide fits = length-take-le (n + wide - n) (drop n out) (omega (arith, length-drop n out)) ∙ omega arith

pub overflow_mul-first : goal.overflow_mul-first
overflow_mul-first c =
    let h : (c.args.window.row + c.loop-i.i) * c.args.window.cols + c.args.window.col ≤ 16777216 = omega (arith, row_fits c.args.window.row c.loop-i.i c.args.window.high c.args.window.cols c.args.window.col c.args.window.wide c.args.plane.now.depth c.args.plane.now.d (length c.args.plane.now.samples.now.values) c.loop-i-test.true c.args.plane.now.below c.args.window.across (among c.args.plane.now c.args.window c.requires.fits.within), c.args.plane.now.few) in
    let less : (c.args.window.row + c.loop-i.i) * c.args.window.cols ≤ 16777216 = omega (arith, h) in
    search rules

pub overflow_add-first-in-loop-i : goal.overflow_add-first-in-loop-i
overflow_add-first-in-loop-i c = let h : (c.args.window.row + c.loop-i.i) * c.args.window.cols + c.args.window.col ≤ 16777216 = omega (arith, row_fits c.args.window.row c.loop-i.i c.args.window.high c.args.window.cols c.args.window.col c.args.window.wide c.args.plane.now.depth c.args.plane.now.d (length c.args.plane.now.samples.now.values) c.loop-i-test.true c.args.plane.now.below c.args.window.across (among c.args.plane.now c.args.window c.requires.fits.within), c.args.plane.now.few) in search rules

pub slice_bounds-get_distances_as-end : goal.slice_bounds-get_distances_as-end
slice_bounds-get_distances_as-end c = let h : c.loop-i.n + c.args.window.wide ≤ length c.loop-i.out = next_row c.loop-i.i c.args.window.high c.args.window.wide c.loop-i.n (c.loop-i.n + c.args.window.wide) (length c.loop-i.out) c.loop-i-test.true c.loop-i.invariant.counted refl (omega (arith, c.requires.fits.room, c.loop-i.auto.out)) in search rules

pub get_distances_as-requires-clause-within : goal.get_distances_as-requires-clause-within
get_distances_as-requires-clause-within c =
    let wide : length (take (c.loop-i.n + c.args.window.wide - c.loop-i.n) (drop c.loop-i.n c.loop-i.out)) ≡ c.args.window.wide = cut c.loop-i.out c.loop-i.n c.args.window.wide
    (next_row c.loop-i.i c.args.window.high c.args.window.wide c.loop-i.n (c.loop-i.n + c.args.window.wide) (length c.loop-i.out) c.loop-i-test.true c.loop-i.invariant.counted refl (omega (arith, c.requires.fits.room, c.loop-i.auto.out))) in
    subst (λ n. ((c.args.window.row + c.loop-i.i) * c.args.window.cols + c.args.window.col + n) * c.args.plane.now.depth ≤ length c.args.plane.now.samples.now.values) (sym wide)
    (row_within c.args.window.row c.loop-i.i c.args.window.high c.args.window.cols c.args.window.col c.args.window.wide c.args.plane.now.depth (length c.args.plane.now.samples.now.values) c.loop-i-test.true c.args.window.across (among c.args.plane.now c.args.window c.requires.fits.within))

pub loop-i-preserved : goal.loop-i-preserved
loop-i-preserved c =
    let g : ℤ → ℕ = distance_of c.args.plane.now.samples.now.kind in
    let next = c.loop-i.n + c.args.window.wide in
    let fits : next ≤ length c.loop-i.out = next_row c.loop-i.i c.args.window.high c.args.window.wide c.loop-i.n next (length c.loop-i.out) c.loop-i-test.true c.loop-i.invariant.counted refl (omega (arith, c.requires.fits.room, c.loop-i.auto.out)) in
    let wide : length (take (next - c.loop-i.n) (drop c.loop-i.n c.loop-i.out)) ≡ c.args.window.wide = cut c.loop-i.out c.loop-i.n c.args.window.wide fits in
    record {
      gathered = rows_pushed g c.args.plane.now.depth c.args.plane.now.d c.args.plane.now.samples.now.values c.args.out.now c.loop-i.out c.get_distances_as.new.out c.args.window.cols c.args.window.row c.args.window.col c.loop-i.i c.args.window.wide c.loop-i.n next refl fits
          (c.get_distances_as.ensures ∙ ap (λ n. map (λ k. g (get_or c.args.plane.now.samples.now.values (k * c.args.plane.now.depth + c.args.plane.now.d) (pos 0))) (range_with_len ((c.args.window.row + c.loop-i.i) * c.args.window.cols + c.args.window.col) n)) wide) c.loop-i.invariant.gathered;
      counted = omega (arith, c.loop-i.invariant.counted);
    }

pub overflow_add-next : goal.overflow_add-next
overflow_add-next c = let h : c.loop-i.n + c.args.window.wide ≤ length c.loop-i.out = next_row c.loop-i.i c.args.window.high c.args.window.wide c.loop-i.n (c.loop-i.n + c.args.window.wide) (length c.loop-i.out) c.loop-i-test.true c.loop-i.invariant.counted refl (omega (arith, c.requires.fits.room, c.loop-i.auto.out)) in search rules
