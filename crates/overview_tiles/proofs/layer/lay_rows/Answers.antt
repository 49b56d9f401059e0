use Rattle.std.proofs.Common.{◌≡◌, ◌+◌, ◌*◌, ◌≤◌, ◌-◌, map, ap, subst, ◌∙◌, arith}
use Rattle.std.proofs.lemmas.Nat.{row_fits}
use Rattle.overview_tiles.specs.inside.Lays.{CountsFit, LaysMarks, LaysValues}
use Rattle.overview_tiles.proofs.Steps.{fits_front, fits_part, marks_join, marks_none, values_join, values_none, within_more, within_rest}
use Rattle.overview_tiles.proofs.layer.lay_rows.Goals as goal

pub loop-row-init : goal.loop-row-init
loop-row-init g c =
    let f = c.args.frame in
    let r = c.args.raster.now in
    let none : 0 ≡ 0 * f.cols = omega arith in
    record {
      marks = subst (λ n. LaysMarks f r 0 n c.args.counts.now c.args.counts.now) none (marks_none f r 0 c.args.counts.now);
      values = subst (λ n. LaysValues f r 0 n (r.rows * r.cols) (map g.S.Sum.number c.args.sums.now) (map g.S.Sum.number c.args.sums.now)) none (values_none f r 0 (r.rows * r.cols) (map g.S.Sum.number c.args.sums.now));
    }

pub lay_row-requires-clause-fits : goal.lay_row-requires-clause-fits
lay_row-requires-clause-fits g c =
    let f = c.args.frame in
    let r = c.args.raster.now in
    let at = c.loop-row.row * f.cols in
    let e : 0 + at ≡ at = omega arith in
    let few : at + f.cols ≤ r.rows * r.cols = row_fits c.loop-row.row f.cols r.rows r.cols (omega (arith, c.loop-row-test.true, c.rows-rows.ensures.value)) (omega (arith, c.requires.placed.cols)) in
    subst (λ n. CountsFit f r n f.cols c.loop-row.counts) e
    (fits_part f r 0 at f.cols (r.rows * r.cols) c.args.counts.now c.loop-row.counts few c.loop-row.auto.counts c.requires.fits c.loop-row.invariant.marks)

pub lay_row-requires-clause-within : goal.lay_row-requires-clause-within
lay_row-requires-clause-within g c =
    let f = c.args.frame in
    let r = c.args.raster.now in
    let at = c.loop-row.row * f.cols in
    let few : at + f.cols ≤ r.rows * r.cols = row_fits c.loop-row.row f.cols r.rows r.cols (omega (arith, c.loop-row-test.true, c.rows-rows.ensures.value)) (omega (arith, c.requires.placed.cols)) in
    let reach = g.S.Sum.reach in
    let rest : r.rows * r.cols ≡ at + (r.rows * r.cols - at) = omega (arith, few) in
    let fits : CountsFit f r 0 at c.args.counts.now = fits_front f r 0 at (r.rows * r.cols - at) c.args.counts.now (subst (λ k. CountsFit f r 0 k c.args.counts.now) rest c.requires.fits) in
    within_more (256 * reach + 255 * reach) (512 * reach) (r.rows * r.cols) f.depth (map g.S.Sum.number c.loop-row.sums) (omega arith)
    (within_rest reach f r 0 at (256 * reach) (r.rows * r.cols) c.args.counts.now (map g.S.Sum.number c.args.sums.now) (map g.S.Sum.number c.loop-row.sums) c.requires.placed.raster
    c.requires.reach (omega (arith, c.requires.counts)) fits c.requires.within c.loop-row.invariant.values)

pub loop-row-preserved : goal.loop-row-preserved
loop-row-preserved g c =
    let f = c.args.frame in
    let r = c.args.raster.now in
    let at = c.loop-row.row * f.cols in
    let e : at ≡ 0 + at = omega arith in
    let next : at + f.cols ≡ (c.loop-row.row + 1) * f.cols = omega arith in
    record {
      marks = subst (λ n. LaysMarks f r 0 n c.args.counts.now c.lay_row.new.counts) next
          (marks_join f r 0 at f.cols c.args.counts.now c.loop-row.counts c.lay_row.new.counts c.loop-row.auto.counts c.loop-row.invariant.marks (subst (λ n. LaysMarks f r n f.cols c.loop-row.counts c.lay_row.new.counts) e c.lay_row.ensures.counts));
      values = subst (λ n. LaysValues f r 0 n (r.rows * r.cols) (map g.S.Sum.number c.args.sums.now) (map g.S.Sum.number c.lay_row.new.sums)) next
          (values_join f r 0 at f.cols (r.rows * r.cols) (map g.S.Sum.number c.args.sums.now) (map g.S.Sum.number c.loop-row.sums) (map g.S.Sum.number c.lay_row.new.sums) c.loop-row.invariant.values (subst (λ n. LaysValues f r n f.cols (r.rows * r.cols) (map g.S.Sum.number c.loop-row.sums) (map g.S.Sum.number c.lay_row.new.sums)) e c.lay_row.ensures.sums));
    }

pub returns : goal.returns
returns g c =
    let f = c.args.frame in
    let r = c.args.raster.now in
    let last : c.loop-row.row ≡ r.rows = omega (arith, c.loop-row-test.false, c.loop-row.auto.row-end, c.rows-rows.ensures.value) in
    let all : c.loop-row.row * f.cols ≡ r.rows * r.cols = ap (λ n. n * f.cols) last ∙ ap (λ n. r.rows * n) c.requires.placed.cols in
    record {
      counts = subst (λ n. LaysMarks f r 0 n c.args.counts.now c.loop-row.counts) all c.loop-row.invariant.marks;
      sums = subst (λ n. LaysValues f r 0 n (r.rows * r.cols) (map g.S.Sum.number c.args.sums.now) (map g.S.Sum.number c.loop-row.sums)) all c.loop-row.invariant.values;
    }
