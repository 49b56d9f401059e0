use Rattle.std.proofs.Common.{◌≡◌, ◌+◌, ◌-◌, ◌*◌, ◌++◌, ◌∙◌, ap, sym, subst, length, take, drop, arith}
use Rattle.std.specs.Prelude.{All}
use Rattle.std.proofs.lemmas.List.{length-take-le, length-drop}
use Rattle.lane_kernels.specs.Within.{sums_within}
use Rattle.raster_cells.specs.PixelType.{InRange, bytes_of}
use Rattle.raster_cells.specs.Values.{values_bytes}
use Rattle.raster_cells.specs.Listed.{sums_of}
use Rattle.raster_cells.proofs.GivenRuns.{given_fits, given_long}
use Rattle.raster_cells.proofs.GivenSums.{length-sums, sums_of_run}
use Rattle.raster_cells.proofs.values.value_source.SumsValueSource.write_as.Goals as goal

pub write_values-requires-clause-in_range : goal.write_values-requires-clause-in_range
write_values-requires-clause-in_range c =
    let s = c.args.self.now in
    subst (All (InRange c.args.kind)) (sym (c.eight_sums.ensures ∙ sums_of_run s.numbers.now s.offset s.step s.gap c.args.n c.args.count))
    (given_fits c.args.kind (sums_of s) c.args.n c.args.count c.requires.in_range)

pub returns-then-count-eq8 : goal.returns-then-count-eq8
returns-then-count-eq8 c =
    let s = c.args.self.now in
    let n = c.args.n in
    let count = c.args.count in
    let kind = c.args.kind in
    c.write_values.ensures
    ∙ ap (λ vs. values_bytes kind vs ++ drop (length vs * bytes_of kind) c.args.out.now) (c.eight_sums.ensures ∙ sums_of_run s.numbers.now s.offset s.step s.gap n count)
    ∙ ap (λ m. values_bytes kind (take count (drop n (sums_of s))) ++ drop (m * bytes_of kind) c.args.out.now) (given_long (sums_of s) n count c.requires.within)

pub write_sums-requires-clause-in_range : goal.write_sums-requires-clause-in_range
write_sums-requires-clause-in_range c =
    let s = c.args.self.now in
    subst (All (InRange c.args.kind)) (sym (sums_of_run s.numbers.now s.offset s.step s.gap c.args.n c.args.count))
    (given_fits c.args.kind (sums_of s) c.args.n c.args.count c.requires.in_range)

pub returns-else-count-eq8 : goal.returns-else-count-eq8
returns-else-count-eq8 c =
    let s = c.args.self.now in
    let qs = s.numbers.now in
    let n = c.args.n in
    let count = c.args.count in
    let kind = c.args.kind in
    let long : length (take (n + count - n) (drop n qs)) ≡ count = length-take-le (n + count - n) (drop n qs) (omega (arith, length-drop n qs, c.requires.within, length-sums qs s.offset s.step s.gap)) ∙ omega arith in
    c.write_sums.ensures
    ∙ ap (λ m. values_bytes kind (sums_within (take (n + count - n) (drop n qs)) s.offset s.step s.gap) ++ drop (m * bytes_of kind) c.args.out.now) long
    ∙ ap (λ vs. values_bytes kind vs ++ drop (count * bytes_of kind) c.args.out.now) (sums_of_run qs s.offset s.step s.gap n count)
