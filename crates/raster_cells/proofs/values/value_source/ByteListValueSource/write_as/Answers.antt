use Rattle.std.proofs.Common.{◌≡◌, ◌+◌, ◌-◌, ◌*◌, ◌++◌, ◌∙◌, ap, sym, subst, length, take, drop, arith}
use Rattle.std.specs.Prelude.{All}
use Rattle.std.proofs.lemmas.List.{length-take-le, length-drop}
use Rattle.raster_cells.specs.PixelType.{InRange, bytes_of}
use Rattle.raster_cells.specs.Values.{values_above, values_bytes}
use Rattle.raster_cells.specs.Listed.{told_by}
use Rattle.raster_cells.proofs.GivenBytes.{above_cut, length-above}
use Rattle.raster_cells.proofs.GivenRuns.{given_fits}
use Rattle.raster_cells.proofs.values.value_source.ByteListValueSource.write_as.Goals as goal

pub write_above-requires-clause-in_range : goal.write_above-requires-clause-in_range
write_above-requires-clause-in_range c =
    let b = c.args.self.now in
    let bytes = b.bytes.now in
    let n = c.args.n in
    let count = c.args.count in
    let many : n + count - n ≡ count = omega arith in
    subst (All (InRange c.args.kind)) (sym (ap (λ m. values_above b.below (take m (drop n bytes))) many ∙ above_cut b.below bytes n count))
    (given_fits c.args.kind (told_by b) n count c.requires.in_range)

pub returns : goal.returns
returns c =
    let b = c.args.self.now in
    let bytes = b.bytes.now in
    let n = c.args.n in
    let count = c.args.count in
    let kind = c.args.kind in
    let many : n + count - n ≡ count = omega arith in
    let long : length (take count (drop n bytes)) ≡ count = length-take-le count (drop n bytes) (omega (arith, length-drop n bytes, c.requires.within, length-above b.below bytes)) in
    c.write_above.ensures
    ∙ ap (λ m. values_bytes kind (values_above b.below (take m (drop n bytes))) ++ drop (length (take m (drop n bytes)) * bytes_of kind) c.args.out.now) many
    ∙ ap (λ m. values_bytes kind (values_above b.below (take count (drop n bytes))) ++ drop (m * bytes_of kind) c.args.out.now) long
    ∙ ap (λ vs. values_bytes kind vs ++ drop (count * bytes_of kind) c.args.out.now) (above_cut b.below bytes n count)
