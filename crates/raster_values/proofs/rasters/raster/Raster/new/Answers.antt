use Rattle.std.proofs.Common.{◌+◌, ◌*◌, ap, ◌∙◌, sym, subst, ℕ, List, length, get_or, Option, ◌≡◌, replicate, false, arith}
use Rattle.std.specs.Prelude.{ℤ, pos, All}
use Rattle.std.proofs.lemmas.List.{length-replicate, get_or-replicate}
use Rattle.std.proofs.lemmas.List.Elements.{All-replicate}
use Rattle.std.proofs.lemmas.Nat.{mul-add-lt}
use Rattle.raster_values.specs.declared.rasters.raster.Raster.TheInside.{Inside}
use Rattle.raster_cells.specs.declared.kind.PixelType.{PixelType}
use Rattle.raster_cells.specs.PixelType.{InRange}
use Rattle.raster_cells.specs.CellList.{CellList}
use Rattle.raster_values.specs.Raster.{Pixels}
use Rattle.raster_cells.specs.Shapes.{IsShape}
use Rattle.raster_values.specs.View.{pixels_of, IsInside}
use Rattle.raster_values.proofs.Views.{pixels_of-blank}
use Rattle.raster_cells.proofs.ValueBits.{zero_in_range}
use Rattle.raster_values.proofs.rasters.raster.Raster.new.Goals as goal

inside : (a : Inside) (kind : PixelType) (n : ℕ) → IsShape a.rows a.cols a.depth → n ≡ a.rows * a.cols → a.marks ≡ replicate n false → a.values ≡ record { kind = kind; values = replicate (n * a.depth) (pos 0) } → IsInside a
inside a kind n shape many marks is =
    let values : a.values.values ≡ replicate (n * a.depth) (pos 0) = ap (λ (l : CellList). l.values) is in
    let count : length a.marks ≡ n = ap length marks ∙ length-replicate n false in
    record {
      shape = shape;
      marks = count ∙ many;
      values = ap length values ∙ length-replicate (n * a.depth) (pos 0) ∙ ap (λ m. m * a.depth) many;
      in_range = subst (λ (l : CellList). All (InRange l.kind) l.values) (sym is) (All-replicate (InRange kind) (n * a.depth) (pos 0) (zero_in_range kind));
      zeros = λ k d here less _. ap (λ vs. get_or vs (k * a.depth + d) (pos 0)) values ∙ get_or-replicate (n * a.depth) (k * a.depth + d) (pos 0) (pos 0) (omega (arith, mul-add-lt k a.depth d n (omega (arith, here, count)) less));
    }

pub invariant_of-result : goal.invariant_of-result
invariant_of-result c =
    inside (record { rows = c.args.rows; cols = c.args.cols; depth = c.args.depth; marks = c.in_ok-marks.marks; values = c.in_ok-values.values }) c.args.kind c.in_ok-places.places c.in_ok-places.ensures.ok.1 c.in_ok-places.ensures.ok.0 c.in_ok-marks.ensures c.in_ok-values.ensures

pub returns-clause-ok : goal.returns-clause-ok
returns-clause-ok c =
    let pixels : List (Option (List ℤ)) → Pixels = λ ps. record { kind = c.args.kind; rows = c.args.rows; cols = c.args.cols; depth = c.args.depth; pixels = ps } in
    let n = c.in_ok-places.places in
    let marks : c.in_ok-marks.marks ≡ replicate (c.args.rows * c.args.cols) false = c.in_ok-marks.ensures ∙ ap (λ m. replicate m false) c.in_ok-places.ensures.ok.0 in
    ap (λ (l : CellList). record { kind = l.kind; rows = c.args.rows; cols = c.args.cols; depth = c.args.depth; pixels = pixels_of c.args.depth c.in_ok-marks.marks l.values }) c.in_ok-values.ensures
    ∙ ap pixels (ap (λ ms. pixels_of c.args.depth ms (replicate (n * c.args.depth) (pos 0))) marks ∙ pixels_of-blank c.args.depth (c.args.rows * c.args.cols) (replicate (n * c.args.depth) (pos 0)))
