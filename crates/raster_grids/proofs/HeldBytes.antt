-- Bytes that stand for so many values.
use Rattle.std.proofs.Common.{◌≡◌, ℕ, ◌*◌, ◌≤◌, List, length, sym, ap, ◌∙◌, subst}
use Rattle.std.specs.Prelude.{ℤ, All}
use Rattle.raster_cells.specs.declared.kind.PixelType.{PixelType}
use Rattle.raster_cells.specs.PixelType.{InRange, bytes_of}
use Rattle.raster_cells.specs.Values.{values_bytes}
use Rattle.raster_cells.specs.CellList.{values_in}
use Rattle.raster_cells.specs.LentBytes.{AreHeld}
use Rattle.raster_cells.proofs.CellRuns.{values_is}
use Rattle.raster_cells.proofs.Pack.{length-values_bytes}

pub are_held : (kind : PixelType) (count : ℕ) (bytes : List ℕ) (vs : List ℤ) → bytes ≡ values_bytes kind vs → length vs ≡ count → All (InRange kind) vs → count ≤ 16777216 → AreHeld kind count bytes
are_held kind count bytes vs is long fits few =
    let same : values_in kind count bytes ≡ vs = values_is kind count bytes vs is long fits in
    record {
      few = few;
      counted = ap length same ∙ long;
      size = ap length is ∙ length-values_bytes kind vs ∙ ap (λ n. n * bytes_of kind) long;
      bytes_are = is ∙ ap (values_bytes kind) (sym same);
      in_range = subst (All (InRange kind)) (sym same) fits;
    }
