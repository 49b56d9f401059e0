-- Bytes of values, whoever keeps them.
use Rattle.std.proofs.Common.{◌≡◌, ℕ, ◌≤◌, List, length, sym, ap, ◌∙◌, subst, ◌*◌}
use Rattle.std.specs.Prelude.{ℤ, All}
use Rattle.raster_cells.specs.declared.kind.PixelType.{PixelType}
use Rattle.raster_cells.specs.PixelType.{InRange, bytes_of}
use Rattle.raster_cells.specs.Values.{values_bytes}
use Rattle.raster_cells.specs.CellList.{values_in}
use Rattle.raster_cells.specs.LentBytes.{AreValueBytes, AreHeld}
use Rattle.raster_cells.proofs.CellRuns.{values_is, length-values_in}
use Rattle.raster_cells.proofs.Spelled.{AreBytes, bytes_of_values, values_fit}
use Rattle.raster_cells.proofs.Pack.{length-values_bytes}

-- bytes that are those of values
pub are_value_bytes : (kind : PixelType) (count : ℕ) (bytes : List ℕ) (vs : List ℤ) → bytes ≡ values_bytes kind vs → length vs ≡ count → All (InRange kind) vs → count ≤ 16777216 → AreValueBytes kind count bytes
are_value_bytes kind count bytes vs is long fits few =
    let same : values_in kind count bytes ≡ vs = values_is kind count bytes vs is long fits in
    record {
      few = few;
      bytes_are = is ∙ ap (values_bytes kind) (sym same);
      in_range = subst (All (InRange kind)) (sym same) fits;
    }

-- as many bytes as values have
pub of_bytes : (kind : PixelType) (count : ℕ) (bytes : List ℕ) → count ≤ 16777216 → AreBytes bytes → length bytes ≡ count * bytes_of kind → AreValueBytes kind count bytes
of_bytes kind count bytes few are size = record {
  few = few;
  bytes_are = sym (bytes_of_values kind count bytes are size);
  in_range = values_fit kind count bytes are;
}

pub value_bytes_long : (kind : PixelType) (count : ℕ) (bytes : List ℕ) → AreValueBytes kind count bytes → length bytes ≡ count * bytes_of kind
value_bytes_long kind count bytes h =
    ap length h.bytes_are ∙ length-values_bytes kind (values_in kind count bytes) ∙ ap (λ n. n * bytes_of kind) (length-values_in kind count bytes)

pub held_bytes : (kind : PixelType) (count : ℕ) (bytes : List ℕ) → count ≤ 16777216 → AreBytes bytes → length bytes ≡ count * bytes_of kind → AreHeld kind count bytes
held_bytes kind count bytes few are size = record {
  few = few;
  counted = length-values_in kind count bytes;
  size = size;
  bytes_are = sym (bytes_of_values kind count bytes are size);
  in_range = values_fit kind count bytes are;
}
