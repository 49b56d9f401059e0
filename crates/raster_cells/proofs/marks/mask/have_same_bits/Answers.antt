use Rattle.std.proofs.Common.{ℕ, List, ap, arith}
use Rattle.std.proofs.lemmas.Bool.Decides.{Decides-eqb}
use Rattle.std.proofs.lemmas.Slice.Eq.{slice_eq-Decides}
use Rattle.raster_cells.specs.Masks.{mask_bit}
use Rattle.raster_cells.proofs.EqualMasks.{same_bytes}
use Rattle.raster_cells.proofs.marks.mask.have_same_bits.Goals as goal

pub returns : goal.returns
returns c =
    let told = slice_eq-Decides Decides-eqb _ _ _ c.eq.ensures in (
      λ same k. ap (λ (bytes : List ℕ). mask_bit bytes k) (told.0 same),
      λ bits. told.1 (same_bytes c.args.one.now c.args.other.now c.requires (λ k. omega (arith, c.type_inv.one k)) (λ k. omega (arith, c.type_inv.other k)) bits),
    )
