use Rattle.std.proofs.Common.{◌≡◌, ◌+◌, ◌*◌, ◌≤◌, ◌-◌, ◌++◌, ap, sym, subst, ◌∙◌, length, take, drop, get_or, arith, ℕ, ℤ}
use Rattle.std.specs.Prelude.{pos}
use Rattle.std.proofs.Math.Nat.{mul-le-mul_right}
use Rattle.std.proofs.lemmas.List.{get_or-map, length-map}
use borrow.Rule.Slice.PartMut.{put_mid}
use mir.Syntax.{w64}
use mir.Val.{of_z, to_z}
use Rattle.raster_cells.specs.declared.kind.PixelType.{PixelType}
use Rattle.raster_cells.specs.Distance.{IsDistance, value_above}
use Rattle.raster_cells.specs.PixelType.{InRange, bytes_of, value_bytes}
use Rattle.raster_cells.specs.Values.{values_bytes}
use Rattle.raster_cells.proofs.Pack.{value_put}
use Rattle.micro_block.specs.inside.Stepping.{values_above}
use Rattle.micro_block.proofs.Above.{above_in_range}
use Rattle.micro_block.proofs.Range.{reread}
use Rattle.micro_block.proofs.writing.write_each.Goals as goal

-- the value as the code reads it again
again : (kind : PixelType) (z : ℤ) (d : ℕ) → z ≡ value_above kind d → IsDistance kind d → to_z w64 (of_z w64 z) ≡ value_above kind d
again kind z d e is = ap (λ (y : ℤ). to_z w64 (of_z w64 y)) e ∙ reread kind (value_above kind d) (above_in_range kind d is)

pub write_value-requires-clause-in_range : goal.write_value-requires-clause-in_range
write_value-requires-clause-in_range c =
    let kind = c.args.kind in
    let d = get_or c.args.distances.now c.loop-i.i 0 in
    let is = c.requires.in_range c.loop-i.i 0 c.loop-i-test.true in
    subst (λ (z : ℤ). InRange kind z) (sym (again kind c.value_of.result d c.value_of.ensures is)) (above_in_range kind d is)

pub loop-i-preserved : goal.loop-i-preserved
loop-i-preserved c =
    let kind = c.args.kind in
    let i = c.loop-i.i in
    let ds = c.args.distances.now in
    let vs = values_above kind ds in
    let is = c.requires.in_range i 0 c.loop-i-test.true in
    let long = length-map ds (value_above kind) in
    let same : to_z w64 (of_z w64 c.value_of.result) ≡ get_or vs i (pos 0) = again kind c.value_of.result (get_or ds i 0) c.value_of.ensures is ∙ sym (get_or-map (value_above kind) ds i 0 (pos 0) c.loop-i-test.true) in
    let up : (i + 1) * bytes_of kind ≤ length vs * bytes_of kind = mul-le-mul_right (bytes_of kind) (omega (arith, c.loop-i-test.true, long)) in
    let room : length c.args.out.now ≡ length vs * bytes_of kind = c.requires.room ∙ ap (λ (n : ℕ). n * bytes_of kind) (sym long) in
    subst (λ size. c.write_value.new.out ≡ value_bytes kind (get_or vs i (pos 0)) ++ drop (bytes_of kind) (take (length c.loop-i.out - i * size) (drop (i * size) c.loop-i.out))
    → put_mid (i * size) (length c.loop-i.out - i * size) c.loop-i.out c.write_value.new.out ≡ values_bytes kind (take (i + 1) vs) ++ drop ((i + 1) * bytes_of kind) c.args.out.now)
    (sym c.bytes-size.ensures)
    (value_put kind vs c.loop-i.out c.args.out.now c.write_value.new.out i (omega (arith, c.loop-i-test.true, long)) (omega (arith, room)) c.loop-i.auto.out (omega (arith, up, room)) c.loop-i.invariant)
    (c.write_value.ensures.bytes ∙ ap (λ v. value_bytes kind v ++ drop (bytes_of kind) (take (length c.loop-i.out - i * c.bytes-size.result) (drop (i * c.bytes-size.result) c.loop-i.out))) same)
