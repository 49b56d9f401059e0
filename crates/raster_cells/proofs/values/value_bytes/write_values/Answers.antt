use Rattle.std.proofs.Common.{◌≡◌, ◌+◌, ◌*◌, ◌≤◌, ◌-◌, ◌++◌, ap, sym, subst, ◌∙◌, length, take, drop, get_or, arith}
use Rattle.std.specs.Prelude.{pos}
use Rattle.std.proofs.Math.Nat.{mul-le-mul_right}
use borrow.Rule.Slice.PartMut.{put_mid}
use Rattle.raster_cells.specs.PixelType.{bytes_of, value_bytes}
use Rattle.raster_cells.specs.Values.{values_bytes}
use Rattle.raster_cells.proofs.ValueBits.{same_bits}
use Rattle.raster_cells.proofs.Pack.{value_put}
use Rattle.raster_cells.proofs.values.value_bytes.write_values.Goals as goal

pub loop-i-preserved : goal.loop-i-preserved
loop-i-preserved c =
    let kind = c.args.kind in
    let i = c.loop-i.i in
    let vs = c.args.values.now in
    let same = same_bits kind (get_or vs i (pos 0)) (c.requires.in_range i (pos 0) c.loop-i-test.true) in
    let up : (i + 1) * bytes_of kind ≤ length vs * bytes_of kind = mul-le-mul_right (bytes_of kind) (omega (arith, c.loop-i-test.true)) in
    subst (λ size. c.write_value.new.out ≡ value_bytes kind (get_or vs i (pos 0)) ++ drop (bytes_of kind) (take (length c.loop-i.out - i * size) (drop (i * size) c.loop-i.out))
    → put_mid (i * size) (length c.loop-i.out - i * size) c.loop-i.out c.write_value.new.out ≡ values_bytes kind (take (i + 1) vs) ++ drop ((i + 1) * bytes_of kind) c.args.out.now)
    (sym c.bytes-size.ensures)
    (value_put kind vs c.loop-i.out c.args.out.now c.write_value.new.out i c.loop-i-test.true c.requires.room c.loop-i.auto.out (omega (arith, up, c.requires.room)) c.loop-i.invariant)
    (c.write_value.ensures.bytes ∙ ap (λ v. value_bytes kind v ++ drop (bytes_of kind) (take (length c.loop-i.out - i * c.bytes-size.result) (drop (i * c.bytes-size.result) c.loop-i.out))) same)
