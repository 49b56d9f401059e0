use Rattle.std.proofs.Common.{◌≡◌, ◌+◌, ◌*◌, ◌≤◌, length, refl, sym, ap, ◌∙◌, subst, arith}
use Rattle.std.proofs.Math.Nat.{mul-le-mul_right}
use Rattle.delta_mode.specs.Symbols.{bias}
use Rattle.delta_mode.specs.EncodeStates.{deltas_before}
use Rattle.delta_mode.specs.inside.Bytewise.{wrapped}
use Rattle.delta_mode.specs.inside.Strided.{cell, cell_before}
use Rattle.delta_mode.proofs.Bytes.{one_each}
use Rattle.delta_mode.proofs.FullPieces.{full_piece, pixels_few}
use Rattle.delta_mode.proofs.Strided.{cell_is, row_within}
use Rattle.delta_mode.proofs.full.write_full.Goals as goal

pub byte_piece-requires-clause-narrow : goal.byte_piece-requires-clause-narrow
byte_piece-requires-clause-narrow g c =
    let r = g.V.View.pixels c.args.plane.now.raster.now in
    let row = row_within r c.kind.ensures.sound in
    let few = pixels_few r c.kind.ensures.sound in
    omega (arith, row, few, c.cols-cols.ensures.value)

pub byte_piece-requires-clause-cells : goal.byte_piece-requires-clause-cells
byte_piece-requires-clause-cells g c =
    let r = g.V.View.pixels c.args.plane.now.raster.now in
    let few = pixels_few r c.kind.ensures.sound in
    let all : length c.cells-cells.result.now ≡ r.rows * r.cols * r.depth = c.cells-cells.ensures.size ∙ sym (one_each r.kind _ (r.rows * r.cols * r.depth) c.args.plane.now.byte refl) in
    let up : (c.args.place + length c.args.out.now) * r.depth ≤ r.rows * r.cols * r.depth = mul-le-mul_right r.depth c.requires.within in
    record {
      below = omega (arith, c.args.plane.now.below, c.depth-depth.ensures.value);
      size = subst (λ n. (c.args.place + length c.args.out.now) * n ≤ length c.cells-cells.result.now) (sym c.depth-depth.ensures.value) (omega (arith, all, up));
      few = omega (arith, few, c.requires.within);
    }

pub returns : goal.returns
returns g c = record {
  symbols =
      let r = g.V.View.pixels c.args.plane.now.raster.now in
      let d = c.args.plane.now.d in
      let place = c.args.place in
      let sound = c.kind.ensures.sound in
      let cells = c.cells-cells.result.now in
      let out = c.byte_piece.new.out in
      let room = c.byte_piece.auto.out in
      let bias_is : c.bias_of.result ≡ bias r.kind = c.bias_of.ensures ∙ ap bias c.kind.ensures.value in
      ap (λ n. deltas_before r d (place + n)) (sym room)
      ∙ full_piece r d place (cell r.depth d cells) out sound c.args.plane.now.byte c.requires.full (omega (arith, room, c.requires.within))
      (cell_is r cells d (c.cells_are_values.ensures.placed r sound) c.args.plane.now.byte c.args.plane.now.below c.cells-cells.ensures.bytes)
      (λ i lt. c.byte_piece.ensures.symbols i (omega (arith, lt, room))
      ∙ (λ t. wrapped (bias_is t) (cell (c.depth-depth.ensures.value t) d cells (place + i)) (cell_before (c.cols-cols.ensures.value t) (cell (c.depth-depth.ensures.value t) d cells) (place + i))));
}
