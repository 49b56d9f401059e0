use Rattle.std.proofs.Common.{◌≡◌, ◌*◌, ℤ, pos, List, length, map, take, ◌∙◌, subst, sym}
use Rattle.std.proofs.lemmas.Int.{to_z-of_z}
use mir.Syntax.{w64}
use mir.Val.{of_z, to_z}
use Rattle.lane_kernels.specs.Kernels.{capped_sums}
use Rattle.raster_cells.specs.PixelType.{type_greatest, type_least}
use Rattle.raster_cells.specs.Values.{AreValues}
use Rattle.micro_block.proofs.BlockSteps.{raw_fit}
use Rattle.micro_block.proofs.reading.read_raw.Goals as goal

pub returns : goal.returns
returns c =
    let kind = c.args.ctx.now.kind in
    let used = length c.args.numbers.now * c.bytes.result in
    let least = to_z w64 (of_z w64 c.least.result) in
    let greatest = to_z w64 (of_z w64 c.greatest.result) in
    let low : least ≡ type_least kind = to_z-of_z w64 c.least.result (record { sfits = c.least.type_inv }) ∙ c.least.ensures in
    let high : greatest ≡ type_greatest kind = to_z-of_z w64 c.greatest.result (record { sfits = c.greatest.type_inv }) ∙ c.greatest.ensures in (
      (
        c.if-bytes-used.false,
        subst (λ (u : List ℤ). AreValues kind (take used c.args.bytes.now) u) (λ i. capped_sums (map pos c.read_distances.new.numbers) (sym low i) (pos 1) (sym high i)) c.read_distances.ensures,
      ),
      raw_fit kind used least greatest low high,
    )
