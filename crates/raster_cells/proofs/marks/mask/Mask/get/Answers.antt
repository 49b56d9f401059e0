use Rattle.std.proofs.Common.{◌/◌, ◌%◌, ◌<◌, Bool, List, ap, ◌∙◌, length, get_or, false, arith, rules}
use Rattle.std.proofs.lemmas.List.{get_or_default}
use Rattle.raster_cells.specs.inside.Bits.{byte_bit}
use Rattle.raster_cells.proofs.MaskBits.{count_is, bit_is}
use Rattle.raster_cells.proofs.marks.mask.Mask.get.Goals as goal

pub index-requires : goal.index-requires
index-requires c =
    let below : c.args.k / 8 < length c.self.inside.bytes.items = omega (arith, count_is c.self.inside _ c.self.view_is, c.self.invariant.size) in
    search (rules, below)

pub returns : goal.returns
returns c =
    let below : c.args.k / 8 < length c.self.inside.bytes.items = omega (arith, count_is c.self.inside _ c.self.view_is, c.self.invariant.size) in
    ap (λ b. byte_bit b (c.args.k % 8)) (c.index.ensures ∙ get_or_default c.self.inside.bytes.items (c.args.k / 8) c.index.result.now 0 below)
    ∙ bit_is c.self.inside c.self.invariant c.args.k ∙ ap (λ (ms : List Bool). get_or ms c.args.k false) c.self.view_is
