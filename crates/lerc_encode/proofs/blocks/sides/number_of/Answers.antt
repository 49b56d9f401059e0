use Rattle.std.proofs.Common.{◌≡◌, ℕ, ◌+◌, ◌-◌, ◌*◌, ◌/◌, ◌%◌, ◌<◌, ◌≤◌, sym, subst, arith}
use Rattle.std.proofs.Math.Nat.{mul-le-mul_left}
use Rattle.lerc_header.specs.declared.header.Header.{Header}
use Rattle.lerc_grammar.specs.Blocks.{coded_blocks}
use Rattle.lerc_encode.specs.declared.blocks.chosen_blocks.BlockAt.{BlockAt}
use Rattle.raster_values.specs.Raster.{Pixels}
use Rattle.lerc_encode.specs.inside.Blocked.{IsBlocked, IsBlockAt, IsWithin}
use Rattle.lerc_encode.specs.inside.Sides.{number_at}
use Rattle.lerc_encode.proofs.Blocking.{count_few}
use Rattle.lerc_encode.proofs.Quartered.{spot_numbered}
use Rattle.lerc_encode.proofs.blocks.sides.number_of.Goals as goal

-- the number with the side written out
written_out : (h : Header) (spot : BlockAt) → h.side ≡ 8 → (spot.row / 8 * ((h.cols + 7) / 8) + spot.col / 8) * h.depth + spot.d ≡ number_at h spot
written_out h spot eight =
    let side : 8 ≡ h.side = sym eight in
    let more : h.cols + 7 ≡ h.cols + h.side - 1 = omega (arith, eight) in
    (λ t. (spot.row / side t * (more t / side t) + spot.col / side t) * h.depth + spot.d)

pub returns-clause-value : goal.returns-clause-value
returns-clause-value g c = written_out c.args.blocks.now.header.now c.args.spot c.requires.part.side

pub returns-clause-within : goal.returns-clause-within
returns-clause-within g c =
    let h = c.args.blocks.now.header.now in
    let spot = c.args.spot in
    let side : 8 ≡ h.side = sym c.requires.part.side in
    let numbered = spot_numbered h spot c.args.blocks.now.blocked.side_above c.requires.within (subst (λ (n : ℕ). spot.row % n ≡ 0) side c.requires.part.row) (subst (λ (n : ℕ). spot.col % n ≡ 0) side c.requires.part.col) in
    subst (λ (n : ℕ). n < coded_blocks h) (sym (written_out h spot c.requires.part.side)) numbered.1

pub returns-clause-spot : goal.returns-clause-spot
returns-clause-spot g c =
    let h = c.args.blocks.now.header.now in
    let spot = c.args.spot in
    let side : 8 ≡ h.side = sym c.requires.part.side in
    let numbered = spot_numbered h spot c.args.blocks.now.blocked.side_above c.requires.within (subst (λ (n : ℕ). spot.row % n ≡ 0) side c.requires.part.row) (subst (λ (n : ℕ). spot.col % n ≡ 0) side c.requires.part.col) in
    subst (λ (n : ℕ). IsBlockAt h n spot) (sym (written_out h spot c.requires.part.side)) numbered.0

-- the number and the parts that it is made of are small
few : (h : Header) (r : Pixels) (spot : BlockAt) → IsBlocked h r → h.side ≡ 8 → IsWithin h spot → spot.row % 8 ≡ 0 → spot.col % 8 ≡ 0
    → (spot.row / 8 * ((h.cols + 7) / 8) + spot.col / 8) * h.depth + spot.d < 16777216
few h r spot is eight within row col =
    let side : 8 ≡ h.side = sym eight in
    let numbered = spot_numbered h spot is.side_above within (subst (λ (n : ℕ). spot.row % n ≡ 0) side row) (subst (λ (n : ℕ). spot.col % n ≡ 0) side col) in
    omega (arith, written_out h spot eight, numbered.1, count_few h r is)

few_before : (h : Header) (r : Pixels) (spot : BlockAt) → IsBlocked h r → h.side ≡ 8 → IsWithin h spot → spot.row % 8 ≡ 0 → spot.col % 8 ≡ 0
    → spot.row / 8 * ((h.cols + 7) / 8) + spot.col / 8 < 16777216
few_before h r spot is eight within row col =
    let block = spot.row / 8 * ((h.cols + 7) / 8) + spot.col / 8 in
    let some : 1 ≤ h.depth = omega (arith, within.depth) in
    let whole : block * 1 ≤ block * h.depth = mul-le-mul_left block some in
    omega (arith, whole, few h r spot is eight within row col)

pub overflow_mul-block : goal.overflow_mul-block
overflow_mul-block g c =
    let low = few_before c.args.blocks.now.header.now (g.V.View.pixels c.args.blocks.now.raster.now) c.args.spot c.args.blocks.now.blocked c.requires.part.side c.requires.within c.requires.part.row c.requires.part.col in
    omega (arith, low)

pub overflow_add-block : goal.overflow_add-block
overflow_add-block g c =
    let low = few_before c.args.blocks.now.header.now (g.V.View.pixels c.args.blocks.now.raster.now) c.args.spot c.args.blocks.now.blocked c.requires.part.side c.requires.within c.requires.part.row c.requires.part.col in
    omega (arith, low)

pub overflow_mul-result : goal.overflow_mul-result
overflow_mul-result g c =
    let low = few c.args.blocks.now.header.now (g.V.View.pixels c.args.blocks.now.raster.now) c.args.spot c.args.blocks.now.blocked c.requires.part.side c.requires.within c.requires.part.row c.requires.part.col in
    omega (arith, low)

pub overflow_add-result : goal.overflow_add-result
overflow_add-result g c =
    let low = few c.args.blocks.now.header.now (g.V.View.pixels c.args.blocks.now.raster.now) c.args.spot c.args.blocks.now.blocked c.requires.part.side c.requires.within c.requires.part.row c.requires.part.col in
    omega (arith, low)
