use Rattle.std.proofs.Common.{◌≡◌, ◌%◌, ◌/◌, ◌<◌, ◌+◌, ◌≤◌, ℕ, length, sym, subst, inr, arith}
use Rattle.raster_cells.specs.PixelType.{bytes_of}
use Rattle.micro_block.specs.declared.context.BlockReason.TheVariants as reasons
use Rattle.micro_block.specs.Faults.{form_faults, offset_faults}
use Rattle.micro_block.specs.Frame.{frame_of}
use Rattle.micro_block.specs.ReadSteps.{stepped_values}
use Rattle.micro_block.specs.inside.Tagged.{FitSteps, HasConstant, HasStuffed, HasTagged}
use Rattle.micro_block.proofs.BlockSteps.{constant_tagged, offset_fits, offset_wrong, stuffed_tagged, told_behind}
use Rattle.micro_block.proofs.reading.read_offset.Goals as goal

pub read_stuffed-requires-clause-within : goal.read_stuffed-requires-clause-within
read_stuffed-requires-clause-within c = λ v h. offset_fits c.args.ctx.now.kind c.args.kind (c.args.tag / 64) v c.requires.kind h

pub read_constant-requires : goal.read_constant-requires
read_constant-requires c = record { within = λ v h. offset_fits c.args.ctx.now.kind c.args.kind (c.args.tag / 64) v c.requires.kind h }

pub returns-then-tag-eq1 : goal.returns-then-tag-eq1
returns-then-tag-eq1 c =
    let f = frame_of c.args.ctx.now (length c.args.numbers.now) in
    let bytes = c.args.bytes.now in
    let tag = c.args.tag in
    let kind = c.args.kind in
    let numbers = c.read_stuffed.new.numbers in
    let form : tag % 4 ≡ 1 = c.if-tag-eq1.true in
    told_behind 1 c.read_stuffed.result c.behind.result (λ s. HasStuffed f kind bytes s.used (stepped_values s numbers) × FitSteps f.kind s) (λ s. HasTagged f tag bytes s.used (stepped_values s numbers) × FitSteps f.kind s)
    (λ w. (w.at ≤ length bytes) × offset_faults f 1 kind bytes w.at w.reason) (λ w. (w.at ≤ 1 + length bytes) × form_faults f tag bytes w.at w.reason) c.behind.ensures c.read_stuffed.ensures
    (λ s x. (stuffed_tagged f tag kind bytes s.used (stepped_values s numbers) form c.requires.kind x.0, x.1))
    (λ w x. (omega (arith, x.0), offset_wrong f tag kind bytes w.at w.reason c.requires.not_raw c.requires.not_zero c.requires.kind (subst (λ (n : ℕ). offset_faults f n kind bytes w.at w.reason) (sym form) x.1)))

last_form : (n : ℕ) → n < 4 → ¬ (n ≡ 0) → ¬ (n ≡ 1) → ¬ (n ≡ 2) → n ≡ 3
last_form n below a b c = omega arith

pub returns-else-tag-eq1 : goal.returns-else-tag-eq1
returns-else-tag-eq1 c =
    let f = frame_of c.args.ctx.now (length c.args.numbers.now) in
    let bytes = c.args.bytes.now in
    let tag = c.args.tag in
    let kind = c.args.kind in
    let numbers = c.read_constant.new.numbers in
    let form : tag % 4 ≡ 3 = last_form (tag % 4) (omega arith) c.requires.not_raw c.if-tag-eq1.false c.requires.not_zero in
    told_behind 1 c.read_constant.result c.behind-else-tag-eq1.result (λ s. HasConstant kind bytes s.used f.count (stepped_values s numbers) × FitSteps f.kind s) (λ s. HasTagged f tag bytes s.used (stepped_values s numbers) × FitSteps f.kind s)
    (λ w. ((w.at ≡ 0) × (w.reason ≡ reasons.Cut)) × (length bytes < bytes_of kind)) (λ w. (w.at ≤ 1 + length bytes) × form_faults f tag bytes w.at w.reason) c.behind-else-tag-eq1.ensures c.read_constant.ensures
    (λ s x. (constant_tagged f tag kind bytes s.used (stepped_values s numbers) form c.requires.kind x.0, x.1))
    (λ w x. (omega (arith, x.0.0), offset_wrong f tag kind bytes w.at w.reason c.requires.not_raw c.requires.not_zero c.requires.kind (inr ((λ room. omega (arith, room, x.1)), x.0))))
