use Rattle.std.proofs.Common.{length, arith}
use Rattle.micro_block.specs.Frame.{frame_of}
use Rattle.micro_block.specs.ReadSteps.{stepped_values}
use Rattle.micro_block.proofs.BlockSteps.{read_complete, read_fault, read_in_range, read_ok, steps_read}
use Rattle.micro_block.proofs.reading.read_steps.Goals as goal

pub returns-clause-ok : goal.returns-clause-ok
returns-clause-ok c =
    let f = frame_of c.args.ctx.now (length c.args.numbers.now) in
    read_ok f c.args.bytes.now (λ s. s.used) (λ s. stepped_values s c.read_form.new.numbers) c.read_form.result (steps_read f c.args.bytes.now c.read_form.new.numbers c.read_form.result c.read_form.ensures)

pub returns-clause-complete : goal.returns-clause-complete
returns-clause-complete c =
    let f = frame_of c.args.ctx.now (length c.args.numbers.now) in
    read_complete f c.args.bytes.now (λ s. s.used) (λ s. stepped_values s c.read_form.new.numbers) c.read_form.result (steps_read f c.args.bytes.now c.read_form.new.numbers c.read_form.result c.read_form.ensures)

pub returns-clause-fault : goal.returns-clause-fault
returns-clause-fault c =
    let f = frame_of c.args.ctx.now (length c.args.numbers.now) in
    read_fault f c.args.bytes.now (λ s. s.used) (λ s. stepped_values s c.read_form.new.numbers) c.read_form.result (steps_read f c.args.bytes.now c.read_form.new.numbers c.read_form.result c.read_form.ensures)

pub returns-clause-in_range : goal.returns-clause-in_range
returns-clause-in_range c =
    let f = frame_of c.args.ctx.now (length c.args.numbers.now) in
    read_in_range f c.args.bytes.now (λ s. s.used) (λ s. stepped_values s c.read_form.new.numbers) c.read_form.result (λ i. omega (arith, c.type_inv.bytes i)) c.args.ctx.now.top_of_type
    (steps_read f c.args.bytes.now c.read_form.new.numbers c.read_form.result c.read_form.ensures)
