use Rattle.std.proofs.Common.{ℕ, length, arith}
use Rattle.micro_block.specs.Frame.{frame_of}
use Rattle.micro_block.proofs.BlockSteps.{answer_is, read_complete, read_fault, read_in_range, read_ok}
use Rattle.micro_block.proofs.reading.read_block.Goals as goal

pub returns-clause-ok : goal.returns-clause-ok
returns-clause-ok c =
    read_ok (frame_of c.args.ctx.now (length c.args.out.now)) c.args.bytes.now (λ (k : ℕ). k) (λ _. c.read_sums.new.out) c.read_sums.result c.read_sums.ensures

pub returns-clause-complete : goal.returns-clause-complete
returns-clause-complete c = λ front rest values joined block.
    answer_is c.read_sums.result (length front) c.read_sums.new.out values
    (read_complete (frame_of c.args.ctx.now (length c.args.out.now)) c.args.bytes.now (λ (k : ℕ). k) (λ _. c.read_sums.new.out) c.read_sums.result c.read_sums.ensures front rest values joined block)

pub returns-clause-fault : goal.returns-clause-fault
returns-clause-fault c =
    read_fault (frame_of c.args.ctx.now (length c.args.out.now)) c.args.bytes.now (λ (k : ℕ). k) (λ _. c.read_sums.new.out) c.read_sums.result c.read_sums.ensures

pub returns-clause-in_range : goal.returns-clause-in_range
returns-clause-in_range c =
    read_in_range (frame_of c.args.ctx.now (length c.args.out.now)) c.args.bytes.now (λ (k : ℕ). k) (λ _. c.read_sums.new.out) c.read_sums.result (λ i. omega (arith, c.type_inv.bytes i)) c.args.ctx.now.top_of_type c.read_sums.ensures
