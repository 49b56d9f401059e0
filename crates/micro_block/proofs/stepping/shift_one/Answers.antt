use Rattle.micro_block.proofs.Stepped.{steps_shifted}
use Rattle.micro_block.proofs.stepping.shift_one.Goals as goal

pub returns : goal.returns
returns c = steps_shifted c.args.half c.args.least c.args.distance c.args.shift c.requires.step
