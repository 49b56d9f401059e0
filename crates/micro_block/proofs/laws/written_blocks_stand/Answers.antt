use Rattle.micro_block.proofs.Written.{written_stands, kept_near, kept_between, kept_exact}
use Rattle.micro_block.proofs.laws.written_blocks_stand.Goals as goal

pub returns-clause-stands : goal.returns-clause-stands
returns-clause-stands c = λ f values w. written_stands f values w

pub returns-clause-near : goal.returns-clause-near
returns-clause-near c = λ f values w i lt. kept_near f values w i lt

pub returns-clause-capped : goal.returns-clause-capped
returns-clause-capped c = λ f values w i lt. kept_between f values w i lt

pub returns-clause-exact : goal.returns-clause-exact
returns-clause-exact c = λ f values w one. kept_exact f values w one
