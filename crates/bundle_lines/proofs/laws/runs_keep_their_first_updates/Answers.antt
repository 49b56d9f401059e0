use Rattle.bundle_lines.proofs.Kept.{build_first, puts_first, start_first}
use Rattle.bundle_lines.proofs.laws.runs_keep_their_first_updates.Goals as goal

pub returns-clause-puts : goal.returns-clause-puts
returns-clause-puts c = λ bundle updates marks start old new could kept. puts_first start updates marks old new could bundle kept

pub returns-clause-build : goal.returns-clause-build
returns-clause-build c = λ updates marks start old new could kept. build_first start updates marks old new could kept

pub returns-clause-reading : goal.returns-clause-reading
returns-clause-reading c = start_first
