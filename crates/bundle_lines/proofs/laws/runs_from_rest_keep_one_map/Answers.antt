use Rattle.bundle_lines.proofs.Kept.{build_at_rest, puts_at_rest, start_at_rest}
use Rattle.bundle_lines.proofs.laws.runs_from_rest_keep_one_map.Goals as goal

pub returns-clause-puts : goal.returns-clause-puts
returns-clause-puts c = λ bundle updates marks start old new quiet stands kept. puts_at_rest start old new quiet stands bundle updates marks kept

pub returns-clause-build : goal.returns-clause-build
returns-clause-build c = λ updates marks start old new quiet stands kept. build_at_rest start old new quiet stands updates marks kept

pub returns-clause-reading : goal.returns-clause-reading
returns-clause-reading c = λ start old new quiet stands kept. start_at_rest start old new quiet stands kept
