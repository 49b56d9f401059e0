use Rattle.ascii_grid.proofs.OneText.{one_grid, one_tokens}
use Rattle.ascii_grid.proofs.laws.one_grid.Goals as goal

pub returns-clause-tokens : goal.returns-clause-tokens
returns-clause-tokens c = one_tokens

pub returns-clause-grid : goal.returns-clause-grid
returns-clause-grid c = one_grid
