use Rattle.std.proofs.Common.{rules}
use Rattle.bundle_tiles.proofs.raw_tile.head_of.Goals as goal

pub returns-then-is_empty : goal.returns-then-is_empty
returns-then-is_empty c = search rules

pub returns-then-head-ne82 : goal.returns-then-head-ne82
returns-then-head-ne82 c = search rules

pub returns-then-head-lt2 : goal.returns-then-head-lt2
returns-then-head-lt2 c = search rules

pub returns-then-head-gt127 : goal.returns-then-head-gt127
returns-then-head-gt127 c = search rules

pub returns-then-head-lt3 : goal.returns-then-head-lt3
returns-then-head-lt3 c = search rules

pub returns-in_default : goal.returns-in_default
returns-in_default c = search rules

pub returns-then-head-lt-HEAD : goal.returns-then-head-lt-HEAD
returns-then-head-lt-HEAD c = search rules
