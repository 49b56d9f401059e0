use Rattle.std.proofs.Common.{rules}
use Rattle.tile_stream.proofs.tile.slot_of.Goals as goal

pub returns-then-is_empty : goal.returns-then-is_empty
returns-then-is_empty c = search rules

pub returns-then-head-ne84 : goal.returns-then-head-ne84
returns-then-head-ne84 c = search rules

pub returns-then-head-lt2 : goal.returns-then-head-lt2
returns-then-head-lt2 c = search rules

pub returns-then-head-gt127 : goal.returns-then-head-gt127
returns-then-head-gt127 c = search rules

pub returns-then-head-lt3 : goal.returns-then-head-lt3
returns-then-head-lt3 c = search rules

pub returns-in-None : goal.returns-in-None
returns-in-None c = search rules
