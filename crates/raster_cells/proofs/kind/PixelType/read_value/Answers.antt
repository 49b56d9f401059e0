use Rattle.std.proofs.Common.{rules}
use Rattle.raster_cells.proofs.kind.PixelType.read_value.Goals as goal

pub returns-in-I8-clause-spelled : goal.returns-in-I8-clause-spelled
returns-in-I8-clause-spelled c = search rules

pub returns-in-I8-clause-in_range : goal.returns-in-I8-clause-in_range
returns-in-I8-clause-in_range c = search rules

pub returns-in-U8-clause-spelled : goal.returns-in-U8-clause-spelled
returns-in-U8-clause-spelled c = search rules

pub returns-in-U8-clause-in_range : goal.returns-in-U8-clause-in_range
returns-in-U8-clause-in_range c = search rules

pub returns-in-I16-clause-spelled : goal.returns-in-I16-clause-spelled
returns-in-I16-clause-spelled c = search rules

pub returns-in-I16-clause-in_range : goal.returns-in-I16-clause-in_range
returns-in-I16-clause-in_range c = search rules

pub returns-in-U16-clause-spelled : goal.returns-in-U16-clause-spelled
returns-in-U16-clause-spelled c = search rules

pub returns-in-U16-clause-in_range : goal.returns-in-U16-clause-in_range
returns-in-U16-clause-in_range c = search rules

pub returns-in-I32-clause-spelled : goal.returns-in-I32-clause-spelled
returns-in-I32-clause-spelled c = search rules

pub returns-in-I32-clause-in_range : goal.returns-in-I32-clause-in_range
returns-in-I32-clause-in_range c = search rules

pub returns-in-U32-clause-spelled : goal.returns-in-U32-clause-spelled
returns-in-U32-clause-spelled c = search rules

pub returns-in-U32-clause-in_range : goal.returns-in-U32-clause-in_range
returns-in-U32-clause-in_range c = search rules
