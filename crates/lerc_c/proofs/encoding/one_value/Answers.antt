use Rattle.std.proofs.Common.{sym, subst}
use Rattle.raster_cells.proofs.ValueBits.{same_bits}
use Rattle.lerc_c.specs.inside.Repeated.{IsOneValue}
use Rattle.lerc_c.proofs.Repeating.{one_is, told_drop}
use Rattle.lerc_c.proofs.encoding.one_value.Goals as goal

pub returns-then-repeat : goal.returns-then-repeat
returns-then-repeat c =
    subst (IsOneValue c.args.kind c.args.values.now) (sym (same_bits c.args.kind c.read_value.result c.read_value.ensures.in_range))
    (one_is c.args.kind c.args.values.now c.read_value.result (told_drop c.args.values.now c.bytes.result _ c.bytes.ensures (c.repeat.ensures.0 c.if-repeat.true)) c.read_value.ensures.in_range c.read_value.ensures.spelled)
