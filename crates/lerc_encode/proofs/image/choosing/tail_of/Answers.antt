use Rattle.std.proofs.Common.{sym, ◌∙◌}
use Rattle.lerc_encode.proofs.Forming.{ends_empty, ends_constant, ends_ranges, ends_coded}
use Rattle.lerc_encode.proofs.image.choosing.tail_of.Goals as goal

pub returns-then-is_empty : goal.returns-then-is_empty
returns-then-is_empty g c = ends_empty (g.V.View.pixels c.args.raster.now) c.args.base.now.version c.args.base.now.step (sym c.is_empty.ensures ∙ c.if-is_empty.true)

pub returns-then-is_constant : goal.returns-then-is_constant
returns-then-is_constant g c =
    ends_constant (g.V.View.pixels c.args.raster.now) c.args.base.now.version c.args.base.now.step (sym c.is_empty.ensures ∙ c.if-is_empty.false) (sym c.is_constant.ensures ∙ c.if-is_constant.true)

pub returns-then-ends_behind_lists : goal.returns-then-ends_behind_lists
returns-then-ends_behind_lists g c =
    ends_ranges (g.V.View.pixels c.args.raster.now) c.args.base.now.version c.args.base.now.step (sym c.is_empty.ensures ∙ c.if-is_empty.false) (sym c.is_constant.ensures ∙ c.if-is_constant.false)
    (sym c.ends_behind_lists.ensures ∙ c.if-ends_behind_lists.true)

pub returns : goal.returns
returns g c = (
  ends_coded (g.V.View.pixels c.args.raster.now) c.args.base.now.version c.args.base.now.step (sym c.is_empty.ensures ∙ c.if-is_empty.false) (sym c.is_constant.ensures ∙ c.if-is_constant.false)
      (sym c.ends_behind_lists.ensures ∙ c.if-ends_behind_lists.false),
  c.in_ok-choose.ensures,
)
