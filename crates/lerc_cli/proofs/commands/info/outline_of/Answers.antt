use Rattle.lerc_cli.proofs.commands.info.outline_of.Goals as goal

pub unreachable-requires : goal.unreachable-requires
unreachable-requires c =
    c.requires c.in-Err.field-0.place c.in-Err.field-0.reason ((c.outline.ensures.fault c.in-Err.field-0).0 c.in-Err.is)

pub returns : goal.returns
returns c = (c.outline.ensures.ok c.in-Ok.outline).0 c.in-Ok.is
