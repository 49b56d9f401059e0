use Rattle.std.proofs.Common.{◌∙◌, sym}
use Rattle.lerc_encode.proofs.Flagging.{set_this, set_other}
use Rattle.lerc_encode.proofs.blocks.flags.set_flag.Goals as goal

pub returns-clause-this : goal.returns-clause-this
returns-clause-this c = set_this c.args.flags.now c.args.k c.requires

pub returns-clause-others : goal.returns-clause-others
returns-clause-others c = λ i other.
    let same = set_other c.args.flags.now c.args.k c.requires i other in
    (λ is. sym same ∙ is, λ is. same ∙ is)
