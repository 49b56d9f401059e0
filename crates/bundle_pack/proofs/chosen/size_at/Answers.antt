use Rattle.bundle_pack.proofs.Choosing.{choice_size, none_size}
use Rattle.bundle_pack.proofs.chosen.size_at.Goals as goal

pub returns-in-Some-choice_at-clause-is : goal.returns-in-Some-choice_at-clause-is
returns-in-Some-choice_at-clause-is c = λ bundles served. choice_size bundles c.in-Some.slot c.args.number c.in-Some-choice_at.choice c.in-Some.ensures.some (c.in-Some-choice_at.ensures.is bundles served)

pub returns-in-None-clause-is : goal.returns-in-None-clause-is
returns-in-None-clause-is c = λ bundles served. none_size bundles c.in-Some.slot c.args.number c.in-Some.ensures.some (c.in-None.ensures.is bundles served)
