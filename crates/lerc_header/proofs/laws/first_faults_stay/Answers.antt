use Rattle.lerc_header.proofs.LongerHeads.{fault_more, key_more, fields_more, cut_head}
use Rattle.lerc_header.proofs.laws.first_faults_stay.Goals as goal

pub returns-clause-more : goal.returns-clause-more
returns-clause-more c = fault_more

pub returns-clause-key : goal.returns-clause-key
returns-clause-key c = key_more

pub returns-clause-fields : goal.returns-clause-fields
returns-clause-fields c = fields_more

pub returns-clause-cut : goal.returns-clause-cut
returns-clause-cut c bytes h n head few = cut_head n bytes h head few
