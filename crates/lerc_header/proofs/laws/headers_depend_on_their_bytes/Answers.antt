use Rattle.lerc_header.proofs.Prefixes.{head_more, head_less}
use Rattle.lerc_header.proofs.laws.headers_depend_on_their_bytes.Goals as goal

pub returns-clause-more : goal.returns-clause-more
returns-clause-more c = head_more

pub returns-clause-less : goal.returns-clause-less
returns-clause-less c = head_less
