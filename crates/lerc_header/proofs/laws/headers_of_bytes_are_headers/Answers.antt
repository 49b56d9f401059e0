use Rattle.lerc_header.proofs.Lawful.{lawful_head}
use Rattle.lerc_header.proofs.laws.headers_of_bytes_are_headers.Goals as goal

pub returns : goal.returns
returns c bytes h are head = lawful_head bytes h are head
