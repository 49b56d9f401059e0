use Rattle.tile_audit.proofs.Audits.{clean_audit}
use Rattle.tile_audit.proofs.laws.clean_audits_find_whole_tiles.Goals as goal

pub returns : goal.returns
returns c = clean_audit
