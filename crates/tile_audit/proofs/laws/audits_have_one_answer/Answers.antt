use Rattle.std.specs.List.{range_with_len}
use Rattle.bundle_index.specs.Sizes.{slot_count}
use Rattle.tile_audit.specs.Audit.{slots_below}
use Rattle.tile_audit.proofs.Audits.{audits_same, some_audit}
use Rattle.tile_audit.proofs.laws.audits_have_one_answer.Goals as goal

pub returns-clause-one : goal.returns-clause-one
returns-clause-one c = λ bundle some others. audits_same bundle (slots_below bundle slot_count) some others

pub returns-clause-some : goal.returns-clause-some
returns-clause-some c = λ bundle are. some_audit bundle (range_with_len 0 slot_count) are
