use Rattle.std.specs.Prelude.{None}
use Rattle.cut_cases.proofs.Spares.{made_spare}
use Rattle.cut_cases.proofs.runs.level_rows.spare_volume.Goals as goal

pub returns : goal.returns
returns c = made_spare c.new.result c.no_bytes-bundle.result c.no_bytes-journal.result c.new-failing.result.items None 200 300000 c.no_bytes-bundle.ensures c.no_bytes-journal.ensures c.new.ensures
