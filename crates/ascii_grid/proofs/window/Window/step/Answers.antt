use Rattle.std.proofs.Common.{◌∙◌, ap, take}
use Rattle.ascii_grid.specs.inside.Reading.{Held}
use Rattle.ascii_grid.proofs.Windows.{behind_first}
use Rattle.ascii_grid.proofs.window.Window.step.Goals as goal

pub returns-clause-bytes : goal.returns-clause-bytes
returns-clause-bytes c = λ byte rest is.
    behind_first (take c.self.inside.end c.self.inside.buffer) rest c.self.inside.at byte (ap (λ (h : Held). h.bytes) c.self.view_is ∙ is)
