use Rattle.std.proofs.Common.{length, sym, ◌∙◌, ap}
use Rattle.outside_io.specs.volume.Disk.{Disk}
use Rattle.outside_io.specs.volume.History.{contents}
use Rattle.outside_io.specs.volume.Recorded.{history_of}
use Rattle.outside_io.proofs.Inside.Noted.{now_is}
use Rattle.outside_io.proofs.volume.mem_volume.MemVolume.held_len.Goals as goal

pub returns-in-Bundle : goal.returns-in-Bundle
returns-in-Bundle c =
    c.self.invariant.bundle_len
    ∙ ap (λ (d : Disk). length d.bundle.now) (sym (now_is c.self.inside c.self.invariant))
    ∙ (λ i. length (contents (sym c.in-Bundle.is i) (history_of (c.self.view_is i))))

pub returns-in-Journal : goal.returns-in-Journal
returns-in-Journal c =
    c.self.invariant.journal_len
    ∙ ap (λ (d : Disk). length d.journal.now) (sym (now_is c.self.inside c.self.invariant))
    ∙ (λ i. length (contents (sym c.in-Journal.is i) (history_of (c.self.view_is i))))
