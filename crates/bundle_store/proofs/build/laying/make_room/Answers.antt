use Rattle.std.proofs.Common.{refl, take, rules}
use Rattle.outside_io.specs.volume.History.{current}
use Rattle.bundle_store.proofs.Gathering.{gathers_none, gathers_written}
use Rattle.bundle_store.proofs.Keeping.{journal_starts}
use Rattle.bundle_store.proofs.build.laying.make_room.Goals as goal

pub returns-then-len-buffer-clause-done : goal.returns-then-len-buffer-clause-done
returns-then-len-buffer-clause-done g c = λ told. gathers_none (current (g.V.Volume.history c.args.vol.now)) (take c.args.waiting.count c.args.buffer.now)

pub returns-then-len-buffer-clause-changes : goal.returns-then-len-buffer-clause-changes
returns-then-len-buffer-clause-changes g c = record { same = refl; counted = search rules; during = λ told. journal_starts (g.V.Volume.history c.args.vol.now) }

pub returns-clause-done : goal.returns-clause-done
returns-clause-done g c = λ told. gathers_written _ _ (take c.args.waiting.count c.args.buffer.now) c.args.buffer.now (c.in_ok-at.ensures.done told)
