use Rattle.std.proofs.Common.{◌≡◌, false, sym, ap, subst, ◌∙◌, arith}
use Rattle.outside_io.specs.volume.Disk.{Disk}
use Rattle.outside_io.specs.volume.History.{current}
use Rattle.bundle_store.specs.Kept.{FrontBytes, Keeps}
use Rattle.bundle_store.specs.Session.{SessionState}
use Rattle.bundle_store.proofs.Keeping.{keeps_disk, keeps_disk_on}
use Rattle.bundle_store.proofs.session.Session.check.Goals as goal

pub returns-in_err-len-clause-during : goal.returns-in_err-len-clause-during
returns-in_err-len-clause-during g c = λ told.
    keeps_disk _ _ _ c.len.ensures.time (c.len.ensures.disk told)

pub returns-in_err-check_index-clause-during : goal.returns-in_err-check_index-clause-during
returns-in_err-check_index-clause-during g c = λ told.
    let measured = keeps_disk _ _ _ c.len.ensures.time (c.len.ensures.disk told) in
    keeps_disk_on _ _ _ measured (c.check_index.ensures.reads.during (c.len.ensures.told ∙ told))

pub returns-clause-during : goal.returns-clause-during
returns-clause-during g c = λ told.
    let measured = keeps_disk _ _ _ c.len.ensures.time (c.len.ensures.disk told) in
    keeps_disk_on _ _ _ measured (c.check_index.ensures.reads.during (c.len.ensures.told ∙ told))

pub returns-in_err-check_index-clause-calls : goal.returns-in_err-check_index-clause-calls
returns-in_err-check_index-clause-calls g c = (let time = c.len.ensures.time in omega (arith, time.clock, c.check_index.ensures.calls))

pub returns-clause-calls : goal.returns-clause-calls
returns-clause-calls g c = (let time = c.len.ensures.time in omega (arith, time.clock, c.check_index.ensures.calls))

pub returns-clause-needed : goal.returns-clause-needed
returns-clause-needed g c = (let time = c.len.ensures.time in omega (arith, time.clock, c.in_ok-check_index.ensures.needed))

pub check_index-requires-clause-keeps : goal.check_index-requires-clause-keeps
check_index-requires-clause-keeps g c = λ told_1.
    let told = sym c.len.ensures.told ∙ told_1 in
    let running : c.args.self.now.stopped ≡ false = sym (ap (λ (s : SessionState). s.stopped) c.self.view_is) ∙ c.if-self.false in
    let front : c.args.self.now.front ≡ c.self.inside.front = sym (ap (λ (s : SessionState). s.front) c.self.view_is) in
    subst (λ (d : Disk). Keeps c.self.inside.front d.bundle.now) (sym (c.len.ensures.disk told)) (subst (λ (f : FrontBytes). Keeps f (current (g.V.Volume.history c.args.vol.now)).bundle.now) front (c.requires.serves told running).keeps)
