use Rattle.std.proofs.Common.{◌≡◌, ◌≤◌, inr, length, take, sym, ap, subst, ◌∙◌, arith}
use Rattle.outside_io.specs.declared.volume.VolFile.TheVariants.{Bundle}
use Rattle.outside_io.specs.volume.Disk.{Disk}
use Rattle.outside_io.specs.volume.History.{contents}
use Rattle.bundle_store.specs.Kept.{Keeps}
use Rattle.bundle_store.proofs.Keeping.{keeps_disk}
use Rattle.bundle_store.proofs.Opening.{opened_fault, opened_index}
use Rattle.bundle_store.proofs.session.Session.open.Goals as goal

pub returns-in_err-len-clause-during : goal.returns-in_err-len-clause-during
returns-in_err-len-clause-during g c = λ told.
    keeps_disk _ _ _ c.len.ensures.time (c.len.ensures.disk told)

pub returns-then-len-eq0-clause-during : goal.returns-then-len-eq0-clause-during
returns-then-len-eq0-clause-during g c = λ told.
    keeps_disk _ _ _ c.len.ensures.time (c.len.ensures.disk told)

pub returns-then-len-lt-INDEX_END-clause-during : goal.returns-then-len-lt-INDEX_END-clause-during
returns-then-len-lt-INDEX_END-clause-during g c = λ told.
    keeps_disk _ _ _ c.len.ensures.time (c.len.ensures.disk told)

pub returns-in-Some-clause-refused : goal.returns-in-Some-clause-refused
returns-in-Some-clause-refused g c = λ told.
    let h = g.V.Volume.history c.args.vol.now in
    let b = contents Bundle h in
    let same : contents Bundle (g.V.Volume.history c.len.new.self) ≡ b = ap (λ (d : Disk). d.bundle.now) (c.len.ensures.disk told) in
    let header : c.in_ok-header.header ≡ take 64 b = c.in_ok-header.ensures.value (c.len.ensures.told ∙ told) ∙ ap (take 64) same in
    let long : 131136 ≤ length b = omega (arith, c.in_ok-len.ensures.answer told, c.if-len-lt-INDEX_END.false) in
    sym (opened_fault b c.in_ok-header.header c.fault_of.result long header c.fault_of.ensures.value) ∙ c.in-Some.is

pub returns-in_default-clause-refused : goal.returns-in_default-clause-refused
returns-in_default-clause-refused g c = λ told.
    let h = g.V.Volume.history c.args.vol.now in
    let b = contents Bundle h in
    let same : contents Bundle (g.V.Volume.history c.len.new.self) ≡ b = ap (λ (d : Disk). d.bundle.now) (c.len.ensures.disk told) in
    let header : c.in_ok-header.header ≡ take 64 b = c.in_ok-header.ensures.value (c.len.ensures.told ∙ told) ∙ ap (take 64) same in
    let long : 131136 ≤ length b = omega (arith, c.in_ok-len.ensures.answer told, c.if-len-lt-INDEX_END.false) in
    inr (opened_index b c.in_ok-header.header long header (sym c.fault_of.ensures.value ∙ c.in-None.is))

pub returns-clause-ok : goal.returns-clause-ok
returns-clause-ok g c = λ told.
    let h = g.V.Volume.history c.args.vol.now in
    let b = contents Bundle h in
    let same : contents Bundle (g.V.Volume.history c.len.new.self) ≡ b = ap (λ (d : Disk). d.bundle.now) (c.len.ensures.disk told) in
    let header : c.in_ok-header.header ≡ take 64 b = c.in_ok-header.ensures.value (c.len.ensures.told ∙ told) ∙ ap (take 64) same in
    let long : 131136 ≤ length b = omega (arith, c.in_ok-len.ensures.answer told, c.if-len-lt-INDEX_END.false) in
    let told_2 = c.read_header.ensures.told.same ∙ c.len.ensures.told ∙ told in
    let same_2 : contents Bundle (g.V.Volume.history c.read_header.new.vol) ≡ b = ap (λ (d : Disk). d.bundle.now) (c.read_header.ensures.disk (c.len.ensures.told ∙ told)) ∙ same in
    record {
      opens = inr (opened_index b c.in_ok-header.header long header (sym c.fault_of.ensures.value ∙ c.in-None.is));
      keeps = subst (Keeps c.read.new.self) same_2 (c.in_ok-read.ensures.keeps told_2);
    }
