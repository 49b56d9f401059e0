use Rattle.std.proofs.Common.{◌≡◌, ◌∙◌, Err, inl, inr, ap, sym, subst}
use Rattle.opened_bundle.specs.Files.{files_of}
use Rattle.opened_bundle.proofs.BundleOpening.{still}
use Rattle.program_ends.proofs.Ends.{caused}
use Rattle.program_ends.specs.declared.stop.Stop.TheVariants.{Volume}
use Rattle.tile_audit.proofs.Still.{still_contents}
use Rattle.audit_cli.specs.Names.{with_store}
use Rattle.audit_cli.specs.Opening.{OpeningStops}
use Rattle.audit_cli.proofs.Opened.{no_bundle}
use Rattle.audit_cli.proofs.Performing.{open_cause, opened_so, reads_as, reads_on, unopened_so}
use Rattle.audit_cli.proofs.opening.open_to_audit.Goals as goal

pub returns-in-Err-clause-reads : goal.returns-in-Err-clause-reads
returns-in-Err-clause-reads g c =
    reads_as g.V.Volume.told g.V.Volume.history g.V.Volume.faults _ _ _ _ (λ is. let same : c.in-Err.stop ≡ Volume = cc in ap (λ s. Err s) same) (λ is. let same : c.in-Err.stop ≡ Volume = cc in ap (λ s. Err s) same) c.in-Err.ensures.reads

pub returns-in-Err-read_length-clause-refused : goal.returns-in-Err-read_length-clause-refused
returns-in-Err-read_length-clause-refused g c =
    let told = g.V.Volume.told in
    let h = g.V.Volume.history in
    let first = c.in-Ok.ensures.reads in
    no_bundle (told c.args.vol.now) (h c.args.vol.now) (h c.read_closed.new.vol) c.in-Err-read_length.stop c.in-Ok.ensures.closed (λ t. still_contents (h c.args.vol.now) (h c.read_closed.new.vol) (first.during t))
    (elim c.in-Err-read_length.ensures.answers [ inl volume ↦ inl volume | inr none ↦ inr (none.0, λ t. none.1 (first.same ∙ t)) ])

pub returns-in-Err-read_length-clause-reads : goal.returns-in-Err-read_length-clause-reads
returns-in-Err-read_length-clause-reads g c =
    reads_on g.V.Volume.told g.V.Volume.history g.V.Volume.faults _ _ _ _ _ (λ is. (let bad : ⊥ = cc in bad)) c.in-Ok.ensures.reads
    (reads_as g.V.Volume.told g.V.Volume.history g.V.Volume.faults _ _ _ _ (λ is. let same : c.in-Err-read_length.stop ≡ Volume = cc in ap (λ s. Err s) same) (λ is. let same : c.in-Err-read_length.stop ≡ Volume = cc in ap (λ s. Err s) same)
    c.in-Err-read_length.ensures.reads)

pub returns-in-Ok-open-clause-opened : goal.returns-in-Ok-open-clause-opened
returns-in-Ok-open-clause-opened g c =
    opened_so g.V.Volume.told g.V.Volume.history g.V.Volume.faults _ _ c.in-Ok-open.session c.in-Ok-read_length.len c.args.vol.now c.read_closed.new.vol c.read_length.new.vol c.in-Ok.ensures.closed c.in-Ok.ensures.reads c.in-Ok-read_length.ensures.reads
    c.in-Ok-read_length.ensures.size c.in-Ok-open.ensures.ok

pub returns-in-Ok-open-clause-reads : goal.returns-in-Ok-open-clause-reads
returns-in-Ok-open-clause-reads g c =
    reads_on g.V.Volume.told g.V.Volume.history g.V.Volume.faults _ _ _ _ _ (λ is. (let bad : ⊥ = cc in bad)) c.in-Ok.ensures.reads
    (reads_on g.V.Volume.told g.V.Volume.history g.V.Volume.faults _ _ _ _ _ (λ is. (let bad : ⊥ = cc in bad)) c.in-Ok-read_length.ensures.reads
    (record { same = c.open.ensures.told.same; counted = still _ _ _ c.in-Ok-open.ensures.told.counted (λ is. (let bad : ⊥ = cc in bad)); during = c.open.ensures.during }))

pub returns-in-Err-open-clause-refused : goal.returns-in-Err-open-clause-refused
returns-in-Err-open-clause-refused g c =
    subst (OpeningStops (files_of (g.V.Volume.told c.args.vol.now) (g.V.Volume.history c.args.vol.now))) (sym (c.store_stop.ensures ∙ ap with_store c.stop_from.ensures))
    (unopened_so g.V.Volume.told g.V.Volume.history g.V.Volume.faults _ _ c.in-Err-open.fault c.in-Ok-read_length.len c.args.vol.now c.read_closed.new.vol c.read_length.new.vol c.in-Ok.ensures.closed c.in-Ok.ensures.reads c.in-Ok-read_length.ensures.reads
    c.in-Ok-read_length.ensures.size c.in-Err-open.ensures.refused c.in-Err-open.ensures.answers)

pub returns-in-Err-open-clause-reads : goal.returns-in-Err-open-clause-reads
returns-in-Err-open-clause-reads g c =
    let is_so = c.store_stop.ensures ∙ ap with_store c.stop_from.ensures in
    reads_on g.V.Volume.told g.V.Volume.history g.V.Volume.faults _ _ _ _ _ (λ is. (let bad : ⊥ = cc in bad)) c.in-Ok.ensures.reads
    (reads_on g.V.Volume.told g.V.Volume.history g.V.Volume.faults _ _ _ _ _ (λ is. (let bad : ⊥ = cc in bad)) c.in-Ok-read_length.ensures.reads
    (record {
      same = c.open.ensures.told.same;
      counted = caused _ _ _ _ (λ is. ap (λ s. Err s) (is_so ∙ is)) (λ is. sym is_so ∙ (let same : c.store_stop.result ≡ Volume = cc in same)) (open_cause c.in-Err-open.fault _ _ c.in-Err-open.ensures.answers c.in-Err-open.ensures.told.counted);
      during = c.open.ensures.during;
    }))
