use Rattle.std.proofs.Common.{◌≡◌, false, ℕ, List, sym, subst, ap, ◌∙◌, arith}
use Rattle.std.specs.Prelude.{IfErr, IfOk}
use Rattle.outside_io.specs.volume.Disk.{Disk}
use Rattle.outside_io.specs.declared.volume.VolFile.TheVariants.{Bundle}
use Rattle.outside_io.specs.volume.History.{contents, current}
use Rattle.outside_io.proofs.VolumeLemmas.Moments.{during_end}
use Rattle.bundle_index.specs.Entry.{entry_at}
use Rattle.bundle_index.specs.declared.entry.Entry.{Entry}
use Rattle.bundle_store.specs.Causes.{CountsDevice}
use Rattle.bundle_store.specs.Kept.{FrontBytes, Keeps}
use Rattle.bundle_store.specs.Session.{GetGives, GetRefuses, SessionState}
use Rattle.bundle_store.proofs.Cutting.{cut_gives}
use Rattle.bundle_store.proofs.Keeping.{keeps_disk_on}
use Rattle.bundle_store.proofs.Region.{gives_tile, tile_none, tiles_at}
use Rattle.bundle_store.proofs.TileReads.{get_fails, reads_some, reads_tile, runs, some_tile}
use Rattle.bundle_store.proofs.session.Session.get_ahead.Goals as goal

pub returns-then-entry-eq0-clause-none : goal.returns-then-entry-eq0-clause-none
returns-then-entry-eq0-clause-none g c = λ told none.
    let b = contents Bundle (g.V.Volume.history c.args.vol.now) in
    let running : c.args.self.now.stopped ≡ false = sym (ap (λ (s : SessionState). s.stopped) c.self.view_is) ∙ c.if-self.false in
    let keeps : Keeps c.self.inside.front b = subst (λ (f : FrontBytes). Keeps f b) (sym (ap (λ (s : SessionState). s.front) c.self.view_is)) (c.requires.serves told running).keeps in
    let entry : c.entry-entry.result ≡ entry_at b c.args.slot = c.entry-entry.ensures.value b keeps in
    let size : (entry_at b c.args.slot).size ≡ 0 = ap (λ (e : Entry). e.size) (sym entry) ∙ c.if-entry-eq0.true in
    tiles_at b c.args.slot c.entry-entry.ensures.slot ∙ tile_none b (entry_at b c.args.slot) size

-- of the tile that was cut

pub returns-then-has-clause-ok : goal.returns-then-has-clause-ok
returns-then-has-clause-ok g c = λ told.
    let b = contents Bundle (g.V.Volume.history c.args.vol.now) in
    let running : c.args.self.now.stopped ≡ false = sym (ap (λ (s : SessionState). s.stopped) c.self.view_is) ∙ c.if-self.false in
    let keeps : Keeps c.self.inside.front b = subst (λ (f : FrontBytes). Keeps f b) (sym (ap (λ (s : SessionState). s.front) c.self.view_is)) (c.requires.serves told running).keeps in
    let entry : c.entry-entry.result ≡ entry_at b c.args.slot = c.entry-entry.ensures.value b keeps in
    cut_gives b c.args.slot c.load.new.self c.entry-entry.result c.in_ok-cut.field-0 entry (omega (arith, c.if-entry-eq0.false)) (c.load.ensures.ahead told) (c.has.ensures.0 c.if-has.true) c.in_ok-cut.ensures.bytes

pub returns-then-has-clause-tile : goal.returns-then-has-clause-tile
returns-then-has-clause-tile g c = λ told.
    let b = contents Bundle (g.V.Volume.history c.args.vol.now) in
    gives_tile b c.args.slot c.in_ok-cut.field-0 c.entry-entry.ensures.slot (returns-then-has-clause-ok g c told)

-- of the tile that was read alone

pub returns-clause-ok : goal.returns-clause-ok
returns-clause-ok g c = λ told.
    let old = g.V.Volume.history c.args.vol.now in
    let mid = g.V.Volume.history c.load.new.vol in
    let b = contents Bundle old in
    let running : c.args.self.now.stopped ≡ false = sym (ap (λ (s : SessionState). s.stopped) c.self.view_is) ∙ c.if-self.false in
    let keeps : Keeps c.self.inside.front b = subst (λ (f : FrontBytes). Keeps f b) (sym (ap (λ (s : SessionState). s.front) c.self.view_is)) (c.requires.serves told running).keeps in
    let same : contents Bundle mid ≡ b = ap (λ (d : Disk). d.bundle.now) (during_end (λ d. d ≡ current old) old mid (c.load.ensures.reads.during told)) in
    subst (λ (x : List ℕ). IfOk c.read_tile.result (λ tile. GetGives x c.args.slot tile)) same
    (c.read_tile.ensures.ok (c.load.ensures.reads.same ∙ told) c.args.slot (c.entry-entry.ensures.value b keeps ∙ ap (λ (x : List ℕ). entry_at x c.args.slot) (sym same)))

pub returns-clause-tile : goal.returns-clause-tile
returns-clause-tile g c = λ told.
    let b = contents Bundle (g.V.Volume.history c.args.vol.now) in
    reads_tile b c.args.slot c.read_tile.result c.entry-entry.ensures.slot (returns-clause-ok g c told)

pub returns-clause-none : goal.returns-clause-none
returns-clause-none g c = λ told none. absurd (some_tile c.read_tile.result c.read_tile.ensures.answers none)

pub returns-clause-fits : goal.returns-clause-fits
returns-clause-fits g c =
    reads_some c.entry-entry.result.size c.read_tile.result (omega (arith, c.if-entry-eq0.false)) c.entry-entry.ensures.fits.size c.read_tile.ensures.size

pub returns-clause-stopped : goal.returns-clause-stopped
returns-clause-stopped g c =
    let running : c.args.self.now.stopped ≡ false = sym (ap (λ (s : SessionState). s.stopped) c.self.view_is) ∙ c.if-self.false in
    runs c.read_tile.result c.read_tile.ensures.answers c.args.self.now.stopped running

pub returns-clause-refused : goal.returns-clause-refused
returns-clause-refused g c = λ told.
    let old = g.V.Volume.history c.args.vol.now in
    let mid = g.V.Volume.history c.load.new.vol in
    let b = contents Bundle old in
    let running : c.args.self.now.stopped ≡ false = sym (ap (λ (s : SessionState). s.stopped) c.self.view_is) ∙ c.if-self.false in
    let keeps : Keeps c.self.inside.front b = subst (λ (f : FrontBytes). Keeps f b) (sym (ap (λ (s : SessionState). s.front) c.self.view_is)) (c.requires.serves told running).keeps in
    let same : contents Bundle mid ≡ b = ap (λ (d : Disk). d.bundle.now) (during_end (λ d. d ≡ current old) old mid (c.load.ensures.reads.during told)) in
    subst (λ (x : List ℕ). IfErr c.read_tile.result (λ f. GetRefuses x c.args.slot f)) same
    (c.read_tile.ensures.refused (c.load.ensures.reads.same ∙ told) c.args.slot (c.entry-entry.ensures.value b keeps ∙ ap (λ (x : List ℕ). entry_at x c.args.slot) (sym same)))

pub returns-clause-answers : goal.returns-clause-answers
returns-clause-answers g c = get_fails c.read_tile.result c.read_tile.ensures.answers

pub returns-clause-unread : goal.returns-clause-unread
returns-clause-unread g c = λ none. absurd (some_tile c.read_tile.result c.read_tile.ensures.answers none)

pub returns-clause-during : goal.returns-clause-during
returns-clause-during g c = λ told.
    keeps_disk_on _ _ _ (c.load.ensures.reads.during told) (c.read_tile.ensures.reads.during (c.load.ensures.reads.same ∙ told))

pub returns-clause-calls : goal.returns-clause-calls
returns-clause-calls g c = omega (arith, c.load.ensures.calls, c.read_tile.ensures.calls)

pub returns-clause-told : goal.returns-clause-told
returns-clause-told g c = record {
  same = c.read_tile.ensures.reads.same ∙ c.load.ensures.reads.same;
  counted = subst (λ (n : ℕ). CountsDevice c.read_tile.result n (g.V.Volume.faults c.read_tile.new.vol)) c.in_ok-load.ensures.reads.counted c.read_tile.ensures.reads.counted;
}
