use Rattle.std.proofs.Common.{◌≡◌, false, sym, subst, ap, ◌∙◌, arith}
use Rattle.outside_io.specs.declared.volume.VolFile.TheVariants.{Bundle}
use Rattle.outside_io.specs.volume.History.{contents}
use Rattle.bundle_index.specs.Entry.{entry_at}
use Rattle.bundle_index.specs.declared.entry.Entry.{Entry}
use Rattle.bundle_store.specs.Kept.{FrontBytes, Keeps}
use Rattle.bundle_store.specs.Session.{SessionState}
use Rattle.bundle_store.proofs.Region.{tile_none, tiles_at}
use Rattle.bundle_store.proofs.TileReads.{get_fails, reads_some, reads_tile, runs, some_tile}
use Rattle.bundle_store.proofs.session.Session.get.Goals as goal

pub returns-then-entry-eq0-clause-none : goal.returns-then-entry-eq0-clause-none
returns-then-entry-eq0-clause-none g c = λ told none.
    let b = contents Bundle (g.V.Volume.history c.args.vol.now) in
    let running : c.args.self.now.stopped ≡ false = sym (ap (λ (s : SessionState). s.stopped) c.self.view_is) ∙ c.if-self.false in
    let keeps : Keeps c.self.inside.front b = subst (λ (f : FrontBytes). Keeps f b) (sym (ap (λ (s : SessionState). s.front) c.self.view_is)) (c.requires.serves told running).keeps in
    let entry : c.entry-entry.result ≡ entry_at b c.args.slot = c.entry-entry.ensures.value b keeps in
    let size : (entry_at b c.args.slot).size ≡ 0 = ap (λ (e : Entry). e.size) (sym entry) ∙ c.if-entry-eq0.true in
    tiles_at b c.args.slot c.entry-entry.ensures.slot ∙ tile_none b (entry_at b c.args.slot) size

pub returns-clause-ok : goal.returns-clause-ok
returns-clause-ok g c = λ told.
    let b = contents Bundle (g.V.Volume.history c.args.vol.now) in
    let running : c.args.self.now.stopped ≡ false = sym (ap (λ (s : SessionState). s.stopped) c.self.view_is) ∙ c.if-self.false in
    let keeps : Keeps c.self.inside.front b = subst (λ (f : FrontBytes). Keeps f b) (sym (ap (λ (s : SessionState). s.front) c.self.view_is)) (c.requires.serves told running).keeps in
    c.read_tile.ensures.ok told c.args.slot (c.entry-entry.ensures.value b keeps)

pub returns-clause-tile : goal.returns-clause-tile
returns-clause-tile g c = λ told.
    let b = contents Bundle (g.V.Volume.history c.args.vol.now) in
    reads_tile b c.args.slot c.read_tile.result c.entry-entry.ensures.slot (returns-clause-ok g c told)

pub returns-clause-none : goal.returns-clause-none
returns-clause-none g c = λ told none. absurd (some_tile c.read_tile.result c.read_tile.ensures.answers none)

pub returns-clause-fits : goal.returns-clause-fits
returns-clause-fits g c =
    reads_some c.entry-entry.result.size c.read_tile.result (omega (arith, c.if-entry-eq0.false)) c.entry-entry.ensures.fits.size c.read_tile.ensures.size

pub returns-clause-stopped : goal.returns-clause-stopped
returns-clause-stopped g c =
    let running : c.args.self.now.stopped ≡ false = sym (ap (λ (s : SessionState). s.stopped) c.self.view_is) ∙ c.if-self.false in
    runs c.read_tile.result c.read_tile.ensures.answers c.args.self.now.stopped running

pub returns-clause-refused : goal.returns-clause-refused
returns-clause-refused g c = λ told.
    let b = contents Bundle (g.V.Volume.history c.args.vol.now) in
    let running : c.args.self.now.stopped ≡ false = sym (ap (λ (s : SessionState). s.stopped) c.self.view_is) ∙ c.if-self.false in
    let keeps : Keeps c.self.inside.front b = subst (λ (f : FrontBytes). Keeps f b) (sym (ap (λ (s : SessionState). s.front) c.self.view_is)) (c.requires.serves told running).keeps in
    c.read_tile.ensures.refused told c.args.slot (c.entry-entry.ensures.value b keeps)

pub returns-clause-answers : goal.returns-clause-answers
returns-clause-answers g c = get_fails c.read_tile.result c.read_tile.ensures.answers

pub returns-clause-unread : goal.returns-clause-unread
returns-clause-unread g c = λ none. absurd (some_tile c.read_tile.result c.read_tile.ensures.answers none)
