use Rattle.std.proofs.Common.{◌≡◌, inl, refl, false}
use Rattle.outside_io.specs.volume.Disk.{Disk}
use Rattle.outside_io.specs.volume.History.{current}
use Rattle.outside_io.proofs.VolumeLemmas.Moments.{during_map, started}
use Rattle.bundle_store.specs.GroupPuts.{AllOrNone}
use Rattle.bundle_store.specs.Images.{EachImage}
use Rattle.bundle_store.specs.Tiles.{IsReadable, tiles}
use Rattle.bundle_store.proofs.Standing.{still_good}
use Rattle.bundle_store.proofs.session.Session.put_updates.Goals as goal

pub returns-in_err-check_tiles-clause-images : goal.returns-in_err-check_tiles-clause-images
returns-in_err-check_tiles-clause-images g c = λ told.
    let old = g.V.Volume.history c.args.vol.now in
    let Either = AllOrNone c.args.updates.now (tiles (current old).bundle.now) in
    let Pass : Disk → Type 0 = λ d. c.args.self.now.stopped ≡ false → IsReadable (current old).bundle.now → EachImage Either d in
    started Pass old (λ running readable. still_good Either (current old) (c.requires.ready told running).quiet (c.requires.ready told running).closed readable (inl refl))

pub returns-then-self-clause-images : goal.returns-then-self-clause-images
returns-then-self-clause-images g c = λ told.
    let old = g.V.Volume.history c.args.vol.now in
    let Either = AllOrNone c.args.updates.now (tiles (current old).bundle.now) in
    let Pass : Disk → Type 0 = λ d. c.args.self.now.stopped ≡ false → IsReadable (current old).bundle.now → EachImage Either d in
    started Pass old (λ running readable. still_good Either (current old) (c.requires.ready told running).quiet (c.requires.ready told running).closed readable (inl refl))

pub returns-in-Err-Device-clause-images : goal.returns-in-Err-Device-clause-images
returns-in-Err-Device-clause-images g c = λ told.
    during_map _ _ _ _ (λ d each running. each) (c.put_tiles-put.ensures.changes.during told)

pub returns-in_ok-check_tiles-2-clause-images : goal.returns-in_ok-check_tiles-2-clause-images
returns-in_ok-check_tiles-2-clause-images g c = λ told.
    during_map _ _ _ _ (λ d each running. each) (c.put_tiles-put.ensures.changes.during told)
