use Rattle.std.proofs.Common.{◌≡◌, inl, Bool, false, ℕ, List, [], length, Result, Ok, Err, OnOk, sym, subst, ap, ◌∙◌}
use Rattle.outside_io.specs.volume.Disk.{Disk, File, IsQuiet}
use Rattle.outside_io.specs.volume.History.{During, History, current}
use Rattle.outside_io.proofs.VolumeLemmas.Moments.{during_map, started}
use Rattle.side_journal.specs.Says.{IsOpen}
use Rattle.bundle_store.specs.Build.{EachFits}
use Rattle.bundle_store.specs.Images.{EachImage, EmptyOr, HoldsClosed}
use Rattle.bundle_store.specs.declared.fault.StoreFault.{StoreFault}
use Rattle.bundle_store.specs.inside.Table.{NumbersTiles, table_map}
use Rattle.bundle_store.specs.Built.{HoldsTiles}
use Rattle.bundle_store.specs.Layout.{layout}
use Rattle.bundle_store.specs.Tiles.{AreTiles, TileMap, tiles}
use Rattle.bundle_store.proofs.Layouts.{layout_bundle, layout_tiles}
use Rattle.bundle_store.proofs.Numbering.{are_shown}
use Rattle.bundle_store.proofs.Recovering.{tiles_empty}
use Rattle.bundle_store.proofs.Standing.{still_good}
use Rattle.bundle_store.proofs.session.Session.build.Goals as goal

-- nothing is done yet
untouched : (stopped : Bool) (map : TileMap) (h : History) → (stopped ≡ false → IsQuiet (current h)) → (stopped ≡ false → ¬ IsOpen (current h).journal.now) → During (λ d. stopped ≡ false → (current h).bundle.now ≡ [] → EachImage (EmptyOr map) d) h h
untouched stopped map h quiet closed =
    started (λ d. stopped ≡ false → (current h).bundle.now ≡ [] → EachImage (EmptyOr map) d) h (λ running is. still_good (EmptyOr map) (current h) (quiet running) (closed running) (inl (ap length is)) (inl (ap tiles is ∙ tiles_empty)))

pub returns-in_err-check_tiles-clause-images : goal.returns-in_err-check_tiles-clause-images
returns-in_err-check_tiles-clause-images g c = λ told. untouched _ _ _ (λ running. (c.requires.ready told running).quiet) (λ running. (c.requires.ready told running).closed)

pub returns-in_err-table-clause-images : goal.returns-in_err-table-clause-images
returns-in_err-table-clause-images g c = λ told. untouched _ _ _ (λ running. (c.requires.ready told running).quiet) (λ running. (c.requires.ready told running).closed)

pub returns-in_err-buffer-clause-images : goal.returns-in_err-buffer-clause-images
returns-in_err-buffer-clause-images g c = λ told. untouched _ _ _ (λ running. (c.requires.ready told running).quiet) (λ running. (c.requires.ready told running).closed)

-- a bundle that was laid out
holds : (r : Result (Unit {0}) StoreFault) (map other : TileMap) (d : Disk) → AreTiles map → map ≡ other → OnOk r (HoldsClosed (layout map) d) → OnOk r (HoldsTiles d.bundle.now other)
holds (Ok x) map other d are is done =
    subst (λ (b : List ℕ). HoldsTiles b other) (sym (ap (λ (f : File). f.now) done.bundle_is)) (record { stands = layout_bundle map are; tiles_are = layout_tiles map are ∙ is })
holds (Err fault) map other d are is done = tt

pub returns-clause-holds : goal.returns-clause-holds
returns-clause-holds g c = λ told.
    let us = c.args.tiles.now in
    let table = c.in_ok-table.table.items in
    let same = ap (table_map us) c.as_slice.ensures.value in
    let are = are_shown us table c.in_ok-table.ensures.long c.in_ok-table.ensures.table (subst EachFits c.all.ensures c.in_ok-check_tiles.ensures.fits) in
    holds c.build_on-built.result _ _ (current (g.V.Volume.history c.build_on-built.new.vol)) (subst AreTiles (sym same) are) (same ∙ c.in_ok-table.ensures.last) (c.build_on-built.ensures.done told)

pub build_on-built-requires-clause-table : goal.build_on-built-requires-clause-table
build_on-built-requires-clause-table g c =
    let us = c.args.tiles.now in
    let table = c.in_ok-table.table.items in
    let fits = subst EachFits c.all.ensures c.in_ok-check_tiles.ensures.fits in
    subst (NumbersTiles us) (sym c.as_slice.ensures.value) (record {
      are_numbers = c.in_ok-table.ensures.table;
      are_tiles = are_shown us table c.in_ok-table.ensures.long c.in_ok-table.ensures.table fits;
    })

pub returns-clause-images : goal.returns-clause-images
returns-clause-images g c = λ told.
    let us = c.args.tiles.now in
    let last = c.in_ok-table.ensures.last in
    let same = ap (table_map us) c.as_slice.ensures.value ∙ last in
    let Each : Disk → TileMap → Type 0 = λ d map. EachImage (EmptyOr map) d in
    during_map _ _ _ _ (λ d each running is. subst (Each d) same (each is))
    (c.build_on-built.ensures.changes.during told)
