use Rattle.std.proofs.Common.{◌≡◌, Ok, Err, List, ◌++◌, ℕ, length, take, drop, subst, sym, ap, ◌∙◌, arith}
use Rattle.std.proofs.Math.Seq.{take-append_seam}
use Rattle.bundle_store.specs.declared.tile_rec.TileRec.{TileRec}
use Rattle.bundle_store.specs.Build.{EachFits, map_after}
use Rattle.bundle_store.specs.Tiles.{no_tiles}
use Rattle.bundle_pack.specs.Chosen.{AreWhole}
use Rattle.bundle_pack.specs.Files.{all_bundles}
use Rattle.bundle_pack.specs.Sources.{DeviceAt}
use Rattle.bundle_pack.specs.inside.Collecting.{AreAhead, IsMergedBelow, ReadFails, TakesTile, TileSays}
use Rattle.bundle_pack.proofs.Ahead.{ahead_start}
use Rattle.bundle_pack.proofs.Getting.{tiles_refused}
use Rattle.bundle_pack.proofs.Merging.{all_merged, merged_more, merged_start, whole_more}
use Rattle.bundle_pack.proofs.Reading.{still_all, still_bundles, still_last, still_more, still_none, still_serving, still_told}
use Rattle.bundle_pack.proofs.Steps.{all_still, err_as}
use Rattle.bundle_pack.proofs.collecting.collect_tiles.Goals as goal

pub loop-number-init : goal.loop-number-init
loop-number-init g c =
    let vol = g.V.Volume in
    let bundles = all_bundles vol.history c.args.from.now in
    let start = merged_start bundles in
    record {
      still = still_none vol.told vol.history vol.faults (λ i. ⊥) c.args.from.now (λ i is. is);
      aheads = ahead_start vol.told vol.history c.args.from.now c.in-Ok.aheads.items (c.in-Ok.ensures.many ∙ c.requires.serving.many) c.in-Ok.ensures.none;
      fits = subst EachFits (sym c.new-tiles.ensures.items) (λ i less. absurd (let no : ⊥ = omega (arith, less) in no));
      so = λ all. (start.0, subst (λ (ts : List TileRec). IsMergedBelow bundles 0 (map_after no_tiles ts)) (sym c.new-tiles.ensures.items) start.1);
    }

pub take_tile-requires-clause-serving : goal.take_tile-requires-clause-serving
take_tile-requires-clause-serving g c =
    let vol = g.V.Volume in
    still_serving vol.told vol.history vol.faults (λ i. ⊥) c.args.sessions.now c.args.from.now c.loop-number.from c.loop-number.invariant.still c.requires.serving

pub loop-number-preserved : goal.loop-number-preserved
loop-number-preserved g c =
    let vol = g.V.Volume in
    let inv = c.loop-number.invariant in
    let n = c.loop-number.number in
    let old = c.loop-number.tiles.items in
    let new = c.take_tile.new.tiles.items in
    let read = c.take_tile.new.aheads in
    let rest = drop (length read) c.loop-number.aheads.items in
    let len : c.loop-number.aheads.len ≡ length read = c.loop-number.aheads.ok.0 ∙ sym (ap length c.as_mut_slice.ensures.value) ∙ sym c.take_tile.auto.aheads in
    let bundles = all_bundles vol.history c.args.from.now in
    record {
      still = still_more vol.told vol.history vol.faults (λ i. DeviceAt {X = Unit {0}} (Ok tt) i) c.args.from.now c.loop-number.from c.take_tile.new.from (λ i is. absurd cc) inv.still c.in-Ok-take_tile.ensures.still;
      aheads = subst (AreAhead vol.told vol.history c.take_tile.new.from) (sym (ap (λ (k : ℕ). take k (read ++ rest)) len ∙ take-append_seam read rest)) c.take_tile.ensures.aheads;
      fits = c.take_tile.ensures.fits;
      so = λ all.
          let same = still_bundles vol.told vol.history vol.faults (λ i. ⊥) c.args.from.now c.loop-number.from inv.still all in
          let takes = subst (λ (bs : List (List ℕ)). TakesTile bs n old new) same (c.in-Ok-take_tile.ensures.takes (still_told vol.told vol.history vol.faults (λ i. ⊥) c.args.from.now c.loop-number.from inv.still all)) in
          let so = inv.so all in
          (whole_more bundles n old new so.0 takes, merged_more bundles n old new (omega arith) so.1 takes);
    }

pub returns-in-Err-clause-still : goal.returns-in-Err-clause-still
returns-in-Err-clause-still g c =
    let vol = g.V.Volume in
    let fault = c.in-Err.fault in
    all_still {X = Unit {0}} vol.told vol.history vol.faults c.args.from.now c.take_tile.new.from (Err fault) _ (λ i is. err_as fault _ is) (λ i is. err_as fault _ is)
    (still_last vol.told vol.history vol.faults (λ i. DeviceAt {X = Unit {0}} (Err fault) i) c.args.from.now c.loop-number.from c.take_tile.new.from c.loop-number.invariant.still c.in-Err.ensures.still)

pub returns-in-Err-clause-says : goal.returns-in-Err-clause-says
returns-in-Err-clause-says g c = λ all.
    let vol = g.V.Volume in
    let inv = c.loop-number.invariant in
    let n = c.loop-number.number in
    let bundles = all_bundles vol.history c.args.from.now in
    let same = still_bundles vol.told vol.history vol.faults (λ i. ⊥) c.args.from.now c.loop-number.from inv.still all in
    let says = subst (λ (bs : List (List ℕ)). TileSays bs n c.in-Err.fault) same (c.in-Err.ensures.says (still_told vol.told vol.history vol.faults (λ i. ⊥) c.args.from.now c.loop-number.from inv.still all)) in
    tiles_refused bundles n c.in-Err.fault (omega arith) (inv.so all).0 says

pub returns-in-Err-clause-answers : goal.returns-in-Err-clause-answers
returns-in-Err-clause-answers g c = subst (λ (n : ℕ). ReadFails n c.in-Err.fault) c.loop-number.invariant.still.many c.in-Err.ensures.answers

pub returns-clause-still : goal.returns-clause-still
returns-clause-still g c =
    let vol = g.V.Volume in
    still_all vol.told vol.history vol.faults _ c.args.from.now c.loop-number.from (λ i is. absurd cc) c.loop-number.invariant.still

pub returns-clause-says : goal.returns-clause-says
returns-clause-says g c = λ all.
    let vol = g.V.Volume in
    let bundles = all_bundles vol.history c.args.from.now in
    let end : c.loop-number.number ≡ 16384 = omega arith in
    let so = (c.loop-number.invariant.so all) in
    (subst (AreWhole bundles) end so.0, all_merged bundles (map_after no_tiles c.loop-number.tiles.items) (subst (λ (n : ℕ). IsMergedBelow bundles n (map_after no_tiles c.loop-number.tiles.items)) end so.1))
