use Rattle.std.proofs.Common.{◌≡◌, ℕ, Option, None, Some, inl, inr, ap, sym, subst, ◌∙◌, ⊎_elim, get_or}
use Rattle.bundle_store.specs.Tiles.{tiles}
use Rattle.overview_tiles.specs.Sums.{IsTileOf, Kept}
use Rattle.overview_tiles.specs.Tiles.{with_tile}
use Rattle.overview_updates.specs.Overview.{IsQuarter, LiesWhole, place_of, quarter_slot}
use Rattle.overview_updates.specs.Refusals.{FourStops, QuarterStops}
use Rattle.overview_updates.specs.declared.stop.OverviewStop.{OverviewStop}
use Rattle.overview_updates.specs.declared.stop.OverviewStop.TheVariants.{Unlike, OutOfMemory}
use Rattle.overview_updates.specs.inside.Fours.{QuarterSays}
use Rattle.overview_updates.specs.inside.Laid.{HasTiles}
use Rattle.overview_updates.proofs.NextQuarter.{all_one, is_unlike, read_none, read_some, some_more}
use Rattle.overview_updates.proofs.quarters.add_quarter.Goals as goal

pub returns-in-Ok-None-clause-read : goal.returns-in-Ok-None-clause-read
returns-in-Ok-None-clause-read c = λ bundle is r.
    let k = c.args.four.now.place in
    let slot = quarter_slot (place_of k).0 (place_of k).1 c.args.quarter in
    let had = get_or c.args.four.now.quarters c.args.quarter c.index-four-quarter.result in
    let said = subst (λ (s : ℕ). QuarterSays bundle s had) (sym c.slot_of-slot.ensures) (is c.args.quarter c.index-four-quarter.result c.requires.quarter) in
    let read : IsQuarter (tiles bundle slot) None = subst (λ s. IsQuarter (tiles bundle s) None) c.slot_of-slot.ensures (subst (IsQuarter (tiles bundle c.slot_of-slot.result)) c.in-Ok-None.field-0-is (c.in-Ok-None.ensures.quarter bundle said)) in
    let whole = subst (LiesWhole bundle) c.slot_of-slot.ensures (c.in-Ok-None.ensures.whole bundle said) in
    record { tiles = r.tiles; read = read_none bundle (place_of k).0 (place_of k).1 c.args.quarter r.tiles read whole r.read; has = r.has }

pub returns-in-Ok-clause-read : goal.returns-in-Ok-clause-read
returns-in-Ok-clause-read c = λ bundle is r.
    let k = c.args.four.now.place in
    let q = c.args.quarter in
    let slot = quarter_slot (place_of k).0 (place_of k).1 q in
    let had = get_or c.args.four.now.quarters q c.index-four-quarter.result in
    let said = subst (λ (s : ℕ). QuarterSays bundle s had) (sym c.slot_of-slot.ensures) (is q c.index-four-quarter.result c.requires.quarter) in
    let tile = c.in-Ok-Some.tile in
    let one : IsQuarter (tiles bundle c.slot_of-slot.result) (Some tile) = subst (IsQuarter (tiles bundle c.slot_of-slot.result)) c.in-Ok-Some.field-0-is (c.in-Ok-Some.ensures.quarter bundle said) in
    let read : IsQuarter (tiles bundle slot) (Some tile) = subst (λ s. IsQuarter (tiles bundle s) (Some tile)) c.slot_of-slot.ensures one in
    let whole = subst (LiesWhole bundle) c.slot_of-slot.ensures (c.in-Ok-Some.ensures.whole bundle said) in
    record {
      tiles = with_tile q tile r.tiles;
      read = read_some bundle (place_of k).0 (place_of k).1 q tile r.tiles read whole r.read;
      has = some_more c.in-Ok.next q tile r.tiles (c.in-Ok.ensures.laid r.tiles r.has);
    }

-- the next tile is not read
pub returns-in-Err-clause-refused : goal.returns-in-Err-clause-refused
returns-in-Err-clause-refused c = λ bundle is r.
    let k = c.args.four.now.place in
    let slot = quarter_slot (place_of k).0 (place_of k).1 c.args.quarter in
    let had = get_or c.args.four.now.quarters c.args.quarter c.index-four-quarter.result in
    let said = subst (λ (s : ℕ). QuarterSays bundle s had) (sym c.slot_of-slot.ensures) (is c.args.quarter c.index-four-quarter.result c.requires.quarter) in
    let stop : OverviewStop = c.in-Err.stop in
    let stops : QuarterStops bundle slot stop = subst (λ s. QuarterStops bundle s stop) c.slot_of-slot.ensures (c.in-Err.ensures.refused bundle said) in
    let refused : FourStops bundle (place_of k).0 (place_of k).1 stop = record { quarter = c.args.quarter; few = c.requires.quarter; before = r.tiles; read = r.read; alike = all_one c.args.mosaic r.tiles r.has; refused = inl stops } in
    refused

pub returns-clause-refused : goal.returns-clause-refused
returns-clause-refused c = λ bundle is r.
    let k = c.args.four.now.place in
    let q = c.args.quarter in
    let slot = quarter_slot (place_of k).0 (place_of k).1 q in
    let had = get_or c.args.four.now.quarters q c.index-four-quarter.result in
    let said = subst (λ (s : ℕ). QuarterSays bundle s had) (sym c.slot_of-slot.ensures) (is q c.index-four-quarter.result c.requires.quarter) in
    let stop : OverviewStop = c.in-Err-lay_quarter.stop in
    let tile = c.in-Ok-Some.tile in
    let at : c.slot_of-slot.result ≡ slot = c.slot_of-slot.ensures in
    let one : IsQuarter (tiles bundle c.slot_of-slot.result) (Some tile) = subst (IsQuarter (tiles bundle c.slot_of-slot.result)) c.in-Ok-Some.field-0-is (c.in-Ok-Some.ensures.quarter bundle said) in
    let read : IsQuarter (tiles bundle slot) (Some tile) = subst (λ s. IsQuarter (tiles bundle s) (Some tile)) at one in
    ⊎_elim
    (λ (none : stop ≡ OutOfMemory).
    let refused : FourStops bundle (place_of k).0 (place_of k).1 stop = record { quarter = q; few = c.requires.quarter; before = r.tiles; read = r.read; alike = all_one c.args.mosaic r.tiles r.has; refused = inl (subst (QuarterStops bundle slot) (sym none) tt) } in
    refused)
    (λ (differs : (m : Kept) × ((c.args.mosaic ≡ Some m) × ((¬ IsTileOf m tile) × (stop ≡ Unlike c.slot_of-slot.result)))).
    let m = differs.0 in
    let some = subst (λ (o : Option Kept). HasTiles o r.tiles) differs.1.0 r.has in
    let whole = subst (LiesWhole bundle) at (c.in-Ok-Some.ensures.whole bundle said) in
    let line : stop ≡ Unlike slot = differs.1.1.1 ∙ ap Unlike at in
    let refused : FourStops bundle (place_of k).0 (place_of k).1 stop = record { quarter = q; few = c.requires.quarter; before = r.tiles; read = r.read; alike = all_one c.args.mosaic r.tiles r.has; refused = inr (is_unlike bundle slot m tile r.tiles read whole some differs.1.1.0, line) } in
    refused)
    c.in-Err-lay_quarter.ensures.unlike
