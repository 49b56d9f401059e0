use Rattle.std.proofs.Common.{◌≡◌, ◌+◌, ◌*◌, ◌<◌, ◌≤◌, ℕ, drop, length, refl, sym, ◌∙◌, subst, arith, rules, inr}
use Rattle.std.proofs.lemmas.List.{take_rest}
use Rattle.lerc_header.specs.HeadFaults.{HasKey}
use Rattle.lerc_grammar.specs.declared.bands.BandsFault.{BandsFault}
use Rattle.lerc_grammar.specs.Bands.{BandsFaultAt}
use Rattle.lerc_decode.specs.declared.over_bands.BandsOverFault.{BandsOverFault}
use Rattle.lerc_decode.specs.OverBands.{IsBandsOverStop, band_bytes, mask_bytes}
use Rattle.lerc_decode.specs.inside.OverWalk.{HaveFront}
use Rattle.lerc_decode.proofs.OverWalk.{end_ok, end_stop, fits_one, front_more, laid_within, left_behind, may_follow, other_bands, part_within, wrong_behind, wrong_within}
use Rattle.lerc_decode.proofs.over_bands.walk_over.Goals as goal

pub first_over-requires-clause-values : goal.first_over-requires-clause-values
first_over-requires-clause-values c =
    let room = c.requires.room in
    let within = part_within c.args.bands 0 (band_bytes c.args.first.now) (length c.args.values.now) (omega (arith, room.some)) room.values_size in
    omega (arith, within)

pub first_over-requires-clause-masks : goal.first_over-requires-clause-masks
first_over-requires-clause-masks c =
    let room = c.requires.room in
    let within = part_within c.args.bands 0 (mask_bytes c.args.first.now) (length c.args.masks.now) (omega (arith, room.some)) room.masks_size in
    omega (arith, within)

pub returns-then-at-tile-clause-stop : goal.returns-then-at-tile-clause-stop
returns-then-at-tile-clause-stop c =
    let l = c.loop-count in
    other_bands c.args.tile.now l.at c.args.first.now c.args.bands l.count l.values l.masks l.invariant.front (inr (c.loop-count-test.true, c.if-at-tile.true))

pub returns-then-not-has_key-clause-stop : goal.returns-then-not-has_key-clause-stop
returns-then-not-has_key-clause-stop c =
    let tile = c.args.tile.now in
    let l = c.loop-count in
    subst (λ (s : BandsOverFault). IsBandsOverStop tile c.args.bands (length c.args.values.now) (length c.args.masks.now) s) (sym c.left_over.ensures)
    (left_behind tile l.at c.args.first.now l.count l.values l.masks l.invariant.front (omega (arith, l.invariant.within, c.if-at-tile.false))
    (λ few key. let no = c.if-not-has_key.ensures.1 (subst HasKey (sym (take_rest tile l.at)) key) in absurd (cc)))

pub band_over-requires-clause-values : goal.band_over-requires-clause-values
band_over-requires-clause-values c =
    part_within c.args.bands c.loop-count.count (band_bytes c.args.first.now) (length c.loop-count.values) c.loop-count-test.true (c.loop-count.auto.values ∙ c.first_over.auto.values ∙ c.requires.room.values_size)

pub band_over-requires-clause-masks : goal.band_over-requires-clause-masks
band_over-requires-clause-masks c =
    part_within c.args.bands c.loop-count.count (mask_bytes c.args.first.now) (length c.loop-count.masks) c.loop-count-test.true (c.loop-count.auto.masks ∙ c.first_over.auto.masks ∙ c.requires.room.masks_size)

pub overflow_add-at : goal.overflow_add-at
overflow_add-at c =
    let tile = c.args.tile.now in
    let first = c.args.first.now in
    let l = c.loop-count in
    let f = l.invariant.front in
    let below : l.count < 16 = omega (arith, c.loop-count-test.true, c.requires.room.few) in
    let may = may_follow tile l.at first l.count l.values l.masks f below (fits_one first c.args.bands l.count _ _ c.requires.room c.loop-count-test.true) in
    let within : l.at + c.in-Ok-band_over.size ≤ length tile = laid_within tile l.at first l.count c.in-Ok-band_over.size l.values l.masks _ _ f (rw take_rest at (c.in-Ok-band_over.ensures.ok f.bands may)) in
    search rules

pub loop-count-preserved : goal.loop-count-preserved
loop-count-preserved c =
    let tile = c.args.tile.now in
    let first = c.args.first.now in
    let l = c.loop-count in
    let f = l.invariant.front in
    let size = c.in-Ok-band_over.size in
    let below : l.count < 16 = omega (arith, c.loop-count-test.true, c.requires.room.few) in
    let fits = fits_one first c.args.bands l.count _ _ c.requires.room c.loop-count-test.true in
    let laid = rw take_rest at (c.in-Ok-band_over.ensures.ok f.bands (may_follow tile l.at first l.count l.values l.masks f below fits)) in
    let wide : l.count * band_bytes first + band_bytes first ≤ length l.values = part_within c.args.bands l.count (band_bytes first) (length l.values) c.loop-count-test.true (l.auto.values ∙ c.first_over.auto.values ∙ c.requires.room.values_size) in
    let deep : l.count * mask_bytes first + mask_bytes first ≤ length l.masks = part_within c.args.bands l.count (mask_bytes first) (length l.masks) c.loop-count-test.true (l.auto.masks ∙ c.first_over.auto.masks ∙ c.requires.room.masks_size) in
    record {
      some = omega (arith, l.invariant.some);
      few = omega (arith, c.loop-count-test.true);
      within = laid_within tile l.at first l.count size l.values l.masks _ _ f laid;
      front = front_more tile l.at first l.count size l.values l.masks _ _ f below fits (omega (arith, wide)) (omega (arith, deep)) laid;
    }

pub fault_behind-requires : goal.fault_behind-requires
fault_behind-requires c =
    let tile = c.args.tile.now in
    let first = c.args.first.now in
    let l = c.loop-count in
    let f = l.invariant.front in
    let below : l.count < 16 = omega (arith, c.loop-count-test.true, c.requires.room.few) in
    let key : HasKey (drop l.at tile) = subst HasKey (take_rest tile l.at) (c.if-not-has_key.ensures.0 refl) in
    let may = may_follow tile l.at first l.count l.values l.masks f below (fits_one first c.args.bands l.count _ _ c.requires.room c.loop-count-test.true) in
    let within : l.at + c.in-Err-band_over.fault.place ≤ length tile = wrong_within tile l.at first l.count l.values l.masks c.in-Err-band_over.fault f below key (rw take_rest at (c.in-Err-band_over.ensures.fault f.bands may)) in
    search rules

pub returns-in-Err-band_over-clause-stop : goal.returns-in-Err-band_over-clause-stop
returns-in-Err-band_over-clause-stop c =
    let tile = c.args.tile.now in
    let first = c.args.first.now in
    let l = c.loop-count in
    let f = l.invariant.front in
    let below : l.count < 16 = omega (arith, c.loop-count-test.true, c.requires.room.few) in
    let key : HasKey (drop l.at tile) = subst HasKey (take_rest tile l.at) (c.if-not-has_key.ensures.0 refl) in
    let may = may_follow tile l.at first l.count l.values l.masks f below (fits_one first c.args.bands l.count _ _ c.requires.room c.loop-count-test.true) in
    subst (λ (x : BandsFault). BandsFaultAt tile x.place x.reason) (sym c.fault_behind.ensures)
    (wrong_behind tile l.at first l.count l.values l.masks c.in-Err-band_over.fault f below key (rw take_rest at (c.in-Err-band_over.ensures.fault f.bands may)))

pub returns-clause-ok : goal.returns-clause-ok
returns-clause-ok c =
    let tile = c.args.tile.now in
    let first = c.args.first.now in
    let l = c.loop-count in
    let all : l.count ≡ c.args.bands = omega (arith, l.invariant.few, c.loop-count-test.false) in
    end_ok tile l.at first c.args.bands l.values l.masks c.end_over.result (subst (λ (n : ℕ). HaveFront tile l.at first n l.values l.masks) all l.invariant.front) (l.auto.values ∙ c.first_over.auto.values ∙ c.requires.room.values_size) (l.auto.masks ∙ c.first_over.auto.masks ∙ c.requires.room.masks_size) c.end_over.ensures

pub returns-clause-stop : goal.returns-clause-stop
returns-clause-stop c =
    let tile = c.args.tile.now in
    let first = c.args.first.now in
    let l = c.loop-count in
    let all : l.count ≡ c.args.bands = omega (arith, l.invariant.few, c.loop-count-test.false) in
    end_stop tile l.at first c.args.bands (length c.args.values.now) (length c.args.masks.now) l.values l.masks c.end_over.result (subst (λ (n : ℕ). HaveFront tile l.at first n l.values l.masks) all l.invariant.front) c.end_over.ensures
