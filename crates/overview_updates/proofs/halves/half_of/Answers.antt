use Rattle.std.proofs.Common.{Option, subst}
use Rattle.overview_tiles.specs.Sums.{Kept}
use Rattle.overview_updates.specs.Overview.{place_of}
use Rattle.overview_updates.specs.inside.Fours.{IsReadAt}
use Rattle.overview_updates.proofs.Fours.{half_of, no_half, refusal_fits, refusal_says, some_there, too_deep}
use Rattle.overview_updates.proofs.halves.half_of.Goals as goal

pub returns-in-Ok-None-clause-says : goal.returns-in-Ok-None-clause-says
returns-in-Ok-None-clause-says c = λ bundle is.
    let k = c.args.four.now.place in
    no_half bundle (place_of k).0 (place_of k).1 (subst (λ (o : Option Kept). IsReadAt bundle k 4 o) c.in-Ok-None.field-0-is (c.in-Ok-None.ensures.read bundle is))

pub returns-in_default-clause-says : goal.returns-in_default-clause-says
returns-in_default-clause-says c = λ bundle is. refusal_says bundle c.args.version c.args.four.now.place c.in-Err.stop c.requires.place c.in-Err.ensures.answers c.in_default.not-OutOfMemory (c.in-Err.ensures.refused bundle is)

pub returns-in_default-clause-fits : goal.returns-in_default-clause-fits
returns-in_default-clause-fits c = refusal_fits c.args.version c.in-Err.stop c.in-Err.ensures.answers c.in_default.not-OutOfMemory

pub returns-then-bands_need_v4-clause-says : goal.returns-then-bands_need_v4-clause-says
returns-then-bands_need_v4-clause-says c = λ bundle is.
    let k = c.args.four.now.place in
    let a = (place_of k).0 in
    let b = (place_of k).1 in
    let read = subst (λ (o : Option Kept). IsReadAt bundle k 4 o) c.in-Ok-Some.field-0-is (c.in-Ok-Some.ensures.read bundle is) in (
      some_there bundle a b c.in-Ok-Some.mosaic read,
      too_deep bundle c.args.version a b c.slot_of-slot.result c.in-Ok-Some.mosaic c.in_ok-half.half c.first_laid.result c.first_laid.ensures.few read c.first_laid.ensures.first c.in_ok-half.ensures.half (c.bands_need_v4.ensures.0 c.if-bands_need_v4.true) c.slot_of-slot.ensures,
    )

pub returns-clause-says : goal.returns-clause-says
returns-clause-says c = λ bundle is.
    let k = c.args.four.now.place in
    let read = subst (λ (o : Option Kept). IsReadAt bundle k 4 o) c.in-Ok-Some.field-0-is (c.in-Ok-Some.ensures.read bundle is) in
    half_of bundle (place_of k).0 (place_of k).1 c.in-Ok-Some.mosaic c.in_ok-half.half read c.in_ok-half.ensures.half
