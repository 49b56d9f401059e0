use Rattle.std.proofs.Common.{◌∙◌, ℕ, List, subst}
use Rattle.outside_io.specs.declared.volume.VolFile.TheVariants.{Bundle}
use Rattle.outside_io.specs.volume.History.{contents}
use Rattle.overview_updates.specs.inside.Fours.{QuarterSays}
use Rattle.overview_updates.proofs.Rounds.{four_fit, four_says}
use Rattle.overview_updates.proofs.Still.{said_before, still_join}
use Rattle.overview_updates.proofs.quarters.read_four.Goals as goal

pub returns-clause-four : goal.returns-clause-four
returns-clause-four g c = λ tells.
    let h = g.V.Volume.history in
    let start = h c.args.vol.now in
    let one = c.in-Ok.ensures in
    let two = c.in-Ok-read_quarter.ensures in
    let three = c.in-Ok-read_quarter-2.ensures in
    let four = c.in-Ok-read_quarter-3.ensures in
    let k = c.args.place in
    let told1 = one.reads.same ∙ tells in
    let told2 = two.reads.same ∙ told1 in
    let told3 = three.reads.same ∙ told2 in
    let stays1 = one.reads.during tells in
    let stays2 = still_join start (h c.read_quarter.new.vol) (h c.read_quarter-2.new.vol) stays1 (two.reads.during told1) in
    let stays3 = still_join start (h c.read_quarter-2.new.vol) (h c.read_quarter-3.new.vol) stays2 (three.reads.during told2) in
    four_says (contents Bundle start) k c.in-Ok.first c.in-Ok-read_quarter.second c.in-Ok-read_quarter-2.third c.in-Ok-read_quarter-3.last
    (subst (λ (n : ℕ). QuarterSays (contents Bundle start) n c.in-Ok.first) c.slot_of.ensures (one.quarter tells))
    (subst (λ (n : ℕ). QuarterSays (contents Bundle start) n c.in-Ok-read_quarter.second) c.slot_of-2.ensures (said_before (λ (b : List ℕ). QuarterSays b c.slot_of-2.result c.in-Ok-read_quarter.second) start (h c.read_quarter.new.vol) stays1 (two.quarter told1)))
    (subst (λ (n : ℕ). QuarterSays (contents Bundle start) n c.in-Ok-read_quarter-2.third) c.slot_of-3.ensures (said_before (λ (b : List ℕ). QuarterSays b c.slot_of-3.result c.in-Ok-read_quarter-2.third) start (h c.read_quarter-2.new.vol) stays2 (three.quarter told2)))
    (subst (λ (n : ℕ). QuarterSays (contents Bundle start) n c.in-Ok-read_quarter-3.last) c.slot_of-4.ensures (said_before (λ (b : List ℕ). QuarterSays b c.slot_of-4.result c.in-Ok-read_quarter-3.last) start (h c.read_quarter-3.new.vol) stays3 (four.quarter told3)))

pub returns-clause-readable : goal.returns-clause-readable
returns-clause-readable g c = record {
  place = c.requires.place;
  fits = four_fit c.in-Ok.first c.in-Ok-read_quarter.second c.in-Ok-read_quarter-2.third c.in-Ok-read_quarter-3.last c.in-Ok.ensures.fits c.in-Ok-read_quarter.ensures.fits c.in-Ok-read_quarter-2.ensures.fits c.in-Ok-read_quarter-3.ensures.fits;
}
