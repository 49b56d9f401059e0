use Rattle.std.proofs.Common.{◌≡◌, ℕ, ◌+◌, ◌<◌, ◌∙◌, length, sym, refl, subst, arith}
use Rattle.lerc_header.specs.declared.header.Header.{Header}
use Rattle.lerc_grammar.specs.Blocks.{coded_blocks}
use Rattle.lerc_encode.specs.inside.Blocked.{IsBlockAt, bytes_at}
use Rattle.lerc_encode.specs.inside.Sides.{IsMore, four_sizes}
use Rattle.lerc_encode.proofs.SideSteps.{nothing_more}
use Rattle.lerc_encode.proofs.SideWalks.{IsInFirst, large_done, large_here, large_over, large_total, more_marked, none_marked, side_blocked, small_done, small_here, small_over, small_total}
use Rattle.lerc_encode.proofs.BlocksAt.{first_spot, spot_within}
use Rattle.lerc_encode.proofs.blocks.sides.measure_sides.Goals as goal

pub invariant_of-wholes : goal.invariant_of-wholes
invariant_of-wholes g c =
    let s = c.args.sides.now in
    record { blocked = side_blocked s.small.now s.large.now (g.V.View.pixels s.raster.now) s.blocked c.requires.sixteen }

pub loop-k-init : goal.loop-k-init
loop-k-init g c =
    let h = c.args.sides.now.small.now in
    let w = c.args.sides.now.large.now in
    let r = (g.V.View.pixels c.args.sides.now.raster.now) in
    let small = c.in_ok-eights.ensures in
    let large = c.in_ok-sixteens.ensures in
    let wide = side_blocked h w r c.args.sides.now.blocked c.requires.sixteen in (
      first_spot w r wide _ refl refl refl,
      (
        (
          subst (IsMore c.args.sides.now.most 0 0) (sym small.size) (nothing_more c.args.sides.now.most),
          none_marked (IsInFirst h 0) h r c.args.sides.now.most c.in_ok-eights.eights.size c.in_ok-eights.eights.tables small.room small.none (λ k seen. (let low = seen.1.0 in omega (arith, low))),
        ),
        (
          subst (IsMore c.args.sides.now.most 0 0) (sym large.size) (nothing_more c.args.sides.now.most),
          none_marked (λ i. i < 0) w r c.args.sides.now.most c.in_ok-sixteens.sixteens.size c.in_ok-sixteens.sixteens.tables large.room large.none (λ k low. omega (arith, low)),
        ),
      ),
    )

pub tally_both-requires-clause-within : goal.tally_both-requires-clause-within
tally_both-requires-clause-within g c = subst (λ (n : ℕ). c.loop-k.k < n) c.count-k-end.ensures.value c.loop-k-test.true

pub tally_both-requires-clause-eights : goal.tally_both-requires-clause-eights
tally_both-requires-clause-eights g c = c.loop-k.invariant.1.0.1.room

pub tally_both-requires-clause-sixteens : goal.tally_both-requires-clause-sixteens
tally_both-requires-clause-sixteens g c = c.loop-k.invariant.1.1.1.room

pub next_block-spot-requires : goal.next_block-spot-requires
next_block-spot-requires g c =
    let h = c.args.sides.now.large.now in
    let r = (g.V.View.pixels c.args.sides.now.raster.now) in
    let there = spot_within h r (side_blocked c.args.sides.now.small.now h r c.args.sides.now.blocked c.requires.sixteen) c.loop-k.k (subst (λ (n : ℕ). c.loop-k.k < n) c.count-k-end.ensures.value c.loop-k-test.true) c.loop-k.spot c.loop-k.invariant.0 in
    record { within = there }

pub loop-k-preserved : goal.loop-k-preserved
loop-k-preserved g c =
    let h = c.args.sides.now.small.now in
    let w = c.args.sides.now.large.now in
    let r = (g.V.View.pixels c.args.sides.now.raster.now) in
    let most = c.args.sides.now.most in
    let k = c.loop-k.k in
    let spot = c.loop-k.spot in
    let at = c.loop-k.invariant.0 in
    let there : IsBlockAt (record h { side = 16 }) k spot = subst (λ (x : Header). IsBlockAt x k spot) c.requires.sixteen at in
    let small = c.loop-k.invariant.1.0 in
    let large = c.loop-k.invariant.1.1 in
    let done = c.tally_both.ensures in
    let a = c.loop-k.eights in
    let b = c.tally_both.new.eights in
    let x = c.loop-k.sixteens in
    let y = c.tally_both.new.sixteens in (
      c.next_block-spot.ensures k at,
      (
        (
          small_total h r most k spot a.size b.size there small.0 done.small.size,
          more_marked (IsInFirst h k) (IsInFirst h (k + 1)) h r most (four_sizes h r spot) a.size b.size a.tables b.tables small.1 done.small.size done.small.tables
              (λ le i low seen has. small_here h r c.args.sides.now.blocked k spot b.tables there (done.small.flagged le) i low seen has),
        ),
        (
          large_total w r most k spot x.size y.size at large.0 done.large.size,
          more_marked (λ i. i < k) (λ i. i < k + 1) w r most (length (bytes_at w r spot)) x.size y.size x.tables y.tables large.1 done.large.size done.large.tables
              (λ le i low seen has. large_here w r k spot y.tables at (done.large.flagged le) i seen has),
        ),
      ),
    )

pub returns-then-sixteens-most-clause-small : goal.returns-then-sixteens-most-clause-small
returns-then-sixteens-most-clause-small g c =
    let h = c.args.sides.now.small.now in
    let w = c.args.sides.now.large.now in
    let r = (g.V.View.pixels c.args.sides.now.raster.now) in
    let k = c.loop-k.k in
    let spot = c.loop-k.spot in
    let there : IsBlockAt (record h { side = 16 }) k spot = subst (λ (x : Header). IsBlockAt x k spot) c.requires.sixteen c.loop-k.invariant.0 in
    let low : k < coded_blocks w = subst (λ (n : ℕ). k < n) c.count-k-end.ensures.value c.loop-k-test.true in
    small_over h w r c.args.sides.now.most (k + 1) c.tally_both.new.eights.size c.args.sides.now.blocked c.args.sides.now.eight c.requires.sixteen (omega (arith, low))
    (small_total h r c.args.sides.now.most k spot c.loop-k.eights.size c.tally_both.new.eights.size there c.loop-k.invariant.1.0.0 c.tally_both.ensures.small.size) c.if-eights-most.true

pub returns-then-sixteens-most-clause-large : goal.returns-then-sixteens-most-clause-large
returns-then-sixteens-most-clause-large g c =
    let w = c.args.sides.now.large.now in
    let r = (g.V.View.pixels c.args.sides.now.raster.now) in
    let k = c.loop-k.k in
    let spot = c.loop-k.spot in
    let low : k < coded_blocks w = subst (λ (n : ℕ). k < n) c.count-k-end.ensures.value c.loop-k-test.true in
    large_over w r c.args.sides.now.most k c.tally_both.new.sixteens.size low
    (large_total w r c.args.sides.now.most k spot c.loop-k.sixteens.size c.tally_both.new.sixteens.size c.loop-k.invariant.0 c.loop-k.invariant.1.1.0 c.tally_both.ensures.large.size) c.if-sixteens-most.true

pub returns-clause-small : goal.returns-clause-small
returns-clause-small g c =
    let all : c.loop-k.k ≡ coded_blocks c.args.sides.now.large.now = (let e : c.loop-k.k ≡ c.count-k-end.result = omega arith in e) ∙ c.count-k-end.ensures.value in
    small_done c.args.sides.now.small.now c.args.sides.now.large.now (g.V.View.pixels c.args.sides.now.raster.now) c.args.sides.now.most c.loop-k.k c.loop-k.eights.size c.loop-k.eights.tables c.args.sides.now.blocked c.args.sides.now.eight c.requires.sixteen all c.args.sides.now.few c.loop-k.invariant.1.0.0 c.loop-k.invariant.1.0.1 c.measured_of-small.result c.measured_of-small.ensures

pub returns-clause-large : goal.returns-clause-large
returns-clause-large g c =
    let all : c.loop-k.k ≡ coded_blocks c.args.sides.now.large.now = (let e : c.loop-k.k ≡ c.count-k-end.result = omega arith in e) ∙ c.count-k-end.ensures.value in
    large_done c.args.sides.now.large.now (g.V.View.pixels c.args.sides.now.raster.now) c.args.sides.now.most c.loop-k.k c.loop-k.sixteens.size c.loop-k.sixteens.tables all c.args.sides.now.few c.loop-k.invariant.1.1.0 c.loop-k.invariant.1.1.1 c.measured_of-large.result c.measured_of-large.ensures
