use Rattle.std.proofs.Common.{◌≡◌, ◌+◌, ◌-◌, ◌≤◌, length, take, drop, ap, ◌∙◌, arith, to_z, of_z}
use Rattle.std.specs.Int.{int_min, int_max, w64}
use Rattle.std.proofs.lemmas.List.{take_all, length-drop}
use Rattle.lane_kernels.proofs.Folds.{lesser, greater, again_lanes, kept_more}
use Rattle.lane_kernels.proofs.extremes.ends_of_eights.Goals as goal

pub lower-low-requires-clause-next : goal.lower-low-requires-clause-next
lower-low-requires-clause-next c =
    again_lanes c.eight_of-next.result c.eight_of-next.ensures.lanes

pub higher-high-requires-clause-next : goal.higher-high-requires-clause-next
higher-high-requires-clause-next c =
    again_lanes c.eight_of-next.result c.eight_of-next.ensures.lanes

pub loop-at-preserved : goal.loop-at-preserved
loop-at-preserved c =
    let values = c.args.values.now in
    let at = c.loop-at.at in
    let first = to_z w64 (of_z w64 c.args.first) in
    let within : at + 8 ≤ length values = omega (arith, c.loop-at.invariant.1.0, c.requires) in
    let next : c.eight_of-next.result ≡ take 8 (drop at values) =
    c.eight_of-next.ensures.same ∙ ap (take 8) (take_all (length values - at) (drop at values) (omega (arith, length-drop at values))) in (
      within,
      (
        omega (arith, c.loop-at.invariant.1.0),
        (
          kept_more int_min lesser first _ c.eight_of-next.result c.lower-low.result values at c.loop-at.invariant.1.1.0.0 c.eight_of-next.ensures.lanes c.lower-low.ensures.lanes within c.loop-at.invariant.1.1.0.1 next c.lower-low.ensures.least,
          kept_more int_max greater first _ c.eight_of-next.result c.higher-high.result values at c.loop-at.invariant.1.1.1.0 c.eight_of-next.ensures.lanes c.higher-high.ensures.lanes within c.loop-at.invariant.1.1.1.1 next c.higher-high.ensures.greatest,
        ),
      ),
    )
