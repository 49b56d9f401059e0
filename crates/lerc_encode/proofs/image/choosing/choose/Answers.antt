use Rattle.std.proofs.Common.{arith, ap, subst, ◌∙◌, ◌∷◌, [], length, Some}
use Rattle.lerc_header.specs.declared.header.Header.{Header}
use Rattle.std.specs.Prelude.{MatchOption}
use Rattle.lerc_encode.specs.Images.{blocks_bytes, mode_bytes}
use Rattle.lerc_encode.specs.Heads.{header_of}
use Rattle.lerc_encode.specs.inside.Blocked.{IsMeasured}
use Rattle.lerc_encode.proofs.Candidates.{chosen_is, delta_size, plain_size, few_of, sizes_of, measured_of, measured_len, small_long, large_long}
use Rattle.lerc_encode.proofs.Forming.{base_blocked, large_header, sweep_is}
use Rattle.lerc_encode.proofs.image.choosing.choose.Goals as goal

pub invariant_of-both-clause-blocked : goal.invariant_of-both-clause-blocked
invariant_of-both-clause-blocked g c = base_blocked c.args.base.now (g.V.View.pixels c.args.raster.now) c.requires

pub invariant_of-both-clause-eight : goal.invariant_of-both-clause-eight
unfolding header_of
invariant_of-both-clause-eight g c = ap (λ (x : Header). x.side) c.requires.is

pub invariant_of-both-clause-few : goal.invariant_of-both-clause-few
invariant_of-both-clause-few g c =
    let low = c.least_known-most.ensures.few in
    let few = c.sweep_len-sweep.ensures.few in
    omega (arith, low, few)

pub block_form_len-requires : goal.block_form_len-requires
block_form_len-requires g c = few_of _ c.args.base.now (g.V.View.pixels c.args.raster.now) c.in_ok-sides.sides.small c.in_ok-sides.ensures.small

pub block_form_len-requires-2 : goal.block_form_len-requires-2
block_form_len-requires-2 g c = few_of _ c.with_large-large_base.result (g.V.View.pixels c.args.raster.now) c.in_ok-sides.sides.large c.in_ok-sides.ensures.large

pub returns : goal.returns
returns g c =
    let h = c.args.base.now in
    let wide = c.with_large-large_base.result in
    let large_is = c.with_large-large_base.ensures in
    let r = (g.V.View.pixels c.args.raster.now) in
    let codings = c.codings_of-codings.result in
    let small = c.in_ok-sides.sides.small in
    let large = c.in_ok-sides.sides.large in
    let front = length (mode_bytes r h.step) in
    let a = c.sweep_len-sweep.ensures.value ∙ ap length (sweep_is r h.version h.step) in
    let b = small_long h r c.requires in
    let l = large_long h wide r c.requires large_is in
    let d = c.coded_form_len-deltas.ensures ∙ delta_size r h.version h.step codings c.codings_of-codings.ensures in
    let e = c.coded_form_len-plains.ensures ∙ plain_size r h.version h.step codings c.codings_of-codings.ensures in
    let same_front = ap (λ (x : Header). measured_len (length (mode_bytes r x.step)) large) large_is in
    chosen_is r h.version h.step front c.sweep_len-sweep.result (length (blocks_bytes h r)) (length (blocks_bytes wide r)) c.least_known-most.result small large c.coded_form_len-deltas.result c.coded_form_len-plains.result
    (Some c.sweep_len-sweep.result ∷ c.block_form_len.result ∷ c.block_form_len-2.result ∷ c.coded_form_len-deltas.result ∷ c.coded_form_len-plains.result ∷ [])
    c.first_least.result c.unwrap_or-place.result c.form_at.result codings
    (record {
      small_is = sizes_of c.least_known-most.result h r small c.in_ok-sides.ensures.small;
      large_is = sizes_of c.least_known-most.result wide r large c.in_ok-sides.ensures.large;
      most_is = c.least_known-most.ensures.one;
    })
    (λ t. Some c.sweep_len-sweep.result ∷ c.block_form_len.ensures t ∷ (c.block_form_len-2.ensures ∙ same_front) t ∷ c.coded_form_len-deltas.result ∷ c.coded_form_len-plains.result ∷ [])
    (λ t. Some (a t) ∷ Some (b t) ∷ Some (l t) ∷ d t ∷ e t ∷ []) c.sweep_len-sweep.ensures.few c.first_least.ensures c.unwrap_or-place.ensures c.form_at.ensures c.codings_of-codings.ensures
    (subst (λ (x : Header). MatchOption small Unit (IsMeasured x r)) c.requires.is (measured_of _ h r small c.in_ok-sides.ensures.small))
    (subst (λ (x : Header). MatchOption large Unit (IsMeasured x r)) (large_is ∙ large_header h r c.requires) (measured_of _ wide r large c.in_ok-sides.ensures.large))
