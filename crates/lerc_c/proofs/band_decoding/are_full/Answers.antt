use Rattle.std.proofs.Common.{List, take, refl, sym, subst, arith}
use Rattle.std.specs.Prelude.{All}
use Rattle.std.proofs.lemmas.List.{take_all}
use Rattle.std.proofs.lemmas.List.Elements.{All-get_or, All-nil, All-push}
use Rattle.std.proofs.lemmas.Option.{get_or_from_slice_get, slice_get_within}
use Rattle.raster_values.specs.Raster.{Pixels}
use Rattle.lerc_c.specs.Arrays.{IsFull}
use Rattle.lerc_c.proofs.BandLaying.{one_more}
use Rattle.lerc_c.proofs.band_decoding.are_full.Goals as goal

pub loop-i-init : goal.loop-i-init
loop-i-init c = All-nil IsFull

pub loop-i-preserved : goal.loop-i-preserved
loop-i-preserved c =
    let bands = c.args.bands.now in
    let band = c.at-band.result.now in
    subst (λ (xs : List Pixels). All IsFull xs) (sym (one_more bands c.loop-i.i band c.at-band.ensures))
    (All-push IsFull (take c.loop-i.i bands) band c.loop-i.invariant (c.if-not-is_full.ensures.0 refl))

pub returns-then-not-is_full : goal.returns-then-not-is_full
returns-then-not-is_full c =
    let bands = c.args.bands.now in
    let band = c.at-band.result.now in (
      λ e. absurd (cc),
      λ all.
          let full : IsFull band = subst IsFull (get_or_from_slice_get bands c.loop-i.i band band c.at-band.ensures) (All-get_or IsFull bands c.loop-i.i band (slice_get_within bands c.loop-i.i band c.at-band.ensures) all) in
          let no = c.if-not-is_full.ensures.1 full in absurd (cc),
    )

pub returns : goal.returns
returns c =
    let bands = c.args.bands.now in
    (λ e. subst (λ (xs : List Pixels). All IsFull xs) (take_all c.loop-i.i bands (omega (arith, c.loop-i-test.false, c.len-i-end.ensures.value))) c.loop-i.invariant, λ all. refl)
