use Rattle.std.proofs.Common.{◌≡◌, ◌∙◌, sym, ap, true, false}
use Rattle.std.specs.Prelude.{not}
use Rattle.std.proofs.lemmas.Bool.{eqb-true}
use Rattle.lerc_encode.proofs.TakenMasks.{taken_by}
use Rattle.lerc_encode.proofs.blobs.masks.takes_mask.Goals.{then-not-is_alike, else-not-is_alike, then-rows, else-rows}
use Rattle.lerc_encode.proofs.blobs.masks.takes_mask.Goals as goal

pub returns-then-cols : goal.returns-then-cols
returns-then-cols c =
    elim c.if-rows.branch [
      | then-rows w ↦ elim c.if-not-is_alike.branch [
        | then-not-is_alike v ↦ taken_by c.args.previous.now c.args.raster.now c.has_mask_of.result (sym c.is_alike.ensures.value ∙ v.if-not-is_alike.true)
            (sym v.rows.ensures.value ∙ eqb-true v.rows.result v.rows-then-not-is_alike.result (sym v.value-is ∙ w.if-rows.true) ∙ v.rows-then-not-is_alike.ensures.value)
            (sym w.cols.ensures.value ∙ eqb-true w.cols.result w.cols-then-rows.result (sym w.value-is ∙ c.if-cols.true) ∙ w.cols-then-rows.ensures.value)
            c.has_mask_of.ensures.0 c.has_mask_of.ensures.1
        | else-not-is_alike v ↦ absurd (let same : true ≡ false = sym w.if-rows.true ∙ v.value-is ∙ ap not v.if-not-is_alike.false in cc)
      ]
      | else-rows w ↦ absurd (let same : true ≡ false = sym c.if-cols.true ∙ w.value-is ∙ w.if-rows.false in cc)
    ]
