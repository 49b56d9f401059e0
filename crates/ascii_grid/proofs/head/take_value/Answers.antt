use Rattle.std.proofs.Common.{◌≡◌, ◌∙◌, sym, ap, refl, inr, subst, w64, to_z, of_z}
use Rattle.std.proofs.lemmas.Int.{to_z-of_z}
use Rattle.std.proofs.lemmas.Result.{err_from_is_err_and}
use Rattle.ascii_grid.specs.Head.{IsInteger, Pair, quantity_of}
use Rattle.ascii_grid.specs.declared.words.Key.TheVariants.{XCorner, XCenter, YCorner, YCenter}
use Rattle.ascii_grid.specs.inside.Heads.{has_key}
use Rattle.ascii_grid.proofs.DigitSteps.{integer_small, no_some}
use Rattle.ascii_grid.proofs.HeadSteps.{cell_more, cols_more, flag_false, flag_true, has_not, is_size, nodata_more, rows_more, size_wrong, x_more, y_more}
use Rattle.ascii_grid.proofs.head.take_value.Goals as goal

pub returns-in_err-size_of-in-Cols-clause-err : goal.returns-in_err-size_of-in-Cols-clause-err
returns-in_err-size_of-in-Cols-clause-err c = λ ps keeps.
    let p = err_from_is_err_and c.from_residual.result c.from_residual.ensures.1 in
    rw (p.1, p.2, c.in-Cols.is) (size_wrong c.args.head.now.rows ps 1 c.args.value _ keeps.rows (rw c.bytes.ensures.value at c.in_err-size_of-in-Cols.ensures.err))

pub returns-in_err-size_of-in-Rows-clause-err : goal.returns-in_err-size_of-in-Rows-clause-err
returns-in_err-size_of-in-Rows-clause-err c = λ ps keeps.
    let p = err_from_is_err_and c.from_residual-in_err-size_of-in-Rows.result c.from_residual-in_err-size_of-in-Rows.ensures.1 in
    rw (p.1, p.2, c.in-Rows.is) (size_wrong c.args.head.now.cols ps 0 c.args.value _ keeps.cols (rw c.bytes-in-Rows.ensures.value at c.in_err-size_of-in-Rows.ensures.err))

pub returns-in-None-clause-err : goal.returns-in-None-clause-err
returns-in-None-clause-err c = λ ps keeps.
    rw c.in-Nodata.is (inr ((λ some. no_some some.0 (sym c.in-None.is ∙ (c.integer_of.ensures.value some.0).1 (rw c.bytes-in-Nodata.ensures.value some.1))), (refl, refl)))

pub returns-in_ok-size_of-in-Cols-clause-kept : goal.returns-in_ok-size_of-in-Cols-clause-kept
returns-in_ok-size_of-in-Cols-clause-kept c = λ ps word keeps.
    let told = rw c.bytes.ensures.value at c.in_ok-size_of-in-Cols.ensures.ok in
    cols_more c.args.head.now ps (record { word = word; key = c.args.key; value = c.args.value }) c.in_ok-size_of-in-Cols.field-0 keeps (ap quantity_of c.in-Cols.is) (ap (has_key c.args.head.now) (sym c.in-Cols.is) ∙ c.requires.new) told.0 told.1.0 told.1.1

pub returns-in_ok-size_of-in-Cols-clause-stands : goal.returns-in_ok-size_of-in-Cols-clause-stands
returns-in_ok-size_of-in-Cols-clause-stands c = λ ps keeps.
    let told = rw c.bytes.ensures.value at c.in_ok-size_of-in-Cols.ensures.ok in
    rw c.in-Cols.is (is_size c.args.head.now.rows ps 1 c.args.value.bytes c.in_ok-size_of-in-Cols.field-0 keeps.rows told.0 told.1.0 told.1.1)

pub returns-in_ok-size_of-in-Rows-clause-kept : goal.returns-in_ok-size_of-in-Rows-clause-kept
returns-in_ok-size_of-in-Rows-clause-kept c = λ ps word keeps.
    let told = rw c.bytes-in-Rows.ensures.value at c.in_ok-size_of-in-Rows.ensures.ok in
    rows_more c.args.head.now ps (record { word = word; key = c.args.key; value = c.args.value }) c.in_ok-size_of-in-Rows.field-0 keeps (ap quantity_of c.in-Rows.is) (ap (has_key c.args.head.now) (sym c.in-Rows.is) ∙ c.requires.new) told.0 told.1.0 told.1.1

pub returns-in_ok-size_of-in-Rows-clause-stands : goal.returns-in_ok-size_of-in-Rows-clause-stands
returns-in_ok-size_of-in-Rows-clause-stands c = λ ps keeps.
    let told = rw c.bytes-in-Rows.ensures.value at c.in_ok-size_of-in-Rows.ensures.ok in
    rw c.in-Rows.is (is_size c.args.head.now.cols ps 0 c.args.value.bytes c.in_ok-size_of-in-Rows.field-0 keeps.cols told.0 told.1.0 told.1.1)

pub returns-in_ok-text_of-in-XCorner-clause-kept : goal.returns-in_ok-text_of-in-XCorner-clause-kept
returns-in_ok-text_of-in-XCorner-clause-kept c = λ ps word keeps.
    let p : Pair = record { word = word; key = c.args.key; value = c.args.value } in
    let told = c.in_ok-text_of-in-XCorner.ensures.ok in
    let here = has_not c.args.head.now ps XCorner keeps (ap (has_key c.args.head.now) (sym c.in-XCorner.is) ∙ c.requires.new) in
    x_more c.args.head.now ps p c.in_ok-text_of-in-XCorner.field-0 _ keeps (ap quantity_of c.in-XCorner.is) told.0 told.1 (flag_false ps p XCenter (λ e. let other : XCorner ≡ XCenter = sym c.in-XCorner.is ∙ e in let bad : ⊥ = cc in bad) here)

pub returns-in_ok-text_of-in-XCenter-clause-kept : goal.returns-in_ok-text_of-in-XCenter-clause-kept
returns-in_ok-text_of-in-XCenter-clause-kept c = λ ps word keeps.
    let p : Pair = record { word = word; key = c.args.key; value = c.args.value } in
    let told = c.in_ok-text_of-in-XCenter.ensures.ok in
    x_more c.args.head.now ps p c.in_ok-text_of-in-XCenter.field-0 _ keeps (ap quantity_of c.in-XCenter.is) told.0 told.1 (flag_true ps p XCenter c.in-XCenter.is)

pub returns-in_ok-text_of-in-YCorner-clause-kept : goal.returns-in_ok-text_of-in-YCorner-clause-kept
returns-in_ok-text_of-in-YCorner-clause-kept c = λ ps word keeps.
    let p : Pair = record { word = word; key = c.args.key; value = c.args.value } in
    let told = c.in_ok-text_of-in-YCorner.ensures.ok in
    let here = has_not c.args.head.now ps YCorner keeps (ap (has_key c.args.head.now) (sym c.in-YCorner.is) ∙ c.requires.new) in
    y_more c.args.head.now ps p c.in_ok-text_of-in-YCorner.field-0 _ keeps (ap quantity_of c.in-YCorner.is) told.0 told.1 (flag_false ps p YCenter (λ e. let other : YCorner ≡ YCenter = sym c.in-YCorner.is ∙ e in let bad : ⊥ = cc in bad) here)

pub returns-in_ok-text_of-in-YCenter-clause-kept : goal.returns-in_ok-text_of-in-YCenter-clause-kept
returns-in_ok-text_of-in-YCenter-clause-kept c = λ ps word keeps.
    let p : Pair = record { word = word; key = c.args.key; value = c.args.value } in
    let told = c.in_ok-text_of-in-YCenter.ensures.ok in
    y_more c.args.head.now ps p c.in_ok-text_of-in-YCenter.field-0 _ keeps (ap quantity_of c.in-YCenter.is) told.0 told.1 (flag_true ps p YCenter c.in-YCenter.is)

pub returns-in_ok-text_of-in-Cell-clause-kept : goal.returns-in_ok-text_of-in-Cell-clause-kept
returns-in_ok-text_of-in-Cell-clause-kept c = λ ps word keeps.
    let p : Pair = record { word = word; key = c.args.key; value = c.args.value } in
    let told = c.in_ok-text_of-in-Cell.ensures.ok in
    cell_more c.args.head.now ps p c.in_ok-text_of-in-Cell.field-0 keeps (ap quantity_of c.in-Cell.is) told.0 told.1

pub returns-in-Some-clause-kept : goal.returns-in-Some-clause-kept
returns-in-Some-clause-kept c = λ ps word keeps.
    let p : Pair = record { word = word; key = c.args.key; value = c.args.value } in
    let number = rw c.bytes-in-Nodata.ensures.value at ((c.integer_of.ensures.value c.in-Some.number).0 c.in-Some.is) in
    let same = to_z-of_z w64 c.in-Some.number (rw c.in-Some.is at c.integer_of.ensures.fits) in
    nodata_more c.args.head.now ps p (to_z w64 (of_z w64 c.in-Some.number)) keeps (ap quantity_of c.in-Nodata.is) (subst (IsInteger c.args.value.bytes) (sym same) number)

pub returns-in-Some-clause-stands : goal.returns-in-Some-clause-stands
returns-in-Some-clause-stands c = λ ps keeps.
    let number = rw c.bytes-in-Nodata.ensures.value at ((c.integer_of.ensures.value c.in-Some.number).0 c.in-Some.is) in
    rw c.in-Nodata.is (c.in-Some.number, number)

pub returns-in-Some-clause-fair : goal.returns-in-Some-clause-fair
returns-in-Some-clause-fair c = λ fair.
    let number = rw c.bytes-in-Nodata.ensures.value at ((c.integer_of.ensures.value c.in-Some.number).0 c.in-Some.is) in
    let same = to_z-of_z w64 c.in-Some.number (rw c.in-Some.is at c.integer_of.ensures.fits) in
    record { x = fair.x; y = fair.y; cell = fair.cell; nodata = rw same (integer_small c.args.value.bytes c.in-Some.number number) }
