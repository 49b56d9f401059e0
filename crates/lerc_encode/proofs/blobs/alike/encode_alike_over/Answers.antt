use Rattle.std.proofs.Common.{◌≡◌, ◌∙◌, ◌++◌, ℕ, List, [], subst, drop, ap, sym, arith}
use Rattle.std.proofs.lemmas.List.{length-take-le}
use Rattle.lerc_header.specs.declared.header.Header.{Header}
use Rattle.lerc_header.specs.Head.{head_length}
use Rattle.lerc_header.specs.Written.{IsHeader}
use Rattle.lerc_encode.specs.AllAlike.{alike}
use Rattle.lerc_encode.specs.Choice.{chosen_blob}
use Rattle.lerc_encode.specs.Encoded.{Declares, IsEncodedOnce}
use Rattle.lerc_encode.proofs.Asked.{asked_is}
use Rattle.lerc_encode.proofs.AlikeBlobs.{alike_fits, alike_laid, alike_size, alike_sound}
use Rattle.lerc_encode.proofs.Encoded.{is_header}
use Rattle.lerc_encode.proofs.Laying.{version_with}
use Rattle.lerc_encode.proofs.Own.{declares, encoded_once}
use Rattle.lerc_encode.proofs.blobs.alike.encode_alike_over.Goals as goal

pub returns-then-size-out-clause-room : goal.returns-then-size-out-clause-room
returns-then-size-out-clause-room c = λ n e.
    let r = alike c.args.raster.kind c.args.raster.rows c.args.raster.cols c.args.raster.depth c.args.raster.value in
    let same : n ≡ c.alike_len-size.result = cc in
    let long = alike_size c.args.raster.kind c.args.raster.rows c.args.raster.cols c.args.raster.depth c.args.raster.value c.args.version c.args.step c.args.raster.shape c.args.raster.in_range in
    let size = c.alike_len-size.ensures in
    let over = c.if-size-out.true in
    let asked = asked_is r c.args.version c.get-asked.result (alike_sound c.args.raster.kind c.args.raster.rows c.args.raster.cols c.args.raster.depth c.args.raster.value c.args.raster.shape c.args.raster.in_range) c.get-asked.ensures.allowed
    (alike_fits c.args.raster.kind c.args.raster.rows c.args.raster.cols c.args.raster.depth c.args.raster.value c.args.version c.needs_v4.result c.if-needs_v4.false c.needs_v4.ensures) in
    (omega (arith, same, long, size), (omega (arith, same, over), subst (λ step. IsEncodedOnce (chosen_blob r c.args.version step) r step) c.get-asked.ensures.step (encoded_once r c.args.version c.get-asked.result asked)))

pub lay_alike-requires-clause-header : goal.lay_alike-requires-clause-header
lay_alike-requires-clause-header c =
    let r = alike c.args.raster.kind c.args.raster.rows c.args.raster.cols c.args.raster.depth c.args.raster.value in
    let asked = asked_is r c.args.version c.get-asked.result (alike_sound c.args.raster.kind c.args.raster.rows c.args.raster.cols c.args.raster.depth c.args.raster.value c.args.raster.shape c.args.raster.in_range) c.get-asked.ensures.allowed
    (alike_fits c.args.raster.kind c.args.raster.rows c.args.raster.cols c.args.raster.depth c.args.raster.value c.args.version c.needs_v4.result c.if-needs_v4.false c.needs_v4.ensures) in
    subst IsHeader (sym c.alike_header-header.ensures) (is_header [] (omega arith) r c.args.version c.get-asked.result asked 0 (omega arith))

pub lay_alike-requires-clause-room : goal.lay_alike-requires-clause-room
lay_alike-requires-clause-room c =
    let r = alike c.args.raster.kind c.args.raster.rows c.args.raster.cols c.args.raster.depth c.args.raster.value in
    let head : head_length c.alike_header-header.result.version ≡ head_length c.args.version = ap (λ (x : Header). head_length x.version) c.alike_header-header.ensures ∙ version_with [] r c.args.version c.get-asked.result 0 in
    let size = c.alike_len-size.ensures in
    length-take-le c.alike_len-size.result c.args.out.now (let fits = c.if-size-out.false in omega (arith, fits)) ∙ omega (arith, head, size)

pub returns-clause-size : goal.returns-clause-size
returns-clause-size c =
    c.alike_len-size.ensures ∙ sym (alike_size c.args.raster.kind c.args.raster.rows c.args.raster.cols c.args.raster.depth c.args.raster.value c.args.version c.args.step c.args.raster.shape c.args.raster.in_range)

pub returns-clause-laid : goal.returns-clause-laid
returns-clause-laid c =
    let r = alike c.args.raster.kind c.args.raster.rows c.args.raster.cols c.args.raster.depth c.args.raster.value in
    ap (λ (bytes : List ℕ). bytes ++ drop c.alike_len-size.result c.args.out.now)
    (alike_laid c.args.raster.kind c.args.raster.rows c.args.raster.cols c.args.raster.depth c.args.raster.value c.args.version c.get-asked.result c.args.raster.shape c.args.raster.in_range c.alike_header-header.result c.lay_alike.new.blob c.alike_header-header.ensures c.lay_alike.ensures
    ∙ ap (λ (step : ℕ). chosen_blob r c.args.version step) c.get-asked.ensures.step)

pub returns-clause-decodes : goal.returns-clause-decodes
returns-clause-decodes c =
    let r = alike c.args.raster.kind c.args.raster.rows c.args.raster.cols c.args.raster.depth c.args.raster.value in
    let asked = asked_is r c.args.version c.get-asked.result (alike_sound c.args.raster.kind c.args.raster.rows c.args.raster.cols c.args.raster.depth c.args.raster.value c.args.raster.shape c.args.raster.in_range) c.get-asked.ensures.allowed
    (alike_fits c.args.raster.kind c.args.raster.rows c.args.raster.cols c.args.raster.depth c.args.raster.value c.args.version c.needs_v4.result c.if-needs_v4.false c.needs_v4.ensures) in
    subst (λ step. IsEncodedOnce (chosen_blob r c.args.version step) r step) c.get-asked.ensures.step (encoded_once r c.args.version c.get-asked.result asked)

pub returns-clause-declares : goal.returns-clause-declares
returns-clause-declares c =
    let r = alike c.args.raster.kind c.args.raster.rows c.args.raster.cols c.args.raster.depth c.args.raster.value in
    let asked = asked_is r c.args.version c.get-asked.result (alike_sound c.args.raster.kind c.args.raster.rows c.args.raster.cols c.args.raster.depth c.args.raster.value c.args.raster.shape c.args.raster.in_range) c.get-asked.ensures.allowed
    (alike_fits c.args.raster.kind c.args.raster.rows c.args.raster.cols c.args.raster.depth c.args.raster.value c.args.version c.needs_v4.result c.if-needs_v4.false c.needs_v4.ensures) in
    subst (λ step. Declares (chosen_blob r c.args.version step) c.args.version step) c.get-asked.ensures.step (declares r c.args.version c.get-asked.result asked)
