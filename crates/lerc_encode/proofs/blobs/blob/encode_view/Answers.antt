use Rattle.std.proofs.Common.{ℕ, ◌≤◌, sym, ◌∙◌, subst, List, length}
use Rattle.lerc_encode.specs.Encoded.{Declares, IsEncodedOnce}
use Rattle.lerc_encode.proofs.Asked.{asked_of}
use Rattle.lerc_encode.proofs.Own.{declares, encoded_once, few}
use Rattle.lerc_encode.proofs.blobs.blob.encode_view.Goals as goal

pub blob_of-requires : goal.blob_of-requires
blob_of-requires g c =
    asked_of (g.V.View.pixels c.args.raster.now) c.args.version c.get.result c.needs_v4.result c.depth.result c.depth.ensures.value c.depth.ensures.sound c.get.ensures.allowed c.if-needs_v4.false c.needs_v4.ensures

pub returns-clause-few : goal.returns-clause-few
returns-clause-few g c =
    let asked = asked_of (g.V.View.pixels c.args.raster.now) c.args.version c.get.result c.needs_v4.result c.depth.result c.depth.ensures.value c.depth.ensures.sound c.get.ensures.allowed c.if-needs_v4.false c.needs_v4.ensures in
    subst (λ (bytes : List ℕ). length bytes ≤ 134217728) (sym (c.from_vec.ensures ∙ c.in_ok-blob.ensures)) (few (g.V.View.pixels c.args.raster.now) c.args.version c.get.result asked)

pub returns-clause-decodes : goal.returns-clause-decodes
returns-clause-decodes g c =
    let r = (g.V.View.pixels c.args.raster.now) in
    let asked = asked_of r c.args.version c.get.result c.needs_v4.result c.depth.result c.depth.ensures.value c.depth.ensures.sound c.get.ensures.allowed c.if-needs_v4.false c.needs_v4.ensures in
    subst (λ step. IsEncodedOnce c.from_vec.result r step) c.get.ensures.step
    (subst (λ (bytes : List ℕ). IsEncodedOnce bytes r c.get.result) (sym (c.from_vec.ensures ∙ c.in_ok-blob.ensures)) (encoded_once r c.args.version c.get.result asked))

pub returns-clause-declares : goal.returns-clause-declares
returns-clause-declares g c =
    let r = (g.V.View.pixels c.args.raster.now) in
    let asked = asked_of r c.args.version c.get.result c.needs_v4.result c.depth.result c.depth.ensures.value c.depth.ensures.sound c.get.ensures.allowed c.if-needs_v4.false c.needs_v4.ensures in
    subst (λ step. Declares c.from_vec.result c.args.version step) c.get.ensures.step
    (subst (λ (bytes : List ℕ). Declares bytes c.args.version c.get.result) (sym (c.from_vec.ensures ∙ c.in_ok-blob.ensures)) (declares r c.args.version c.get.result asked))
