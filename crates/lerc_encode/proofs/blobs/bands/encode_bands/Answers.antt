use Rattle.std.proofs.Common.{◌≤◌, ◌∙◌, ℕ, List, None, length, sym, subst, ap}
use Rattle.lerc_encode.specs.Choice.{chosen_bands}
use Rattle.lerc_encode.specs.Encoded.{AreEncodedOnce, DeclareEach}
use Rattle.lerc_encode.proofs.Joining.{asked_all, bands_once, declare_each, needs_not}
use Rattle.lerc_encode.proofs.BandsSmall.{tiles_small}
use Rattle.lerc_encode.proofs.blobs.bands.encode_bands.Goals as goal

pub at-requires : goal.at-requires
at-requires c = c.len-len.ensures.sound.0

pub blobs_of-requires : goal.blobs_of-requires
blobs_of-requires c = (asked_all c.args.bands.now c.args.version c.get.result c.len-len.ensures.sound c.get.ensures.allowed (needs_not c.args.bands.now c.args.version c.at.result.now c.needs_v4.result c.depth.result c.at.ensures c.depth.ensures.value c.if-needs_v4.false c.needs_v4.ensures))

pub returns-clause-chosen : goal.returns-clause-chosen
returns-clause-chosen c = c.from_vec.ensures ∙ c.in_ok-blobs.ensures ∙ ap (λ (step : ℕ). chosen_bands None c.args.bands.now c.args.version step) c.get.ensures.step

pub returns-clause-few : goal.returns-clause-few
returns-clause-few c =
    subst (λ (bytes : List ℕ). length bytes ≤ 134217728) (sym (c.from_vec.ensures ∙ c.in_ok-blobs.ensures)) (tiles_small None c.args.bands.now c.args.version c.get.result c.len-len.ensures.sound)

pub returns-clause-decodes : goal.returns-clause-decodes
returns-clause-decodes c =
    let bands = c.args.bands.now in
    subst (λ step. AreEncodedOnce c.from_vec.result bands step) c.get.ensures.step
    (subst (λ (bytes : List ℕ). AreEncodedOnce bytes bands c.get.result) (sym (c.from_vec.ensures ∙ c.in_ok-blobs.ensures))
    (bands_once bands c.args.version c.get.result c.len-len.ensures.sound (asked_all c.args.bands.now c.args.version c.get.result c.len-len.ensures.sound c.get.ensures.allowed (needs_not c.args.bands.now c.args.version c.at.result.now c.needs_v4.result c.depth.result c.at.ensures c.depth.ensures.value c.if-needs_v4.false c.needs_v4.ensures))))

pub returns-clause-declares : goal.returns-clause-declares
returns-clause-declares c =
    let bands = c.args.bands.now in
    subst (λ step. DeclareEach c.from_vec.result bands c.args.version step) c.get.ensures.step
    (subst (λ (bytes : List ℕ). DeclareEach bytes bands c.args.version c.get.result) (sym (c.from_vec.ensures ∙ c.in_ok-blobs.ensures))
    (declare_each bands c.args.version c.get.result (asked_all c.args.bands.now c.args.version c.get.result c.len-len.ensures.sound c.get.ensures.allowed (needs_not c.args.bands.now c.args.version c.at.result.now c.needs_v4.result c.depth.result c.at.ensures c.depth.ensures.value c.if-needs_v4.false c.needs_v4.ensures))))
