use Rattle.std.proofs.Common.{◌≡◌, ◌<◌, Some, length, refl, ap, ◌∙◌}
use Rattle.lerc_header.specs.declared.header.Version.TheVariants.{V3}
use Rattle.lerc_header.specs.Head.{version_number}
use Rattle.lerc_c.specs.BandArrays.{AreAllowed, GiveBandSizes}
use Rattle.lerc_c.specs.inside.Stops.{AreFit}
use Rattle.lerc_c.proofs.futskheri_encode_bands.Goals as goal

pub returns-in-Ok-clause-named : goal.returns-in-Ok-clause-named
returns-in-Ok-clause-named c = λ _ _. (
  (c.in-Some.kind, ((c.in-Some.ensures c.in-Some.kind).0 refl, tt)),
  (c.in-Some-version_numbered.version, ((c.in-Some-version_numbered.ensures c.in-Some-version_numbered.version).0 refl, tt)),
)

pub returns-in-Err-DepthNeedsV4-clause-deep : goal.returns-in-Err-DepthNeedsV4-clause-deep
returns-in-Err-DepthNeedsV4-clause-deep c = λ _.
    let told : AreAllowed c.args.rows c.args.cols c.args.depth c.args.bands
    × (GiveBandSizes c.in-Some.kind c.args.rows c.args.cols c.args.depth c.args.bands (length c.args.values.now) (length c.args.masks.now) × ((c.in-Some-version_numbered.version ≡ V3) × (1 < c.args.depth)))
    = rw c.in-Err-DepthNeedsV4.field-0-is at c.in-Err-DepthNeedsV4.ensures.stop in
    (told.0, ((c.in-Some.kind, ((c.in-Some.ensures c.in-Some.kind).0 refl, told.1.0)), ((c.in-Some-version_numbered.ensures c.in-Some-version_numbered.version).0 refl ∙ ap version_number told.1.1.0, told.1.1.1)))

pub returns-in-Err-OutOfMemory-clause-memory : goal.returns-in-Err-OutOfMemory-clause-memory
returns-in-Err-OutOfMemory-clause-memory c = λ _.
    let version = c.in-Some-version_numbered.version in
    let told : AreFit c.in-Some.kind c.args.rows c.args.cols c.args.depth c.args.bands version (length c.args.values.now) (length c.args.masks.now)
    = rw c.in-Err-OutOfMemory.field-0-is at c.in-Err-OutOfMemory.ensures.stop in (
      told.allowed,
      (
        (c.in-Some.kind, ((c.in-Some.ensures c.in-Some.kind).0 refl, told.sizes)),
        λ three. told.flat (let same : Some version ≡ Some V3 = (c.in-Some-version_numbered.ensures V3).1 three in cc),
      ),
    )
