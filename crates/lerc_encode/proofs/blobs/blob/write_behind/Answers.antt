use Rattle.std.proofs.Common.{◌≡◌, ◌++◌, length, take, drop, refl, ap, ◌∙◌, arith, length-append, length-drop}
use Rattle.std.proofs.lemmas.List.{take_rest, length-take-le}
use Rattle.lerc_encode.specs.Images.{tail, image_bytes}
use Rattle.lerc_encode.specs.inside.Layout.{planned_runs}
use Rattle.lerc_encode.proofs.Laying.{behind_length, behind_written}
use Rattle.lerc_encode.proofs.blobs.blob.write_behind.Goals as goal

pub write_mask-requires-clause-room : goal.write_mask-requires-clause-room
write_mask-requires-clause-room g c =
    let r = (g.V.View.pixels c.args.raster.now) in
    let all = behind_length (planned_runs c.args.plan.now (g.V.View.pixels c.args.raster.now)) r c.args.plan.now.base.version c.args.plan.now.base.step c.args.plan.now.runs (length (image_bytes r c.args.plan.now.base.version c.args.plan.now.base.step (tail r c.args.plan.now.base.version c.args.plan.now.base.step))) c.requires.plan.runs refl in
    let room = c.requires.room in
    let front = c.min-front.ensures in
    length-take-le c.min-front.result c.args.out.now (omega arith) ∙ omega (arith, all, room, front)

pub write_image-requires-clause-room : goal.write_image-requires-clause-room
write_image-requires-clause-room g c =
    let r = (g.V.View.pixels c.args.raster.now) in
    let out = c.args.out.now in
    let n = c.min-front.result in
    let image = image_bytes r c.args.plan.now.base.version c.args.plan.now.base.step (tail r c.args.plan.now.base.version c.args.plan.now.base.step) in
    let all = behind_length (planned_runs c.args.plan.now (g.V.View.pixels c.args.raster.now)) r c.args.plan.now.base.version c.args.plan.now.base.step c.args.plan.now.runs (length image) c.requires.plan.runs refl in
    let room = c.requires.room in
    let front = c.min-front.ensures in
    let mid = c.write_mask.new.out ++ drop n out in
    let kept : length c.write_mask.new.out ≡ length (take n out) = c.write_mask.auto.out in
    let first = length-take-le n out (omega arith) in
    let sizes = length-append c.write_mask.new.out (drop n out) in
    let later = length-drop n out in
    let rest = length-drop n mid in
    ap length (take_rest mid n) ∙ omega (arith, all, room, front, kept, first, sizes, later, rest)

pub returns : goal.returns
returns g c =
    let r = (g.V.View.pixels c.args.raster.now) in
    let n = c.min-front.result in
    let kept : length c.write_mask.new.out ≡ length (take n c.args.out.now) = c.write_mask.auto.out in
    behind_written (planned_runs c.args.plan.now (g.V.View.pixels c.args.raster.now)) r c.args.plan.now.base.version c.args.plan.now.base.step n c.write_mask.new.out c.write_image.new.out (drop n c.args.out.now) (kept ∙ length-take-le n c.args.out.now (omega arith)) c.write_mask.ensures c.write_image.ensures
