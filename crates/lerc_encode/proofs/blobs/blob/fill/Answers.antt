use Rattle.std.proofs.Common.{◌≡◌, ◌-◌, ◌≤◌, length, drop, sym, ap, ◌∙◌, subst, arith, length-drop}
use Rattle.std.proofs.lemmas.List.{length-take-le}
use borrow.Rule.Slice.PartMut.{put_mid}
use Rattle.lerc_header.specs.Head.{head_length}
use Rattle.lerc_header.specs.Written.{IsHeader}
use Rattle.lerc_header.specs.declared.header.Header.{Header}
use Rattle.lerc_encode.specs.inside.Layout.{planned_runs}
use Rattle.lerc_encode.proofs.Encoded.{is_header, few, length_choice}
use Rattle.lerc_encode.proofs.Laying.{sealed_is, end_behind, put_long, version_with}
use Rattle.lerc_encode.proofs.blobs.blob.fill.Goals as goal

pub write_behind-requires-clause-room : goal.write_behind-requires-clause-room
write_behind-requires-clause-room g c =
    let n = c.min-head.result in
    let blob = c.args.blob.now in
    let size = length_choice (planned_runs c.args.plan.now (g.V.View.pixels c.args.raster.now)) (g.V.View.pixels c.args.raster.now) c.args.plan.now.base.version c.args.plan.now.base.step in
    let room = c.requires.room in
    let least = c.min-head.ensures in
    let known = c.head_length.ensures in
    let rest = length-drop n blob in
    let part = length-take-le (length blob - n) (drop n blob) (omega (arith, rest)) in
    omega (arith, part, rest, size, room, least, known)

pub header_of-requires-clause-few : goal.header_of-requires-clause-few
header_of-requires-clause-few g c =
    let low : length (planned_runs c.args.plan.now (g.V.View.pixels c.args.raster.now)) ≤ 6291458 = (let is = c.requires.plan.runs in let most = c.requires.plan.few in omega (arith, is, most)) in
    let most = few (planned_runs c.args.plan.now (g.V.View.pixels c.args.raster.now)) low (g.V.View.pixels c.args.raster.now) c.args.plan.now.base.version c.args.plan.now.base.step c.requires.asked in
    let room = c.requires.room in
    omega (arith, most, room)

pub seal-requires-clause-header : goal.seal-requires-clause-header
seal-requires-clause-header g c =
    let low : length (planned_runs c.args.plan.now (g.V.View.pixels c.args.raster.now)) ≤ 6291458 = (let is = c.requires.plan.runs in let most = c.requires.plan.few in omega (arith, is, most)) in
    subst IsHeader (sym c.header_of.ensures) (is_header (planned_runs c.args.plan.now (g.V.View.pixels c.args.raster.now)) low (g.V.View.pixels c.args.raster.now) c.args.plan.now.base.version c.args.plan.now.base.step c.requires.asked 0 (omega arith))

pub seal-requires-clause-room : goal.seal-requires-clause-room
seal-requires-clause-room g c =
    let r = (g.V.View.pixels c.args.raster.now) in
    let v = c.args.plan.now.base.version in
    let s = c.args.plan.now.base.step in
    let n = c.min-head.result in
    let head : head_length c.header_of.result.version ≡ head_length v = ap (λ (x : Header). head_length x.version) c.header_of.ensures ∙ version_with (planned_runs c.args.plan.now (g.V.View.pixels c.args.raster.now)) r v s 0 in
    let size = length_choice (planned_runs c.args.plan.now (g.V.View.pixels c.args.raster.now)) r v s in
    let room = c.requires.room in
    let least = c.min-head.ensures in
    let known = c.head_length.ensures in
    let out = ap length c.write_behind.ensures in
    let long = put_long n c.args.blob.now c.write_behind.new.out (omega (arith, least)) (omega (arith, room, size, least, known, out)) in
    omega (arith, long, head, room, size)

pub returns : goal.returns
returns g c =
    let r = (g.V.View.pixels c.args.raster.now) in
    let v = c.args.plan.now.base.version in
    let s = c.args.plan.now.base.step in
    let n = c.min-head.result in
    let blob = c.args.blob.now in
    let head : head_length c.header_of.result.version ≡ head_length v = ap (λ (x : Header). head_length x.version) c.header_of.ensures ∙ version_with (planned_runs c.args.plan.now (g.V.View.pixels c.args.raster.now)) r v s 0 in
    let size = length_choice (planned_runs c.args.plan.now (g.V.View.pixels c.args.raster.now)) r v s in
    let room = c.requires.room in
    let least = c.min-head.ensures in
    let known = c.head_length.ensures in
    let same : head_length c.header_of.result.version ≡ n = omega (arith, head, least, known, room, size) in
    let behind = ap (λ k. drop k (put_mid n (length blob - n) blob c.write_behind.new.out)) same ∙ end_behind n blob c.write_behind.new.out (omega (arith, least)) ∙ c.write_behind.ensures in
    sealed_is (planned_runs c.args.plan.now (g.V.View.pixels c.args.raster.now)) r v s c.header_of.result _ c.seal.new.blob c.header_of.ensures behind c.seal.ensures
