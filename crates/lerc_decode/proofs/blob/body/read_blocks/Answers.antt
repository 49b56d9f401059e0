use Rattle.std.proofs.Common.{List, ℕ, ◌<◌, drop, ◌∙◌, refl, sym, ap, subst, arith}
use Rattle.std.proofs.lemmas.List.{take_rest}
use Rattle.raster_values.specs.Flat.{marks_of}
use Rattle.lerc_grammar.specs.declared.parts.ImageForm.TheVariants.{Blocks}
use Rattle.lerc_decode.specs.inside.Maxima.{AreMaximaOf, HasBoth}
use Rattle.lerc_decode.proofs.Bodies.{blocks_fault, both_there, coded_there, err_map, image_blocks, ok_map}
use Rattle.lerc_decode.proofs.blob.body.read_blocks.Goals as goal

pub of-maxima-requires-clause-lists : goal.of-maxima-requires-clause-lists
of-maxima-requires-clause-lists g c =
    let h = c.args.blob.now.header in
    let blob = c.args.blob.now.bytes.now in
    let form = Blocks c.args.place in
    let there = coded_there h blob c.args.mask.now form c.args.place refl
    c.requires.mask c.requires.form in
    let start = take_rest blob c.place_behind-start.result
    ∙ ap (λ n. drop n blob) c.place_behind-start.ensures.value in
    subst (HasBoth h) (sym start) (both_there h blob c.args.mask.now form c.args.place there)

pub returns-clause-read : goal.returns-clause-read
returns-clause-read g c =
    let h = c.args.blob.now.header in
    let blob = c.args.blob.now.bytes.now in
    let mask = c.args.mask.now in
    let there = coded_there h blob mask (Blocks c.args.place) c.args.place refl c.requires.mask c.requires.form in
    let start = take_rest blob c.place_behind-start.result ∙ ap (λ n. drop n blob) c.place_behind-start.ensures.value in
    let maxima = subst (λ (u : List ℕ). AreMaximaOf h u c.of-maxima.result) start c.of-maxima.ensures in
    let some : 0 < h.depth = omega (arith, c.args.blob.now.head.shape.depth_above) in
    record {
      ok = ok_map (image_blocks h blob mask c.args.place (g.T.Target.pixels c.args.raster.now) (g.T.Target.pixels c.scatter_blocks.new.raster) c.of-maxima.result there some c.scatter_blocks.ensures.frame.marks maxima) c.scatter_blocks.result c.scatter_blocks.ensures.ok;
      fault = err_map (blocks_fault h blob mask (marks_of (g.T.Target.pixels c.args.raster.now)) c.args.place c.of-maxima.result there some maxima) c.scatter_blocks.result c.scatter_blocks.ensures.fault;
    }
