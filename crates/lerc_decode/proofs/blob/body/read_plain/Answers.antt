use Rattle.std.proofs.Common.{refl}
use Rattle.raster_values.specs.Flat.{marks_of}
use Rattle.lerc_grammar.specs.declared.parts.ImageForm.TheVariants.{Plain}
use Rattle.lerc_decode.proofs.Bodies.{coded_there, plain_fault, err_map, few_values, image_plain, ok_map}
use Rattle.lerc_decode.proofs.blob.body.read_plain.Goals as goal

pub scatter_plain-requires-clause-coded : goal.scatter_plain-requires-clause-coded
scatter_plain-requires-clause-coded g c = record {
  marked = c.requires.marked;
  byte = c.requires.form.tells.0.0;
  few = few_values c.args.blob.now.bytes.now c.args.blob.now.header c.args.blob.now.head;
}

pub returns-clause-read : goal.returns-clause-read
returns-clause-read g c =
    let h = c.args.blob.now.header in
    let blob = c.args.blob.now.bytes.now in
    let there = coded_there h blob c.args.mask.now (Plain c.args.place) c.args.place refl c.requires.mask c.requires.form in
    record {
      ok = ok_map (image_plain h blob c.args.mask.now c.args.place (g.T.Target.pixels c.scatter_plain.new.raster) there) c.scatter_plain.result c.scatter_plain.ensures.ok;
      fault = err_map (plain_fault h blob c.args.mask.now (marks_of (g.T.Target.pixels c.args.raster.now)) c.args.place there) c.scatter_plain.result c.scatter_plain.ensures.fault;
    }
