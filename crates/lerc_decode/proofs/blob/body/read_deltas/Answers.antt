use Rattle.std.proofs.Common.{refl}
use Rattle.raster_values.specs.Flat.{marks_of}
use Rattle.lerc_grammar.specs.declared.parts.ImageForm.TheVariants.{Delta}
use Rattle.lerc_decode.proofs.Bodies.{coded_there, deltas_fault, err_map, few_values, image_deltas, ok_map}
use Rattle.lerc_decode.proofs.blob.body.read_deltas.Goals as goal

pub scatter_deltas-requires-clause-coded : goal.scatter_deltas-requires-clause-coded
scatter_deltas-requires-clause-coded g c = record {
  marked = c.requires.marked;
  byte = c.requires.form.tells.0.0;
  few = few_values c.args.blob.now.bytes.now c.args.blob.now.header c.args.blob.now.head;
}

pub returns-clause-read : goal.returns-clause-read
returns-clause-read g c =
    let h = c.args.blob.now.header in
    let blob = c.args.blob.now.bytes.now in
    let there = coded_there h blob c.args.mask.now (Delta c.args.place) c.args.place refl c.requires.mask c.requires.form in
    record {
      ok = ok_map (image_deltas h blob c.args.mask.now c.args.place (g.T.Target.pixels c.scatter_deltas.new.raster) there) c.scatter_deltas.result c.scatter_deltas.ensures.ok;
      fault = err_map (deltas_fault h blob c.args.mask.now (marks_of (g.T.Target.pixels c.args.raster.now)) c.args.place there) c.scatter_deltas.result c.scatter_deltas.ensures.fault;
    }
