use Rattle.std.proofs.Common.{refl}
use Rattle.lerc_encode.specs.AllAlike.{alike}
use Rattle.lerc_encode.specs.Choice.{chosen_blob}
use Rattle.lerc_c.proofs.Repeating.{alike_deep, blob_fits}
use Rattle.lerc_c.proofs.encoding.write_alike.Goals as goal

pub returns-in-Ok-clause-ok : goal.returns-in-Ok-clause-ok
returns-in-Ok-clause-ok c =
    let blob = chosen_blob (alike c.args.raster.kind c.args.raster.rows c.args.raster.cols c.args.raster.depth c.args.raster.value) c.args.version c.args.step in
    record {
      blob = blob;
      blob_of = record {
        fits = λ needs. let told = c.in-Ok.ensures.depth.1 (needs.0, alike_deep c.args.raster.kind c.args.raster.rows c.args.raster.cols c.args.raster.depth c.args.raster.value needs.1) in cc;
        chosen = refl;
        once = c.in-Ok.ensures.decodes;
      };
      size_is = c.in-Ok.ensures.size;
      room = blob_fits blob c.args.out.now c.encode_alike_over.new.out c.in-Ok.laid c.in-Ok.ensures.size c.in-Ok.ensures.laid c.encode_alike_over.auto.out;
      laid = c.in-Ok.ensures.laid;
    }
