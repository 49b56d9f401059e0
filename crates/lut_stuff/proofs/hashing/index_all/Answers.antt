use Rattle.std.proofs.Common.{◌∙◌, ap, sym, refl, zero}
use Rattle.std.proofs.lemmas.List.{get_or-replicate}
use Rattle.lut_stuff.specs.Tables.{index_in}
use Rattle.lut_stuff.proofs.hashing.index_all.Goals as goal

pub loop-i-init : goal.loop-i-init
loop-i-init c = record {
  places = λ k below. get_or-replicate 256 k c.index_of-places.result 0 below ∙ c.index_of-places.ensures ∙ ap (index_in c.args.entries.now) (sym (get_or-replicate 256 k zero 0 below));
  written = refl;
}
