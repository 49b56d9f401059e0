use Rattle.std.proofs.Common.{◌≡◌, ◌/◌, ◌%◌, ℤ, true, Option, sym, ap, ◌∙◌, arith, rules, w64, SFits}
use Rattle.std.proofs.lemmas.Int.{to_z-of_z}
use Rattle.std.specs.Prelude.{slice_set}
use Rattle.raster_values.specs.Raster.{Pixels, marked, written}
use Rattle.sample_tiles.specs.inside.Drawing.{pixel_of, tile_of}
use Rattle.sample_tiles.proofs.Drawing.{pixel_given}
use Rattle.sample_tiles.proofs.draw.give.Goals as goal

pub returns-in-Some : goal.returns-in-Some
returns-in-Some c =
    let k = c.args.k in
    let pixels = c.args.tile.now.pixels in
    let m : c.mark.new.self ≡ marked (tile_of pixels) (k / 64) (k % 64) true = c.mark.ensures.after ∙ ap (λ (r : Pixels). marked r (k / 64) (k % 64) true) c.requires.shape in
    let fits : SFits w64 c.in-Some.v = search rules in
    c.set.ensures.after ∙ ap (λ (z : ℤ). written c.mark.new.self (k / 64) (k % 64) 0 z) (to_z-of_z w64 c.in-Some.v fits) ∙ ap (λ (r : Pixels). written r (k / 64) (k % 64) 0 c.in-Some.v) m
    ∙ pixel_given pixels k c.in-Some.v (omega (arith, c.requires.places, c.requires.within)) c.requires.invalid
    ∙ ap (λ (o : Option ℤ). tile_of (slice_set pixels k (pixel_of o))) (sym c.in-Some.is)
