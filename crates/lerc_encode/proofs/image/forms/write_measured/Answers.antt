use Rattle.std.proofs.Common.{ap, sym, ◌∙◌, ◌++◌, ◌∷◌, arith, Bool}
use Rattle.lerc_encode.specs.Images as images
use Rattle.lerc_encode.specs.Images.{blocks_bytes}
use Rattle.lerc_encode.proofs.Forming.{behind_one, behind_two, mode_if}
use Rattle.lerc_encode.proofs.image.forms.write_measured.Goals as goal

pub returns-then-has_mode : goal.returns-then-has_mode
returns-then-has_mode g c =
    behind_two c.args.out.now c.write_blocks.new.out (blocks_bytes c.args.blocks.now.header.now (g.V.View.pixels c.args.blocks.now.raster.now)) (images.has_mode (g.V.View.pixels c.args.blocks.now.raster.now) c.args.blocks.now.header.now.step) (sym c.has_mode.ensures ∙ c.if-has_mode.true) c.requires.room c.write_blocks.ensures

pub returns-else-has_mode : goal.returns-else-has_mode
returns-else-has_mode g c =
    behind_one 0 c.args.out.now c.write_blocks-else-has_mode.new.out (blocks_bytes c.args.blocks.now.header.now (g.V.View.pixels c.args.blocks.now.raster.now)) (let room = c.requires.room in omega (arith, room)) c.write_blocks-else-has_mode.ensures
    ∙ ap (λ (b : Bool). 0 ∷ (mode_if b ++ blocks_bytes c.args.blocks.now.header.now (g.V.View.pixels c.args.blocks.now.raster.now))) (sym (sym c.has_mode.ensures ∙ c.if-has_mode.false))
