use Rattle.std.proofs.Common.{◌≡◌, length, ◌∙◌, rules}
use Rattle.std.specs.Prelude.{replicate}
use Rattle.std.proofs.lemmas.Int.{to_z-of_z}
use mir.Syntax.{w64}
use mir.Val.{of_z, to_z}
use Rattle.raster_cells.specs.PixelType.{type_greatest}
use Rattle.micro_block.proofs.BlockSteps.{all_alike_are, ones_fit, reread, reread_in}
use Rattle.micro_block.proofs.reading.all_alike.Goals as goal

pub returns-clause-same : goal.returns-clause-same
returns-clause-same c =
    let all : c.fill.new.self ≡ replicate (length c.args.numbers.now) 0 = search rules in
    let top : to_z w64 (of_z w64 c.greatest.result) ≡ type_greatest c.args.kind = to_z-of_z w64 c.greatest.result (record { sfits = c.greatest.type_inv }) ∙ c.greatest.ensures in
    all_alike_are c.args.kind c.fill.new.self (length c.args.numbers.now) (to_z w64 (of_z w64 c.args.value)) c.args.value (to_z w64 (of_z w64 c.greatest.result)) all (reread c.args.kind c.args.value c.requires) c.requires top

pub returns-clause-fit : goal.returns-clause-fit
returns-clause-fit c =
    let top : to_z w64 (of_z w64 c.greatest.result) ≡ type_greatest c.args.kind = to_z-of_z w64 c.greatest.result (record { sfits = c.greatest.type_inv }) ∙ c.greatest.ensures in
    ones_fit c.args.kind c.args.used (to_z w64 (of_z w64 c.args.value)) (to_z w64 (of_z w64 c.greatest.result)) (reread_in c.args.kind c.args.value c.requires) top
