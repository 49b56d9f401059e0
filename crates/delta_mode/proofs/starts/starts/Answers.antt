use Rattle.delta_mode.proofs.StartBits.{free_off, free_on, held_off, held_on}
use Rattle.std.proofs.Common.{ap, ◌∙◌}
use Rattle.delta_mode.specs.inside.Pieces.{left_of}
use Rattle.raster_cells.specs.Words.{word_bit}
use Rattle.delta_mode.proofs.starts.starts.Goals as goal

pub returns-then-left-clause-on : goal.returns-then-left-clause-on
returns-then-left-clause-on c = λ q lt on.
    let h = held_on c.args.marks c.args.count q c.requires.some c.requires.few c.ranges.marks.fits lt on in (h.0, ap (λ b. left_of b (word_bit c.args.count c.args.marks) q) c.if-left.true ∙ h.1)

pub returns-then-left-clause-off : goal.returns-then-left-clause-off
returns-then-left-clause-off c = λ q lt on off.
    ap (λ b. left_of b (word_bit c.args.count c.args.marks) q) c.if-left.true ∙ held_off c.args.marks c.args.count q c.requires.some c.requires.few c.ranges.marks.fits c.requires.marks lt on off

pub returns-else-left-clause-on : goal.returns-else-left-clause-on
returns-else-left-clause-on c = λ q lt on.
    let h = free_on c.args.marks c.args.count q c.requires.some c.requires.few c.ranges.marks.fits lt on in (h.0, ap (λ b. left_of b (word_bit c.args.count c.args.marks) q) c.if-left.false ∙ h.1)

pub returns-else-left-clause-off : goal.returns-else-left-clause-off
returns-else-left-clause-off c = λ q lt on off.
    ap (λ b. left_of b (word_bit c.args.count c.args.marks) q) c.if-left.false ∙ free_off c.args.marks c.args.count q c.requires.some c.requires.few c.ranges.marks.fits c.requires.marks lt on off
