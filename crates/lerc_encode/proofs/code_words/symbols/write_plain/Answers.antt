use Rattle.std.proofs.Common.{ℕ, ◌<◌, List, sym, ap, ◌∙◌, subst}
use Rattle.std.specs.Prelude.{All, slice_index}
use Rattle.huff_codes.specs.Codes.{canonical_codes}
use Rattle.huff_codes.specs.Written.{AreWritten, written_size}
use Rattle.lerc_encode.proofs.SymbolSteps.{lying_are, lying_few}
use Rattle.lerc_encode.proofs.code_words.symbols.write_plain.Goals as goal

pub write_symbols-requires-clause-count : goal.write_symbols-requires-clause-count
write_symbols-requires-clause-count g c = lying_few (g.V.View.pixels c.args.bytes.now.raster.now) c.is_lying.ensures.sound (c.is_lying.ensures.lies.0 c.if-is_lying.true) _ c.cells.ensures.size

pub write_symbols-requires-clause-coded : goal.write_symbols-requires-clause-coded
write_symbols-requires-clause-coded g c =
    let are = c.cells.ensures.bytes ∙ lying_are (g.V.View.pixels c.args.bytes.now.raster.now) c.is_lying.ensures.sound (c.is_lying.ensures.lies.0 c.if-is_lying.true) in
    subst (All (λ s. 0 < slice_index c.args.lengths.now s)) (sym are) c.requires.coded

pub write_symbols-requires-clause-room : goal.write_symbols-requires-clause-room
write_symbols-requires-clause-room g c =
    let are = c.cells.ensures.bytes ∙ lying_are (g.V.View.pixels c.args.bytes.now.raster.now) c.is_lying.ensures.sound (c.is_lying.ensures.lies.0 c.if-is_lying.true) in
    c.requires.room ∙ ap (written_size (canonical_codes c.args.lengths.now)) (sym are)

pub returns-then-is_lying : goal.returns-then-is_lying
returns-then-is_lying g c =
    let are = c.cells.ensures.bytes ∙ lying_are (g.V.View.pixels c.args.bytes.now.raster.now) c.is_lying.ensures.sound (c.is_lying.ensures.lies.0 c.if-is_lying.true) in
    subst (λ (symbols : List ℕ). AreWritten (canonical_codes c.args.lengths.now) symbols c.write_symbols.new.out) are c.write_symbols.ensures.written
