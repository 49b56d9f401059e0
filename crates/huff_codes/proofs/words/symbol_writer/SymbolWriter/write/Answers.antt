use Rattle.std.proofs.Common.{◌∙◌}
use Rattle.huff_codes.proofs.Begun.{codes_kept, codes_same, piece_begun, piece_room}
use Rattle.huff_codes.proofs.words.symbol_writer.SymbolWriter.write.Goals as goal

pub write_pairs-pending-requires-clause-room : goal.write_pairs-pending-requires-clause-room
write_pairs-pending-requires-clause-room c =
    let w = c.self.inside in
    piece_room c.args.self.now w.numbers w.pending.held w.pending.count w.pending.at c.args.out.now c.args.symbols.now c.self.view_is w.pending.few c.requires.room

pub returns-clause-codes : goal.returns-clause-codes
returns-clause-codes c =
    let w = c.self.inside in
    let p = c.write_pairs-pending.result in
    codes_kept w.numbers p.held p.count p.at ∙ codes_same c.args.self.now w.numbers w.pending.held w.pending.count w.pending.at c.self.view_is

pub returns-clause-begun : goal.returns-clause-begun
returns-clause-begun c = λ before h.
    let w = c.self.inside in
    let p = c.write_pairs-pending.result in
    piece_begun c.args.self.now w.numbers w.pending.held w.pending.count w.pending.at p.held p.count p.at c.args.out.now c.write_pairs-pending.new.out c.args.symbols.now before c.self.view_is w.pending.few c.write_pairs-pending.ensures.pending h
