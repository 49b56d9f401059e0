use Rattle.std.proofs.Common.{arith}
use Rattle.huff_codes.proofs.Begun.{end_room, end_written}
use Rattle.huff_codes.proofs.words.symbol_writer.SymbolWriter.end.Goals as goal

pub end_words-requires-clause-words : goal.end_words-requires-clause-words
end_words-requires-clause-words c = omega (arith, c.requires.room.1.1)

pub end_words-requires-clause-room : goal.end_words-requires-clause-room
end_words-requires-clause-room c =
    let w = c.self.inside in
    end_room c.args.self w.numbers w.pending.held w.pending.count w.pending.at c.args.out.now c.requires.room.0 c.self.view_is w.pending.few c.requires.room.1.0 c.requires.room.1.1

pub returns : goal.returns
returns c = λ symbols h.
    let w = c.self.inside in
    end_written c.args.self w.numbers w.pending.held w.pending.count w.pending.at c.args.out.now c.end_words.new.out c.requires.room.0 symbols c.self.view_is w.pending.few c.requires.room.1.0 c.requires.room.1.1 c.end_words.ensures h
