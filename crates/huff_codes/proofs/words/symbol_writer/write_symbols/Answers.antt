use Rattle.std.proofs.Common.{◌≡◌, ℕ, List, Bool, [], ◌<◌, get_or, length, ap, sym, subst, arith, ◌∙◌}
use Rattle.huff_codes.specs.Codes.{canonical_codes}
use Rattle.huff_codes.specs.Written.{AreWritten, written_size}
use Rattle.huff_codes.proofs.Filling.{all_coded}
use Rattle.huff_codes.proofs.WrittenBack.{written_are_words}
use Rattle.huff_codes.proofs.words.symbol_writer.write_symbols.Goals as goal

-- the bytes are as many as the words of the writer's codes take
size_is : (codes other : List (List Bool)) (symbols out : List ℕ) → codes ≡ other → length out ≡ written_size other symbols → length out ≡ written_size codes symbols
size_is codes other symbols out is size = size ∙ sym (ap (λ (cs : List (List Bool)). written_size cs symbols) is)

pub write-requires : goal.write-requires
write-requires c =
    let size = size_is c.new-writer.result.codes (canonical_codes c.args.lengths.now) c.args.symbols.now c.args.out.now c.new-writer.ensures.codes c.requires.room in
    record { room = ([], (c.new-writer.ensures.begun c.args.out.now, omega (arith, size))) }

pub end-requires : goal.end-requires
end-requires c =
    let codes = c.write.ensures.codes ∙ c.new-writer.ensures.codes in
    record { room = (c.args.symbols.now, (c.write.ensures.begun [] (c.new-writer.ensures.begun c.args.out.now), size_is _ (canonical_codes c.args.lengths.now) c.args.symbols.now _ codes (c.write.auto.out ∙ c.requires.room))) }

is_written : (c : goal.After-slice_known-3-1) → AreWritten (canonical_codes c.args.lengths.now) c.args.symbols.now c.end.new.out
is_written c =
    subst (λ (codes : List (List Bool)). AreWritten codes c.args.symbols.now c.end.new.out) (c.write.ensures.codes ∙ c.new-writer.ensures.codes)
    (c.end.ensures c.args.symbols.now (c.write.ensures.begun [] (c.new-writer.ensures.begun c.args.out.now)))

pub returns-clause-written : goal.returns-clause-written
returns-clause-written c = is_written c

pub returns-clause-words : goal.returns-clause-words
returns-clause-words c =
    let low : (i : ℕ) → get_or c.args.symbols.now i 0 < 256 = λ (i : ℕ). let fit = c.type_inv.symbols i in omega (arith, fit) in
    written_are_words (canonical_codes c.args.lengths.now) c.args.symbols.now c.end.new.out (all_coded c.args.lengths.now c.args.symbols.now c.new-writer.ensures.lengths low c.requires.coded) (is_written c)
