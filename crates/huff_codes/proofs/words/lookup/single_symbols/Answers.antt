use Rattle.huff_codes.proofs.words.lookup.single_symbols.Goals as goal

pub loop-s-preserved : goal.loop-s-preserved
loop-s-preserved c = record {
  room = c.put_symbol.ensures.room;
  short = c.put_symbol.ensures.short;
  are = c.put_symbol.ensures.are c.args.codes.now c.code.ensures.bits c.loop-s.invariant.are;
}
