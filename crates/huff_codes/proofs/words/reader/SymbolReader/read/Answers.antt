use Rattle.std.proofs.Common.{◌≡◌, length, arith}
use Rattle.std.proofs.lemmas.Result.{err_from_is_err_and}
use Rattle.huff_codes.proofs.words.reader.SymbolReader.read.Goals as goal

pub returns-in_err-place-clause-fault : goal.returns-in_err-place-clause-fault
returns-in_err-place-clause-fault c symbols h n most =
    let p = err_from_is_err_and c.from_residual.result c.from_residual.ensures.1 in
    let entries = c.requires.sound.entries in
    let reached = c.read_few-next.ensures.reached c.args.self.now.codes.now symbols entries (c.loop-place.invariant.reached symbols h) in
    let same : length c.read_few-next.new.out ≡ length c.args.out.now = omega (arith, c.read_few-next.auto.out, c.loop-place.invariant.room) in
    rw (p.1, p.2) (c.in_err-place.ensures.answer symbols reached n (omega (arith, most, same)))

pub returns-clause-sound : goal.returns-clause-sound
returns-clause-sound c =
    let sound = c.requires.sound in
    record {
      room = sound.room;
      short = sound.short;
      entries = sound.entries;
      prefixes = sound.prefixes;
      within = c.loop-place.invariant.bits;
      few = omega (arith, c.loop-place.invariant.few, c.loop-place.invariant.within, c.loop-place.invariant.room, c.loop-place-test.false, sound.few, c.requires.left);
    }
