use Rattle.std.proofs.Common.{◌≡◌, ◌+◌, ◌++◌, length, sym, subst, arith}
use Rattle.std.proofs.lemmas.List.{length-append}
use Rattle.huff_codes.specs.Readers.{HaveRead, left_of}
use Rattle.huff_codes.specs.declared.words.reader.SymbolReader.{SymbolReader}
use Rattle.lerc_decode.proofs.blob.words.WordsSymbolSource.next.Goals as goal

pub returns-in-Ok-clause-sound : goal.returns-in-Ok-clause-sound
returns-in-Ok-clause-sound c =
    let sound = c.requires.sound in
    let w = c.in-Ok.ensures in
    record {
      reader = w.sound;
      symbols = sound.symbols ++ c.read.new.out;
      read = w.read sound.symbols sound.read;
      count = omega (arith, sound.count, w.left, c.read.auto.out, length-append sound.symbols c.read.new.out);
    }

pub returns-in-Err-clause-sound : goal.returns-in-Err-clause-sound
returns-in-Err-clause-sound c =
    let sound = c.requires.sound in
    let w = c.in-Err.ensures in
    record {
      reader = w.sound;
      symbols = sound.symbols;
      read = subst (λ (r : SymbolReader). HaveRead r sound.symbols) (sym w.err) sound.read;
      count = subst (λ (r : SymbolReader). length sound.symbols + left_of r ≡ c.args.self.now.total) (sym w.err) sound.count;
    }

pub returns-in-Err-clause-stop : goal.returns-in-Err-clause-stop
returns-in-Err-clause-stop c =
    let sound = c.requires.sound in
    c.in-Err.ensures.fault sound.symbols sound.read c.args.self.now.total (omega (arith, sound.count, c.requires.left))
