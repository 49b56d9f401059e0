use Rattle.std.proofs.Common.{◌≡◌, ℕ, ◌≤◌, length, take, subst, arith}
use Rattle.std.specs.Prelude.{IfErr, IfOk}
use Rattle.huff_codes.specs.Readers.{bytes_of, codes_of}
use Rattle.huff_codes.specs.Words.{AreWords, word_faults}
use Rattle.lerc_decode.proofs.blob.words.Words.end.Goals as goal

pub returns-clause-ok : goal.returns-clause-ok
returns-clause-ok c symbols come all =
    let r = c.args.self.now.reader in
    subst (λ (n : ℕ). IfOk c.end.result (λ used. (used ≤ length (bytes_of r)) × AreWords (codes_of r) n (take used (bytes_of r)) symbols)) all (c.end.ensures.ok symbols come)

pub returns-clause-fault : goal.returns-clause-fault
returns-clause-fault c =
    let r = c.args.self.now.reader in
    let sound = c.requires.sound in
    let all : length sound.symbols ≡ c.args.self.now.total = omega (arith, sound.count, c.requires.all) in
    subst (λ (n : ℕ). IfErr c.end.result (λ f. word_faults (codes_of r) n (bytes_of r) f.at f.reason)) all (c.end.ensures.fault sound.symbols sound.read)
