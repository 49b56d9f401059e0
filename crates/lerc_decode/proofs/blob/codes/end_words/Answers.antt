use Rattle.std.proofs.Common.{◌≡◌, ℕ, ◌≤◌, List, length, take, sym, ap, subst, arith}
use Rattle.std.specs.Prelude.{IfErr}
use Rattle.first_fault.specs.Faults.{moved}
use Rattle.huff_codes.specs.Words.{AreWords, word_faults}
use Rattle.lerc_decode.specs.inside.Body.{IsFaultIn}
use Rattle.lerc_decode.specs.inside.Codes.{words_faults}
use Rattle.lerc_decode.specs.inside.Words.{frame_of}
use Rattle.lerc_grammar.proofs.Places.{words_within}
use Rattle.lerc_decode.proofs.Symbols.{words_fault, words_left}
use Rattle.lerc_decode.proofs.blob.codes.end_words.Goals as goal

pub refuse_code-requires : goal.refuse_code-requires
refuse_code-requires c =
    let f = c.in-Err.fault in
    let w = frame_of c.args.words.now in
    let low = words_within w.codes w.total w.bytes f.at f.reason c.in-Err.ensures.fault in
    omega (arith, low, ap length c.requires.bytes, c.requires.few)

pub returns-in-Ok-clause-fault : goal.returns-in-Ok-clause-fault
returns-in-Ok-clause-fault c =
    let w = frame_of c.args.words.now in
    let rest = c.args.rest.now in
    let sound = c.requires.sound in
    let used = c.in-Ok.used in
    let all : length sound.symbols ≡ w.total = omega (arith, sound.count, c.requires.all) in
    let words = subst (λ (bytes : List ℕ). (used ≤ length bytes) × AreWords w.codes w.total (take used bytes) sound.symbols) c.requires.bytes (c.in-Ok.ensures.ok sound.symbols sound.read all) in
    subst (λ r. IfErr r (IsFaultIn (moved c.args.place (words_faults w.codes w.total rest)))) (sym c.refuse.ensures)
    (words_left w.codes w.total used c.args.place rest sound.symbols words c.if-used-rest.true)

pub returns-in-Err-clause-fault : goal.returns-in-Err-clause-fault
returns-in-Err-clause-fault c =
    let w = frame_of c.args.words.now in
    let rest = c.args.rest.now in
    let f = c.in-Err.fault in
    subst (λ r. IfErr r (IsFaultIn (moved c.args.place (words_faults w.codes w.total rest)))) (sym c.refuse_code.ensures)
    (words_fault w.codes w.total c.args.place rest f (subst (λ (bytes : List ℕ). word_faults w.codes w.total bytes f.at f.reason) c.requires.bytes c.in-Err.ensures.fault))
