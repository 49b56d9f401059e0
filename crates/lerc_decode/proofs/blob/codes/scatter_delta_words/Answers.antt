use Rattle.std.proofs.Common.{◌≡◌, ℕ, ◌*◌, [], length, sym, ap, ◌∙◌, subst, arith}
use Rattle.std.specs.Prelude.{IfErr, OnOk}
use Rattle.first_fault.specs.Faults.{moved}
use Rattle.huff_codes.specs.Words.{AreWords}
use Rattle.lerc_decode.specs.inside.Body.{IsFaultIn}
use Rattle.lerc_decode.specs.inside.Codes.{words_faults}
use Rattle.lerc_decode.specs.inside.Words.{WordFrame, frame_of, stops_with}
use Rattle.lerc_decode.proofs.Bodies.{ok_map}
use Rattle.lerc_grammar.proofs.Places.{words_within}
use Rattle.lerc_decode.proofs.Symbols.{words_fault}
use Rattle.lerc_decode.proofs.blob.codes.scatter_delta_words.Goals as goal

pub refuse_code-requires : goal.refuse_code-requires
refuse_code-requires g c =
    let f = c.in-Err.fault in
    let n = c.value_len.result in
    let told = subst (λ (w : WordFrame). stops_with w f) c.of-words.ensures.frame c.in-Err.ensures.stop in
    let low = words_within c.args.codes.now n c.args.rest.now f.at f.reason told in
    omega (arith, low, c.requires.few)

pub end_words-requires-clause-bytes : goal.end_words-requires-clause-bytes
end_words-requires-clause-bytes g c = ap (λ (w : WordFrame). w.bytes) (c.in-Ok.ensures.sources ∙ c.of-words.ensures.frame)

pub returns-in-Ok-clause-ok : goal.returns-in-Ok-clause-ok
returns-in-Ok-clause-ok g c =
    let h = c.args.header.now in
    let n = h.valid * h.depth in
    let frame : frame_of c.take_deltas.new.source ≡ record { codes = c.args.codes.now; bytes = c.args.rest.now; total = n } =
    c.in-Ok.ensures.sources ∙ c.of-words.ensures.frame ∙ ap (λ (k : ℕ). record { codes = c.args.codes.now; bytes = c.args.rest.now; total = k }) c.value_len.ensures.value in
    let given = c.in-Ok.ensures.taken [] c.of-words.ensures.none in
    let total : length given.0 ≡ (frame_of c.take_deltas.new.source).total = given.1.1.0 ∙ sym (ap (λ (w : WordFrame). w.total) frame) in
    let words = subst (λ (w : WordFrame). OnOk c.end_words.result (AreWords w.codes w.total c.args.rest.now given.0)) frame (c.end_words.ensures.ok given.0 given.1.0 total) in
    ok_map (λ (are : AreWords c.args.codes.now n c.args.rest.now given.0). (given.0, (are, given.1.1.1))) c.end_words.result words

pub returns-in-Ok-clause-fault : goal.returns-in-Ok-clause-fault
returns-in-Ok-clause-fault g c =
    let h = c.args.header.now in
    let n = h.valid * h.depth in
    let frame : frame_of c.take_deltas.new.source ≡ record { codes = c.args.codes.now; bytes = c.args.rest.now; total = n } =
    c.in-Ok.ensures.sources ∙ c.of-words.ensures.frame ∙ ap (λ (k : ℕ). record { codes = c.args.codes.now; bytes = c.args.rest.now; total = k }) c.value_len.ensures.value in
    subst (λ (w : WordFrame). IfErr c.end_words.result (IsFaultIn (moved c.args.place (words_faults w.codes w.total c.args.rest.now)))) frame c.end_words.ensures.fault

pub returns-in-Err-clause-fault : goal.returns-in-Err-clause-fault
returns-in-Err-clause-fault g c =
    let h = c.args.header.now in
    let n = h.valid * h.depth in
    let f = c.in-Err.fault in
    let told = subst (λ (w : WordFrame). stops_with w f) (c.of-words.ensures.frame ∙ ap (λ (k : ℕ). record { codes = c.args.codes.now; bytes = c.args.rest.now; total = k }) c.value_len.ensures.value) c.in-Err.ensures.stop in
    subst (λ r. IfErr r (IsFaultIn (moved c.args.place (words_faults c.args.codes.now n c.args.rest.now)))) (sym c.refuse_code.ensures)
    (words_fault c.args.codes.now n c.args.place c.args.rest.now f told)
