use Rattle.std.proofs.Common.{ℕ, ◌+◌, length, sym, ap, subst, arith}
use Rattle.lerc_header.specs.declared.fault.BlobReason.TheVariants.{Leftover, Truncated}
use Rattle.lerc_grammar.specs.declared.bands.BandReason.TheVariants.{Blob}
use Rattle.lerc_grammar.specs.Bands.{BandsFaultAt}
use Rattle.lerc_grammar.proofs.BandsSteps.{decided_is}
use Rattle.lerc_decode.specs.Reading.{IsAfter}
use Rattle.lerc_decode.proofs.Tiles.{at_progress, cut_off, key_cut}
use Rattle.lerc_decode.proofs.BandsFeeding.{blob_reached}
use Rattle.lerc_decode.proofs.streams.bands.BandsDecoder.finish_kept.Goals as goal

pub overflow_add-result : goal.overflow_add-result
overflow_add-result c =
    let there = at_progress c.self.invariant.0 c.self.inside.front c.self.inside.progress _ c.in-Inside.is c.self.invariant.1 in
    omega (arith, blob_reached c.self.invariant.0 c.self.inside.front c.in-Inside.decoder there, c.place.ensures, ap length c.bytes.ensures)

pub returns-in-Inside-clause-verdict : goal.returns-in-Inside-clause-verdict
returns-in-Inside-clause-verdict c = λ taken is.
    let there = at_progress taken c.self.inside.front c.self.inside.progress _ c.in-Inside.is (subst (IsAfter taken) (sym c.self.view_is) is) in
    subst (λ (n : ℕ). BandsFaultAt taken n (Blob Truncated)) (λ i. sym c.place.ensures i + length (sym c.bytes.ensures i)) (cut_off taken c.self.inside.front c.in-Inside.decoder there)

pub returns-then-have-gt0-clause-verdict : goal.returns-then-have-gt0-clause-verdict
returns-then-have-gt0-clause-verdict c = λ taken is.
    let there = at_progress taken c.self.inside.front c.self.inside.progress _ c.in-Behind.is (subst (IsAfter taken) (sym c.self.view_is) is) in
    subst (λ (n : ℕ). BandsFaultAt taken n (Blob Leftover)) (sym c.place-then-have-gt0.ensures) (key_cut taken c.self.inside.front c.in-Behind.have c.if-have-gt0.true there)

pub returns-in-Refused-clause-verdict : goal.returns-in-Refused-clause-verdict
returns-in-Refused-clause-verdict c = λ taken is.
    let there = at_progress taken c.self.inside.front c.self.inside.progress _ c.in-Refused.is (subst (IsAfter taken) (sym c.self.view_is) is) in
    decided_is taken c.in-Refused.fault.place c.in-Refused.fault.reason there.0
