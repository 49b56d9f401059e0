use Rattle.std.proofs.Common.{ℕ, List, [], length, take, drop, sym, ap, ◌∙◌, subst, arith}
use Rattle.std.proofs.lemmas.List.{take_all, take-append-drop}
use Rattle.lerc_grammar.specs.Bands.{BandsFaultAt}
use Rattle.lerc_grammar.proofs.BandsSteps.{bands_faults_stay}
use Rattle.lerc_decode.specs.Decoding.{HasHeader}
use Rattle.lerc_decode.specs.Reading.{IsAfter}
use Rattle.lerc_decode.specs.BandsStates.{GoesOn, IsBandsTold}
use Rattle.lerc_decode.proofs.FirstBlobs.{header_more}
use Rattle.lerc_decode.proofs.streams.bands.decode_bands.Goals as goal

pub returns-in-Refused : goal.returns-in-Refused
returns-in-Refused c =
    let bytes = c.args.bytes.now in
    let used = c.feed-fed.result.used in
    let told = c.feed-fed.ensures.told (take used bytes) (c.feed-fed.ensures.taken [] c.new-decoder.ensures.taken) in
    let w = subst (IsBandsTold (take used bytes)) c.in-Refused.is told in
    subst (λ (u : List ℕ). BandsFaultAt u c.in-Refused.fault.place c.in-Refused.fault.reason) (take-append-drop used bytes) (bands_faults_stay (take used bytes) (drop used bytes) c.in-Refused.fault.place c.in-Refused.fault.reason w.0)

pub returns-in-OutOfMemory : goal.returns-in-OutOfMemory
returns-in-OutOfMemory c =
    let bytes = c.args.bytes.now in
    let used = c.feed-fed.result.used in
    let told = c.feed-fed.ensures.told (take used bytes) (c.feed-fed.ensures.taken [] c.new-decoder.ensures.taken) in
    subst HasHeader (take-append-drop used bytes) (header_more (take used bytes) (drop used bytes) (subst (IsBandsTold (take used bytes)) c.in-OutOfMemory.is told))

pub returns-in-More : goal.returns-in-More
returns-in-More c =
    let bytes = c.args.bytes.now in
    let whole = c.feed-fed.ensures.whole (subst GoesOn (sym c.in-More.is) tt) in
    c.finish.ensures.verdict bytes (subst (λ (u : List ℕ). IsAfter u c.feed-fed.new.self) (ap (λ n. take n bytes) whole ∙ take_all (length bytes) bytes (omega arith)) (c.feed-fed.ensures.taken [] c.new-decoder.ensures.taken))

pub returns-in-Whole : goal.returns-in-Whole
returns-in-Whole c =
    let bytes = c.args.bytes.now in
    let whole = c.feed-fed.ensures.whole (subst GoesOn (sym c.in-Whole.is) tt) in
    c.finish-in-Whole.ensures.verdict bytes (subst (λ (u : List ℕ). IsAfter u c.feed-fed.new.self) (ap (λ n. take n bytes) whole ∙ take_all (length bytes) bytes (omega arith)) (c.feed-fed.ensures.taken [] c.new-decoder.ensures.taken))
