use Rattle.std.proofs.Common.{◌≡◌, ℕ, ◌++◌, List, length, take, sym, ap, ◌∙◌, arith}
use Rattle.std.specs.Prelude.{min}
use Rattle.lerc_decode.specs.States.{missing_at}
use Rattle.lerc_decode.proofs.BlobTurns.{fed_is, live_done, live_more, live_wrong, part_is, turn_done, turn_more, turn_none, turn_wrong, used_all}
use Rattle.lerc_decode.proofs.streams.turns.take_turn.Goals as goal

pub returns-in-More-clause-next : goal.returns-in-More-clause-next
returns-in-More-clause-next c =
    let d = c.args.decoder in
    let e = c.feed-fed.new.self in
    let piece = c.args.piece.now in
    let wants = c.min-wants.result in
    let used = c.feed-fed.result.used in
    let is : wants ≡ min (missing_at d.stage (length d.taken)) (length piece) = c.min-wants.ensures ∙ ap (λ n. min n (length piece)) c.wants.ensures.missing in
    let state = sym c.feed-fed.ensures.state ∙ c.in-More.is in
    let fed = fed_is c.args.front.now.bands d e piece wants used c.requires.goes c.requires.some is c.feed-fed.ensures.taken
    (used_all d e piece wants used is c.feed-fed.ensures.exact (live_more e.stage state)) in
    λ taken bytes. turn_more taken c.args.front.now.bands bytes (take used piece) d e c.compare.result fed c.feed-fed.ensures.sound c.feed-fed.ensures.verdict state c.compare.ensures

pub returns-in-Done-clause-next : goal.returns-in-Done-clause-next
returns-in-Done-clause-next c =
    let d = c.args.decoder in
    let e = c.feed-fed.new.self in
    let piece = c.args.piece.now in
    let wants = c.min-wants.result in
    let used = c.feed-fed.result.used in
    let is : wants ≡ min (missing_at d.stage (length d.taken)) (length piece) = c.min-wants.ensures ∙ ap (λ n. min n (length piece)) c.wants.ensures.missing in
    let fed = fed_is c.args.front.now.bands d e piece wants used c.requires.goes c.requires.some is c.feed-fed.ensures.taken
    (used_all d e piece wants used is c.feed-fed.ensures.exact (live_done e.stage c.into_parts-band.result.0 c.into_parts-band.ensures.raster)) in
    λ taken bytes. turn_done taken c.args.front.now.bands bytes (take used piece) d e (record { band = c.into_parts-band.result.0; blob = c.into_parts-band.result.1 }) fed c.feed-fed.ensures.verdict c.into_parts-band.ensures.raster c.into_parts-band.ensures.bytes

pub returns-in-Refused-clause-next : goal.returns-in-Refused-clause-next
returns-in-Refused-clause-next c =
    let d = c.args.decoder in
    let e = c.feed-fed.new.self in
    let piece = c.args.piece.now in
    let wants = c.min-wants.result in
    let used = c.feed-fed.result.used in
    let is : wants ≡ min (missing_at d.stage (length d.taken)) (length piece) = c.min-wants.ensures ∙ ap (λ n. min n (length piece)) c.wants.ensures.missing in
    let state = sym c.feed-fed.ensures.state ∙ c.in-Refused.is in
    let fed = fed_is c.args.front.now.bands d e piece wants used c.requires.goes c.requires.some is c.feed-fed.ensures.taken
    (used_all d e piece wants used is c.feed-fed.ensures.exact (live_wrong e.stage c.in-Refused.fault state)) in
    λ taken bytes. turn_wrong taken c.args.front.now.bands bytes (take used piece) d e c.in-Refused.fault fed c.feed-fed.ensures.verdict state

pub returns-in-OutOfMemory-clause-next : goal.returns-in-OutOfMemory-clause-next
returns-in-OutOfMemory-clause-next c =
    let d = c.args.decoder in
    let e = c.feed-fed.new.self in
    let piece = c.args.piece.now in
    let wants = c.min-wants.result in
    let used = c.feed-fed.result.used in
    let is : wants ≡ min (missing_at d.stage (length d.taken)) (length piece) = c.min-wants.ensures ∙ ap (λ n. min n (length piece)) c.wants.ensures.missing in
    let state = sym c.feed-fed.ensures.state ∙ c.in-OutOfMemory.is in
    let same = c.feed-fed.ensures.taken.taken ∙ ap (λ (u : List ℕ). d.taken ++ u) (part_is piece wants used (omega (arith, is)) c.feed-fed.ensures.taken.within) in
    λ taken bytes. turn_none taken c.args.front.now.bands bytes (take used piece) d e same c.feed-fed.ensures.verdict state
