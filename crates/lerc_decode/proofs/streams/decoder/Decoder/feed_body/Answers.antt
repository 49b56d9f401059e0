use Rattle.std.proofs.Common.{rules, ◌≡◌, ℕ, ◌<◌, ◌≤◌, ◌∙◌, List, ◌++◌, length, take, Option, refl, sym, ap, subst, arith}
use Rattle.lerc_grammar.specs.Mask.{Previous}
use Rattle.std.proofs.lemmas.List.{length-append, length-take-le}
use Rattle.lerc_header.specs.declared.header.Header.{Header}
use Rattle.lerc_decode.specs.Decoding.{Decoding, IsStageOf}
use Rattle.lerc_decode.specs.declared.streams.decoder.Decoder.TheInside.{Inside}
use Rattle.lerc_decode.specs.declared.streams.decoder.Progress.{Progress}
use Rattle.lerc_decode.specs.declared.streams.decoder.Progress.TheVariants.{Body as AtBody}
use Rattle.lerc_decode.specs.inside.Inside.{seen, taken_of}
use Rattle.lerc_decode.specs.inside.Stages.{stage_of}
use Rattle.lerc_decode.specs.inside.Steps.{StepsBody, UsesBody}
use Rattle.lerc_decode.specs.States.{missing_at}
use Rattle.lerc_decode.proofs.Steps.{body_head, body_goes_on, body_taken, kept_ended, stood, takes_nothing, taken_body}
use Rattle.lerc_decode.proofs.streams.decoder.Decoder.feed_body.Goals as goal
use Rattle.lerc_decode.proofs.streams.decoder.Decoder.feed_body.Goals.{in-Done-2, in-Key-2}

pub after_body-requires-clause-head : goal.after_body-requires-clause-head
after_body-requires-clause-head c =
    body_head c.self.inside c.in-Body.header c.deref.result.now (take c.min-used.result c.args.piece.now) c.in-Body.is c.self.invariant (c.deref.ensures.value ∙ c.if-not-grow.ensures)

pub invariant_of-self-else-len-size : goal.invariant_of-self-else-len-size
invariant_of-self-else-len-size c =
    let more = take c.min-used.result c.args.piece.now in
    let before = taken_body c.self.inside c.in-Body.header c.in-Body.is c.self.invariant in
    let short : length c.grow.new.blob.items < c.in-Body.header.size = omega (arith, before.1, ap length c.if-not-grow.ensures, length-append c.self.inside.blob.items more, length-take-le c.min-used.result c.args.piece.now (omega (arith, c.min-used.ensures))) in
    body_goes_on c.self.inside (record c.self.inside { blob = c.grow.new.blob }) c.in-Body.header more c.in-Body.is c.self.invariant c.in-Body.is refl refl c.if-not-grow.ensures short

pub returns-else-len-size-clause-sound : goal.returns-else-len-size-clause-sound
returns-else-len-size-clause-sound c = (invariant_of-self-else-len-size c).stands

pub returns-then-len-size-clause-taken : goal.returns-then-len-size-clause-taken
returns-then-len-size-clause-taken c =
    let more = take c.min-used.result c.args.piece.now in
    let b : Inside =
    record c.self.inside { blob = c.grow.new.blob; progress = c.after_body.result } in
    let new : c.match-self-after_body.self ≡ seen b = elim c.match-self-after_body.branch [
      | in-Done-2 w ↦ w.self-is
      | in-Key-2 w ↦ w.self-is
    ] in
    let taken = body_taken c.self.inside b c.in-Body.header more c.in-Body.is c.self.invariant
    c.if-not-grow.ensures in
    record {
      within = omega (arith, c.min-used.ensures);
      taken = ap (λ (d : Decoding). d.taken) new ∙ taken.1
          ∙ ap (λ (d : Decoding). d.taken ++ more) c.self.view_is;
      before = ap (λ (d : Decoding). d.before) new ∙ ap (λ (d : Decoding). d.before) c.self.view_is;
    }

pub returns-then-len-size-clause-sound : goal.returns-then-len-size-clause-sound
returns-then-len-size-clause-sound c =
    let more = take c.min-used.result c.args.piece.now in
    let b : Inside =
    record c.self.inside { blob = c.grow.new.blob; progress = c.after_body.result } in
    let new : c.match-self-after_body.self ≡ seen b = elim c.match-self-after_body.branch [
      | in-Done-2 w ↦ w.self-is
      | in-Key-2 w ↦ w.self-is
    ] in
    let taken = body_taken c.self.inside b c.in-Body.header more c.in-Body.is c.self.invariant
    c.if-not-grow.ensures in
    subst (λ (d : Decoding). IsStageOf d.before d.taken d.stage) (sym new)
    (subst (λ (u : List ℕ). IsStageOf b.before u (stage_of b.progress))
    (c.deref.ensures.value ∙ sym taken.0) c.after_body.ensures.sound)

at_body : (p : Progress) (h : Header) (old : Decoding) (taken piece : List ℕ) (used : ℕ)
    (before : Option Previous) → p ≡ AtBody h → used ≡ length piece
    → StepsBody (stage_of p) old (record { taken = taken; stage = stage_of p; before = before })
    piece used
at_body p h old taken piece used before is all =
    subst (λ (q : Progress).
    StepsBody (stage_of q) old (record { taken = taken; stage = stage_of q; before = before })
    piece used)
    (sym is) all

pub returns-else-len-size-clause-steps : goal.returns-else-len-size-clause-steps
returns-else-len-size-clause-steps c =
    let piece = c.args.piece.now in
    let used = c.min-used.result in
    let a = c.self.inside in
    let b : Inside = record a { blob = c.grow.new.blob } in
    let before = taken_body a c.in-Body.header c.in-Body.is c.self.invariant in
    let joined = length-append a.blob.items (take used piece) in
    let within = length-take-le used piece (omega (arith, c.min-used.ensures)) in
    let all : used ≡ length piece = omega (
      arith,
      c.min-used.ensures,
      before.1,
      joined,
      within,
      ap length c.if-not-grow.ensures,
    ) in
    subst (λ (d : Decoding). StepsBody d.stage d (seen b) piece used) c.self.view_is
    (at_body a.progress c.in-Body.header (seen a) (taken_of b) piece used a.before c.in-Body.is all)

pub returns-in_default : goal.returns-in_default
returns-in_default c =
    let d = c.args.self.now in
    let steps : StepsBody d.stage d d c.args.piece.now 0 = search rules in
    let exact : length c.args.piece.now ≤ missing_at d.stage (length d.taken) → UsesBody d.stage d.stage c.args.piece.now 0 = search rules in
    record {
      taken = takes_nothing d c.args.piece.now;
      steps = steps;
      exact = exact;
      sound = stood c.self.inside d c.self.view_is c.self.invariant;
    }

pub invariant_of-self-then-len-size : goal.invariant_of-self-then-len-size
invariant_of-self-then-len-size c =
    let more = take c.min-used.result c.args.piece.now in
    let b : Inside =
    record c.self.inside { blob = c.grow.new.blob; progress = c.after_body.result } in
    let taken = body_taken c.self.inside b c.in-Body.header more c.in-Body.is c.self.invariant
    c.if-not-grow.ensures in
    record {
      room = c.self.invariant.room;
      within = c.self.invariant.within;
      kept = kept_ended c.self.inside b c.in-Body.header more c.in-Body.is c.self.invariant
          c.if-not-grow.ensures c.after_body.ensures.ended;
      stands = subst (λ (u : List ℕ). IsStageOf b.before u (stage_of b.progress))
          (c.deref.ensures.value ∙ sym taken.0) c.after_body.ensures.sound;
    }
