use Rattle.std.proofs.Common.{rules, ◌≡◌, ◌≤◌, ◌+◌, length, refl, sym, ◌∙◌, arith}
use Rattle.lerc_decode.specs.declared.streams.decoder.Decoder.TheInside.{Inside}
use Rattle.lerc_decode.specs.inside.Inside.{IsInside, seen}
use Rattle.lerc_decode.specs.States.{missing_at}
use Rattle.lerc_decode.specs.inside.Steps.{StepsFields, UsesFields}
use Rattle.lerc_decode.proofs.Steps.{front_kept, head_size, header_kept, stood, takes_nothing}
use Rattle.lerc_decode.proofs.streams.decoder.Decoder.feed_fields.Goals as goal
use Rattle.lerc_decode.proofs.streams.decoder.Decoder.feed_fields.Goals.{in-Done-1, in-Key-1}

pub after_fields-requires-clause-key : goal.after_fields-requires-clause-key
after_fields-requires-clause-key c =
    (front_kept c.self.inside c.in-Fields.version c.fill-used.new.head c.args.piece.now c.fill-used.result c.head_length-want.result c.in-Fields.is c.self.invariant c.fill-used.ensures.bytes (omega (arith, c.if-self-want.true))).0

pub after_fields-requires-clause-version : goal.after_fields-requires-clause-version
after_fields-requires-clause-version c =
    (front_kept c.self.inside c.in-Fields.version c.fill-used.new.head c.args.piece.now c.fill-used.result c.head_length-want.result c.in-Fields.is c.self.invariant c.fill-used.ensures.bytes (omega (arith, c.if-self-want.true))).1

pub returns-in_default : goal.returns-in_default
returns-in_default c =
    let d = c.args.self.now in
    let steps : StepsFields d.stage d d c.args.piece.now 0 = search rules in
    let exact : length c.args.piece.now ≤ missing_at d.stage (length d.taken) → UsesFields d.stage d.stage c.args.piece.now 0 = search rules in
    record {
      taken = takes_nothing d c.args.piece.now;
      steps = steps;
      exact = exact;
      sound = stood c.self.inside d c.self.view_is c.self.invariant;
    }

pub invariant_of-self-then-self-want-2 : goal.invariant_of-self-then-self-want-2
invariant_of-self-then-self-want-2 c =
    let a = c.self.inside in
    let b : Inside = record a {
      head = c.fill-used.new.head;
      have = a.have + c.fill-used.result;
      blob = c.after_fields.new.blob;
      progress = c.after_fields.result;
    } in
    let size = head_size c.in-Fields.version in
    header_kept b c.after_fields.result c.head_length-want.result refl c.if-self-want.true (omega (arith, c.head_length-want.ensures, size.0)) (omega (arith, c.head_length-want.ensures, size.1))
    (c.fill-used.ensures.room ∙ c.self.invariant.room) c.after_fields.ensures.kept (c.after_fields.ensures.sound a.before)

pub returns-then-self-want-clause-sound : goal.returns-then-self-want-clause-sound
returns-then-self-want-clause-sound c =
    let a = c.self.inside in
    let b : Inside = record a {
      head = c.fill-used.new.head;
      have = a.have + c.fill-used.result;
      blob = c.after_fields.new.blob;
      progress = c.after_fields.result;
    } in
    let new : c.match-self-after_fields.self ≡ seen b = elim c.match-self-after_fields.branch [
      | in-Done-1 w ↦ w.self-is
      | in-Key-1 w ↦ w.self-is
    ] in
    let size = head_size c.in-Fields.version in
    let inside : IsInside b =
    header_kept b c.after_fields.result c.head_length-want.result refl c.if-self-want.true (omega (arith, c.head_length-want.ensures, size.0)) (omega (arith, c.head_length-want.ensures, size.1))
    (c.fill-used.ensures.room ∙ c.self.invariant.room) c.after_fields.ensures.kept (c.after_fields.ensures.sound a.before) in
    stood b c.match-self-after_fields.self (sym new) inside
