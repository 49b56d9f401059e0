use Rattle.std.proofs.Common.{◌≡◌, ℕ, ◌+◌, ◌-◌, ◌≤◌, List, [], ◌∷◌, ◌++◌, Option, Some, None, length, get_or, take, drop, sym, ◌∙◌, ap, arith, rules, append_assoc}
use Rattle.std.proofs.lemmas.List.{map_push, append-nil}
use Rattle.outside_io.specs.declared.volume.call_log.Ask.TheVariants.{Look}
use Rattle.outside_io.specs.declared.volume.call_log.Call.{Call}
use Rattle.outside_io.specs.declared.volume.start.Piece.{Piece}
use Rattle.outside_io.specs.volume.Pieces.{pieces_of}
use Rattle.outside_io.specs.inside.Effects.{place_in, effect, effects, with_piece, written_pieces}
use Rattle.outside_io.proofs.Inside.Replay.{in_pool, written_more}
use Rattle.outside_io.proofs.volume.call_log.add_written.Goals as goal
use Rattle.outside_io.proofs.volume.call_log.add_written.Goals.{in-Some+in_ok-bytes+in_ok-push, in_default}

abbrev none : Call
none = record { ask = Look; from = 0; count = 0 }

pub overflow_add-call : goal.overflow_add-call
overflow_add-call c =
    let call = get_or c.args.log.now c.loop-call.call-index none in
    let within : call.from + call.count ≤ length c.args.written.now = in_pool _ c.args.log.now c.loop-call.call-index none c.loop-call-test.true c.requires in
    search rules

pub slice_bounds-of-end : goal.slice_bounds-of-end
slice_bounds-of-end c =
    let call = get_or c.args.log.now c.loop-call.call-index none in
    let within : call.from + call.count ≤ length c.args.written.now = in_pool _ c.args.log.now c.loop-call.call-index none c.loop-call-test.true c.requires in
    search rules

pub loop-call-preserved : goal.loop-call-preserved
loop-call-preserved c =
    let log = c.args.log.now in
    let call = get_or log c.loop-call.call-index none in
    let old = pieces_of c.args.pieces.now.items in
    let before = written_pieces c.args.file (effects c.args.written.now (take c.loop-call.call-index log)) in
    let bytes = (effect c.args.written.now call).bytes in
    let more = written_more c.args.file c.args.written.now log c.loop-call.call-index none c.loop-call-test.true in
    elim c.match-place_in.branch [
      | in-Some+in_ok-bytes+in_ok-push w ↦
          let place : place_in call.ask c.args.file ≡ Some w.in-Some.at = sym c.place_in.ensures ∙ w.in-Some.is in
          let piece : Piece = record { at = w.in-Some.at; bytes = w.in_ok-bytes.bytes } in
          let copied : w.in_ok-bytes.bytes ≡ take (call.from + call.count - call.from) (drop call.from c.args.written.now) = search rules in
          let size : call.from + call.count - call.from ≡ call.count = omega arith in
          ap (λ (v : _). pieces_of v.items) w.pieces-is
          ∙ ap pieces_of w.in_ok-push.ensures.items
          ∙ map_push (λ (p : Piece). (p.at, p.bytes)) c.loop-call.pieces.items piece
          ∙ ap (λ (b : List ℕ). pieces_of c.loop-call.pieces.items ++ (w.in-Some.at, b) ∷ []) (copied ∙ ap (λ (n : ℕ). take n (drop call.from c.args.written.now)) size)
          ∙ ap (λ (l : List (ℕ × List ℕ)). l ++ (w.in-Some.at, bytes) ∷ []) c.loop-call.invariant
          ∙ append_assoc old before ((w.in-Some.at, bytes) ∷ [])
          ∙ sym (ap (λ (l : List (ℕ × List ℕ)). old ++ l) (more ∙ ap (λ (o : Option ℕ). before ++ with_piece o bytes []) place))
      | in_default w ↦
          let place : place_in call.ask c.args.file ≡ None = sym c.place_in.ensures ∙ w.in_default.is in
          ap (λ (v : List Piece). pieces_of v) (ap (λ (v : _). v.items) w.pieces-is) ∙ c.loop-call.invariant ∙ sym (ap (λ (l : List (ℕ × List ℕ)). old ++ l) (more ∙ ap (λ (o : Option ℕ). before ++ with_piece o bytes []) place ∙ append-nil before))
    ]
