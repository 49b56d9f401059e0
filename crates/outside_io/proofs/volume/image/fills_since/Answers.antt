use Rattle.std.proofs.Common.{◌≡◌, ℕ, ◌+◌, ◌≤◌, List, [], ◌∷◌, ◌++◌, Some, None, true, false, length, get_or, take, replicate, sym, ◌∙◌, ap, arith}
use Rattle.std.proofs.lemmas.List.{map_push, places}
use Rattle.outside_io.specs.declared.volume.call_log.Ask.TheVariants.{Look}
use Rattle.outside_io.specs.declared.volume.call_log.Call.{Call}
use Rattle.outside_io.specs.declared.volume.start.Piece.{Piece}
use Rattle.outside_io.specs.volume.Disk.{Disk, file_of}
use Rattle.outside_io.specs.inside.Fills.{fills}
use Rattle.outside_io.specs.volume.Pieces.{pieces_of}
use Rattle.outside_io.specs.volume.Recorded.{replay}
use Rattle.outside_io.specs.inside.Effects.{place_in, effect, effects, syncs}
use Rattle.outside_io.proofs.Inside.Kept.{fit_at, replay_more, touched_kept, touched_more, touched_synced}
use Rattle.outside_io.proofs.Inside.Replay.{in_pool}
use Rattle.outside_io.proofs.volume.image.fills_since.Goals as goal
use Rattle.outside_io.proofs.volume.image.fills_since.Goals.{then-syncs, else-syncs+in-Some+in_ok-bytes+in_ok-push, else-syncs+in_default}

abbrev none : Call
none = record { ask = Look; from = 0; count = 0 }

pub loop-call-preserved : goal.loop-call-preserved
loop-call-preserved c = λ written d pool fit clear.
    let log = c.args.log.now in
    let file = c.args.file in
    let call = get_or log c.loop-call.call-index none in
    let bytes = (effect written call).bytes in
    let before = replay (effects written (take c.loop-call.call-index log)) d in
    let more : (file_of file (replay (effects written (take (c.loop-call.call-index + 1) log)) d)).touched ≡ _ = ap (λ (q : Disk). (file_of file q).touched) (replay_more written log c.loop-call.call-index none d c.loop-call-test.true) in
    elim c.if-syncs.branch [
      | then-syncs w ↦
          let synced : syncs call.ask file ≡ true = sym c.syncs.ensures ∙ w.if-syncs.true in
          ap (λ (v : _). pieces_of v.items) w.pieces-is ∙ ap pieces_of w.clear.ensures.items
          ∙ sym (ap (fills c.args.fill) (more ∙ touched_synced file call.ask bytes before synced))
      | else-syncs+in-Some+in_ok-bytes+in_ok-push w ↦
          let place : place_in call.ask file ≡ Some w.in-Some.at = sym w.place_in.ensures ∙ w.in-Some.is in
          let within : call.from + call.count ≤ length written = in_pool (length written) log c.loop-call.call-index none c.loop-call-test.true pool in
          let size : length bytes ≡ call.count = grind (arith, places) in
          let piece : Piece = record { at = w.in-Some.at; bytes = w.in_ok-bytes.bytes } in
          ap (λ (v : _). pieces_of v.items) w.pieces-is
          ∙ ap pieces_of w.in_ok-push.ensures.items
          ∙ map_push (λ (p : Piece). (p.at, p.bytes)) c.loop-call.pieces.items piece
          ∙ ap (λ (b : List ℕ). pieces_of c.loop-call.pieces.items ++ (w.in-Some.at, b) ∷ []) (w.in_ok-bytes.ensures ∙ ap (λ (n : ℕ). replicate n c.args.fill) (sym size))
          ∙ ap (λ (l : List (ℕ × List ℕ)). l ++ (w.in-Some.at, replicate (length bytes) c.args.fill) ∷ []) (c.loop-call.invariant written d pool fit clear)
          ∙ sym (ap (fills c.args.fill) (more ∙ touched_more file call.ask bytes before w.in-Some.at (fit_at written log c.loop-call.call-index none d c.loop-call-test.true fit) place))
      | else-syncs+in_default w ↦
          let apart : syncs call.ask file ≡ false = sym c.syncs.ensures ∙ w.if-syncs.false in
          let place : place_in call.ask file ≡ None = sym w.place_in.ensures ∙ w.in_default.is in
          ap (λ (v : _). pieces_of v.items) w.pieces-is ∙ c.loop-call.invariant written d pool fit clear
          ∙ sym (ap (fills c.args.fill) (more ∙ touched_kept file call.ask bytes before apart place))
    ]
