use Rattle.std.proofs.Common.{◌≡◌, ℕ, ◌+◌, ◌≤◌, ◌-◌, List, [], length, get_or, take, drop, Option, Some, None, sym, ◌∙◌, ap, arith, rules}
use Rattle.outside_io.proofs.Inside.Replay.{in_pool, byte_more}
use Rattle.outside_io.specs.declared.volume.call_log.Ask.TheVariants.{Look}
use Rattle.outside_io.specs.declared.volume.call_log.Call.{Call}
use Rattle.outside_io.specs.inside.Effects.{place_in, effect, effects, with_piece, written_pieces}
use Rattle.outside_io.specs.volume.Sparse.{byte_at, byte_over}
use Rattle.outside_io.proofs.volume.call_log.replay_over.Goals as goal
use Rattle.outside_io.proofs.volume.call_log.replay_over.Goals.{in-Some, in_default}

abbrev none : Call
none = record { ask = Look; from = 0; count = 0 }

pub overflow_add-call : goal.overflow_add-call
overflow_add-call c =
    let call = get_or c.args.log.now c.loop-call.call-index none in
    let within : call.from + call.count ≤ length c.args.written.now = in_pool _ c.args.log.now c.loop-call.call-index none c.loop-call-test.true c.requires.pool in
    search rules

pub slice_bounds-lay_over-end : goal.slice_bounds-lay_over-end
slice_bounds-lay_over-end c =
    let call = get_or c.args.log.now c.loop-call.call-index none in
    let within : call.from + call.count ≤ length c.args.written.now = in_pool _ c.args.log.now c.loop-call.call-index none c.loop-call-test.true c.requires.pool in
    search rules

pub loop-call-preserved : goal.loop-call-preserved
loop-call-preserved c = λ k lt.
    let call = get_or c.args.log.now c.loop-call.call-index none in
    let old = get_or c.loop-call.buf k 0 in
    let bytes = (effect c.args.written.now call).bytes in
    let more = byte_more c.args.file c.args.written.now c.args.log.now c.loop-call.call-index none (c.args.at + k) (get_or c.args.buf.now k 0) c.loop-call-test.true in
    elim c.match-place_in.branch [
      | in-Some w ↦
          let place : place_in call.ask c.args.file ≡ Some w.in-Some.place = sym c.place_in.ensures ∙ w.in-Some.is in
          let new : get_or w.lay_over.new.buf k 0 ≡ byte_over w.in-Some.place (take (call.from + call.count - call.from) (drop call.from c.args.written.now)) (c.args.at + k) old = w.lay_over.ensures k (omega arith) in
          ap (λ (b : List ℕ). get_or b k 0) w.buf-is
          ∙ new
          ∙ ap (λ (n : ℕ). byte_over w.in-Some.place (take n (drop call.from c.args.written.now)) (c.args.at + k) old) (omega arith)
          ∙ ap (byte_over w.in-Some.place bytes (c.args.at + k)) (c.loop-call.invariant k (omega arith))
          ∙ ap (λ (o : Option ℕ). byte_at (with_piece o bytes []) (c.args.at + k) (byte_at (written_pieces c.args.file (effects c.args.written.now (take c.loop-call.call-index c.args.log.now))) (c.args.at + k) (get_or c.args.buf.now k 0))) (sym place)
          ∙ sym more
      | in_default w ↦
          let place : place_in call.ask c.args.file ≡ None = sym c.place_in.ensures ∙ w.in_default.is in
          ap (λ (b : List ℕ). get_or b k 0) w.buf-is
          ∙ c.loop-call.invariant k (omega arith)
          ∙ ap (λ (o : Option ℕ). byte_at (with_piece o bytes []) (c.args.at + k) (byte_at (written_pieces c.args.file (effects c.args.written.now (take c.loop-call.call-index c.args.log.now))) (c.args.at + k) (get_or c.args.buf.now k 0))) (sym place)
          ∙ sym more
    ]
