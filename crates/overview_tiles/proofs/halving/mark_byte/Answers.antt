use Rattle.std.proofs.Common.{true, ◌<◌, cond, get_or, ap, sym, ◌∙◌, arith}
use Rattle.std.specs.Prelude.{◌&&◌, nat_lt}
use Rattle.std.proofs.lemmas.Bool.{eq-eqb, ne_eqb, le-ltb, lt-ltb}
use Rattle.overview_tiles.specs.inside.Means.{byte_bit}
use Rattle.raster_cells.proofs.MaskBits.{bit_put}
use Rattle.overview_tiles.proofs.MarkBytes.{first_bits, last_bits, next_bits}
use Rattle.overview_tiles.proofs.halving.mark_byte.Goals as goal
use Rattle.overview_tiles.proofs.halving.mark_byte.Goals.{then-count-gt0, else-count-gt0}

pub loop-q-init : goal.loop-q-init
loop-q-init c p low = first_bits c.args.counts.now p

pub loop-q-preserved : goal.loop-q-preserved
loop-q-preserved c p low =
    let counts = c.args.counts.now in
    let q = c.loop-q.q in
    let byte = c.loop-q.byte in
    let under : q < 8 = omega (arith, c.loop-q-test.true, c.requires) in
    let was = c.loop-q.invariant p low in
    elim c.if-count-gt0.branch [
      | then-count-gt0 w ↦
          (let put = ap (λ n. byte_bit n p) w.byte-is ∙ bit_put byte q p under low in
          next_bits counts q p (byte_bit byte p) _ was
          (λ same. put ∙ ap (λ b. cond b true (byte_bit byte p)) (eq-eqb p q same) ∙ sym (lt-ltb 0 (get_or counts q 0) w.if-count-gt0.true))
          (λ ne. put ∙ ap (λ b. cond b true (byte_bit byte p)) (ne_eqb p q ne)))
      | else-count-gt0 w ↦
          (let stays = ap (λ n. byte_bit n p) w.byte-is in
          next_bits counts q p (byte_bit byte p) _ was
          (λ same. stays ∙ was ∙ ap (λ n. nat_lt n q && nat_lt 0 (get_or counts n 0)) same ∙ ap (λ b. b && nat_lt 0 (get_or counts q 0)) (le-ltb q q (omega arith)) ∙ sym (le-ltb 0 (get_or counts q 0) (omega (arith, w.if-count-gt0.false))))
          (λ ne. stays))
    ]

pub returns : goal.returns
returns c p low = last_bits c.args.counts.now p (byte_bit c.loop-q.byte p) (c.loop-q.invariant p low ∙ ap (λ n. nat_lt p n && nat_lt 0 (get_or c.args.counts.now p 0)) (omega (arith, c.loop-q-test.false, c.loop-q.auto.q-end)))
