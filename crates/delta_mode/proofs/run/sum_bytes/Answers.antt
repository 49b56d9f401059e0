use Rattle.std.proofs.Common.{◌≡◌, ℕ, ◌+◌, ◌%◌, ◌<◌, length, get_or, sym, ◌∙◌, subst, arith, refl}
use Rattle.std.proofs.Math.ListN.{length-set}
use Rattle.lane_kernels.specs.Running.{byte_before}
use Rattle.delta_mode.specs.inside.Runs.{AreSteps}
use Rattle.delta_mode.proofs.Runs.{step_byte, step_more, step_rest, steps_running}
use Rattle.delta_mode.proofs.run.sum_bytes.Goals as goal

pub returns-then-added-eq0 : goal.returns-then-added-eq0
returns-then-added-eq0 c =
    subst (λ (a : ℕ). AreSteps a c.args.first c.args.symbols.now c.running_sums.new.bytes) (sym c.if-added-eq0.true)
    (steps_running c.args.first c.args.symbols.now c.running_sums.new.bytes c.running_sums.ensures)

pub loop-i-init : goal.loop-i-init
loop-i-init c = record {
  room = refl;
  byte = refl;
  done = λ k lt. absurd (omega (arith, lt));
  rest = λ k ge. refl;
}

pub loop-i-preserved : goal.loop-i-preserved
loop-i-preserved c =
    let inv = c.loop-i.invariant in
    let bytes = c.loop-i.symbols in
    let i = c.loop-i.i in
    let n = c.next_byte-byte.result in
    let room : i < length bytes = omega (arith, inv.room, c.loop-i-test.true) in
    let here : n ≡ (byte_before c.args.first bytes i + (get_or c.args.symbols.now i 0 + c.args.added) % 256) % 256 =
    c.next_byte-byte.ensures ∙ (λ t. (inv.byte t + (inv.rest i (omega arith) t + c.args.added) % 256) % 256) in
    record {
      room = length-set bytes i n ∙ inv.room;
      byte = step_byte c.args.first bytes i n room;
      done = step_more c.args.added c.args.first c.args.symbols.now bytes i n room inv.done here;
      rest = step_rest c.args.symbols.now bytes i n inv.rest;
    }

pub returns : goal.returns
returns c = λ k lt. c.loop-i.invariant.done k (omega (arith, lt, c.loop-i.invariant.room, c.loop-i-test.false))
