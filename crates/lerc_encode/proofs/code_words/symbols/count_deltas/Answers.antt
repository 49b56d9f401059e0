use Rattle.std.proofs.Common.{◌-◌, sum, take, sym, ap, ◌∙◌, arith}
use Rattle.std.proofs.lemmas.List.{length-take-le}
use Rattle.delta_mode.specs.EncodeStates.{deltas_of_all}
use Rattle.delta_mode.proofs.FullPieces.{all_few}
use Rattle.delta_mode.proofs.EncodeStates.{all_given, on_few}
use Rattle.huff_codes.specs.Counts.{counts_of}
use Rattle.lerc_encode.proofs.Given.{all_is}
use Rattle.lerc_encode.proofs.code_words.symbols.count_deltas.Goals as goal

pub loop-state-init : goal.loop-state-init
loop-state-init g c =
    let r = g.V.View.pixels c.args.bytes.now.raster.now in
    record {
      state = c.first_state-state.ensures.state r c.depth-depth.ensures.sound;
      counts = c.new-counter.ensures.counts ∙ ap (λ n. counts_of (take n (deltas_of_all r))) (sym c.first_state-state.ensures.none);
      sum_is = c.new-counter.ensures.sum ∙ sym c.first_state-state.ensures.none;
    }

pub add-requires : goal.add-requires
add-requires g c =
    let r = g.V.View.pixels c.args.bytes.now.raster.now in
    let next = c.next_deltas-next in
    let n = next.result.given - c.loop-state.state.given in
    let few = on_few r c.depth-depth.ensures.sound next.result next.ensures.state in
    let all = all_few r c.depth-depth.ensures.sound in
    let within = next.ensures.few in
    let long = length-take-le n next.new.out (omega (arith, within, next.auto.out)) in
    record { few = omega (arith, few, all, long, c.loop-state.invariant.sum_is, next.ensures.some) }

pub loop-state-preserved : goal.loop-state-preserved
loop-state-preserved g c =
    let r = g.V.View.pixels c.args.bytes.now.raster.now in
    let next = c.next_deltas-next in
    let n = next.result.given - c.loop-state.state.given in
    let inv = c.loop-state.invariant in
    let within = next.ensures.few in
    let long = length-take-le n next.new.out (omega (arith, within, next.auto.out)) in
    record {
      state = next.ensures.state;
      counts = c.add.ensures.counts (take c.loop-state.state.given (deltas_of_all r)) inv.counts ∙ ap counts_of (sym next.ensures.symbols);
      sum_is = omega (arith, c.add.ensures.sum, inv.sum_is, long, next.ensures.some);
    }

pub returns-clause-counts : goal.returns-clause-counts
returns-clause-counts g c =
    let r = g.V.View.pixels c.args.bytes.now.raster.now in
    let sound = c.depth-depth.ensures.sound in
    let value = c.depth-depth.ensures.value in
    c.counts.ensures ∙ c.loop-state.invariant.counts ∙ ap counts_of (all_given r sound c.loop-state.state c.loop-state.invariant.state (let past = c.loop-state-test.false in omega (arith, past, value)) ∙ all_is r)

pub returns-clause-few : goal.returns-clause-few
returns-clause-few g c =
    let r = g.V.View.pixels c.args.bytes.now.raster.now in
    let sound = c.depth-depth.ensures.sound in
    let few = on_few r sound c.loop-state.state c.loop-state.invariant.state in
    let all = all_few r sound in
    omega (arith, few, all, c.loop-state.invariant.sum_is, ap sum c.counts.ensures)
