use Rattle.std.proofs.Common.{◌≡◌, ◌-◌, ◌*◌, arith}
use Rattle.delta_mode.proofs.FullPieces.{all_few}
use Rattle.delta_mode.proofs.EncodeStates.{IsPiece, step_few, step_later, step_on, step_symbols}
use Rattle.delta_mode.proofs.giving.next_marked.Goals as goal

pub advance-requires-clause-few : goal.advance-requires-clause-few
advance-requires-clause-few g c =
    let r = g.V.View.pixels c.args.raster.now in
    let sound = c.rows.ensures.sound in
    let size : c.rows.result * c.cols.result ≡ r.rows * r.cols = λ i. c.rows.ensures.value i * c.cols.ensures.value i in
    let w = c.write_marked-count in
    let few = w.ensures.few in
    let p : IsPiece r c.args.state w.result.1 (w.result.0.count - c.args.state.walk.count) w.new.out =
    record { more = w.ensures.more; within = w.ensures.within; symbols = w.ensures.symbols; long = omega (arith, few, w.auto.out) } in
    let most = step_few r sound c.args.state (w.result.1) (w.result.0.count - c.args.state.walk.count) w.new.out c.requires.before.state c.requires.before.more p in
    let all = all_few r sound in
    omega (arith, most, all)

pub returns : goal.returns
returns g c =
    let r = g.V.View.pixels c.args.raster.now in
    let sound = c.rows.ensures.sound in
    let size : c.rows.result * c.cols.result ≡ r.rows * r.cols = λ i. c.rows.ensures.value i * c.cols.ensures.value i in
    let w = c.write_marked-count in
    let few = w.ensures.few in
    let p : IsPiece r c.args.state w.result.1 (w.result.0.count - c.args.state.walk.count) w.new.out =
    record { more = w.ensures.more; within = w.ensures.within; symbols = w.ensures.symbols; long = omega (arith, few, w.auto.out) } in
    record {
      state = step_on r sound c.args.state c.advance.result (w.result.1) (w.result.0.count - c.args.state.walk.count) w.new.out w.result.0 c.requires.before.state c.requires.before.more p c.advance.ensures.given
          (λ lt. c.advance.ensures.further (omega (arith, lt, size))) (λ is. c.advance.ensures.deeper (omega (arith, is, size))) (λ _. w.ensures.at);
      some = omega (arith, c.advance.ensures.given);
      few = omega (arith, c.advance.ensures.given, few);
      symbols = step_symbols r sound c.args.state (w.result.1) (w.result.0.count - c.args.state.walk.count) c.advance.result.given w.new.out c.requires.before.state c.requires.before.more p c.advance.ensures.given;
      later = step_later r c.args.state c.advance.result (w.result.1) (w.result.0.count - c.args.state.walk.count) w.new.out w.result.0 c.requires.before.state c.requires.before.more p
          (λ lt. c.advance.ensures.further (omega (arith, lt, size))) (λ is. c.advance.ensures.deeper (omega (arith, is, size)));
    }
