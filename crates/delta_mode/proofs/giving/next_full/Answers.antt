use Rattle.std.proofs.Common.{◌≡◌, ◌+◌, ◌*◌, ◌++◌, List, ℕ, length, take, drop, ap, sym, ◌∙◌, arith}
use Rattle.std.proofs.lemmas.List.{length-append, length-take-le, take_at}
use Rattle.delta_mode.specs.EncodeStates.{deltas_before}
use Rattle.delta_mode.proofs.FullPieces.{all_few}
use Rattle.delta_mode.proofs.EncodeStates.{IsPiece, step_few, step_later, step_on, step_symbols}
use Rattle.delta_mode.proofs.giving.next_full.Goals as goal

pub advance-requires-clause-few : goal.advance-requires-clause-few
advance-requires-clause-few g c =
    let r = g.V.View.pixels c.args.raster.now in
    let sound = c.rows.ensures.sound in
    let size : c.rows.result * c.cols.result ≡ r.rows * r.cols = λ i. c.rows.ensures.value i * c.cols.ensures.value i in
    let n = c.min-count.result in
    let least = c.min-count.ensures in
    let place = c.requires.before.state.place in
    let old = c.args.out.now in
    let some = c.requires.room in
    let taken : length (take n old) ≡ n = length-take-le n old (omega (arith, least)) in
    let written : length c.write_full.new.out ≡ n = c.write_full.auto.out ∙ taken in
    let out : List ℕ = c.write_full.new.out ++ drop n old in
    let sizes = length-append c.write_full.new.out (drop n old) in
    let p : IsPiece r c.args.state n n out =
    record {
      more = omega (arith, least, size, place, some);
      within = omega (arith, least, size, place);
      symbols = ap (λ m. deltas_before r c.args.state.d (c.args.state.place + m)) (sym taken) ∙ c.write_full.ensures.symbols ∙ ap (λ (xs : List ℕ). deltas_before r c.args.state.d c.args.state.place ++ xs) (sym (take_at c.write_full.new.out (drop n old) n written));
      long = omega (arith, sizes, written);
    } in
    let most = step_few r sound c.args.state (n) (n) out c.requires.before.state c.requires.before.more p in
    let all = all_few r sound in
    omega (arith, most, all)

pub returns : goal.returns
returns g c =
    let r = g.V.View.pixels c.args.raster.now in
    let sound = c.rows.ensures.sound in
    let size : c.rows.result * c.cols.result ≡ r.rows * r.cols = λ i. c.rows.ensures.value i * c.cols.ensures.value i in
    let n = c.min-count.result in
    let least = c.min-count.ensures in
    let place = c.requires.before.state.place in
    let old = c.args.out.now in
    let some = c.requires.room in
    let taken : length (take n old) ≡ n = length-take-le n old (omega (arith, least)) in
    let written : length c.write_full.new.out ≡ n = c.write_full.auto.out ∙ taken in
    let out : List ℕ = c.write_full.new.out ++ drop n old in
    let sizes = length-append c.write_full.new.out (drop n old) in
    let p : IsPiece r c.args.state n n out =
    record {
      more = omega (arith, least, size, place, some);
      within = omega (arith, least, size, place);
      symbols = ap (λ m. deltas_before r c.args.state.d (c.args.state.place + m)) (sym taken) ∙ c.write_full.ensures.symbols ∙ ap (λ (xs : List ℕ). deltas_before r c.args.state.d c.args.state.place ++ xs) (sym (take_at c.write_full.new.out (drop n old) n written));
      long = omega (arith, sizes, written);
    } in
    record {
      state = step_on r sound c.args.state c.advance.result (n) (n) out c.args.state.walk c.requires.before.state c.requires.before.more p c.advance.ensures.given
          (λ lt. c.advance.ensures.further (omega (arith, lt, size))) (λ is. c.advance.ensures.deeper (omega (arith, is, size))) (λ some_. absurd (some_ c.requires.full));
      some = omega (arith, c.advance.ensures.given);
      few = omega (arith, c.advance.ensures.given, least);
      symbols = step_symbols r sound c.args.state (n) (n) c.advance.result.given out c.requires.before.state c.requires.before.more p c.advance.ensures.given;
      later = step_later r c.args.state c.advance.result (n) (n) out c.args.state.walk c.requires.before.state c.requires.before.more p
          (λ lt. c.advance.ensures.further (omega (arith, lt, size))) (λ is. c.advance.ensures.deeper (omega (arith, is, size)));
    }
