use Rattle.std.proofs.Common.{◌≡◌, ◌-◌, ◌≤◌, length, take, drop, ap, ◌∙◌, arith}
use Rattle.std.proofs.lemmas.List.{length-take-le, length-drop}
use borrow.Rule.Slice.PartMut.{put_mid}
use Rattle.raster_grids.specs.inside.TakenRun.{AheadOf}
use Rattle.raster_cells.proofs.Pack.{on_err, put_back}
use Rattle.raster_grids.proofs.TakenBytes.{took_some}
use Rattle.raster_grids.proofs.TakenAhead.{some_behind, taken_straight, taken_piece}
use Rattle.raster_grids.proofs.ahead.Ahead.take.Goals as goal

pub returns-in_err-got-clause-some : goal.returns-in_err-got-clause-some
returns-in_err-got-clause-some g c = on_err c.from_residual.result (some_behind c.args.self.now.waiting _ _ (took_some _ _ _ c.in_err-got.ensures.err))

pub returns-in_err-fill-clause-some : goal.returns-in_err-fill-clause-some
returns-in_err-fill-clause-some g c = on_err c.from_residual-in_err-fill.result (some_behind c.args.self.now.waiting _ _ c.in_err-fill.ensures.err)

pub returns-then-rest-min-clause-taken : goal.returns-then-rest-min-clause-taken
returns-then-rest-min-clause-taken g c =
    let n = c.lay-n.result in
    let w = c.args.self.now.waiting in
    let mid = c.lay-n.new.out in
    let buf = c.take_all.new.buf in
    let same : length mid ≡ length c.args.out.now = c.lay-n.auto.out in
    let all : length w ≡ n = omega (arith, c.lay-n.ensures.count, c.if-n-out.false, same) in
    let few : n ≤ length c.args.out.now = omega (arith, c.lay-n.ensures.count) in
    let size : length buf ≡ length mid - n = c.take_all.auto.buf ∙ length-take-le (length mid - n) (drop n mid) (omega (arith, length-drop n mid)) in
    let none : length (take (c.self.inside.end - c.self.inside.from) (drop c.self.inside.from c.self.inside.buffer)) ≡ 0 =
    ap (λ (a : AheadOf). length a.waiting) (c.self.view_is ∙ c.lay-n.ensures.rest) ∙ length-drop n w ∙ (let e : length w - n ≡ 0 = omega (arith, all) in e) in
    taken_straight w _ c.args.out.now mid buf (put_mid n (length mid - n) mid buf) _ _ n c.in_ok-got.got all few none c.lay-n.ensures.out (put_back mid buf n (omega (arith, few, same)) size)
    c.in_ok-got.ensures.within c.in_ok-got.ensures.bytes c.in_ok-got.ensures.end

pub returns-clause-taken : goal.returns-clause-taken
returns-clause-taken g c =
    let n = c.lay-n.result in
    let w = c.args.self.now.waiting in
    let mid = c.lay-n.new.out in
    let before = take (length mid - n) (drop n mid) in
    let rest = c.lay.new.out in
    let same : length mid ≡ length c.args.out.now = c.lay-n.auto.out in
    let all : length w ≡ n = omega (arith, c.lay-n.ensures.count, c.if-n-out.false, same) in
    let few : n ≤ length c.args.out.now = omega (arith, c.lay-n.ensures.count) in
    let wide : length before ≡ length mid - n = length-take-le (length mid - n) (drop n mid) (omega (arith, length-drop n mid)) in
    let long : length rest ≡ length before = c.lay.auto.out in
    let more : c.self.inside.more ≡ c.lay-n.new.self.more = ap (λ (a : AheadOf). a.more) c.self.view_is in
    taken_piece w c.fill.new.self.waiting c.lay.new.self.waiting c.args.out.now mid before rest (put_mid n (length mid - n) mid rest) _ _ n c.lay.result all few c.lay-n.ensures.out c.in_ok-fill.ensures.same
    c.lay.ensures.count c.lay.ensures.out (ap (λ (a : AheadOf). a.waiting) c.lay.ensures.rest) (put_back mid rest n (omega (arith, few, same)) (long ∙ wide)) long
    (λ less. c.in_ok-fill.ensures.end (omega (arith, less, c.min.ensures, c.if-rest-min.false, wide, more)))
