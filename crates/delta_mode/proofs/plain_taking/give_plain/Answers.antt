use Rattle.std.proofs.Common.{◌≡◌, ℕ, pos, ◌+◌, ◌*◌, ◌<◌, length, get_or, true, refl, sym, ap, ◌∙◌, arith, subst}
use Rattle.std.proofs.lemmas.List.{get_or_default}
use Rattle.raster_cells.specs.declared.kind.PixelType.{PixelType}
use Rattle.raster_cells.specs.PixelType.{InRange}
use Rattle.delta_mode.specs.Symbols.{symbol_of}
use Rattle.delta_mode.specs.inside.Pieces.{rank, mark_at, value_of_place}
use Rattle.delta_mode.proofs.Marks.{mask_itself, mask_through}
use Rattle.raster_values.specs.Flat.{value_in}
use Rattle.delta_mode.proofs.Bytewise.{rank_at, rank_full}
use Rattle.delta_mode.proofs.PlainTaking.{depth_more, marks_full, rest_more}
use Rattle.delta_mode.proofs.plain_taking.give_plain.Goals as goal

pub give_bytes-requires-clause-depth : goal.give_bytes-requires-clause-depth
give_bytes-requires-clause-depth g c = sym c.depth-depth.ensures.value ∙ c.if-depth-eq1.true

pub give_bytes-requires-clause-valid : goal.give_bytes-requires-clause-valid
give_bytes-requires-clause-valid g c = λ i lt.
    let r = g.T.Target.pixels c.args.raster.now in
    let mark = mark_at c.args.marks.now in
    let n = length c.args.marks.now in
    let one : r.depth ≡ 1 = sym c.depth-depth.ensures.value ∙ c.if-depth-eq1.true in
    let inside : i < n = omega (arith, lt, c.if-symbols-marks.true) in
    sym (c.requires.marks i inside) ∙ rank_full mark n (marks_full mark n one c.requires.count c.if-symbols-marks.true) i inside

pub returns-then-symbols-marks-clause-placed : goal.returns-then-symbols-marks-clause-placed
returns-then-symbols-marks-clause-placed g c i e lt below on =
    let r = g.T.Target.pixels c.args.raster.now in
    let t = g.T.Target.pixels c.give_bytes.new.raster in
    let mark = mark_at c.args.marks.now in
    let n = length c.args.marks.now in
    let symbols = c.args.symbols.now in
    let one : r.depth ≡ 1 = sym c.depth-depth.ensures.value ∙ c.if-depth-eq1.true in
    let none : e ≡ 0 = omega (arith, below, one) in
    let each : rank mark i ≡ i = rank_at mark n (rank_full mark n (marks_full mark n one c.requires.count c.if-symbols-marks.true)) i (omega (arith, lt)) in
    let single : rank mark i * r.depth ≡ rank mark i * 1 = ap (λ k. rank mark i * k) one in
    let at : rank mark i * r.depth + e ≡ i = omega (arith, single, each, none) in
    ap (λ m. symbol_of r.kind (value_in t m (c.args.place + i))) none
    ∙ c.give_bytes.ensures.symbols i (omega (arith, lt, c.if-symbols-marks.true)) ∙ ap (λ m. get_or symbols m 0) (sym at)

pub returns-then-symbols-marks-clause-rest : goal.returns-then-symbols-marks-clause-rest
returns-then-symbols-marks-clause-rest g c k e lt below other =
    c.give_bytes.ensures.rest k e lt below (λ from under. other from (omega (arith, under, c.if-symbols-marks.true)))

pub loop-d-init : goal.loop-d-init
loop-d-init g c = record {
  same = mask_itself (g.T.Target.pixels c.args.raster.now);
  room = c.requires.values;
  placed = λ i e lt below on. absurd (omega (arith, below));
  rest = λ k e lt below other. refl;
  sound = c.kind-kind.ensures.sound;
  kept = refl;
}

pub put_from-requires-clause-in_range : goal.put_from-requires-clause-in_range
put_from-requires-clause-in_range g c = λ k d lt.
    subst (InRange (g.T.Target.pixels c.loop-d.raster).kind) (get_or_default c.spread.new.out k (pos 0) d lt)
    (subst (λ (kind : PixelType). InRange kind (value_of_place c.spread.new.out k)) (c.kind-kind.ensures.value ∙ c.loop-d.invariant.same.shape.kind) (c.spread.ensures.in_range k))

pub loop-d-preserved : goal.loop-d-preserved
loop-d-preserved g c =
    let r = g.T.Target.pixels c.args.raster.now in
    let s = g.T.Target.pixels c.loop-d.raster in
    let t = g.T.Target.pixels c.put_from.new.self in
    let inv = c.loop-d.invariant in
    let marks = c.args.marks.now in
    let symbols = c.args.symbols.now in
    let values = c.spread.new.out in
    let d = c.loop-d.d in
    let deep : d < r.depth = omega (arith, c.loop-d-test.true, c.depth-depth.ensures.value) in
    let long : length values ≡ length marks = c.spread.auto.out ∙ inv.room in
    let found : (i : ℕ) → i < length marks → mark_at marks i ≡ true → symbol_of r.kind (value_of_place values i) ≡ get_or symbols (rank (mark_at marks) i * r.depth + d) 0 =
    λ (i : ℕ) (lt : i < length marks) (on : mark_at marks i ≡ true).
    ap (λ (kind : PixelType). symbol_of kind (value_of_place values i)) (sym c.kind-kind.ensures.value) ∙ c.spread.ensures.symbols i lt on
    ∙ ap (λ n. get_or symbols (rank (mark_at marks) i * n + d) 0) c.depth-depth.ensures.value in
    record {
      same = mask_through r s t inv.same c.put_from.ensures.put.same;
      room = long;
      placed = depth_more r s t marks values c.args.place d (λ i e. get_or symbols (rank (mark_at marks) i * r.depth + e) 0) inv.same c.put_from.ensures.put long c.requires.within deep c.requires.marks found inv.placed;
      rest = rest_more r s t values c.args.place d (length marks) inv.same c.put_from.ensures.put long inv.rest;
      sound = c.put_from.ensures.sound;
      kept = c.put_from.ensures.kept ∙ inv.kept;
    }

pub returns-clause-frame : goal.returns-clause-frame
returns-clause-frame g c =
    let inv = c.loop-d.invariant in
    record { raster = inv.sound; same = inv.same; kept = inv.kept }
