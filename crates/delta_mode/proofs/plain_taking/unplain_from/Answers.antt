use Rattle.std.proofs.Common.{◌≡◌, ℕ, ◌+◌, ◌*◌, ◌≤◌, ◌<◌, List, [], ◌++◌, length, take, drop, refl, sym, ap, ◌∙◌, arith, subst}
use Rattle.std.proofs.lemmas.List.{append-nil, length-take-le, length-append, length-drop}
use Rattle.std.proofs.Math.Path.{transport}
use Rattle.raster_values.specs.Flat.{value_in}
use Rattle.delta_mode.specs.Deltas.{is_valid}
use Rattle.delta_mode.specs.inside.Pieces.{rank}
use Rattle.delta_mode.specs.inside.Plain.{ArePlaced}
use Rattle.delta_mode.proofs.Marks.{mask_itself, mask_through, all_marks, same_size}
use Rattle.delta_mode.proofs.PlainTaking.{placed_none, placed_more, placed_as, placed_whole, plain_room, plain_count}
use Rattle.delta_mode.proofs.plain_taking.unplain_from.Goals as goal

pub loop-place-init : goal.loop-place-init
loop-place-init g c =
    let r = g.T.Target.pixels c.args.raster.now in
    record {
      within = omega arith;
      wide = refl;
      also = refl;
      symbols = refl;
      same = mask_itself r;
      left = omega arith;
      given = λ before has.
          ([], (subst (λ (xs : List ℕ). g.S.SymbolSource.has_given c.args.source.now xs) (sym (append-nil before)) has, (omega arith, placed_none r.kind r.depth (is_valid r) (value_in r) [])));
      ready = c.requires.ready;
      sources = refl;
      sound = c.rows.ensures.sound;
      kept = refl;
    }

pub take_plain-requires-clause-left : goal.take_plain-requires-clause-left
take_plain-requires-clause-left g c =
    let r = g.T.Target.pixels c.args.raster.now in
    let s = g.T.Target.pixels c.loop-place.raster in
    let inv = c.loop-place.invariant in
    let place = c.loop-place.place in
    let count = c.min-count.result in
    let size : c.rows.result * c.cols.result ≡ r.rows * r.cols = λ i. c.rows.ensures.value i * c.cols.ensures.value i in
    let marks : is_valid s ≡ is_valid r = all_marks r s c.rows.ensures.sound inv.sound inv.same in
    let long : length (take count c.loop-place.marks) ≡ count = length-take-le count c.loop-place.marks (omega (arith, inv.wide, c.min-count.ensures, c.min-most.ensures)) in
    let end : place + count ≤ r.rows * r.cols = omega (arith, size, c.min-count.ensures, c.loop-place-test.true) in
    let room = plain_room r (place + count) c.rows.ensures.sound end in
    let base : rank (is_valid r) (place + count) * r.depth ≤ rank (is_valid r) place * r.depth + g.S.SymbolSource.left c.loop-place.source = omega (arith, room, inv.left, c.requires.count) in
    transport (λ i. rank (sym marks i) (place + sym long i) * inv.same.shape.depth i ≤ rank (sym marks i) place * inv.same.shape.depth i + g.S.SymbolSource.left c.loop-place.source) base

pub loop-place-preserved : goal.loop-place-preserved
loop-place-preserved g c =
    let r = g.T.Target.pixels c.args.raster.now in
    let s = g.T.Target.pixels c.loop-place.raster in
    let t = g.T.Target.pixels c.take_plain.new.raster in
    let inv = c.loop-place.invariant in
    let w = c.in_ok-take_plain.ensures in
    let place = c.loop-place.place in
    let count = c.min-count.result in
    let hr = c.rows.ensures.sound in
    let hs = inv.sound in
    let size : c.rows.result * c.cols.result ≡ r.rows * r.cols = λ i. c.rows.ensures.value i * c.cols.ensures.value i in
    let marks : is_valid s ≡ is_valid r = all_marks r s hr hs inv.same in
    let depth : s.depth ≡ r.depth = sym inv.same.shape.depth in
    let wide : count ≤ 256 = omega (arith, c.min-count.ensures, c.min-most.ensures) in
    let long : length (take count c.loop-place.marks) ≡ count = length-take-le count c.loop-place.marks (omega (arith, inv.wide, wide)) in
    let also : length (take count c.loop-place.values) ≡ count = length-take-le count c.loop-place.values (omega (arith, inv.also, wide)) in
    let end : place + count ≤ r.rows * r.cols = omega (arith, size, c.min-count.ensures, c.loop-place-test.true) in
    let left : rank (is_valid r) (place + count) * r.depth + g.S.SymbolSource.left c.take_plain.new.source ≡ rank (is_valid r) place * r.depth + g.S.SymbolSource.left c.loop-place.source =
    transport (λ i. rank (marks i) (place + long i) * depth i + g.S.SymbolSource.left c.take_plain.new.source ≡ rank (marks i) place * depth i + g.S.SymbolSource.left c.loop-place.source) w.left in
    let stays : (k e : ℕ) → k < place → e < r.depth → value_in t e k ≡ value_in s e k =
    λ (k e : ℕ) (lt : k < place) (deep : e < r.depth). w.rest k e (omega (arith, lt, end, same_size r s inv.same)) (subst (λ n. e < n) inv.same.shape.depth deep) (λ from below. omega (arith, lt, from)) in
    record {
      within = omega (arith, c.min-count.ensures, c.loop-place-test.true);
      wide =
          let whole = length-append c.take_plain.new.marks (drop count c.loop-place.marks) in
          let rest = length-drop count c.loop-place.marks in
          omega (arith, whole, rest, c.take_plain.auto.marks, long, inv.wide, wide);
      also =
          let whole = length-append c.take_plain.new.values (drop count c.loop-place.values) in
          let rest = length-drop count c.loop-place.values in
          omega (arith, whole, rest, c.take_plain.auto.values, also, inv.also, wide);
      symbols = c.take_plain.auto.symbols ∙ inv.symbols;
      same = mask_through r s t inv.same w.frame.same;
      left = omega (arith, left, inv.left);
      given = λ all has.
          let old = inv.given all has in
          let new = w.placed all old.0 old.1.0 (old.1.1.0 ∙ (λ i. rank (sym marks i) place * sym depth i)) in (
            old.0 ++ new.0,
            (
              new.1.0,
              (
                new.1.1.0 ∙ (λ i. rank (marks i) (place + long i) * depth i),
                placed_more r.kind r.depth (is_valid r) (value_in s) (value_in t) place (place + count) old.0 new.0 old.1.1.0 stays old.1.1.1
                    (placed_as r s (value_in t) hr hs inv.same (ap (λ m. place + m) long) new.1.1.1),
              ),
            ),
          );
      ready = w.source.ready;
      sources = w.source.kept ∙ inv.sources;
      sound = w.frame.raster;
      kept = w.frame.kept ∙ inv.kept;
    }

pub returns-clause-frame : goal.returns-clause-frame
returns-clause-frame g c =
    let inv = c.loop-place.invariant in
    record { raster = inv.sound; same = inv.same; kept = inv.kept }

pub returns-in_err-take_plain-clause-frame : goal.returns-in_err-take_plain-clause-frame
returns-in_err-take_plain-clause-frame g c =
    let inv = c.loop-place.invariant in
    let f = c.in_err-take_plain.ensures.frame in
    record {
      raster = f.raster;
      same = mask_through (g.T.Target.pixels c.args.raster.now) (g.T.Target.pixels c.loop-place.raster) (g.T.Target.pixels c.take_plain.new.raster) inv.same f.same;
      kept = f.kept ∙ inv.kept;
    }

pub returns-clause-taken : goal.returns-clause-taken
returns-clause-taken g c before has =
    let r = g.T.Target.pixels c.args.raster.now in
    let s = g.T.Target.pixels c.loop-place.raster in
    let inv = c.loop-place.invariant in
    let place = c.loop-place.place in
    let hr = c.rows.ensures.sound in
    let hs = inv.sound in
    let size : c.rows.result * c.cols.result ≡ r.rows * r.cols = λ i. c.rows.ensures.value i * c.cols.ensures.value i in
    let end : place ≡ r.rows * r.cols = omega (arith, size, inv.within, c.loop-place-test.false) in
    let last : place ≡ s.rows * s.cols = end ∙ same_size r s inv.same in
    let marks : is_valid r ≡ is_valid s = sym (all_marks r s hr hs inv.same) in
    let given = inv.given before has in
    let count_s = given.1.1.0 ∙ (λ i. rank (marks i) place * inv.same.shape.depth i) ∙ plain_count s hs last in (
      given.0,
      (
        given.1.0,
        (
          given.1.1.0 ∙ plain_count r hr end,
          record {
            same = inv.same;
            taken = placed_whole s given.0 hs count_s (transport (λ i. ArePlaced (inv.same.shape.kind i) (inv.same.shape.depth i) (marks i) (value_in s) 0 (last i) given.0) given.1.1.1);
          },
        ),
      ),
    )

pub returns-clause-left : goal.returns-clause-left
returns-clause-left g c =
    let r = g.T.Target.pixels c.args.raster.now in
    let inv = c.loop-place.invariant in
    let size : c.rows.result * c.cols.result ≡ r.rows * r.cols = λ i. c.rows.ensures.value i * c.cols.ensures.value i in
    let end : c.loop-place.place ≡ r.rows * r.cols = omega (arith, size, inv.within, c.loop-place-test.false) in
    omega (arith, plain_count r c.rows.ensures.sound end, inv.left)
