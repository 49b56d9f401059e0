use Rattle.std.proofs.Common.{◌≡◌, ℕ, ◌+◌, ◌*◌, List, [], ◌++◌, length, refl, sym, ◌∙◌, subst, arith}
use Rattle.std.proofs.lemmas.List.{append_assoc, append-nil, length-append}
use Rattle.delta_mode.specs.Deltas.{AreDeltas, TakesDeltas}
use Rattle.delta_mode.specs.Symbols.{IsByteType}
use Rattle.lerc_decode.proofs.Filling.{keeps, keeps_then, marked_count}
use Rattle.lerc_decode.proofs.Symbols.{depth_room, first_symbols, last_symbols, next_depths}
use Rattle.lerc_decode.proofs.blob.codes.take_deltas.Goals as goal

pub loop-d-init : goal.loop-d-init
loop-d-init g c =
    let r = g.T.Target.pixels c.args.raster.now in
    record {
      marks = record { kind = refl; rows = refl; cols = refl; depth = refl; marks = refl };
      left = omega arith;
      given = λ before has.
          ([], (subst (λ (xs : List ℕ). g.S.SymbolSource.has_given c.args.source.now xs) (sym (append-nil before)) has, (omega arith, λ e below. absurd (omega (arith, below)))));
      ready = c.requires.ready;
      sources = refl;
      sound = c.requires.coded.marked.shaped.raster;
      kept = refl;
    }

pub undelta_from-requires-clause-kind : goal.undelta_from-requires-clause-kind
undelta_from-requires-clause-kind g c =
    subst IsByteType (c.requires.coded.marked.shaped.shape.kind ∙ c.loop-d.invariant.marks.kind) c.requires.coded.byte

pub undelta_from-requires-clause-depth : goal.undelta_from-requires-clause-depth
undelta_from-requires-clause-depth g c =
    omega (arith, c.loop-d-test.true, c.loop-d.auto.d-end, c.requires.coded.marked.shaped.shape.depth, c.loop-d.invariant.marks.depth)

pub undelta_from-requires-clause-count : goal.undelta_from-requires-clause-count
undelta_from-requires-clause-count g c =
    let h = c.args.header.now in
    let inv = c.loop-d.invariant in
    let room = depth_room c.loop-d.d h.depth h.valid (g.S.SymbolSource.left c.loop-d.source) (g.S.SymbolSource.left c.args.source.now) (omega (arith, c.loop-d-test.true, c.loop-d.auto.d-end)) inv.left c.requires.count in
    omega (arith, room, marked_count (g.T.Target.pixels c.args.raster.now) (g.T.Target.pixels c.loop-d.raster) h.valid inv.marks c.requires.coded.marked.valid)

pub loop-d-preserved : goal.loop-d-preserved
loop-d-preserved g c =
    let h = c.args.header.now in
    let old = (g.T.Target.pixels c.loop-d.raster) in
    let new = (g.T.Target.pixels c.undelta_from.new.raster) in
    let inv = c.loop-d.invariant in
    let w = c.in_ok-undelta_from.ensures in
    let was = inv.sound in
    let is = w.frame.raster in
    let valid = marked_count (g.T.Target.pixels c.args.raster.now) old h.valid inv.marks c.requires.coded.marked.valid in
    let next : (c.loop-d.d + 1) * h.valid ≡ c.loop-d.d * h.valid + h.valid = omega arith in
    record {
      marks = keeps_then (g.T.Target.pixels c.args.raster.now) old new inv.marks (keeps old new was is w.frame.same);
      left = omega (arith, next, inv.left, w.left, valid);
      given = λ before has.
          let first = inv.given before has in
          let more = w.taken (before ++ first.0) first.1.0 in
          let all = first.0 ++ more.0 in
          let at = c.loop-d.d * h.valid in
          let count : length more.0 ≡ h.valid = more.1.1.0 ∙ valid in
          let taken = subst (λ (xs : List ℕ). TakesDeltas old new c.loop-d.d xs) (last_symbols first.0 more.0 at h.valid first.1.1.0 count) more.1.1.1 in (
            all,
            (
              subst (λ (xs : List ℕ). g.S.SymbolSource.has_given c.undelta_from.new.source xs) (append_assoc before first.0 more.0) more.1.0,
              (
                omega (arith, length-append first.0 more.0, first.1.1.0, count, next),
                next_depths h old new all c.loop-d.d at was is (omega (arith, c.loop-d-test.true, c.loop-d.auto.d-end)) (c.requires.coded.marked.shaped.shape.depth ∙ inv.marks.depth) refl taken
                    (λ e below. subst (λ (xs : List ℕ). AreDeltas old e xs) (sym (first_symbols h first.0 more.0 c.loop-d.d e first.1.1.0 below)) (first.1.1.1 e below)),
              ),
            ),
          );
      ready = w.ready;
      sources = w.sources ∙ inv.sources;
      sound = w.frame.raster;
      kept = w.frame.kept ∙ inv.kept;
    }

pub returns-in_err-undelta_from-clause-frame : goal.returns-in_err-undelta_from-clause-frame
returns-in_err-undelta_from-clause-frame g c =
    let old = (g.T.Target.pixels c.loop-d.raster) in
    let new = (g.T.Target.pixels c.undelta_from.new.raster) in
    let inv = c.loop-d.invariant in
    let w = c.in_err-undelta_from.ensures in
    record {
      raster = w.frame.raster;
      marks = keeps_then (g.T.Target.pixels c.args.raster.now) old new inv.marks (keeps old new inv.sound w.frame.raster w.frame.same);
      kept = w.frame.kept ∙ inv.kept;
    }
