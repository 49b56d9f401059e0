use Rattle.std.proofs.Common.{ℕ, ◌+◌, List, ◌++◌, length, sym, ap, ◌∙◌, arith, subst}
use Rattle.std.proofs.lemmas.List.{append_assoc, length-append}
use Rattle.raster_values.specs.Flat.{value_in}
use Rattle.delta_mode.specs.Deltas.{is_valid}
use Rattle.delta_mode.specs.inside.Pieces.{rank, AreCoded}
use Rattle.delta_mode.proofs.EvenPieces.{rank_counts, whole_room}
use Rattle.delta_mode.proofs.taking.take_run.Goals as goal

pub next-requires-clause-left : goal.next-requires-clause-left
next-requires-clause-left g c =
    let r = g.T.Target.pixels c.args.raster.now in
    let room = whole_room (is_valid r) c.args.here.place (length c.args.symbols.now) c.requires.valid c.requires.at.count_is c.requires.left in
    omega (arith, room)

pub returns-clause-left : goal.returns-clause-left
returns-clause-left g c =
    let r = g.T.Target.pixels c.args.raster.now in
    let more = rank_counts (is_valid r) c.args.here.place (length c.args.symbols.now) c.requires.valid in
    let at = c.give_run.ensures.at.count_is ∙ ap (λ m. rank (is_valid r) (c.args.here.place + m)) c.next.auto.out in
    omega (arith, at, more, c.requires.at.count_is, c.in_ok-next.ensures.left)

pub returns-clause-coded : goal.returns-clause-coded
returns-clause-coded g c before front has e =
    let r = g.T.Target.pixels c.args.raster.now in
    let valid = is_valid r in
    let piece = c.next.new.out in
    let more = rank_counts valid c.args.here.place (length c.args.symbols.now) c.requires.valid in (
      piece,
      (
        subst (λ (xs : List ℕ). g.S.SymbolSource.has_given c.next.new.self xs) (append_assoc before front piece) (c.in_ok-next.ensures.given (before ++ front) has),
        (
          omega (arith, length-append front piece, more, e, c.next.auto.out, c.requires.at.count_is),
          subst (λ (m : ℕ). AreCoded r.kind r.cols valid (value_in (g.T.Target.pixels c.give_run.new.raster) c.args.here.d) c.args.here.place (c.args.here.place + m) (front ++ piece)) c.next.auto.out (c.give_run.ensures.coded front (e ∙ sym c.enter-before.ensures.count)),
        ),
      ),
    )
