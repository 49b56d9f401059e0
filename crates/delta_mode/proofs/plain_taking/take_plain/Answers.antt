use Rattle.std.proofs.Common.{◌≡◌, ℕ, Bool, ◌*◌, ◌≤◌, List, ◌++◌, length, take, sym, ap, ◌∙◌, arith, subst}
use Rattle.std.proofs.lemmas.List.{append_assoc, length-append, length-take-le}
use Rattle.raster_values.specs.Flat.{value_in}
use Rattle.delta_mode.specs.Deltas.{is_valid}
use Rattle.delta_mode.specs.inside.Pieces.{rank, mark_at}
use Rattle.delta_mode.proofs.PlainTaking.{piece_placed, piece_size, rank_room}
use Rattle.delta_mode.proofs.plain_taking.take_plain.Goals as goal

-- how many symbols the piece has
record Fitting (symbols : List ℕ) (k size : ℕ) : Type 0 where
  is : k ≡ size
  fits : k ≤ length symbols
  long : length (take k symbols) ≡ k

fitting : (symbols : List ℕ) (marks : List Bool) {count deep m : ℕ} (n depth : ℕ) → count ≡ rank (mark_at marks) m → m ≡ n → deep ≡ depth → n * depth ≤ length symbols → Fitting symbols (count * deep) (rank (mark_at marks) n * depth)
fitting symbols marks {count} {deep} {m} n depth ec em ed room =
    let size : count * deep ≡ rank (mark_at marks) n * depth = λ i. (ec ∙ ap (rank (mark_at marks)) em) i * ed i in
    let fits : count * deep ≤ length symbols = subst (λ k. k ≤ length symbols) (sym size) (rank_room (mark_at marks) n depth (length symbols) room) in
    record { is = size; fits = fits; long = length-take-le (count * deep) symbols fits }

pub overflow_mul-piece : goal.overflow_mul-piece
overflow_mul-piece g c =
    let r = g.T.Target.pixels c.args.raster.now in
    let f = fitting c.args.symbols.now c.marks_from.new.out (length c.args.marks.now) r.depth c.count_set.ensures c.marks_from.ensures.room c.depth.ensures.value c.requires.room in
    omega (arith, f.fits, c.requires.few)

pub slice_bounds-piece-end : goal.slice_bounds-piece-end
slice_bounds-piece-end g c =
    let r = g.T.Target.pixels c.args.raster.now in
    (fitting c.args.symbols.now c.marks_from.new.out (length c.args.marks.now) r.depth c.count_set.ensures c.marks_from.ensures.room c.depth.ensures.value c.requires.room).fits

pub slice_bounds-piece-end-2 : goal.slice_bounds-piece-end-2
slice_bounds-piece-end-2 g c =
    let r = g.T.Target.pixels c.args.raster.now in
    sym (fitting c.args.symbols.now c.marks_from.new.out (length c.args.marks.now) r.depth c.count_set.ensures c.marks_from.ensures.room c.depth.ensures.value c.requires.room).long

pub next-requires-clause-left : goal.next-requires-clause-left
next-requires-clause-left g c =
    let r = g.T.Target.pixels c.args.raster.now in
    let f = fitting c.args.symbols.now c.marks_from.new.out (length c.args.marks.now) r.depth c.count_set.ensures c.marks_from.ensures.room c.depth.ensures.value c.requires.room in
    let all = piece_size (is_valid r) c.args.place (length c.args.marks.now) r.depth c.marks_from.new.out c.marks_from.ensures.marks in
    omega (arith, f.is, f.long, all, c.requires.left)

pub give_plain-requires-clause-count : goal.give_plain-requires-clause-count
give_plain-requires-clause-count g c =
    let r = g.T.Target.pixels c.args.raster.now in
    let f = fitting c.args.symbols.now c.marks_from.new.out (length c.args.marks.now) r.depth c.count_set.ensures c.marks_from.ensures.room c.depth.ensures.value c.requires.room in
    c.next.auto.out ∙ f.long ∙ (λ i. c.count_set.ensures i * c.depth.ensures.value i)

pub returns-clause-left : goal.returns-clause-left
returns-clause-left g c =
    let r = g.T.Target.pixels c.args.raster.now in
    let f = fitting c.args.symbols.now c.marks_from.new.out (length c.args.marks.now) r.depth c.count_set.ensures c.marks_from.ensures.room c.depth.ensures.value c.requires.room in
    let all = piece_size (is_valid r) c.args.place (length c.args.marks.now) r.depth c.marks_from.new.out c.marks_from.ensures.marks in
    omega (arith, f.is, f.long, all, c.in_ok-next.ensures.left)

pub returns-clause-placed : goal.returns-clause-placed
returns-clause-placed g c before front has e =
    let r = g.T.Target.pixels c.args.raster.now in
    let t = g.T.Target.pixels c.give_plain.new.raster in
    let n = length c.args.marks.now in
    let marks = c.marks_from.new.out in
    let piece = c.next.new.out in
    let f = fitting c.args.symbols.now marks n r.depth c.count_set.ensures c.marks_from.ensures.room c.depth.ensures.value c.requires.room in
    let all = piece_size (is_valid r) c.args.place n r.depth marks c.marks_from.ensures.marks in (
      piece,
      (
        subst (λ (xs : List ℕ). g.S.SymbolSource.has_given c.next.new.self xs) (append_assoc before front piece) (c.in_ok-next.ensures.given (before ++ front) has),
        (
          omega (arith, length-append front piece, f.is, f.long, all, e, c.next.auto.out),
          piece_placed r.kind r.depth (is_valid r) (value_in t) c.args.place n marks front piece c.marks_from.ensures.marks e (λ i d lt deep on. c.give_plain.ensures.placed i d (omega (arith, lt, c.marks_from.ensures.room)) deep on),
        ),
      ),
    )
