use Rattle.std.proofs.Common.{◌≡◌, ℕ, ℤ, pos, ◌-ℤ◌, ◌+◌, ◌*◌, ◌<◌, sym, ap, ◌∙◌, arith, length, get_or, set, subst, true, List}
use Rattle.raster_cells.specs.PixelType.{InRange}
use Rattle.delta_mode.specs.Symbols.{symbol_of}
use Rattle.delta_mode.specs.inside.Pieces.{rank, mark_at, value_of_place}
use Rattle.delta_mode.proofs.Marks.{zero_in_range}
use Rattle.delta_mode.proofs.Pieces.{rank_on, rank_off}
use Rattle.delta_mode.proofs.Kernels.{same, fits_more, all_fit, kept}
use Rattle.delta_mode.proofs.Runs.{byte_fits}
use Rattle.delta_mode.proofs.PlainTaking.{plain_symbol, spread_more, symbol_room}
use Rattle.delta_mode.proofs.plain_taking.spread.Goals.{then-marks-i, else-marks-i}
use Rattle.delta_mode.proofs.plain_taking.spread.Goals as goal

pub bounds-symbols-at : goal.bounds-symbols-at
bounds-symbols-at c =
    symbol_room (mark_at c.args.marks.now) c.loop-i.i (length c.args.marks.now) c.args.depth c.args.d c.loop-i.invariant.at (omega (arith, c.loop-i-test.true)) c.if-marks-i.true c.requires.depth c.requires.symbols

pub overflow_add-at : goal.overflow_add-at
overflow_add-at c =
    let below = symbol_room (mark_at c.args.marks.now) c.loop-i.i (length c.args.marks.now) c.args.depth c.args.d c.loop-i.invariant.at (omega (arith, c.loop-i-test.true)) c.if-marks-i.true c.requires.depth c.requires.symbols in
    omega (arith, below, c.requires.few, c.requires.low)

pub loop-i-preserved : goal.loop-i-preserved
loop-i-preserved c =
    let kind = c.args.kind in
    let mark = mark_at c.args.marks.now in
    let depth = c.args.depth in
    let d = c.args.d in
    let out = c.loop-i.out in
    let i = c.loop-i.i in
    let inv = c.loop-i.invariant in
    let room : i < length out = omega (arith, inv.room, c.requires.room, c.loop-i-test.true) in
    let g = λ (k : ℕ). get_or c.args.symbols.now (rank mark k * depth + d) 0 in
    elim c.if-marks-i.branch [
      | then-marks-i w ↦
          let v = w.value_above_least.result in
          let fits = byte_fits kind _ v c.requires.kind w.value_above_least.ensures.byte (w.value_above_least.ensures.value ∙ ap (λ (m : ℕ). pos (get_or c.args.symbols.now c.loop-i.at 0) -ℤ pos m) c.bias_of-added.ensures) in
          let here : symbol_of kind v ≡ g i =
          plain_symbol kind c.bias_of-added.result (get_or c.args.symbols.now c.loop-i.at 0) v c.requires.kind c.bias_of-added.ensures w.value_above_least.ensures.byte w.value_above_least.ensures.value
          ∙ ap (λ n. get_or c.args.symbols.now n 0) inv.at in
          let is : c.if-marks-i.out ≡ set out i v = w.out-is ∙ ap (set out i) (same kind v c.requires.kind fits) in
          let more : (rank mark i + 1) * depth ≡ rank mark i * depth + depth = omega arith in
          record {
            at = let next = ap (λ n. n * depth) (rank_on mark i w.if-marks-i.true) in omega (arith, w.at-is, inv.at, more, next);
            room = c.if-marks-i.auto.out ∙ inv.room;
            in_range = subst (λ (l : List ℤ). (k : ℕ) → k < i + 1 → InRange kind (value_of_place l k)) (sym is) (fits_more kind out i v room inv.in_range fits);
            symbols = subst (λ (l : List ℤ). (k : ℕ) → k < i + 1 → mark k ≡ true → symbol_of kind (value_of_place l k) ≡ g k) (sym is) (spread_more (symbol_of kind) mark out i v g room inv.symbols (λ _. here));
          }
      | else-marks-i w ↦
          let is : c.if-marks-i.out ≡ set out i (pos 0) = w.out-is ∙ ap (set out i) (kept (pos 0) (omega arith) (omega arith)) in
          record {
            at = w.at-is ∙ inv.at ∙ ap (λ n. n * depth + d) (sym (rank_off mark i w.if-marks-i.false));
            room = c.if-marks-i.auto.out ∙ inv.room;
            in_range = subst (λ (l : List ℤ). (k : ℕ) → k < i + 1 → InRange kind (value_of_place l k)) (sym is) (fits_more kind out i (pos 0) room inv.in_range (zero_in_range kind));
            symbols = subst (λ (l : List ℤ). (k : ℕ) → k < i + 1 → mark k ≡ true → symbol_of kind (value_of_place l k) ≡ g k) (sym is) (spread_more (symbol_of kind) mark out i (pos 0) g room inv.symbols (λ on. absurd (cc)));
          }
    ]

pub returns-clause-in_range : goal.returns-clause-in_range
returns-clause-in_range c = all_fit c.args.kind c.loop-i.out c.loop-i.i (omega (arith, c.loop-i.invariant.room, c.requires.room, c.loop-i-test.false)) c.loop-i.invariant.in_range
