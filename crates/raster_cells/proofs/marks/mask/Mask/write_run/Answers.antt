use Rattle.std.proofs.Common.{◌≡◌, ◌+◌, ◌-◌, ◌*◌, ◌/◌, ◌≤◌, ◌++◌, ◌∙◌, Bool, List, ap, sym, refl, cond, take, drop, length, length-append, get_or, replicate, false, arith, rules}
use Rattle.std.specs.Prelude.{count_by}
use Rattle.std.proofs.lemmas.List.{length-drop, length-take-le}
use borrow.Rule.Slice.PartMut.{put_mid}
use Rattle.raster_cells.specs.Masks.{mask_bit}
use Rattle.raster_cells.specs.inside.MaskView.{seen_mask}
use Rattle.raster_cells.specs.MarkBytes.{mark_bytes}
use Rattle.raster_cells.proofs.MaskBits.{count_is, size_is, bit_is}
use Rattle.raster_cells.proofs.MaskBytes.{marks_joined, piece_bit}
use Rattle.raster_cells.proofs.MaskCounts.{set_run}
use Rattle.raster_cells.proofs.Pack.{ones}
use Rattle.raster_cells.proofs.WholeRuns.{put_whole}
use Rattle.raster_cells.proofs.marks.mask.Mask.write_run.Goals as goal

pub returns-then-self : goal.returns-then-self
returns-then-self c =
    let ms = seen_mask c.self.inside in
    let from = c.args.from in
    let count = c.args.count in
    let full : count_by (λ m. m) ms ≡ length ms = sym c.self.invariant.counted ∙ c.if-self.true ∙ sym (size_is c.self.inside) in
    let within : from + count ≤ length ms = omega (arith, c.requires.within, count_is c.self.inside _ c.self.view_is, size_is c.self.inside) in
    let out : c.fill.new.self ≡ replicate count 1 = c.fill.ensures.after (λ y e. e) ∙ ap (λ n. replicate n 1) (length-take-le count c.args.out.now c.requires.room) in
    let marks : mark_bytes (take count (drop from c.args.self.now)) ≡ replicate count 1 =
    ap (λ (xs : List Bool). mark_bytes (take count (drop from xs))) (sym c.self.view_is) ∙ ap mark_bytes (set_run ms from count full within) ∙ ones count in
    ap (λ xs. xs ++ drop count c.args.out.now) (out ∙ sym marks)

-- the first byte of a run of whole bytes
pub slice_bounds-write_spread-end : goal.slice_bounds-write_spread-end
slice_bounds-write_spread-end c =
    let h : c.args.from / 8 + c.whole_marks-whole.result / 8 ≤ length c.deref.result.now = omega (
      arith,
      c.requires.within,
      count_is c.self.inside _ c.self.view_is,
      c.whole_marks-whole.ensures.within,
      c.whole_marks-whole.ensures.whole,
      ap length c.deref.ensures.value,
      c.self.invariant.size,
    ) in
    search rules

pub returns : goal.returns
returns c =
    let a = c.self.inside in
    let from = c.args.from in
    let count = c.args.count in
    let w = c.whole_marks-whole.result in
    let old = c.args.out.now in
    let front = c.write_spread.new.out in
    let back = c.write_each.new.out in
    let within = c.whole_marks-whole.ensures.within in
    let long : length front ≡ w = c.write_spread.auto.out ∙ length-take-le w old (omega (arith, c.requires.room)) in
    let mid = front ++ drop w old in
    let mid_long : length mid ≡ length old = length-append front (drop w old) ∙ omega (arith, long, length-drop w old, c.requires.room) in
    let rest : length back ≡ count - w = c.write_each.auto.out ∙ length-take-le (count - w) (drop w mid) (omega (arith, length-drop w mid, mid_long, c.requires.room)) in
    marks_joined c.args.self.now from count w old mid front back (put_mid w (count - w) mid back) within c.requires.within long rest refl (put_whole w count mid back within (omega (arith, mid_long, c.requires.room)) rest)
    (λ k less.
    let at : 8 * (from / 8) + k ≡ from + k = omega (arith, c.whole_marks-whole.ensures.bytes (omega arith)) in
    c.write_spread.ensures k (omega (arith, long, c.write_spread.auto.out))
    ∙ ap (λ b. cond b 1 0) (piece_bit c.deref.result.now _ (from / 8) (from / 8 + w / 8 - from / 8) k (omega (arith, c.whole_marks-whole.ensures.whole)) refl
    ∙ ap (λ xs. mask_bit xs (8 * (from / 8) + k)) c.deref.ensures.value ∙ ap (mask_bit a.bytes.items) at ∙ bit_is a c.self.invariant (from + k) ∙ ap (λ (xs : List Bool). get_or xs (from + k) false) c.self.view_is))
    (λ k less. c.write_each.ensures k (omega (arith, rest, c.write_each.auto.out)))
