use Rattle.std.proofs.Common.{◌+◌, ◌*◌, ◌∙◌, ℕ, ap, sym, cond, length, get_or, refl, arith}
use Rattle.std.specs.Prelude.{ℤ, pos}
use Rattle.std.proofs.lemmas.List.{get_or-replicate, length-replicate}
use Rattle.std.proofs.lemmas.List.FromFn.{length-map-range_with_len, get_or-map-range_with_len}
use Rattle.raster_cells.proofs.MarkWords.{word_all, word_none}
use Rattle.raster_cells.proofs.MarkedValues.{values_there}
use Rattle.raster_values.proofs.blocks.numbered.get_word.Goals as goal

pub returns-then-word-eq0 : goal.returns-then-word-eq0
returns-then-word-eq0 c =
    let p = c.args.plane.now in
    let n = length c.args.out.now in
    record {
      size = ap length c.clear.ensures ∙ length-replicate n (pos 0);
      values = λ i below.
          let value = get_or p.samples.now.values ((c.args.place + i) * p.depth + p.d) (pos 0) in
          let off = word_none p.marks.now c.args.place n c.word-word.result c.if-word-eq0.true c.word-word.ensures (c.args.place + i) (omega arith) (omega (arith, below)) in
          ap (λ xs. get_or xs i (pos 0)) c.clear.ensures ∙ get_or-replicate n i (pos 0) (pos 0) below ∙ sym (ap (λ b. cond b value (pos 0)) off);
    }

pub get_pixels_as-requires-clause-within : goal.get_pixels_as-requires-clause-within
get_pixels_as-requires-clause-within c =
    let p = c.args.plane.now in
    values_there p.marks.now p.samples.now.values c.args.place (length c.args.out.now) p.depth p.size c.requires.within

pub returns-then-word-count : goal.returns-then-word-count
returns-then-word-count c =
    let p = c.args.plane.now in
    let n = length c.args.out.now in
    let f : ℕ → ℤ = λ k. get_or p.samples.now.values (k * p.depth + p.d) (pos 0) in
    record {
      size = ap length c.get_pixels_as.ensures ∙ length-map-range_with_len f c.args.place n;
      values = λ i below.
          let on = word_all p.marks.now c.args.place n c.word-word.result c.requires.short c.if-word-count.true c.word-word.ensures (c.args.place + i) (omega arith) (omega (arith, below)) in
          ap (λ xs. get_or xs i (pos 0)) c.get_pixels_as.ensures ∙ get_or-map-range_with_len f c.args.place n i (c.args.place + i) (pos 0) below refl ∙ sym (ap (λ b. cond b (f (c.args.place + i)) (pos 0)) on);
    }
