use Rattle.std.proofs.Common.{◌≡◌, ◌<◌, ◌+◌, ◌*◌, ◌∙◌, ℕ, sym, refl, get_or, set, drop, arith}
use Rattle.std.proofs.lemmas.List.{ext_get_or, length-set, get_or-set_same, get_or-set_other}
use Rattle.std.proofs.lemmas.List.FromFn.{get_or-map-range_with_len, length-map-range_with_len}
use borrow.Author.Count.{below_more}
use Rattle.byteorder.specs.Endian.{little_number}
use Rattle.raster_cells.specs.PixelType.{bytes_of, value_of}
use Rattle.raster_cells.specs.Distance.{distance_of}
use Rattle.raster_cells.proofs.values.value_bytes.eight_at.Goals as goal

pub returns : goal.returns
returns c =
    let f : ℕ → ℕ = λ k. distance_of c.args.kind (value_of c.args.kind (little_number (bytes_of c.args.kind) (drop (k * bytes_of c.args.kind) c.args.bytes.now))) in
    ext_get_or 0 _ _ (c.loop-i.invariant.0 ∙ sym (length-map-range_with_len f c.args.at 8)) (λ i below.
    let less : i < 8 = omega (arith, c.loop-i.invariant.0) in
    c.loop-i.invariant.1 i (omega arith) ∙ sym (get_or-map-range_with_len f c.args.at 8 i (c.args.at + i) 0 less refl))

pub loop-i-preserved : goal.loop-i-preserved
loop-i-preserved c =
    let i = c.loop-i.i in
    let read = c.loop-i.read in
    let here = c.distance_at.result in
    let size = c.loop-i.invariant.0 in
    let kind = c.args.kind in
    let s = bytes_of kind in
    let f : ℕ → ℕ = λ k.
    distance_of kind (value_of kind (little_number s (drop ((c.args.at + k) * s) c.args.bytes.now)))
    in (
      length-set read i here ∙ size,
      below_more (λ k. get_or (set read i here) k 0 ≡ f k) i
          (λ k less. get_or-set_other read i k here 0 (λ e. omega arith) ∙ c.loop-i.invariant.1 k less)
          (get_or-set_same read i here 0 (omega arith) ∙ c.distance_at.ensures),
    )
