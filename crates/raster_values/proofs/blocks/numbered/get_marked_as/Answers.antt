use Rattle.std.proofs.Common.{◌≡◌, ◌≤◌, ◌+◌, ◌-◌, ◌∙◌, ℕ, ap, length, arith}
use Rattle.std.specs.Prelude.{ℤ}
use Rattle.raster_values.specs.inside.Planes.{plane_value}
use Rattle.raster_cells.proofs.MarkedValues.{read_piece}
use Rattle.raster_values.proofs.Scattered.{piece_long}
use Rattle.raster_values.proofs.blocks.numbered.get_marked_as.Goals as goal

pub loop-k-init : goal.loop-k-init
loop-k-init c = record { within = omega arith; read = λ i less. absurd (let no : ⊥ = omega (arith, less) in no) }

pub get_word-requires-clause-within : goal.get_word-requires-clause-within
get_word-requires-clause-within c =
    let long = piece_long c.loop-k.k c.min-more.result c.loop-k.out (omega (arith, c.min-more.ensures, c.loop-k-test.true)) in
    omega (arith, long, c.min-more.ensures, c.loop-k-test.true, c.loop-k.auto.out, c.requires)

pub get_word-requires-clause-some : goal.get_word-requires-clause-some
get_word-requires-clause-some c =
    let long = piece_long c.loop-k.k c.min-more.result c.loop-k.out (omega (arith, c.min-more.ensures, c.loop-k-test.true)) in
    omega (arith, long, c.min-more.ensures, c.loop-k-test.true)

pub get_word-requires-clause-short : goal.get_word-requires-clause-short
get_word-requires-clause-short c =
    let long = piece_long c.loop-k.k c.min-more.result c.loop-k.out (omega (arith, c.min-more.ensures, c.loop-k-test.true)) in
    omega (arith, long, c.min-more.ensures)

pub loop-k-preserved : goal.loop-k-preserved
loop-k-preserved c =
    let k = c.loop-k.k in
    let more = c.min-more.result in
    let f : ℕ → ℤ = λ i. plane_value c.args.plane.now (c.args.place + i) in
    let fits : k + more ≤ length c.loop-k.out = omega (arith, c.min-more.ensures, c.loop-k-test.true) in
    let long = piece_long k more c.loop-k.out fits in
    let whole : length c.get_word.new.out ≡ k + more - k = omega (arith, c.get_word.ensures.size, long) in
    record {
      within = omega (arith, fits, c.loop-k.auto.out);
      read = read_piece f k (k + more) c.loop-k.out c.get_word.new.out (omega arith) fits whole
          (λ j less. c.get_word.ensures.values j (omega (arith, less, long))
          ∙ ap (plane_value c.args.plane.now) (let e : c.args.place + k + j ≡ c.args.place + (k + j) = omega arith in e)) c.loop-k.invariant.read;
    }

pub returns : goal.returns
returns c = record {
  size = omega (arith, c.loop-k.auto.out);
  values = λ i below. c.loop-k.invariant.read i (omega (arith, below, c.loop-k-test.false, c.loop-k.auto.out));
}
