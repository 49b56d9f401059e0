use Rattle.std.proofs.Common.{◌≢◌, ℕ, ◌<◌, length, sym, ◌∙◌, get_or-set_other, get_or-set_same, below_more, arith}
use Rattle.std.proofs.lemmas.List.{length-set, length-replicate}
use Rattle.huff_codes.proofs.Sides.{place_first, place_next}
use Rattle.huff_codes.proofs.lengths.code_lengths.first_places.Goals as goal

pub overflow_add-place : goal.overflow_add-place
overflow_add-place c =
    let lt : c.loop-l.l < 33 = omega arith in
    omega (arith, c.loop-l.invariant.small, c.shares_by_length-shares.ensures.small c.loop-l.l lt, lt)

pub loop-l-init : goal.loop-l-init
loop-l-init c = record {
  room = length-replicate {A = ℕ} 33 0;
  small = omega arith;
  place = sym (place_first c.args.lengths.now);
  places = λ k lt. absurd (omega (arith, lt));
}

pub loop-l-preserved : goal.loop-l-preserved
loop-l-preserved c =
    let l = c.loop-l.l in
    let shares = c.shares_by_length-shares.ensures in
    let below : l < 33 = omega arith in
    let lt : l < length c.loop-l.places = omega (arith, c.loop-l.invariant.room) in
    record {
      room = length-set c.loop-l.places l c.loop-l.place ∙ c.loop-l.invariant.room;
      small = omega (arith, c.loop-l.invariant.small, shares.small l below);
      place = omega (arith, c.loop-l.invariant.place, shares.shares l below, place_next c.args.lengths.now l);
      places = below_more _ l (λ k h. let ne : k ≢ l = omega arith in rw get_or-set_other (c.loop-l.invariant.places k h))
          (get_or-set_same c.loop-l.places l c.loop-l.place 0 lt ∙ c.loop-l.invariant.place);
    }
