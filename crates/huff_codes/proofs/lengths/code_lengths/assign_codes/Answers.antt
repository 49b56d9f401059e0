use Rattle.std.proofs.Common.{◌≡◌, ℕ, ◌+◌, ◌<◌, inl, inr, List, length, get_or, slice_index, slice_set, ap, sym, ◌∙◌, subst, get_or-set_other, get_or-set_same, arith}
use Rattle.std.proofs.lemmas.Bool.{cases_eq}
use Rattle.std.proofs.lemmas.List.{length-set}
use Rattle.huff_codes.specs.Tree.{share}
use Rattle.huff_codes.specs.Codes.{AreLengths, start_of}
use Rattle.huff_codes.specs.inside.Places.{place_of, IsCanonical}
use Rattle.huff_codes.proofs.Sides.{place_is_start, place_same, place_other, start-lt}
use Rattle.huff_codes.proofs.lengths.code_lengths.assign_codes.Goals as goal

-- the place of the next code of this length
here : (lengths places : List ℕ) (s at : ℕ) → ((k : ℕ) → k < 33 → slice_index places k ≡ place_of lengths s k) → AreLengths lengths → s < 256 → at ≡ slice_index lengths s
    → slice_index places at ≡ start_of lengths s
here lengths places s at h lengths_ok lt is =
    h at (omega (arith, is, lengths_ok.low s lt)) ∙ ap (place_of lengths s) is ∙ place_is_start lengths s

pub overflow_cast-codes : goal.overflow_cast-codes
overflow_cast-codes c =
    omega (arith, here c.args.lengths.now c.loop-s.places c.loop-s.s c.from-at.result c.loop-s.invariant.places c.requires.lengths (omega arith) c.from-at.ensures, start-lt c.args.lengths.now c.loop-s.s c.requires.lengths (omega arith))

pub overflow_add-places : goal.overflow_add-places
overflow_add-places c =
    omega (arith, here c.args.lengths.now c.loop-s.places c.loop-s.s c.from-at.result c.loop-s.invariant.places c.requires.lengths (omega arith) c.from-at.ensures, start-lt c.args.lengths.now c.loop-s.s c.requires.lengths (omega arith), c.share_of.ensures.small)

places_more : (lengths places : List ℕ) (s at v : ℕ) → length places ≡ 33 → ((k : ℕ) → k < 33 → slice_index places k ≡ place_of lengths s k) → AreLengths lengths → s < 256 → at ≡ slice_index lengths s
    → v ≡ share (slice_index lengths s) → (k : ℕ) → k < 33 → slice_index (slice_set places at (slice_index places at + v)) k ≡ place_of lengths (s + 1) k
places_more lengths places s at v room h lengths_ok lt is share_is k below = elim (cases_eq k at) [
  | inl same ↦
      let in_room : at < length places = omega (arith, is, lengths_ok.low s lt, room) in
      ap (λ (i : ℕ). slice_index (slice_set places at (slice_index places at + v)) i) same
      ∙ get_or-set_same places at (slice_index places at + v) 0 in_room
      ∙ (let sum : slice_index places at + v ≡ place_of lengths (s + 1) (slice_index lengths s) = omega (arith, here lengths places s at h lengths_ok lt is, share_is, place_same lengths s lt) in sum)
      ∙ ap (place_of lengths (s + 1)) (sym is ∙ sym same)
  | inr other ↦
      get_or-set_other places at k (slice_index places at + v) 0 other ∙ h k below ∙ sym (place_other lengths s k lt (λ e. other (sym e ∙ sym is)))
]

pub loop-s-preserved : goal.loop-s-preserved
loop-s-preserved c =
    let lengths = c.args.lengths.now in
    let s = c.loop-s.s in
    let lt : s < 256 = omega arith in
    let made : IsCanonical lengths s (record { bits = get_or c.loop-s.places c.from-at.result 0; length = c.from.result }) =
    λ i. record {
      bits = here lengths c.loop-s.places s c.from-at.result c.loop-s.invariant.places c.requires.lengths lt c.from-at.ensures i;
      length = c.from.ensures i;
    } in record {
      room = omega (arith, c.loop-s.invariant.room, length-set c.loop-s.places c.from-at.result (get_or c.loop-s.places c.from-at.result 0 + c.share_of.result));
      size = length-set c.loop-s.codes s (record { bits = get_or c.loop-s.places c.from-at.result 0; length = c.from.result }) ∙ c.loop-s.invariant.size;
      places = places_more lengths c.loop-s.places s c.from-at.result c.share_of.result c.loop-s.invariant.room c.loop-s.invariant.places c.requires.lengths lt c.from-at.ensures c.share_of.ensures.value;
      codes = λ t below d. elim (cases_eq t s) [
        | inl same ↦
            let in_room : s < length c.loop-s.codes = omega (arith, c.loop-s.invariant.size) in
            subst (λ (k : ℕ). IsCanonical lengths k (get_or (slice_set c.loop-s.codes s (record { bits = get_or c.loop-s.places c.from-at.result 0; length = c.from.result })) k d)) (sym same)
            (get_or-set_same c.loop-s.codes s (record { bits = get_or c.loop-s.places c.from-at.result 0; length = c.from.result }) d in_room ∙ made)
        | inr other ↦
            get_or-set_other c.loop-s.codes s t (record { bits = get_or c.loop-s.places c.from-at.result 0; length = c.from.result }) d other
            ∙ c.loop-s.invariant.codes t (omega arith) d
      ];
    }
