use Rattle.std.proofs.Common.{◌≡◌, ℕ, ◌+◌, ◌*◌, ◌^◌, ◌<◌, ◌≤◌, inl, inr, List, length, get_or, slice_index, slice_set, ap, sym, ◌∙◌, get_or-set_other, get_or-set_same, arith}
use Rattle.std.proofs.lemmas.Bool.{cases_eq}
use Rattle.std.proofs.lemmas.List.{length-set, length-replicate, get_or-replicate}
use Rattle.huff_codes.specs.Sums.{sum_below}
use Rattle.huff_codes.specs.Tree.{share}
use Rattle.huff_codes.specs.inside.Places.{length_share}
use Rattle.huff_codes.proofs.Kraft.{sum-zero, sum-more}
use Rattle.huff_codes.proofs.Sides.{length_share-same, length_share-other, length_shares-is}
use Rattle.huff_codes.proofs.lengths.code_lengths.shares_by_length.Goals as goal

-- the sum at a length, to which a share is added
added : (shares : List ℕ) (at v k : ℕ) → at < length shares → k ≡ at → slice_index (slice_set shares at (slice_index shares at + v)) k ≡ slice_index shares at + v
added shares at v k in_room same =
    ap (λ (i : ℕ). slice_index (slice_set shares at (slice_index shares at + v)) i) same ∙ get_or-set_same shares at (slice_index shares at + v) 0 in_room

shares_small : (shares : List ℕ) (s at v : ℕ) → length shares ≡ 33 → at < 33 → v ≤ 2 ^ 32 → ((k : ℕ) → k < 33 → slice_index shares k ≤ s * 2 ^ 32)
    → (k : ℕ) → k < 33 → slice_index (slice_set shares at (slice_index shares at + v)) k ≤ (s + 1) * 2 ^ 32
shares_small shares s at v room at_lt low h k below = elim (cases_eq k at) [
  | inl same ↦ omega (arith, added shares at v k (omega (arith, at_lt, room)) same, h at at_lt, low)
  | inr other ↦ omega (arith, get_or-set_other shares at k (slice_index shares at + v) 0 other, h k below)
]

shares_more : (lengths shares : List ℕ) (s at v : ℕ) → length shares ≡ 33 → at < 33 → at ≡ slice_index lengths s → v ≡ share (slice_index lengths s) → ((k : ℕ) → k < 33 → slice_index shares k ≡ sum_below s (length_share lengths k))
    → (k : ℕ) → k < 33 → slice_index (slice_set shares at (slice_index shares at + v)) k ≡ sum_below (s + 1) (length_share lengths k)
shares_more lengths shares s at v room at_lt is share_is h k below = elim (cases_eq k at) [
  | inl same ↦
      let own : length_share lengths k s ≡ share (slice_index lengths s) = length_share-same lengths k s (sym is ∙ sym same) in
      let before : slice_index shares at ≡ sum_below s (length_share lengths k) = ap (slice_index shares) (sym same) ∙ h k below in
      omega (arith, added shares at v k (omega (arith, at_lt, room)) same, before, share_is, own, sum-more s (length_share lengths k))
  | inr other ↦
      let none : length_share lengths k s ≡ 0 = length_share-other lengths k s (λ e. other (sym e ∙ sym is)) in
      omega (arith, get_or-set_other shares at k (slice_index shares at + v) 0 other, h k below, none, sum-more s (length_share lengths k))
]

pub overflow_add-shares : goal.overflow_add-shares
overflow_add-shares c =
    let s = c.loop-s.s in
    let lt : s < 256 = omega arith in
    let at_lt : c.from-at.result < 33 = omega (arith, c.from-at.ensures, c.requires.lengths.low s lt) in
    omega (arith, c.loop-s.invariant.small c.from-at.result at_lt, c.share_of-share.ensures.small, lt)

pub loop-s-init : goal.loop-s-init
loop-s-init c = record {
  room = length-replicate {A = ℕ} 33 0;
  small = λ k lt. omega (arith, get_or-replicate {A = ℕ} 33 k 0 0 lt);
  shares = λ k lt. get_or-replicate {A = ℕ} 33 k 0 0 lt ∙ sym (sum-zero (length_share c.args.lengths.now k));
}

pub loop-s-preserved : goal.loop-s-preserved
loop-s-preserved c =
    let lengths = c.args.lengths.now in
    let s = c.loop-s.s in
    let at = c.from-at.result in
    let v = c.share_of-share.result in
    let inv = c.loop-s.invariant in
    let lt : s < 256 = omega arith in
    let at_lt : at < 33 = omega (arith, c.from-at.ensures, c.requires.lengths.low s lt) in
    record {
      room = length-set c.loop-s.shares at (get_or c.loop-s.shares at 0 + v) ∙ inv.room;
      small = shares_small c.loop-s.shares s at v inv.room at_lt c.share_of-share.ensures.small inv.small;
      shares = shares_more lengths c.loop-s.shares s at v inv.room at_lt c.from-at.ensures c.share_of-share.ensures.value inv.shares;
    }

pub returns-clause-small : goal.returns-clause-small
returns-clause-small c = λ l lt.
    let all : c.loop-s.s ≡ 256 = omega arith in
    omega (arith, c.loop-s.invariant.small l lt, all)

pub returns-clause-shares : goal.returns-clause-shares
returns-clause-shares c = λ l lt.
    let lengths = c.args.lengths.now in
    let all : c.loop-s.s ≡ 256 = omega arith in
    c.loop-s.invariant.shares l lt ∙ ap (λ (n : ℕ). sum_below n (length_share lengths l)) all ∙ sym (length_shares-is lengths l)
