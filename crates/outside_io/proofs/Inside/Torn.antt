-- The torn image of a file in memory.
use Rattle.std.proofs.Common.{◌≡◌, ◌⊎◌, inl, inr, refl, ℕ, ◌+◌, ◌-◌, ◌<◌, ◌≤◌, min, List, [], ◌∷◌, ◌++◌, length, get_or, replicate, sym, ◌∙◌, ap, subst, arith}
use Rattle.std.proofs.lemmas.List.{places}
use Rattle.std.proofs.lemmas.Bool.{cases_lt}
use Rattle.outside_io.specs.declared.volume.image.Pick.{Pick}
use Rattle.outside_io.specs.declared.volume.image.Pick.TheVariants.{Oldest, Newest, Torn}
use Rattle.outside_io.specs.volume.Disk.{AreBytes, File, HadLength, IsImage, IsUntouched}
use Rattle.outside_io.specs.volume.Pick.{IsPicked, IsTorn, IsTouched}
use Rattle.outside_io.specs.inside.Fills.{fills}
use Rattle.outside_io.specs.Present.{IsSound}
use Rattle.outside_io.specs.volume.Sparse.{SparseFile, as_byte, byte_at, byte_over, sparse_bytes}
use Rattle.outside_io.proofs.Inside.Held.{byte_at-append, length-sparse, shows_sparse}
use Rattle.outside_io.proofs.Inside.Pieces.{byte_at-push, over_at, over_before}

-- one range of the byte
over_range : (b at n i below : ℕ) → at ≤ i → i < at + n → byte_over at (replicate n b) i below ≡ b
over_range b at n i below from inside = over_at at i below (replicate n b) from ∙ grind (arith, places)

over_outside : (b at n i below : ℕ) → (i < at) ⊎ (at + n ≤ i) → byte_over at (replicate n b) i below ≡ below
over_outside b at n i below apart = elim apart [
  | inl before ↦ over_before at i below (replicate n b) before
  | inr past ↦ over_at at i below (replicate n b) (omega arith) ∙ grind (arith, places)
]

over_same : (b at n i : ℕ) → byte_over at (replicate n b) i b ≡ b
over_same b at n i = elim (cases_lt i at) [
  | inl before ↦ over_outside b at n i b (inl before)
  | inr from ↦ elim (cases_lt i (at + n)) [
    | inl inside ↦ over_range b at n i b from inside
    | inr past ↦ over_outside b at n i b (inr past)
  ]
]

fills_touched : (b : ℕ) (rs : List (ℕ × ℕ)) (i below : ℕ) → IsTouched rs i → byte_at (fills b rs) i below ≡ b
fills_touched b [] i below touched = absurd touched
fills_touched b (r ∷ rs) i below touched = byte_at-push (fills b rs) (r.0, replicate r.1 b) i below ∙ elim touched [
  | inl here ↦ over_range b r.0 r.1 i (byte_at (fills b rs) i below) here.0 here.1
  | inr rest ↦ ap (byte_over r.0 (replicate r.1 b) i) (fills_touched b rs i below rest) ∙ over_same b r.0 r.1 i
]

fills_untouched : (b : ℕ) (rs : List (ℕ × ℕ)) (i below : ℕ) → IsUntouched rs i → byte_at (fills b rs) i below ≡ below
fills_untouched b [] i below untouched = refl
fills_untouched b (r ∷ rs) i below untouched =
    byte_at-push (fills b rs) (r.0, replicate r.1 b) i below
    ∙ over_outside b r.0 r.1 i (byte_at (fills b rs) i below) untouched.0
    ∙ fills_untouched b rs i below untouched.1

small : (b : ℕ) → b < 256 → min b 255 ≡ b
small b less = omega arith

-- what lies below the last piece, and the last piece
abbrev under : ℕ → File → SparseFile → List (ℕ × List ℕ)
under b f newest = newest.pieces ++ fills b f.touched

abbrev past_end : ℕ → ℕ → SparseFile → ℕ × List ℕ
past_end b from newest = (from, replicate (newest.len - from) b)

-- the layout that is laid over the newest one
pub torn_is : (b from : ℕ) (f : File) (newest torn : SparseFile) → b < 256 → sparse_bytes newest ≡ f.now → from ≡ length f.base
    → torn ≡ record { len = newest.len; pieces = (newest.pieces ++ fills b f.touched) ++ (from, replicate (newest.len - from) b) ∷ [] } → IsTorn b f (sparse_bytes torn)
torn_is b from f newest torn less now_is from_is is = record {
  size = size;
  torn = λ i within any. elim (cases_lt i from) [
    | inl below ↦ shown i within ∙ ap as_byte (byte_at-push (under b f newest) (past_end b from newest) i 0 ∙ over_outside b from (newest.len - from) i (byte_at (under b f newest) i 0) (inl below) ∙ byte_at-append newest.pieces (fills b f.touched) i 0
        ∙ elim any [
          | inl touched ↦ fills_touched b f.touched i (byte_at newest.pieces i 0) touched
          | inr past ↦ absurd (omega (arith, from_is))
        ]) ∙ small b less
    | inr past ↦ shown i within ∙ ap as_byte (byte_at-push (under b f newest) (past_end b from newest) i 0 ∙ over_range b from (newest.len - from) i (byte_at (under b f newest) i 0) past (let e : i < from + (newest.len - from) = omega (arith, inside i within) in e)) ∙ small b less
  ];
  kept = λ i within untouched old.
      let below : i < from = omega (arith, from_is) in
      shown i within
      ∙ ap as_byte (byte_at-push (under b f newest) (past_end b from newest) i 0 ∙ over_outside b from (newest.len - from) i (byte_at (under b f newest) i 0) (inl below) ∙ byte_at-append newest.pieces (fills b f.touched) i 0 ∙ fills_untouched b f.touched i (byte_at newest.pieces i 0) untouched)
      ∙ sym (shows_sparse newest.len newest.pieces i (let e : i < length (sparse_bytes newest) = omega (arith, inside i within, length-sparse newest.len newest.pieces) in e))
      ∙ ap (λ (l : List ℕ). get_or l i 0) now_is;
}
  where
    size : length (sparse_bytes torn) ≡ length f.now
    size = length-sparse torn.len torn.pieces ∙ ap (λ (l : SparseFile). l.len) is ∙ sym (length-sparse newest.len newest.pieces) ∙ ap length now_is

    inside : (i : ℕ) → i < length (sparse_bytes torn) → i < newest.len
    inside i within = omega (arith, length-sparse torn.len torn.pieces, ap (λ (l : SparseFile). l.len) is)

    shown : (i : ℕ) → i < length (sparse_bytes torn) → get_or (sparse_bytes torn) i 0 ≡ as_byte (byte_at ((newest.pieces ++ fills b f.touched) ++ (from, replicate (newest.len - from) b) ∷ []) i 0)
    shown i within = shows_sparse torn.len torn.pieces i within ∙ ap (λ (l : SparseFile). as_byte (byte_at l.pieces i 0)) is

-- what a pick names is an image
pub picked_image : (pick : Pick) (f : File) (c : List ℕ) → AreBytes c → IsSound f → IsPicked pick f c → IsImage f c
picked_image Oldest f c octets sound is = record {
  size = inl (ap length is);
  bytes = λ i within old untouched. ap (λ (l : List ℕ). get_or l i 0) is;
  octets = octets;
}
picked_image Newest f c octets sound is = subst (IsImage f) (sym is) sound.present
picked_image (Torn b) f c octets sound is = record {
  size = elim sound.present.size [ inl same ↦ inl (is.size ∙ same) | inr had ↦ inr (subst (HadLength f.lens) (sym is.size) had) ];
  bytes = λ i within old untouched. is.kept i within untouched old ∙ sound.present.bytes i (omega (arith, is.size)) old untouched;
  octets = octets;
}
