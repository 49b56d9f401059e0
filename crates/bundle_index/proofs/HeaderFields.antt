-- The fields of new headers and of headers after a put.
use Rattle.std.proofs.Common.{◌≡◌, refl, ℕ, ◌+◌, ◌-◌, ◌^◌, ◌<◌, max, List, ◌++◌, length, get_or, take, drop, ◌∙◌, ap, arith, append_assoc}
use Rattle.std.proofs.lemmas.List.{places}
use Rattle.byteorder.specs.Endian.{little_bytes}
use Rattle.bundle_index.specs.Header.{HasFreshFields, IsHeaderAfter, fresh_header, header_after, slack_after}
use Rattle.bundle_index.specs.Numbers.{u32_at, u64_at}
use Rattle.bundle_index.proofs.Headers.{kept_front, kept_mid, length-header_after}
use Rattle.bundle_index.proofs.Numbers.{u32_back, u64_back}

pub fresh_fields : (greatest size : ℕ) → greatest < 2 ^ 32 → size < 2 ^ 64 → HasFreshFields (fresh_header greatest size) greatest size
unfolding fresh_header u32_at u64_at
fresh_fields greatest size small fits =
    let front : List ℕ = little_bytes 4 3 ++ little_bytes 4 16384 in
    let middle : List ℕ = front ++ (little_bytes 4 greatest ++ (little_bytes 4 5 ++ little_bytes 8 0)) in
    let tail : List ℕ = little_bytes 8 40 ++ (little_bytes 4 131092 ++ (little_bytes 4 3 ++ (little_bytes 4 16 ++ (little_bytes 4 16384 ++ (little_bytes 4 5 ++ little_bytes 4 131072))))) in
    record {
      long = refl;
      version = refl;
      records = refl;
      greatest_tile = u32_back front (little_bytes 4 5 ++ (little_bytes 8 0 ++ (little_bytes 8 size ++ tail))) greatest 8 refl small;
      offset_bytes = refl;
      slack = refl;
      file_size = u64_back middle tail size 24 refl fits;
      user_header_offset = refl;
      user_header_size = refl;
      first_legacy = refl;
      second_legacy = refl;
      third_legacy = refl;
      fourth_legacy = refl;
      index_size = refl;
    }

-- a byte behind five parts of known lengths
behind : (n k i t : ℕ) (f a h : List ℕ) → length f ≡ n → length a ≡ k → i ≡ n + k + t → get_or (f ++ (a ++ drop (n + k) h)) i 0 ≡ get_or h i 0
behind n k i t f a h lf la is = grind (arith, places)

pub after_fields : (h : List ℕ) (old size long : ℕ) → length h ≡ 64 → u32_at h 8 < 2 ^ 32 → size < 2 ^ 32 → long < 2 ^ 64 → IsHeaderAfter h old size long (header_after h old size long)
unfolding header_after
after_fields h old size long is most small fits =
    let a : List ℕ = little_bytes 4 (max (u32_at h 8) size) in
    let x : List ℕ = little_bytes 8 (slack_after h old) in
    let y : List ℕ = little_bytes 8 long in
    let rest : List ℕ = take 4 (drop 12 h) ++ (x ++ (y ++ drop 32 h)) in
    let at_16 : (b c : List ℕ) → take 8 h ++ (a ++ (take 4 (drop 12 h) ++ (b ++ c))) ≡ (take 8 h ++ (a ++ take 4 (drop 12 h))) ++ (b ++ c) = λ b c. simp append_assoc in
    let at_24 : (b c : List ℕ) → take 8 h ++ (a ++ (take 4 (drop 12 h) ++ (x ++ (b ++ c)))) ≡ (take 8 h ++ (a ++ (take 4 (drop 12 h) ++ x))) ++ (b ++ c) = λ b c. simp append_assoc in
    record {
      long = length-header_after h old size long is;
      greatest = u32_back (take 8 h) rest (max (u32_at h 8) size) 8 (grind (arith, places)) (omega arith);
      slack = ap (λ (l : List ℕ). u64_at l 16) (at_16 x (y ++ drop 32 h)) ∙ u64_back (take 8 h ++ (a ++ take 4 (drop 12 h))) (y ++ drop 32 h) (slack_after h old) 16 (grind (arith, places)) (omega arith);
      file_size = ap (λ (l : List ℕ). u64_at l 24) (at_24 y (drop 32 h)) ∙ u64_back (take 8 h ++ (a ++ (take 4 (drop 12 h) ++ x))) (drop 32 h) long 24 (grind (arith, places)) fits;
      front = λ i lt. kept_front 8 i h (a ++ rest) lt (omega arith);
      offset_bytes = λ i le lt. kept_mid 8 4 4 (i - 12) i h a (x ++ (y ++ drop 32 h)) refl (omega arith) (omega (arith, le, lt)) (omega (arith, le));
      rest = λ i le. ap (λ (l : List ℕ). get_or l i 0) (at_24 y (drop 32 h)) ∙ behind 24 8 i (i - 32) (take 8 h ++ (a ++ (take 4 (drop 12 h) ++ x))) y h (grind (arith, places)) refl (omega (arith, le));
    }
