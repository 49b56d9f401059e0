-- Headers, by their fields.
use Rattle.std.proofs.Common.{◌≡◌, ◌⊎◌, inl, inr, refl, ℕ, ◌+◌, ◌-◌, ◌<◌, ◌≤◌, max, List, ◌++◌, length, get_or, take, drop, sym, ◌∙◌, ap, arith}
use Rattle.std.proofs.lemmas.List.{places}
use Rattle.byteorder.specs.Endian.{little_bytes}
use Rattle.bundle_index.specs.Header.{HasHeader, fresh_header, header_after, slack_after}
use Rattle.bundle_index.specs.Numbers.{u32_at}
use Rattle.bundle_index.proofs.Numbers.{same_u32}

pub length-fresh_header : (greatest size : ℕ) → length (fresh_header greatest size) ≡ 64
unfolding fresh_header
length-fresh_header greatest size = refl

length-join : (n k m : ℕ) (h a r : List ℕ) → length a ≡ k → n + k + m ≤ length h → length (take n h ++ (a ++ (take m (drop (n + k) h) ++ r))) ≡ n + k + m + length r
length-join n k m h a r long within = grind (arith, places)

pub kept_front : (n i : ℕ) (h r : List ℕ) → i < n → n ≤ length h → get_or (take n h ++ r) i 0 ≡ get_or h i 0
kept_front n i h r lt within = grind (arith, places)

pub kept_mid : (n k m i t : ℕ) (h a r : List ℕ) → length a ≡ k → n + k + m ≤ length h → i < m → t ≡ n + k + i → get_or (take n h ++ (a ++ (take m (drop (n + k) h) ++ r))) t 0 ≡ get_or h t 0
kept_mid n k m i t h a r long within lt is = grind (arith, places)

length-rest : (n : ℕ) (h b c : List ℕ) → length (b ++ (c ++ drop n h)) ≡ length b + (length c + (length h - n))
length-rest n h b c = grind (arith, places)

pub length-header_after : (h : List ℕ) (old size long : ℕ) → length h ≡ 64 → length (header_after h old size long) ≡ 64
unfolding header_after
length-header_after h old size long is =
    length-join 8 4 4 h (little_bytes 4 (max (u32_at h 8) size)) (little_bytes 8 (slack_after h old) ++ (little_bytes 8 long ++ drop 32 h)) refl (omega arith)
    ∙ ap (λ (n : ℕ). 16 + n) (length-rest 32 h (little_bytes 8 (slack_after h old)) (little_bytes 8 long)) ∙ omega (arith, is)

-- what a reader requires is asked of the first 16 bytes alone
pub same_has : (xs ys : List ℕ) → ((i : ℕ) → i < 16 → get_or xs i 0 ≡ get_or ys i 0) → HasHeader xs → HasHeader ys
same_has xs ys same has = record {
  version = same_u32 ys xs 0 0 (λ i lt. sym (same (0 + i) (omega arith))) ∙ has.version;
  records = same_u32 ys xs 4 4 (λ i lt. sym (same (4 + i) (omega arith))) ∙ has.records;
  offset_bytes = same_u32 ys xs 12 12 (λ i lt. sym (same (12 + i) (omega arith))) ∙ has.offset_bytes;
}

-- the first 16 bytes but for the greatest size stay
kept : (h a r : List ℕ) → length h ≡ 64 → length a ≡ 4 → (i : ℕ) → (i < 8) ⊎ ((12 ≤ i) × (i < 16)) → get_or h i 0 ≡ get_or (take 8 h ++ (a ++ (take 4 (drop 12 h) ++ r))) i 0
kept h a r size la i where_ = elim where_ [
  | inl front ↦ sym (kept_front 8 i h (a ++ (take 4 (drop 12 h) ++ r)) front (omega arith))
  | inr mid ↦ sym (kept_mid 8 4 4 (i - 12) i h a r la (omega arith) (omega (arith, mid.0, mid.1)) (omega (arith, mid.0)))
]

-- a put keeps what a reader requires
pub after_has : (h : List ℕ) (old size long : ℕ) → length h ≡ 64 → HasHeader h → HasHeader (header_after h old size long)
unfolding header_after
after_has h old size long is has =
    let r = little_bytes 8 (slack_after h old) ++ (little_bytes 8 long ++ drop 32 h) in
    let a = little_bytes 4 (max (u32_at h 8) size) in
    record {
      version = sym (same_u32 h _ 0 0 (λ i lt. kept h a r is refl (0 + i) (inl (omega arith)))) ∙ has.version;
      records = sym (same_u32 h _ 4 4 (λ i lt. kept h a r is refl (4 + i) (inl (omega arith)))) ∙ has.records;
      offset_bytes = sym (same_u32 h _ 12 12 (λ i lt. kept h a r is refl (12 + i) (inr (omega arith, omega arith)))) ∙ has.offset_bytes;
    }

pub fresh_has : (greatest size : ℕ) (rest : List ℕ) → HasHeader (fresh_header greatest size ++ rest)
unfolding fresh_header u32_at
fresh_has greatest size rest = record { version = refl; records = refl; offset_bytes = refl }
