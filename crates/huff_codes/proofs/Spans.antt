-- Codes as spans of the words of 32 bits: two spans are apart exactly where neither code is the front of the other.
use Rattle.std.proofs.Common.{◌≡◌, ℕ, ◌+◌, ◌-◌, ◌*◌, ◌/◌, ◌%◌, ◌^◌, ◌<◌, ◌≤◌, ◌⊎◌, take, sym, ap, ◌∙◌, inl, inr, arith}
use Rattle.std.proofs.lemmas.Bool.{cases_lt}
use Rattle.std.proofs.lemmas.Nat.{pow-add, pow_pos, shr_high, shr_split, mod_low}
use Rattle.huff_codes.specs.Bits.{bits_of, BeginsWith}
use Rattle.huff_codes.proofs.BitLists.{begins_from_top}

-- a place that lies in the span of q has q as its quotient
pub in_span : (k a b : ℕ) → a % 2 ^ k ≡ 0 → a ≤ b → b < a + 2 ^ k → b / 2 ^ k ≡ a / 2 ^ k
in_span k a b aligned le lt =
    let q = a / 2 ^ k in
    let is : q * 2 ^ k ≡ a = omega (arith, shr_split a k) in
    let low : b - a < 2 ^ k = omega arith in
    let split : b ≡ q * 2 ^ k + (b - a) = omega arith in
    ap (λ (x : ℕ). x / 2 ^ k) split ∙ shr_high q k (b - a) low

-- what is a multiple of a greater power is one of the lesser
coarser : (k j b : ℕ) → b % 2 ^ (j + k) ≡ 0 → b % 2 ^ k ≡ 0
coarser k j b h =
    let split : b / 2 ^ (j + k) * 2 ^ (j + k) ≡ b = omega (arith, shr_split b (j + k)) in
    let pow : 2 ^ (j + k) ≡ 2 ^ j * 2 ^ k = pow-add 2 j k in
    let is : b ≡ (b / 2 ^ (j + k) * 2 ^ j) * 2 ^ k + 0 = omega (arith, split, ap (λ (x : ℕ). b / 2 ^ (j + k) * x) pow) in
    ap (λ (x : ℕ). x % 2 ^ k) is ∙ mod_low (b / 2 ^ (j + k) * 2 ^ j) k 0 (pow_pos k)

same_aligned : (k a b : ℕ) → a % 2 ^ k ≡ 0 → b % 2 ^ k ≡ 0 → a ≤ b → b < a + 2 ^ k → a ≡ b
same_aligned k a b p q le lt =
    let e : b / 2 ^ k ≡ a / 2 ^ k = in_span k a b p le lt in
    let f : b / 2 ^ k * 2 ^ k ≡ a / 2 ^ k * 2 ^ k = ap (λ (x : ℕ). x * 2 ^ k) e in
    omega (arith, f, shr_split a k, shr_split b k)

-- spans that meet are of codes of which one is the front of the other
pub meeting : (l m v w : ℕ) → l ≤ 32 → m ≤ 32 → v % 2 ^ (32 - l) ≡ 0 → w % 2 ^ (32 - m) ≡ 0 → v ≤ w → w < v + 2 ^ (32 - l)
    → BeginsWith (take m (bits_of 32 w)) (take l (bits_of 32 v)) ⊎ BeginsWith (take l (bits_of 32 v)) (take m (bits_of 32 w))
meeting l m v w low lower v_aligned w_aligned le lt = elim (cases_lt m l) [
  | inr longer ↦ inl (begins_from_top l m v w longer lower (in_span (32 - l) v w v_aligned le lt))
  | inl shorter ↦
      let k = 32 - l in
      let j = l - m in
      let sum : 32 - m ≡ j + k = omega arith in
      let w_too : w % 2 ^ k ≡ 0 = coarser k j w (ap (λ (x : ℕ). w % 2 ^ x) (sym sum) ∙ w_aligned) in
      let same : v ≡ w = same_aligned k v w v_aligned w_too le lt in
      inr (begins_from_top m l w v (omega arith) low (ap (λ (x : ℕ). x / 2 ^ (32 - m)) same))
]
