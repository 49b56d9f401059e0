-- Words as lanes of 32 bits.
use Rattle.std.proofs.Common.{◌≡◌, ℕ, ◌+◌, ◌*◌, ◌<◌, ◌≤◌, ◌%◌, ◌/◌, suc, List, [], ◌∷◌, ◌++◌, length, get_or, take, replicate, ap, ◌∙◌, arith, w8}
use lib.Lanes.{chunk, pick_l, number_l, digits_l}
use mir.Val.{Fits}
use Rattle.lerc_header.specs.Checksum.{words}

-- the lane of a word: its lower byte, its higher byte, and two zeros
lane_more : (n hi lo : ℕ) (xs : List ℕ) → hi < 256 → lo < 256 → digits_l 4294967296 (suc n) (number_l 256 (lo ∷ hi ∷ 0 ∷ 0 ∷ xs)) ≡ (256 * hi + lo) ∷ digits_l 4294967296 n (number_l 256 xs)
lane_more n hi lo xs h k =
    let rest = number_l 256 xs in
    let is : number_l 256 (lo ∷ hi ∷ 0 ∷ 0 ∷ xs) ≡ 4294967296 * rest + (256 * hi + lo) = omega arith in
    let low : number_l 256 (lo ∷ hi ∷ 0 ∷ 0 ∷ xs) % 4294967296 ≡ 256 * hi + lo = omega (arith, is) in
    let high : number_l 256 (lo ∷ hi ∷ 0 ∷ 0 ∷ xs) / 4294967296 ≡ rest = omega (arith, is) in
    λ i. low i ∷ digits_l 4294967296 n (high i)

-- the lanes of eight bytes
pub lanes_are_words : (bytes : List ℕ) → 8 ≤ length bytes → ((k : ℕ) → Fits w8 (get_or bytes k 0))
    → digits_l 4294967296 4 (number_l 256 (pick_l 0 (chunk 0 8 bytes ++ replicate 8 0) (1 ∷ 0 ∷ 8 ∷ 8 ∷ 3 ∷ 2 ∷ 8 ∷ 8 ∷ 5 ∷ 4 ∷ 8 ∷ 8 ∷ 7 ∷ 6 ∷ 8 ∷ 8 ∷ []))) ≡ take 4 (words bytes)
lanes_are_words (a ∷ b ∷ c ∷ d ∷ e ∷ f ∷ g ∷ h ∷ bytes) long fit =
    lane_more 3 a b (d ∷ c ∷ 0 ∷ 0 ∷ f ∷ e ∷ 0 ∷ 0 ∷ h ∷ g ∷ 0 ∷ 0 ∷ []) (fit 0).fits (fit 1).fits
    ∙ ap (λ ws. (256 * a + b) ∷ ws) (lane_more 2 c d (f ∷ e ∷ 0 ∷ 0 ∷ h ∷ g ∷ 0 ∷ 0 ∷ []) (fit 2).fits (fit 3).fits)
    ∙ ap (λ ws. (256 * a + b) ∷ (256 * c + d) ∷ ws) (lane_more 1 e f (h ∷ g ∷ 0 ∷ 0 ∷ []) (fit 4).fits (fit 5).fits)
    ∙ ap (λ ws. (256 * a + b) ∷ (256 * c + d) ∷ (256 * e + f) ∷ ws) (lane_more 0 g h [] (fit 6).fits (fit 7).fits)
lanes_are_words (a ∷ b ∷ c ∷ d ∷ e ∷ f ∷ g ∷ []) long fit = absurd (omega (arith, long))
lanes_are_words (a ∷ b ∷ c ∷ d ∷ e ∷ f ∷ []) long fit = absurd (omega (arith, long))
lanes_are_words (a ∷ b ∷ c ∷ d ∷ e ∷ []) long fit = absurd (omega (arith, long))
lanes_are_words (a ∷ b ∷ c ∷ d ∷ []) long fit = absurd (omega (arith, long))
lanes_are_words (a ∷ b ∷ c ∷ []) long fit = absurd (omega (arith, long))
lanes_are_words (a ∷ b ∷ []) long fit = absurd (omega (arith, long))
lanes_are_words (a ∷ []) long fit = absurd (omega (arith, long))
lanes_are_words [] long fit = absurd (omega (arith, long))
