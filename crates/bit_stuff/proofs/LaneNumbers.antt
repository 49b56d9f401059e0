-- Numbers read by lanes of 32 bits.
use Rattle.std.proofs.Common.{◌≡◌, ℕ, ◌+◌, ◌-◌, ◌*◌, ◌/◌, ◌%◌, ◌^◌, ◌<◌, ◌≤◌, List, [], ◌∷◌, length, get_or, take, drop, slice_index, replicate, refl, sym, ap, ◌∙◌, arith, inl, inr, w8}
use Rattle.std.proofs.lemmas.Bool.{cases_lt}
use Rattle.std.proofs.lemmas.List.{ext_get_or, length-drop}
use Rattle.std.proofs.lemmas.Nat.{mul-le, field_of, mod_low, pow_pos, shl-shr, shr-shr, mod-pow-add, mul-mod_first}
use Rattle.std.proofs.lemmas.Simd.{swz_l, SwzOk, SwzOk-from_below, Each1-from_get_or, length-chunk, get_or-chunk, length-swz_l, get_or-swz_l_below, get_or_wider, get_or-zip2, length-zip2, get_or-replicate, length-replicate, get_or-put_chunk_below, get_or-put_chunk_at}
use lib.Lanes.{Each1, chunk, put_chunk, zip2, number_l, digits_l}
use Rattle.bit_stuff.specs.Stuffed.{field_at, number_of_bytes}
use Rattle.bit_stuff.proofs.Numbers.{number-nil, number-cons, number-take, number-drop, bytes_drop}

-- ---- one lane

-- of a lane's 32 bits, moved up to the lane's end and down again, those from s on are left
low_zero : (x t : ℕ) → x * 2 ^ t % 2 ^ t ≡ 0
low_zero x t =
    let more : x * 2 ^ t ≡ x * 2 ^ t + 0 = omega arith in
    ap (λ (n : ℕ). n % 2 ^ t) more ∙ mod_low x t 0 (pow_pos t)

pub lane_field : (x w s : ℕ) → w + s ≤ 32 → (x % 2 ^ 32 * 2 ^ (32 - w - s)) % 2 ^ 32 / 2 ^ (32 - w) ≡ x / 2 ^ s % 2 ^ w
lane_field x w s h =
    let t = 32 - w - s in
    let whole : 32 ≡ w + s + t = omega (arith, h) in
    let down : 32 - w ≡ t + s = omega (arith, h) in
    let up : x * 2 ^ t % 2 ^ (w + s + t) ≡ x % 2 ^ (w + s) * 2 ^ t =
    mod-pow-add (x * 2 ^ t) (w + s) t ∙ ap (λ n. n % 2 ^ (w + s) * 2 ^ t + x * 2 ^ t % 2 ^ t) (shl-shr x t) ∙ omega (arith, low_zero x t) in
    ap (λ n. n / 2 ^ (32 - w)) (mul-mod_first x (2 ^ t) (2 ^ 32) ∙ ap (λ n. x * 2 ^ t % 2 ^ n) whole ∙ up)
    ∙ ap (λ n. x % 2 ^ (w + s) * 2 ^ t / 2 ^ n) down
    ∙ sym (shr-shr (x % 2 ^ (w + s) * 2 ^ t) t s)
    ∙ ap (λ n. n / 2 ^ s) (shl-shr (x % 2 ^ (w + s)) t)
    ∙ field_of x w s

-- the number of four bytes
number_l_is : (xs : List ℕ) → number_l 256 xs ≡ number_of_bytes xs
number_l_is [] = sym number-nil
number_l_is (x ∷ xs) = ap (λ n. x + 256 * n) (number_l_is xs) ∙ sym (number-cons x xs)

four_bytes : (bytes : List ℕ) (at : ℕ) → at + 4 ≤ length bytes → ((i : ℕ) → slice_index bytes i < 256) → number_l 256 (chunk at 4 bytes) ≡ number_of_bytes bytes / 2 ^ (8 * at) % 2 ^ 32
four_bytes bytes at room are =
    number_l_is (chunk at 4 bytes)
    ∙ number-take 4 (drop at bytes) (omega (arith, length-drop at bytes, room)) (bytes_drop at bytes are)
    ∙ ap (λ n. n % 2 ^ 32) (number-drop at bytes (omega arith) are)

-- ---- the bytes of each lane

-- where the bytes of four lanes stand, each `w` bits behind the one before it
pub record StandAt (phase w : ℕ) (places : List ℕ) : Type 0 where
  pub long : length places ≡ 16
  pub stand : (i : ℕ) → i < 16 → slice_index places i ≡ (phase + w * (i / 4)) / 8 + i % 4

-- a lane begins in one of the first thirteen bytes
first_byte : (phase w k : ℕ) → phase < 8 → w ≤ 25 → k < 4 → (phase + w * k) / 8 + 4 ≤ 16
first_byte phase w k h narrow lt =
    let wide = mul-le w k 25 3 narrow (omega (arith, lt)) in
    omega (arith, wide, h)

below_sixteen : (phase w : ℕ) (places : List ℕ) → phase < 8 → w ≤ 25 → StandAt phase w places → (i : ℕ) → i < 16 → get_or places i 0 < 16
below_sixteen phase w places h narrow are i lt = omega (arith, are.stand i lt, first_byte phase w (i / 4) h narrow (omega (arith, lt)))

pub places_are_lawful : (phase w : ℕ) (places : List ℕ) → phase < 8 → w ≤ 25 → StandAt phase w places → SwzOk w8 16 16 0 places
places_are_lawful phase w places h narrow are =
    SwzOk-from_below w8 16 1 16 0 places refl (omega (arith, are.long))
    (Each1-from_get_or (λ j. j < 16) places 0 (λ i lt. below_sixteen phase w places h narrow are i (omega (arith, are.long, lt))))

parts_are : (bytes places : List ℕ) (at phase w k : ℕ) → at + 16 ≤ length bytes → phase < 8 → w ≤ 25 → StandAt phase w places → k < 4
    → chunk (4 * k) 4 (swz_l w8 16 (take 16 (drop at bytes)) 0 places) ≡ chunk (at + (phase + w * k) / 8) 4 bytes
parts_are bytes places at phase w k room h narrow are lt =
    let xs = take 16 (drop at bytes) in
    let first = (phase + w * k) / 8 in
    let low : first + 4 ≤ 16 = first_byte phase w k h narrow lt in
    let a : length (chunk (4 * k) 4 (swz_l w8 16 xs 0 places)) ≡ 4 = length-chunk (4 * k) 4 (swz_l w8 16 xs 0 places) (omega (arith, length-swz_l w8 16 xs 0 places, are.long, lt)) in
    let b : length (chunk (at + first) 4 bytes) ≡ 4 = length-chunk (at + first) 4 bytes (omega (arith, low, room)) in
    ext_get_or 0 _ _ (a ∙ sym b) (λ j below.
    let four : j < 4 = omega (arith, below, a) in
    let i : ℕ = 4 * k + j in
    let under : i < 16 = omega (arith, four, lt) in
    let lane : i / 4 ≡ k = omega (arith, four) in
    let byte : i % 4 ≡ j = omega (arith, four) in
    let stands : get_or places i 0 ≡ first + j = are.stand i under ∙ ap (λ (n : ℕ). (phase + w * n) / 8 + i % 4) lane ∙ ap (λ (n : ℕ). first + n) byte in
    let index : 16 * ((0 + i) / 16) + get_or places i 0 ≡ first + j = omega (arith, stands, under) in
    let turned : at + (first + j) ≡ at + first + j = omega arith in
    get_or-chunk (4 * k) 4 (swz_l w8 16 xs 0 places) j 0 four
    ∙ get_or-swz_l_below w8 16 xs 0 places i (omega (arith, are.long, under)) (below_sixteen phase w places h narrow are i under)
    ∙ ap (λ (n : ℕ). get_or xs n 0) index
    ∙ get_or-chunk at 16 bytes (first + j) 0 (omega (arith, low, four))
    ∙ ap (λ (n : ℕ). get_or bytes n 0) turned
    ∙ sym (get_or-chunk (at + first) 4 bytes j 0 four))

-- ---- four lanes

parts_small : (bytes places : List ℕ) (at phase w : ℕ) → at + 16 ≤ length bytes → phase < 8 → w ≤ 25 → StandAt phase w places → ((i : ℕ) → slice_index bytes i < 256)
    → Each1 (λ x. x < 256) (swz_l w8 16 (take 16 (drop at bytes)) 0 places)
parts_small bytes places at phase w room h narrow are small =
    let xs = take 16 (drop at bytes) in
    Each1-from_get_or (λ x. x < 256) (swz_l w8 16 xs 0 places) 0 (λ i lt.
    let under : i < 16 = omega (arith, lt, length-swz_l w8 16 xs 0 places, are.long) in
    let place : get_or places i 0 < 16 = below_sixteen phase w places h narrow are i under in
    let index : 16 * ((0 + i) / 16) + get_or places i 0 ≡ get_or places i 0 = omega (arith, under) in
    let is : get_or (swz_l w8 16 xs 0 places) i 0 ≡ get_or bytes (at + get_or places i 0) 0 =
    get_or-swz_l_below w8 16 xs 0 places i (omega (arith, are.long, under)) place
    ∙ ap (λ (n : ℕ). get_or xs n 0) index
    ∙ get_or-chunk at 16 bytes (get_or places i 0) 0 place in
    omega (arith, is, small (at + get_or places i 0)))

-- lane k is the number that begins `w * k` bits behind the first one
pub lanes_are_numbers : (bytes places powers down : List ℕ) (at phase w : ℕ) → at + 16 ≤ length bytes → phase < 8 → w ≤ 25 → ((i : ℕ) → slice_index bytes i < 256)
    → StandAt phase w places → length powers ≡ 4 → ((k : ℕ) → k < 4 → slice_index powers k ≡ 2 ^ (32 - w - (phase + w * k) % 8))
    → down ≡ replicate 4 (32 - w)
    → (k : ℕ) → k < 4
    → slice_index (zip2 (λ (a b : ℕ). a / 2 ^ b) (zip2 (λ (a b : ℕ). a * b % 2 ^ 32) (digits_l 4294967296 4 (number_l 256 (swz_l w8 16 (take 16 (drop at bytes)) 0 places))) powers) down) k
    ≡ number_of_bytes bytes / 2 ^ (8 * at + phase + w * k) % 2 ^ w
lanes_are_numbers bytes places powers down at phase w room h narrow small are four stand same k lt =
    let xs = swz_l w8 16 (take 16 (drop at bytes)) 0 places in
    let lanes = digits_l 4294967296 4 (number_l 256 xs) in
    let number = number_of_bytes bytes in
    let first = (phase + w * k) / 8 in
    let s = (phase + w * k) % 8 in
    let x = number / 2 ^ (8 * (at + first)) in
    let lane : get_or lanes k 0 ≡ x % 2 ^ 32 =
    get_or_wider 256 4 4294967296 4 xs k refl (parts_small bytes places at phase w room h narrow are small) lt
    ∙ ap (number_l 256) (parts_are bytes places at phase w k room h narrow are lt)
    ∙ four_bytes bytes (at + first) (omega (arith, room, first_byte phase w k h narrow lt)) small in
    let long : length (zip2 (λ (a b : ℕ). a * b % 2 ^ 32) lanes powers) ≡ 4 = length-zip2 (λ (a b : ℕ). a * b % 2 ^ 32) lanes powers (sym four) in
    let shifts : length down ≡ 4 = ap length same ∙ length-replicate 4 (32 - w) in
    let fits : w + s ≤ 32 = omega (arith, narrow) in
    let place : 8 * (at + first) + s ≡ 8 * at + phase + w * k = omega arith in
    get_or-zip2 (λ (a b : ℕ). a / 2 ^ b) (zip2 (λ (a b : ℕ). a * b % 2 ^ 32) lanes powers) down k 0 0 0 (omega (arith, long, lt)) (omega (arith, shifts, lt))
    ∙ ap (λ (n : ℕ). n / 2 ^ get_or down k 0) (get_or-zip2 (λ (a b : ℕ). a * b % 2 ^ 32) lanes powers k 0 0 0 lt (omega (arith, four, lt)))
    ∙ ap (λ (n : ℕ). get_or lanes k 0 * get_or powers k 0 % 2 ^ 32 / 2 ^ n) (ap (λ (ds : List ℕ). get_or ds k 0) same ∙ get_or-replicate 4 k (32 - w) 0 lt)
    ∙ ap (λ (n : ℕ). n * get_or powers k 0 % 2 ^ 32 / 2 ^ (32 - w)) lane
    ∙ ap (λ (n : ℕ). x % 2 ^ 32 * n % 2 ^ 32 / 2 ^ (32 - w)) (stand k lt)
    ∙ lane_field x w s fits
    ∙ ap (λ (n : ℕ). n % 2 ^ w) (shr-shr number (8 * (at + first)) s)
    ∙ ap (λ (n : ℕ). number / 2 ^ n % 2 ^ w) place

-- ---- numbers that are written behind the first ones

pub four_more : (w number done place : ℕ) (out lanes : List ℕ) → place ≡ w * done → done + 4 ≤ length out → length lanes ≡ 4
    → ((k : ℕ) → k < 4 → slice_index lanes k ≡ number / 2 ^ (place + w * k) % 2 ^ w)
    → ((k : ℕ) → k < done → slice_index out k ≡ field_at w number k)
    → (k : ℕ) → k < done + 4 → slice_index (put_chunk done out lanes) k ≡ field_at w number k
four_more w number done place out lanes begins room four are before k lt = elim (cases_lt k done) [
  | inl below ↦ get_or-put_chunk_below done out lanes k 0 below ∙ before k below
  | inr past ↦
      let j : ℕ = k - done in
      let index : done + j ≡ k = omega (arith, past) in
      let under : j < 4 = omega (arith, lt, past) in
      let bit : place + w * j ≡ w * k = omega (arith, begins, ap (λ (n : ℕ). w * n) index) in
      ap (λ (n : ℕ). get_or (put_chunk done out lanes) n 0) (sym index)
      ∙ get_or-put_chunk_at done out lanes j 0 (omega (arith, four, under)) (omega (arith, four, room))
      ∙ are j under
      ∙ ap (λ (n : ℕ). number / 2 ^ n % 2 ^ w) bit
]
