-- Masks of as many bytes with the same bits are equal.
use Rattle.std.proofs.Common.{◌≡◌, ℕ, ◌+◌, ◌*◌, ◌/◌, ◌%◌, ◌^◌, ◌<◌, arith, ◌-◌, List, get_or, ◌∙◌, sym, length}
use Rattle.std.specs.Prelude.{nat_eq}
use Rattle.std.proofs.lemmas.Bool.Decides.{nat_tests}
use Rattle.std.proofs.lemmas.List.{ext_get_or}
use Rattle.raster_cells.specs.Masks.{mask_bit}

-- a byte is its eight bits
eight_bits : (b : ℕ) → b < 256
    → b ≡ 128 * (b / 2 ^ 7 % 2) + (64 * (b / 2 ^ 6 % 2) + (32 * (b / 2 ^ 5 % 2) + (16 * (b / 2 ^ 4 % 2) + (8 * (b / 2 ^ 3 % 2) + (4 * (b / 2 ^ 2 % 2) + (2 * (b / 2 ^ 1 % 2) + b / 2 ^ 0 % 2))))))
eight_bits b low = omega arith

one_bit : (x y : ℕ) → nat_eq (x % 2) 1 ≡ nat_eq (y % 2) 1 → x % 2 ≡ y % 2
one_bit x y e = grind (arith, nat_tests, e)

-- bit number j of byte number i
bit_in : (a b : List ℕ) → ((k : ℕ) → mask_bit a k ≡ mask_bit b k) → (i j n : ℕ) → j < 8 → n ≡ 7 - j → get_or a i 0 / 2 ^ n % 2 ≡ get_or b i 0 / 2 ^ n % 2
bit_in a b same i j n low e =
    one_bit (get_or a i 0 / 2 ^ n) (get_or b i 0 / 2 ^ n)
    ((λ t. nat_eq (get_or a (byte t) 0 / 2 ^ power t % 2) 1) ∙ same (i * 8 + j) ∙ sym (λ t. nat_eq (get_or b (byte t) 0 / 2 ^ power t % 2) 1))
  where
    byte : i ≡ (i * 8 + j) / 8
    byte = omega arith

    power : n ≡ 7 - (i * 8 + j) % 8
    power = omega arith

same_byte : (a b : List ℕ) → ((k : ℕ) → get_or a k 0 < 256) → ((k : ℕ) → get_or b k 0 < 256) → ((k : ℕ) → mask_bit a k ≡ mask_bit b k) → (i : ℕ) → get_or a i 0 ≡ get_or b i 0
same_byte a b la lb same i =
    let bit = bit_in a b same i in
    eight_bits (get_or a i 0) (la i)
    ∙ (λ t. 128 * bit 0 7 (omega arith) (omega arith) t + (64 * bit 1 6 (omega arith) (omega arith) t + (32 * bit 2 5 (omega arith) (omega arith) t + (16 * bit 3 4 (omega arith) (omega arith) t
    + (8 * bit 4 3 (omega arith) (omega arith) t + (4 * bit 5 2 (omega arith) (omega arith) t + (2 * bit 6 1 (omega arith) (omega arith) t + bit 7 0 (omega arith) (omega arith) t)))))))
    ∙ sym (eight_bits (get_or b i 0) (lb i))

pub same_bytes : (a b : List ℕ) → length a ≡ length b → ((k : ℕ) → get_or a k 0 < 256) → ((k : ℕ) → get_or b k 0 < 256) → ((k : ℕ) → mask_bit a k ≡ mask_bit b k) → a ≡ b
same_bytes a b long la lb same = ext_get_or 0 a b long (λ i low. same_byte a b la lb same i)
