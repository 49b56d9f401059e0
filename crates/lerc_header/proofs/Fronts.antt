-- Numbers at a place depend on their own bytes alone.
use Rattle.std.proofs.Common.{◌≡◌, ℕ, ◌+◌, ◌*◌, ◌≤◌, zero, suc, List, ◌++◌, length, drop, refl, ap, ◌∙◌, arith}
use Rattle.std.specs.Prelude.{slice_index}
use Rattle.std.proofs.lemmas.List.{get_or_append_left, drop-append-le, length-drop}
use Rattle.byteorder.specs.Endian.{little_number, little_from, twos_complement}
use Rattle.lerc_header.specs.Head.{i32_at, u32_at, double_at}

little_from_front : (i n : ℕ) (xs ys : List ℕ) → i + n ≤ length xs → little_from i n (xs ++ ys) ≡ little_from i n xs
little_from_front i zero xs ys below = refl
little_from_front i (suc n) xs ys below =
    let first : slice_index (xs ++ ys) i ≡ slice_index xs i = get_or_append_left xs ys 0 i (omega (arith, below)) in
    let later : little_from (suc i) n (xs ++ ys) ≡ little_from (suc i) n xs = little_from_front (suc i) n xs ys (omega (arith, below)) in
    λ j. first j + 256 * later j

pub little_front : (n : ℕ) (xs ys : List ℕ) → n ≤ length xs → little_number n (xs ++ ys) ≡ little_number n xs
little_front n xs ys below = little_from_front 0 n xs ys (omega (arith, below))

pub little_front_at : (n place : ℕ) (xs ys : List ℕ) → place + n ≤ length xs → little_number n (drop place (xs ++ ys)) ≡ little_number n (drop place xs)
little_front_at n place xs ys below =
    ap (little_number n) (drop-append-le place xs ys (omega (arith, below))) ∙ little_front n (drop place xs) ys (omega (arith, below, length-drop place xs))

pub i32_front : (xs ys : List ℕ) (place : ℕ) → place + 4 ≤ length xs → i32_at (xs ++ ys) place ≡ i32_at xs place
unfolding i32_at
i32_front xs ys place below = ap (twos_complement 4) (little_front_at 4 place xs ys below)

pub u32_front : (xs ys : List ℕ) (place : ℕ) → place + 4 ≤ length xs → u32_at (xs ++ ys) place ≡ u32_at xs place
unfolding u32_at
u32_front xs ys place below = little_front_at 4 place xs ys below

pub double_front : (xs ys : List ℕ) (place : ℕ) → place + 8 ≤ length xs → double_at (xs ++ ys) place ≡ double_at xs place
unfolding double_at
double_front xs ys place below = little_front_at 8 place xs ys below
