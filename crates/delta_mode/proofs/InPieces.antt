-- What a piece of a row is of the whole depth.
use Rattle.std.proofs.Common.{◌≡◌, ℕ, zero, suc, ℤ, ◌+◌, ◌-◌, ◌%◌, ◌<◌, ◌≤◌, Bool, true, false, ◌&&◌, nat_lt, sym, ap, ◌∙◌, arith, inl, inr}
use Rattle.std.proofs.lemmas.Bool.{cases_lt}
use Rattle.std.proofs.lemmas.Bool.Decides.{nat_tests}
use Rattle.delta_mode.specs.Deltas.{has_left, has_upper, last_value}
use Rattle.delta_mode.specs.inside.Pieces.{left_of}
use Rattle.delta_mode.proofs.Predictors.{mod_positive}

-- a piece of n pixels of a row, from pixel number `place` on: what is known of it, and what is kept in front of it
pub record InPiece (cols place n : ℕ) (valid : ℕ → Bool) (value : ℕ → ℤ) (left : Bool) (before : ℤ) (mark up : ℕ → Bool) (above now : ℕ → ℤ) : Type 0 where
  pub some : 0 < cols
  pub within : place % cols + n ≤ cols
  pub left_is : left ≡ has_left cols valid place
  pub before_is : before ≡ last_value valid value place
  pub marks : (i : ℕ) → i < n → mark i ≡ valid (place + i)
  pub ups : (i : ℕ) → i < n → up i ≡ has_upper cols valid (place + i)
  pub aboves : (i : ℕ) → i < n → up i ≡ true → above i ≡ value (place + i - cols)
  pub nows : (i : ℕ) → i < n → mark i ≡ true → now i ≡ value (place + i)

pub column : (place i cols : ℕ) → 0 < cols → place % cols + i < cols → (place + i) % cols ≡ place % cols + i
column place i cols some lt = grind arith

nat_lt_true : (m : ℕ) → 0 < m → nat_lt 0 m ≡ true
nat_lt_true m lt = grind (arith, nat_tests)

nat_lt_false : (m : ℕ) → m ≡ 0 → nat_lt 0 m ≡ false
nat_lt_false m e = grind (arith, nat_tests)

module _ {cols place n : ℕ} {valid : ℕ → Bool} {value : ℕ → ℤ} {left : Bool} {before : ℤ} {mark up : ℕ → Bool} {above now : ℕ → ℤ} (h : InPiece cols place n valid value left before mark up above now) where
  pub piece_left : (i : ℕ) → i < n → has_left cols valid (place + i) ≡ left_of left mark i
  piece_left zero lt = let e : place + 0 ≡ place = omega arith in ap (has_left cols valid) e ∙ sym h.left_is
  piece_left (suc i) lt =
      let at = column place (suc i) cols h.some (omega (arith, lt, h.within)) in
      let above : 0 < (place + suc i) % cols = omega (arith, at) in
      let e : place + suc i - 1 ≡ place + i = omega arith in
      ap (λ b. b && valid (place + suc i - 1)) (nat_lt_true ((place + suc i) % cols) above) ∙ ap valid e ∙ sym (h.marks i (omega (arith, lt)))

-- what is kept tells whether the pixel to the left is valid
pub kept_left : (cols place : ℕ) (valid : ℕ → Bool) (left : Bool) → 0 < cols → (0 < place → left ≡ valid (place - 1)) → nat_lt 0 (place % cols) && left ≡ has_left cols valid place
kept_left cols place valid left some kept = elim (cases_lt 0 (place % cols)) [
  | inl lt ↦ ap (λ b. nat_lt 0 (place % cols) && b) (kept (mod_positive place cols lt))
  | inr ge ↦
      let none : nat_lt 0 (place % cols) ≡ false = nat_lt_false (place % cols) (omega (arith, ge)) in
      ap (λ b. b && left) none ∙ sym (ap (λ b. b && valid (place - 1)) none)
]
