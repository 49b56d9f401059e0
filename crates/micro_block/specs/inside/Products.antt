-- Numbers of steps of distances, and a product and a shift that stand for a division.
use Rattle.std.specs.Prelude.{◌≡◌, ℕ, ℤ, pos, ◌+◌, ◌*◌, ◌/◌, ◌^◌, ◌<◌, ◌≤◌, ◌≤ℤ◌, List, All}
use Rattle.micro_block.specs.declared.stepping.Product.{Product}

-- how many steps a distance is, rounded to the nearest, halves upwards
abbrev pub rounded_steps : ℕ → ℕ → ℕ
rounded_steps step d = (2 * d + step) / (2 * step)

-- each is from 0 to this number
abbrev pub AreUpTo : ℕ → List ℤ → Type 0
AreUpTo reach distances = All (λ d. (pos 0 ≤ℤ d) × (d ≤ℤ pos reach)) distances

-- for numbers below the limit they do what a division by the step does
pub record IsProduct (step : ℕ) (p : Product) : Type 0 where
  pub factor_fits : p.factor ≤ 4294967295
  pub shift_fits : p.shift ≤ 62
  pub limit_fits : p.limit ≤ 4294967296
  pub same : (x : ℕ) → x < p.limit → x * p.factor / 2 ^ p.shift ≡ x / step
