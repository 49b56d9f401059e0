-- The product and the shift that stand for a division by a step.
use Rattle.std.proofs.Common.{◌≡◌, ℕ, ◌+◌, ◌-◌, ◌*◌, ◌/◌, ◌%◌, ◌^◌, ◌<◌, ◌≤◌, subst, arith}
use Rattle.std.proofs.Math.Nat.{pow-le-pow_right}
use Rattle.micro_block.specs.inside.Products.{IsProduct}
use Rattle.micro_block.proofs.Fast.{by_product_at}

-- the product for a step
pub is_product : (s d : ℕ) → 0 < s → d ≤ 31 → s ≤ 1 * 2 ^ d % 18446744073709551616 → (1 * 2 ^ (31 + d) % 18446744073709551616 + s - 1) / s ≤ 4294967295
    → IsProduct s (record { factor = (1 * 2 ^ (31 + d) % 18446744073709551616 + s - 1) / s; shift = 31 + d; limit = 2147483648 })
is_product s d some few fits small =
    let low : 2 ^ d ≤ 2 ^ 31 = pow-le-pow_right (omega arith) few in
    let most : 31 + d ≤ 62 = omega (arith, few) in
    let high : 2 ^ (31 + d) ≤ 2 ^ 62 = pow-le-pow_right (omega arith) most in
    let e : 2 ^ (31 + d) ≡ 1 * 2 ^ (31 + d) % 18446744073709551616 = omega (arith, high) in
    let f : s ≤ 2 ^ d = omega (arith, low, fits) in
    record {
      factor_fits = small;
      shift_fits = omega (arith, few);
      limit_fits = omega arith;
      same = λ x h. subst (λ (p : ℕ). x * ((p + s - 1) / s) / 2 ^ (31 + d) ≡ x / s) e (by_product_at x s d some f h);
    }
