-- Numbers of steps between distances, by each rule.
use Rattle.std.proofs.Common.{◌≡◌, ℕ, ◌+◌, ◌-◌, ◌*◌, ◌/◌, ◌^◌, ◌<◌, ◌≤◌, List, sym, ap, ◌∙◌, arith}
use Rattle.std.specs.Prelude.{All}
use Rattle.std.proofs.lemmas.List.Elements.{All-weaker}
use Rattle.std.proofs.lemmas.Nat.{div_below}
use Rattle.std.proofs.Math.Nat.{lt-div-mul-add, div-mul-le_self, mul-le-mul_left, mul-le-mul_right}
use Rattle.micro_block.specs.declared.stepping.Product.{Product}
use Rattle.micro_block.specs.inside.Products.{IsProduct}
use Rattle.micro_block.specs.inside.Stepping.{steps_above}
use Rattle.micro_block.proofs.Fast.{by_product, half}

-- a product and a shift by 32 do what a division does, as long as the number times the step is below 2 ^ 32
pub near_is_product : (s : ℕ) → 2 ≤ s → IsProduct s (record { factor = 4294967295 / s + 1; shift = 32; limit = 4294967295 / s + 1 })
near_is_product s two =
    let some : 0 < s = omega (arith, two) in
    let q = 4294967295 / s in
    let low : q * s ≤ 4294967295 = div-mul-le_self 4294967295 s in
    let high : 4294967295 < q * s + s = lt-div-mul-add some in
    let mul : (q + 1) * s ≡ q * s + s = omega arith in
    let more : q * 2 ≤ q * s = mul-le-mul_left q two in
    let fits : q + 1 ≤ 4294967295 = omega (arith, more, low) in
    record {
      factor_fits = fits;
      shift_fits = omega arith;
      limit_fits = omega (arith, fits);
      same = λ x below. by_product x s (q + 1) 4294967296 ((q + 1) * s - 4294967296) some (omega arith) (omega (arith, mul, high)) (small q low high mul x below);
    }
  where
    small : (q : ℕ) → q * s ≤ 4294967295 → 4294967295 < q * s + s → (q + 1) * s ≡ q * s + s → (x : ℕ) → x < q + 1 → x * ((q + 1) * s - 4294967296) < 4294967296
    small q low high mul x below =
        let e = (q + 1) * s - 4294967296 in
        let up : x * e ≤ q * e = mul-le-mul_right e (omega (arith, below)) in
        let less : e ≤ s = omega (arith, mul, low) in
        let most : q * e ≤ q * s = mul-le-mul_left q less in
        omega (arith, up, most, low)

-- twice the numbers, halved again
pub steps_even : (h l d : ℕ) → steps_above (2 * h) l d ≡ (d - l + h) / (2 * h)
steps_even h l d = ap (λ n. n / (2 * (2 * h))) (let t : 2 * (d - l) + 2 * h ≡ 2 * (d - l + h) = omega arith in t) ∙ half (d - l + h) (2 * h)

pub steps_shifted : (h l d k : ℕ) → 2 ^ k ≡ 2 * h → (d - l + h) / 2 ^ k ≡ steps_above (2 * h) l d
steps_shifted h l d k e = ap (λ n. (d - l + h) / n) e ∙ sym (steps_even h l d)

pub steps_multiplied : (h l d : ℕ) (p : Product) → IsProduct (2 * h) p → d - l + h < p.limit → (d - l + h) * p.factor / 2 ^ p.shift ≡ steps_above (2 * h) l d
steps_multiplied h l d p is near = is.same (d - l + h) near ∙ sym (steps_even h l d)

-- no more steps than the distance
pub steps_fit : (s l d : ℕ) → 0 < s → steps_above s l d ≤ d - l
steps_fit s l d some =
    let a = d - l in
    let more : a * 1 ≤ a * s = mul-le-mul_left a some in
    let twice : (a + 1) * (2 * s) ≡ 2 * (a * s) + 2 * s = omega arith in
    let below = div_below (2 * a + s) (2 * s) (a + 1) (omega (arith, some)) (omega (arith, more, twice, some)) in
    omega (arith, below)

pub step_whole : (s l d : ℕ) → s ≡ 1 → steps_above s l d ≡ d - l
step_whole s l d e = ap (λ n. (2 * (d - l) + n) / (2 * n)) e ∙ (let a = d - l in let t : (2 * a + 1) / (2 * 1) ≡ a = omega arith in t)

pub shift_near : (step least reach half shift : ℕ) (ds : List ℕ) → reach + half < 2 ^ 32 → All (λ d. d - least ≤ reach) ds → All (λ d. d - least + half < 2 ^ 32) ds
shift_near step least reach half shift ds fits near = All-weaker (λ d. d - least ≤ reach) (λ d. d - least + half < 2 ^ 32) (λ d h. omega (arith, h, fits)) ds near

pub multiply_near : (least reach half limit : ℕ) (ds : List ℕ) → reach + half < limit → All (λ d. d - least ≤ reach) ds → All (λ d. d - least + half < limit) ds
multiply_near least reach half limit ds fits near = All-weaker (λ d. d - least ≤ reach) (λ d. d - least + half < limit) (λ d h. omega (arith, h, fits)) ds near
