-- Quotients that are at most a number.
use Rattle.std.proofs.Common.{ℤ, arith}
use Rattle.std.specs.Prelude.{pos, negsuc, ◌+ℤ◌, ◌*ℤ◌, ◌≤ℤ◌}
use Rattle.std.specs.Int.{int_div_euclid}
use Rattle.std.proofs.lemmas.Int.{ints}

pub four_below : (x g : ℤ) → x ≤ℤ ((pos 4 *ℤ g) +ℤ pos 3) → int_div_euclid x (pos 4) ≤ℤ g
four_below (pos a) (pos g) h = omega (arith, ints, h)
four_below (pos a) (negsuc g) h = omega (arith, ints, h)
four_below (negsuc a) (pos g) h = omega (arith, ints, h)
four_below (negsuc a) (negsuc g) h = omega (arith, ints, h)

pub six_below : (x g : ℤ) → x ≤ℤ ((pos 6 *ℤ g) +ℤ pos 5) → int_div_euclid x (pos 6) ≤ℤ g
six_below (pos a) (pos g) h = omega (arith, ints, h)
six_below (pos a) (negsuc g) h = omega (arith, ints, h)
six_below (negsuc a) (pos g) h = omega (arith, ints, h)
six_below (negsuc a) (negsuc g) h = omega (arith, ints, h)
