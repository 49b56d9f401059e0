-- Corners that are the same, or differ.
use Rattle.std.proofs.Common.{◌≡◌, ◌≢◌, Bool, true, false, refl, ap, arith}
use Rattle.std.proofs.lemmas.Bool.Decides.{nat_tests}
use Rattle.level_cache.specs.Places.{Corner, same_corner}

pub same_is : (a b : Corner) → same_corner a b ≡ true → a ≡ b
same_is a b is = (let r : a.row ≡ b.row = grind (arith, nat_tests) in let c : a.col ≡ b.col = grind (arith, nat_tests) in λ i. record { row = r i; col = c i })

pub is_same : (a b : Corner) → a ≡ b → same_corner a b ≡ true
is_same a b is = (let r : a.row ≡ b.row = ap (λ (x : Corner). x.row) is in let c : a.col ≡ b.col = ap (λ (x : Corner). x.col) is in grind (arith, nat_tests))

pub by_bool : (t : Bool) → (P : Type 0) → (t ≡ true → P) → (t ≡ false → P) → P
by_bool true P is not = is refl
by_bool false P is not = not refl

pub not_same : (a b : Corner) → a ≢ b → same_corner a b ≡ false
not_same a b differs = by_bool (same_corner a b) (same_corner a b ≡ false) (λ is. absurd (differs (same_is a b is))) (λ is. is)
