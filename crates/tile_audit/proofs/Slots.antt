-- The slots of a bundle that have a tile, in their order.
use Rattle.std.proofs.Common.{◌≡◌, ℕ, zero, suc, ◌+◌, ◌-◌, ◌<◌, ◌≤◌, true, List, [], ◌∷◌, ◌++◌, ap, ◌∙◌, arith}
use Rattle.std.specs.Prelude.{cond, filter, nat_lt}
use Rattle.std.specs.List.{range_with_len}
use Rattle.std.proofs.lemmas.Bool.Decides.{nat_tests}
use Rattle.std.proofs.lemmas.List.{append-nil}
use Rattle.std.proofs.lemmas.List.Elements.{filter-append}
use Rattle.bundle_index.specs.Entry.{entry_at}
use Rattle.tile_audit.specs.Audit.{slots_below}
use Rattle.tile_audit.specs.inside.Walks.{slots_between}

test_lt : (n m : ℕ) → n < m → nat_lt n m ≡ true
test_lt n m lt = grind (arith, nat_tests)

range_join : (a m n : ℕ) → range_with_len a (m + n) ≡ range_with_len a m ++ range_with_len (a + m) n
range_join a zero n =
    let none : 0 + n ≡ n = omega arith in
    let same : a ≡ a + 0 = omega arith in
    ap (λ k. range_with_len a k) none ∙ ap (λ k. range_with_len k n) same
range_join a (suc m) n =
    let one : suc m + n ≡ suc (m + n) = omega arith in
    let next : a + 1 + m ≡ a + suc m = omega arith in
    ap (λ k. range_with_len a k) one ∙ ap (λ l. a ∷ l) (range_join (a + 1) m n ∙ ap (λ k. range_with_len (a + 1) m ++ range_with_len k n) next)

-- those below a number, and then those from it on
pub below_join : (bundle : List ℕ) (from to : ℕ) → from ≤ to → slots_below bundle to ≡ slots_below bundle from ++ slots_between bundle from to
below_join bundle from to low =
    let some = λ (slot : ℕ). nat_lt 0 (entry_at bundle slot).size in
    ap (λ n. filter some (range_with_len 0 n)) (let e : to ≡ from + (to - from) = omega (arith, low) in e)
    ∙ ap (filter some) (range_join 0 from (to - from) ∙ ap (λ k. range_with_len 0 from ++ range_with_len k (to - from)) (let e : 0 + from ≡ from = omega arith in e))
    ∙ filter-append some (range_with_len 0 from) (range_with_len from (to - from))

-- none between a number and itself
pub between_none : (bundle : List ℕ) (from : ℕ) → slots_between bundle from from ≡ []
between_none bundle from =
    let some = λ (slot : ℕ). nat_lt 0 (entry_at bundle slot).size in
    ap (λ n. filter some (range_with_len from n)) (let e : from - from ≡ 0 = omega arith in e)

-- one number more
between_more : (bundle : List ℕ) (from to : ℕ) → from ≤ to → slots_between bundle from (to + 1) ≡ slots_between bundle from to ++ cond (nat_lt 0 (entry_at bundle to).size) (to ∷ []) []
between_more bundle from to low =
    let some = λ (slot : ℕ). nat_lt 0 (entry_at bundle slot).size in
    ap (λ n. filter some (range_with_len from n)) (let e : to + 1 - from ≡ (to - from) + 1 = omega (arith, low) in e)
    ∙ ap (filter some) (range_join from (to - from) 1)
    ∙ filter-append some (range_with_len from (to - from)) (range_with_len (from + (to - from)) 1)
    ∙ ap (λ n. slots_between bundle from to ++ filter some (n ∷ [])) (let e : from + (to - from) ≡ to = omega (arith, low) in e)

pub between_skip : (bundle : List ℕ) (from to : ℕ) → from ≤ to → (entry_at bundle to).size ≡ 0 → slots_between bundle from (to + 1) ≡ slots_between bundle from to
between_skip bundle from to low none =
    between_more bundle from to low ∙ ap (λ n. slots_between bundle from to ++ cond (nat_lt 0 n) (to ∷ []) []) none ∙ append-nil (slots_between bundle from to)

pub between_push : (bundle : List ℕ) (from to : ℕ) → from ≤ to → 0 < (entry_at bundle to).size → slots_between bundle from (to + 1) ≡ slots_between bundle from to ++ to ∷ []
between_push bundle from to low some =
    between_more bundle from to low ∙ ap (λ b. slots_between bundle from to ++ cond b (to ∷ []) []) (test_lt 0 (entry_at bundle to).size some)
