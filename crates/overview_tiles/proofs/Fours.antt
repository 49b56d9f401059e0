-- The pixels of a quarter come to the totals of the four pixels that each stands in.
use Rattle.std.proofs.Common.{◌≡◌, ◌≢◌, ℕ, ℤ, zero, suc, ◌+◌, ◌*◌, ◌/◌, ◌%◌, ◌<◌, ◌≤◌, true, false, cond, refl, sym, ap, ◌∙◌, subst, arith, ⊎_elim}
use Rattle.std.specs.Prelude.{pos, ◌+ℤ◌, nat_eq, nat_lt}
use Rattle.std.proofs.lemmas.Int.{ints}
use Rattle.std.proofs.lemmas.Nat.{same_from_place, div-mul-add, mod-mul-add, div_below, mod_below, div-add-mod'}
use Rattle.std.proofs.lemmas.Bool.{eq-eqb, ne_eqb, cases_eq, cases_lt, lt-ltb, le-ltb}
use Rattle.overview_tiles.specs.inside.Comes.{comes, total_at}
use Rattle.overview_tiles.proofs.Comes.{brings, brings_there, brings_none, comes_none, comes_next}

-- ---- an amount at one place

abbrev pub only : ℕ → ℕ → ℤ → ℕ → ℕ → ℤ
only row col z y x = cond (nat_eq y row) (cond (nat_eq x col) z (pos 0)) (pos 0)

only_there : (row col y x : ℕ) (z : ℤ) → y ≡ row → x ≡ col → only row col z y x ≡ z
only_there row col y x z ey ex = ap (λ b. cond b (cond (nat_eq x col) z (pos 0)) (pos 0)) (eq-eqb y row ey) ∙ ap (λ b. cond b z (pos 0)) (eq-eqb x col ex)

only_row : (row col y x : ℕ) (z : ℤ) → y ≢ row → only row col z y x ≡ pos 0
only_row row col y x z ne = ap (λ b. cond b (cond (nat_eq x col) z (pos 0)) (pos 0)) (ne_eqb y row ne)

only_col : (row col y x : ℕ) (z : ℤ) → x ≢ col → only row col z y x ≡ pos 0
only_col row col y x z ne =
    ap (λ b. cond (nat_eq y row) (cond b z (pos 0)) (pos 0)) (ne_eqb x col ne)
    ∙ (elim (nat_eq y row) as (λ b. cond b (pos 0) (pos 0) ≡ pos 0) [ true ↦ refl | false ↦ refl ])

-- what four places have together
abbrev pub four : (ℕ → ℕ → ℤ) → ℕ → ℕ → ℤ
four f row col = f (2 * row) (2 * col) +ℤ (f (2 * row) (2 * col + 1) +ℤ (f (2 * row + 1) (2 * col) +ℤ (f (2 * row + 1) (2 * col + 1) +ℤ pos 0)))

pub four_sum : (f g h : ℕ → ℕ → ℤ) (row col : ℕ) → ((i j : ℕ) → i < 2 → j < 2 → f (2 * row + i) (2 * col + j) ≡ g (2 * row + i) (2 * col + j) +ℤ h (2 * row + i) (2 * col + j))
    → four f row col ≡ four g row col +ℤ four h row col
four_sum f g h row col each =
    let r0 : 2 * row + 0 ≡ 2 * row = omega arith in
    let c0 : 2 * col + 0 ≡ 2 * col = omega arith in
    let at : (i j : ℕ) → f i j ≡ g i j +ℤ h i j → f i j ≡ g i j +ℤ h i j = λ i j e. e in
    let P : ℕ → ℕ → Type 0 = λ i j. f i j ≡ g i j +ℤ h i j in
    let a : P (2 * row) (2 * col) = subst (λ i. P i (2 * col)) r0 (subst (λ j. P (2 * row + 0) j) c0 (each 0 0 (omega arith) (omega arith))) in
    let b : P (2 * row) (2 * col + 1) = subst (λ i. P i (2 * col + 1)) r0 (each 0 1 (omega arith) (omega arith)) in
    let c : P (2 * row + 1) (2 * col) = subst (λ j. P (2 * row + 1) j) c0 (each 1 0 (omega arith) (omega arith)) in
    let d : P (2 * row + 1) (2 * col + 1) = each 1 1 (omega arith) (omega arith) in
    omega (arith, ints, a, b, c, d)

-- one of four places is this one, where its row and its column are theirs, halved
pub four_only : (y x : ℕ) (z : ℤ) (row col : ℕ) → y / 2 ≡ row → x / 2 ≡ col → four (only y x z) row col ≡ z
four_only y x z row col ey ex =
    ⊎_elim
    (λ (even : y % 2 ≡ 0).
    ⊎_elim
    (λ (flat : x % 2 ≡ 0).
    let a = only_there y x (2 * row) (2 * col) z (omega arith) (omega arith) in
    let b = only_col y x (2 * row) (2 * col + 1) z (omega arith) in
    let c = only_row y x (2 * row + 1) (2 * col) z (omega arith) in
    let d = only_row y x (2 * row + 1) (2 * col + 1) z (omega arith) in
    let e : four (only y x z) row col ≡ z = omega (arith, ints, a, b, c, d) in e)
    (λ (odd : x % 2 ≢ 0).
    let a = only_col y x (2 * row) (2 * col) z (omega arith) in
    let b = only_there y x (2 * row) (2 * col + 1) z (omega arith) (omega arith) in
    let c = only_row y x (2 * row + 1) (2 * col) z (omega arith) in
    let d = only_row y x (2 * row + 1) (2 * col + 1) z (omega arith) in
    let e : four (only y x z) row col ≡ z = omega (arith, ints, a, b, c, d) in e)
    (cases_eq (x % 2) 0))
    (λ (odd : y % 2 ≢ 0).
    ⊎_elim
    (λ (flat : x % 2 ≡ 0).
    let a = only_row y x (2 * row) (2 * col) z (omega arith) in
    let b = only_row y x (2 * row) (2 * col + 1) z (omega arith) in
    let c = only_there y x (2 * row + 1) (2 * col) z (omega arith) (omega arith) in
    let d = only_col y x (2 * row + 1) (2 * col + 1) z (omega arith) in
    let e : four (only y x z) row col ≡ z = omega (arith, ints, a, b, c, d) in e)
    (λ (steep : x % 2 ≢ 0).
    let a = only_row y x (2 * row) (2 * col) z (omega arith) in
    let b = only_row y x (2 * row) (2 * col + 1) z (omega arith) in
    let c = only_col y x (2 * row + 1) (2 * col) z (omega arith) in
    let d = only_there y x (2 * row + 1) (2 * col + 1) z (omega arith) (omega arith) in
    let e : four (only y x z) row col ≡ z = omega (arith, ints, a, b, c, d) in e)
    (cases_eq (x % 2) 0))
    (cases_eq (y % 2) 0)

-- and none else
pub four_row : (y x : ℕ) (z : ℤ) (row col : ℕ) → y / 2 ≢ row → four (only y x z) row col ≡ pos 0
four_row y x z row col ne =
    let a = only_row y x (2 * row) (2 * col) z (λ e. ne (omega arith)) in
    let b = only_row y x (2 * row) (2 * col + 1) z (λ e. ne (omega arith)) in
    let c = only_row y x (2 * row + 1) (2 * col) z (λ e. ne (omega arith)) in
    let d = only_row y x (2 * row + 1) (2 * col + 1) z (λ e. ne (omega arith)) in
    omega (arith, ints, a, b, c, d)

pub four_col : (y x : ℕ) (z : ℤ) (row col : ℕ) → x / 2 ≢ col → four (only y x z) row col ≡ pos 0
four_col y x z row col ne =
    let a = only_col y x (2 * row) (2 * col) z (λ e. ne (omega arith)) in
    let b = only_col y x (2 * row) (2 * col + 1) z (λ e. ne (omega arith)) in
    let c = only_col y x (2 * row + 1) (2 * col) z (λ e. ne (omega arith)) in
    let d = only_col y x (2 * row + 1) (2 * col + 1) z (λ e. ne (omega arith)) in
    omega (arith, ints, a, b, c, d)

-- so a pixel comes to one total: that of its four
pub four_brings : (cols top left : ℕ) (a : ℕ → ℤ) (row col k : ℕ) → col < cols → (left + k % cols) / 2 < cols
    → four (only (top + k / cols) (left + k % cols) (a k)) row col ≡ brings (total_at cols top left) a (row * cols + col) k
four_brings cols top left a row col k below inside =
    let y = top + k / cols in
    let x = left + k % cols in
    ⊎_elim
    (λ (ey : y / 2 ≡ row).
    ⊎_elim
    (λ (ex : x / 2 ≡ col).
    four_only y x (a k) row col ey ex ∙ sym (brings_there (total_at cols top left) a (row * cols + col) k (ap (λ i. i * cols + x / 2) ey ∙ ap (λ j. row * cols + j) ex)))
    (λ (nx : x / 2 ≢ col).
    four_col y x (a k) row col nx ∙ sym (brings_none (total_at cols top left) a (row * cols + col) k (λ e. nx (same_from_place (y / 2) (x / 2) row col cols inside below e).1)))
    (cases_eq (x / 2) col))
    (λ (ny : y / 2 ≢ row).
    four_row y x (a k) row col ny ∙ sym (brings_none (total_at cols top left) a (row * cols + col) k (λ e. ny (same_from_place (y / 2) (x / 2) row col cols inside below e).0)))
    (cases_eq (y / 2) row)

-- ---- the pixels of a quarter, as far as they were laid

-- where a place of the mosaic stands in its quarter
abbrev pub number_of : ℕ → ℕ → ℕ → ℕ → ℕ
number_of rows cols y x = y % rows * cols + x % cols

abbrev pub spot : ℕ → ℕ → ℕ → (ℕ → ℤ) → ℕ → ℕ → ℕ → ℤ
spot rows cols q a k y x = cond (nat_eq (2 * (y / rows) + x / cols) q) (cond (nat_lt (number_of rows cols y x) k) (a (number_of rows cols y x)) (pos 0)) (pos 0)

pub spot_in : (rows cols q : ℕ) (a : ℕ → ℤ) (k y x : ℕ) → 2 * (y / rows) + x / cols ≡ q → number_of rows cols y x < k → spot rows cols q a k y x ≡ a (number_of rows cols y x)
spot_in rows cols q a k y x e less =
    let n = number_of rows cols y x in
    ap (λ b. cond b (cond (nat_lt n k) (a n) (pos 0)) (pos 0)) (eq-eqb _ _ e) ∙ ap (λ b. cond b (a n) (pos 0)) (lt-ltb n k less)

pub spot_later : (rows cols q : ℕ) (a : ℕ → ℤ) (k y x : ℕ) → 2 * (y / rows) + x / cols ≡ q → k ≤ number_of rows cols y x → spot rows cols q a k y x ≡ pos 0
spot_later rows cols q a k y x e less =
    let n = number_of rows cols y x in
    ap (λ b. cond b (cond (nat_lt n k) (a n) (pos 0)) (pos 0)) (eq-eqb _ _ e) ∙ ap (λ b. cond b (a n) (pos 0)) (le-ltb n k less)

pub spot_out : (rows cols q : ℕ) (a : ℕ → ℤ) (k y x : ℕ) → 2 * (y / rows) + x / cols ≢ q → spot rows cols q a k y x ≡ pos 0
spot_out rows cols q a k y x ne =
    let n = number_of rows cols y x in
    ap (λ b. cond b (cond (nat_lt n k) (a n) (pos 0)) (pos 0)) (ne_eqb _ _ ne)

spot_none : (rows cols q : ℕ) (a : ℕ → ℤ) (y x : ℕ) → spot rows cols q a 0 y x ≡ pos 0
spot_none rows cols q a y x =
    ⊎_elim (λ (e : 2 * (y / rows) + x / cols ≡ q). spot_later rows cols q a 0 y x e (omega arith)) (λ (ne : 2 * (y / rows) + x / cols ≢ q). spot_out rows cols q a 0 y x ne) (cases_eq (2 * (y / rows) + x / cols) q)

-- a place is that of pixel number k of the quarter, where it is in it and has this number
pub record IsSpot (rows cols q k y x : ℕ) : Type 0 where
  pub inside : 2 * (y / rows) + x / cols ≡ q
  pub number : number_of rows cols y x ≡ k

spot_of : (rows cols q k y x : ℕ) → 0 < rows → 0 < cols → q < 4 → k < rows * cols → y < 2 * rows → x < 2 * cols → IsSpot rows cols q k y x → (y ≡ q / 2 * rows + k / cols) × (x ≡ q % 2 * cols + k % cols)
spot_of rows cols q k y x hr hc hq hk hy hx s =
    let a : y / rows < 2 = div_below y rows 2 hr hy in
    let b : x / cols < 2 = div_below x cols 2 hc hx in
    let qa : y / rows ≡ q / 2 = omega (arith, s.inside) in
    let qb : x / cols ≡ q % 2 = omega (arith, s.inside) in
    let under : x % cols < cols = mod_below x cols hc in
    let row : y % rows ≡ k / cols = sym (div-mul-add (y % rows) cols (x % cols) under) ∙ ap (λ n. n / cols) s.number in
    let col : x % cols ≡ k % cols = sym (mod-mul-add (y % rows) cols (x % cols) under) ∙ ap (λ n. n % cols) s.number in (
      sym (div-add-mod' y rows) ∙ ap (λ i. i * rows + y % rows) qa ∙ ap (λ j. q / 2 * rows + j) row,
      sym (div-add-mod' x cols) ∙ ap (λ i. i * cols + x % cols) qb ∙ ap (λ j. q % 2 * cols + j) col,
    )

is_spot : (rows cols q k y x : ℕ) → 0 < rows → 0 < cols → q < 4 → k < rows * cols → y ≡ q / 2 * rows + k / cols → x ≡ q % 2 * cols + k % cols → IsSpot rows cols q k y x
is_spot rows cols q k y x hr hc hq hk ey ex =
    let under : k / cols < rows = div_below k cols rows hc hk in
    let beside : k % cols < cols = mod_below k cols hc in
    let a : y / rows ≡ q / 2 = ap (λ n. n / rows) ey ∙ div-mul-add (q / 2) rows (k / cols) under in
    let b : x / cols ≡ q % 2 = ap (λ n. n / cols) ex ∙ div-mul-add (q % 2) cols (k % cols) beside in
    let c : y % rows ≡ k / cols = ap (λ n. n % rows) ey ∙ mod-mul-add (q / 2) rows (k / cols) under in
    let d : x % cols ≡ k % cols = ap (λ n. n % cols) ex ∙ mod-mul-add (q % 2) cols (k % cols) beside in
    record {
      inside = omega (arith, a, b);
      number = ap (λ i. i * cols + x % cols) c ∙ ap (λ j. k / cols * cols + j) d ∙ div-add-mod' k cols;
    }

only_none : (row col y x : ℕ) (z : ℤ) → (y ≡ row → x ≡ col → ⊥) → only row col z y x ≡ pos 0
only_none row col y x z apart =
    ⊎_elim
    (λ (e : y ≡ row). only_col row col y x z (apart e))
    (λ (ne : y ≢ row). only_row row col y x z ne)
    (cases_eq y row)

-- one pixel more
pub spot_next : (rows cols q : ℕ) (a : ℕ → ℤ) (k y x : ℕ) → 0 < rows → 0 < cols → q < 4 → k < rows * cols → y < 2 * rows → x < 2 * cols
    → spot rows cols q a (k + 1) y x ≡ spot rows cols q a k y x +ℤ only (q / 2 * rows + k / cols) (q % 2 * cols + k % cols) (a k) y x
spot_next rows cols q a k y x hr hc hq hk hy hx =
    let n = number_of rows cols y x in
    let row = q / 2 * rows + k / cols in
    let col = q % 2 * cols + k % cols in
    ⊎_elim
    (λ (inside : 2 * (y / rows) + x / cols ≡ q).
    ⊎_elim
    (λ (same : n ≡ k).
    let at = spot_of rows cols q k y x hr hc hq hk hy hx (record { inside = inside; number = same }) in
    let after = spot_in rows cols q a (k + 1) y x inside (omega (arith, same)) in
    let before = spot_later rows cols q a k y x inside (omega (arith, same)) in
    let here = only_there row col y x (a k) at.0 at.1 in
    let amount : a n ≡ a k = ap a same in
    let e : spot rows cols q a (k + 1) y x ≡ spot rows cols q a k y x +ℤ only row col (a k) y x = omega (arith, ints, after, before, here, amount) in e)
    (λ (ne : n ≢ k).
    let none = only_none row col y x (a k) (λ ey ex. ne (is_spot rows cols q k y x hr hc hq hk ey ex).number) in
    ⊎_elim
    (λ (less : n < k).
    let after = spot_in rows cols q a (k + 1) y x inside (omega (arith, less)) in
    let before = spot_in rows cols q a k y x inside less in
    let e : spot rows cols q a (k + 1) y x ≡ spot rows cols q a k y x +ℤ only row col (a k) y x = omega (arith, ints, after, before, none) in e)
    (λ (more : k ≤ n).
    let after = spot_later rows cols q a (k + 1) y x inside (omega (arith, more, ne)) in
    let before = spot_later rows cols q a k y x inside more in
    let e : spot rows cols q a (k + 1) y x ≡ spot rows cols q a k y x +ℤ only row col (a k) y x = omega (arith, ints, after, before, none) in e)
    (cases_lt n k))
    (cases_eq n k))
    (λ (out : 2 * (y / rows) + x / cols ≢ q).
    let none = only_none row col y x (a k) (λ ey ex. out (is_spot rows cols q k y x hr hc hq hk ey ex).inside) in
    let after = spot_out rows cols q a (k + 1) y x out in
    let before = spot_out rows cols q a k y x out in
    let e : spot rows cols q a (k + 1) y x ≡ spot rows cols q a k y x +ℤ only row col (a k) y x = omega (arith, ints, after, before, none) in e)
    (cases_eq (2 * (y / rows) + x / cols) q)

half_below : (q cols x : ℕ) → 0 < cols → x < cols → (q % 2 * cols + x) / 2 < cols
half_below q cols x hc h =
    ⊎_elim
    (λ (even : q % 2 ≡ 0). let e : q % 2 * cols ≡ 0 = ap (λ n. n * cols) even ∙ omega arith in (let r : (q % 2 * cols + x) / 2 < cols = omega (arith, e) in r))
    (λ (odd : q % 2 ≢ 0). let e : q % 2 * cols ≡ cols = ap (λ n. n * cols) (let o : q % 2 ≡ 1 = omega arith in o) ∙ omega arith in (let r : (q % 2 * cols + x) / 2 < cols = omega (arith, e) in r))
    (cases_eq (q % 2) 0)

-- what comes to a total is what its four have
pub comes_four : (rows cols q : ℕ) (a : ℕ → ℤ) (row col k : ℕ) → 0 < rows → 0 < cols → q < 4 → row < rows → col < cols → k ≤ rows * cols
    → comes (total_at cols (q / 2 * rows) (q % 2 * cols)) a (row * cols + col) k ≡ four (spot rows cols q a k) row col
comes_four rows cols q a row col zero hr hc hq below beside hk =
    let none = comes_none (total_at cols (q / 2 * rows) (q % 2 * cols)) a (row * cols + col) in
    let z0 = spot_none rows cols q a (2 * row) (2 * col) in
    let z1 = spot_none rows cols q a (2 * row) (2 * col + 1) in
    let z2 = spot_none rows cols q a (2 * row + 1) (2 * col) in
    let z3 = spot_none rows cols q a (2 * row + 1) (2 * col + 1) in
    omega (arith, ints, none, z0, z1, z2, z3)
comes_four rows cols q a row col (suc k) hr hc hq below beside hk =
    let to = total_at cols (q / 2 * rows) (q % 2 * cols) in
    let before = comes_four rows cols q a row col k hr hc hq below beside (omega arith) in
    let next = comes_next to a (row * cols + col) k in
    let rest : k % cols < cols = mod_below k cols hc in
    let half : (q % 2 * cols + k % cols) / 2 < cols = half_below q cols (k % cols) hc rest in
    let brought = four_brings cols (q / 2 * rows) (q % 2 * cols) a row col k beside half in
    let joined = four_sum (spot rows cols q a (k + 1)) (spot rows cols q a k) (only (q / 2 * rows + k / cols) (q % 2 * cols + k % cols) (a k)) row col
    (λ i j hi hj. spot_next rows cols q a k (2 * row + i) (2 * col + j) hr hc hq (omega arith) (omega arith) (omega arith)) in
    let up : suc k ≡ k + 1 = omega arith in
    ap (comes to a (row * cols + col)) up ∙ next ∙ ap (λ z. z +ℤ brings to a (row * cols + col) k) before ∙ ap (λ z. four (spot rows cols q a k) row col +ℤ z) (sym brought) ∙ sym joined
    ∙ ap (λ j. four (spot rows cols q a j) row col) (sym up)
