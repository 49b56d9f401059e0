-- Running sums of bytes, sixteen at a time.
use Rattle.std.proofs.Common.{◌≡◌, ℕ, zero, suc, ◌+◌, ◌-◌, ◌*◌, ◌%◌, ◌<◌, ◌≤◌, List, ◌++◌, length, get_or, take, drop, set, replicate, refl, sym, ap, ◌∙◌, inl, inr, arith, add-one, below_more, length-append, get_or-set_same, get_or-set_other, w8, Fits}
use Rattle.std.specs.Prelude.{sum}
use Rattle.std.specs.List.{range_with_len}
use Rattle.std.proofs.lemmas.Bool.{cases_eq, cases_lt}
use Rattle.std.proofs.lemmas.List.{get_or-append_right, get_or-take, get_or-drop, length-replicate, length-take-le, length-drop}
use Rattle.std.proofs.lemmas.List.Sums.{sum_by_more}
use Rattle.std.proofs.lemmas.Simd.{Each1-get_or, below_from_Fits, get_or-chunk, pick_l-range_with_len}
use lib.Lanes.{Each1, pick_l}
use Rattle.lane_kernels.specs.Running.{byte_before}
use Rattle.lane_kernels.specs.inside.Moved.{AreWindows, IsMoved}

-- ---- lanes moved up

zero_front : (n : ℕ) (xs : List ℕ) (i : ℕ) → i < n → get_or (replicate n 0 ++ xs) i 0 ≡ 0
zero_front zero xs i lt = absurd (omega (arith, lt))
zero_front (suc n) xs zero lt = refl
zero_front (suc n) xs (suc i) lt = zero_front n xs i (omega (arith, lt))

picked : (lanes : List ℕ) (from i : ℕ) → length lanes ≡ 16 → from ≤ 16 → i < 16 → get_or (pick_l 0 (replicate 16 0 ++ lanes) (range_with_len from 16)) i 0 ≡ get_or (replicate 16 0 ++ lanes) (from + i) 0
picked lanes from i size le lt =
    let both = replicate 16 0 ++ lanes in
    let long : from + 16 ≤ length both = omega (arith, length-append (replicate 16 0) lanes, length-replicate {A = ℕ} 16 0, size, le) in
    ap (λ (l : List ℕ). get_or l i 0) (pick_l-range_with_len 0 both from 16 long) ∙ get_or-chunk from 16 both i 0 lt

pub moved_is : (k : ℕ) (lanes : List ℕ) → k ≤ 16 → length lanes ≡ 16 → IsMoved k lanes (pick_l 0 (replicate 16 0 ++ lanes) (range_with_len (16 - k) 16))
moved_is k lanes le size = record {
  low = λ i less lt. picked lanes (16 - k) i size (omega arith) lt ∙ zero_front 16 lanes (16 - k + i) (omega (arith, less, le));
  high = λ i more lt.
      let back : 16 - k + i - 16 ≡ i - k = omega (arith, more, le) in
      picked lanes (16 - k) i size (omega arith) lt ∙ get_or-append_right (replicate 16 0) lanes 16 (16 - k + i) 0 (length-replicate {A = ℕ} 16 0) (omega (arith, more, le)) ∙ ap (λ (n : ℕ). get_or lanes n 0) back;
}

-- ---- sums of the last ones

next_sum : (xs : List ℕ) (i : ℕ) → i < length xs → sum (take (i + 1) xs) ≡ sum (take i xs) + get_or xs i 0
next_sum xs i lt = sum_by_more (λ (x : ℕ). x) xs i 0 lt

sums_rise : (xs : List ℕ) (a b : ℕ) → a ≤ b → b ≤ length xs → sum (take a xs) ≤ sum (take b xs)
sums_rise xs a zero le within = let e : a ≡ 0 = omega (arith, le) in omega (arith, ap (λ (n : ℕ). sum (take n xs)) e)
sums_rise xs a (suc b) le within = elim (cases_eq a (suc b)) [
  | inl same ↦ omega (arith, ap (λ (n : ℕ). sum (take n xs)) same)
  | inr other ↦
      let e : suc b ≡ b + 1 = omega arith in
      let more : sum (take (suc b) xs) ≡ sum (take b xs) + get_or xs b 0 = ap (λ (n : ℕ). sum (take n xs)) e ∙ next_sum xs b (omega (arith, within)) in
      omega (arith, more, sums_rise xs a b (omega (arith, le, other)) (omega (arith, within)))
]

pub lane_low : (lanes : List ℕ) (i : ℕ) → i < length lanes → Each1 (Fits w8) lanes → get_or lanes i 0 < 256
lane_low lanes i lt fits = Each1-get_or (λ (x : ℕ). x < 256) lanes i 0 lt (below_from_Fits w8 lanes fits)

pub windows_one : (xs : List ℕ) → length xs ≡ 16 → Each1 (Fits w8) xs → AreWindows xs 1 xs
windows_one xs size fits i lt =
    let inside : i < length xs = omega (arith, lt, size) in
    let one : i + 1 - 1 ≡ i = omega arith in
    omega (arith, next_sum xs i inside, lane_low xs i inside fits, ap (λ (n : ℕ). sum (take n xs)) one)

pub windows_twice : (xs : List ℕ) (k : ℕ) (lanes moved new : List ℕ) → length xs ≡ 16 → 0 < k → AreWindows xs k lanes → IsMoved k lanes moved
    → ((i : ℕ) → i < 16 → get_or new i 0 ≡ (get_or lanes i 0 + get_or moved i 0) % 256) → AreWindows xs (2 * k) new
windows_twice xs k lanes moved new size some w m h i lt = elim (cases_lt i k) [
  | inl less ↦
      let one : i + 1 - k ≡ 0 = omega (arith, less) in
      let two : i + 1 - 2 * k ≡ 0 = omega (arith, less) in
      omega (arith, h i lt, m.low i less lt, w i lt, ap (λ (n : ℕ). sum (take n xs)) one, ap (λ (n : ℕ). sum (take n xs)) two)
  | inr more ↦
      let back : i - k + 1 ≡ i + 1 - k = omega (arith, more) in
      let far : i - k + 1 - k ≡ i + 1 - 2 * k = omega (arith, more) in
      let near = sums_rise xs (i + 1 - k) (i + 1) (omega arith) (omega (arith, lt, size)) in
      let rest = sums_rise xs (i + 1 - 2 * k) (i + 1 - k) (omega arith) (omega (arith, lt, size)) in
      omega (arith, h i lt, m.high i more lt, w i lt, w (i - k) (omega (arith, lt)), ap (λ (n : ℕ). sum (take n xs)) back, ap (λ (n : ℕ). sum (take n xs)) far, near, rest)
]

pub windows_all : (xs lanes : List ℕ) → AreWindows xs 16 lanes → (i : ℕ) → i < 16 → get_or lanes i 0 ≡ sum (take (i + 1) xs) % 256
windows_all xs lanes w i lt =
    let none : i + 1 - 16 ≡ 0 = omega (arith, lt) in
    let zero_ : sum (take (i + 1 - 16) xs) ≡ 0 = ap (λ (n : ℕ). sum (take n xs)) none in
    omega (arith, w i lt, zero_)

-- ---- the bytes one by one

-- what is so of the bytes in front of a place
pub record AreSummed (first : ℕ) (old bytes : List ℕ) (at : ℕ) : Type 0 where
  pub done : (k : ℕ) → k < at → get_or bytes k 0 ≡ (byte_before first bytes k + get_or old k 0) % 256
  pub rest : (k : ℕ) → at ≤ k → get_or bytes k 0 ≡ get_or old k 0

before_same : (first : ℕ) (a b : List ℕ) (k : ℕ) → ((j : ℕ) → j < k → get_or a j 0 ≡ get_or b j 0) → byte_before first a k ≡ byte_before first b k
before_same first a b zero h = refl
before_same first a b (suc k) h = h k (omega arith)

pub summed_none : (first : ℕ) (old : List ℕ) → AreSummed first old old 0
summed_none first old = record { done = λ k lt. absurd (omega (arith, lt)); rest = λ k ge. refl }

pub summed_one : (first before n : ℕ) (old bytes : List ℕ) (at : ℕ) → at < length bytes → before ≡ byte_before first bytes at → n ≡ (before + get_or bytes at 0) % 256 → AreSummed first old bytes at → AreSummed first old (set bytes at n) (at + 1)
summed_one first before n old bytes at room is n_is h =
    let new = set bytes at n in
    let other : (j : ℕ) → j < at → get_or new j 0 ≡ get_or bytes j 0 = λ (j : ℕ) (lt : j < at). get_or-set_other bytes at j n 0 (λ e. absurd (omega (arith, lt, e))) in
    let same : (k : ℕ) → k ≤ at → byte_before first new k ≡ byte_before first bytes k = λ (k : ℕ) (le : k ≤ at). before_same first new bytes k (λ j lt. other j (omega (arith, lt, le))) in
    record {
      done = below_more (λ k. get_or new k 0 ≡ (byte_before first new k + get_or old k 0) % 256) at
          (λ k lt. other k lt ∙ h.done k lt ∙ ap (λ b. (b + get_or old k 0) % 256) (sym (same k (omega (arith, lt)))))
          (get_or-set_same bytes at n 0 room ∙ n_is ∙ (λ i. ((is ∙ sym (same at (omega arith))) i + h.rest at (omega arith) i) % 256));
      rest = λ k ge. get_or-set_other bytes at k n 0 (λ e. absurd (omega (arith, ge, e))) ∙ h.rest k (omega (arith, ge));
    }

pub before_one : (first n : ℕ) (bytes : List ℕ) (at : ℕ) → at < length bytes → n ≡ byte_before first (set bytes at n) (at + 1)
before_one first n bytes at room = sym (ap (byte_before first (set bytes at n)) (add-one at) ∙ get_or-set_same bytes at n 0 room)

-- sixteen more
pub summed_sixteen : (first before : ℕ) (old bytes new : List ℕ) (at : ℕ) → at + 16 ≤ length bytes → before < 256 → before ≡ byte_before first bytes at
    → ((i : ℕ) → i < 16 → get_or new (at + i) 0 ≡ (before + sum (take (i + 1) (take 16 (drop at bytes)))) % 256)
    → ((k : ℕ) → (at ≤ k → k < at + 16 → ⊥) → get_or new k 0 ≡ get_or bytes k 0)
    → AreSummed first old bytes at → AreSummed first old new (at + 16)
summed_sixteen first before old bytes new at room low is sums others h =
    let lanes = take 16 (drop at bytes) in
    let size : length lanes ≡ 16 = length-take-le 16 (drop at bytes) (omega (arith, length-drop at bytes, room)) in
    let front : (j : ℕ) → j < at → get_or new j 0 ≡ get_or bytes j 0 = λ (j : ℕ) (lt : j < at). others j (λ ge below. absurd (omega (arith, lt, ge))) in
    let begin : byte_before first new at ≡ before = before_same first new bytes at front ∙ sym is in
    record {
      done = λ k lt. elim (cases_lt k at) [
        | inl less ↦
            front k less ∙ h.done k less
            ∙ ap (λ b. (b + get_or old k 0) % 256) (sym (before_same first new bytes k (λ j below. front j (omega (arith, below, less)))))
        | inr more ↦
            let i = k - at in
            let at_k : at + i ≡ k = omega (arith, more) in
            let i_lt : i < 16 = omega (arith, more, lt) in
            let here : get_or lanes i 0 ≡ get_or old k 0 =
            get_or-take 16 (drop at bytes) i 0 i_lt ∙ get_or-drop at bytes i 0 ∙ ap (λ (n : ℕ). get_or bytes n 0) at_k ∙ h.rest k more in
            let now : get_or new k 0 ≡ (before + sum (take (i + 1) lanes)) % 256 = ap (λ (n : ℕ). get_or new n 0) (sym at_k) ∙ sums i i_lt in
            let next = next_sum lanes i (omega (arith, size, i_lt)) in
            let before_k : byte_before first new k ≡ (before + sum (take i lanes)) % 256 = behind i k (omega (arith, at_k)) i_lt in
            omega (arith, now, next, here, before_k)
      ];
      rest = λ k ge. others k (λ from below. absurd (omega (arith, ge, below))) ∙ h.rest k (omega (arith, ge));
    }
  where
    behind : (i k : ℕ) → k ≡ at + i → i < 16 → byte_before first new k ≡ (before + sum (take i (take 16 (drop at bytes)))) % 256
    behind zero k e lt =
        let here : k ≡ at = omega (arith, e) in
        let none : sum (take 0 (take 16 (drop at bytes))) ≡ 0 = refl in
        let same : byte_before first new at ≡ before = before_same first new bytes at (λ j below. others j (λ ge to_. absurd (omega (arith, below, ge)))) ∙ sym is in
        ap (byte_before first new) here ∙ same ∙ (let fits : before ≡ (before + sum (take 0 (take 16 (drop at bytes)))) % 256 = omega (arith, none, low) in fits)
    behind (suc i) k e lt =
        let last : k ≡ suc (at + i) = omega (arith, e) in
        let more : i + 1 ≡ suc i = omega arith in
        ap (byte_before first new) last ∙ sums i (omega (arith, lt)) ∙ ap (λ (n : ℕ). (before + sum (take n (take 16 (drop at bytes)))) % 256) more

pub before_sixteen : (first : ℕ) (new : List ℕ) (at : ℕ) → get_or new (at + 15) 0 ≡ byte_before first new (at + 16)
before_sixteen first new at = sym (ap (byte_before first new) (let e : at + 16 ≡ suc (at + 15) = omega arith in e))
