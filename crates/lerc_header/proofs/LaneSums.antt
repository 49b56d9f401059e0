-- Lanes that have taken words, and what they are joined to.
use Rattle.std.proofs.Common.{◌≡◌, ℕ, ◌+◌, ◌-◌, ◌*◌, ◌/◌, ◌%◌, ◌<◌, ◌≤◌, zero, suc, List, [], ◌∷◌, ◌++◌, length, get_or, take, drop, refl, sym, ap, ◌∙◌, arith, subst, sum, w8, w32}
use Rattle.std.proofs.lemmas.List.{length-append, length-take-le, length-drop, take-append-drop, take_all}
use Rattle.std.proofs.lemmas.List.Sums.{sum_by-cons}
use Rattle.std.proofs.lemmas.Simd.{length-zip2, sum-zip2, sum_bound, adds_fit, sum_fits, fold-sum, Each1-chunk}
use Rattle.std.proofs.lemmas.Nat.{mul-le}
use Rattle.std.proofs.Math.Seq.{take-add}
use lib.Lanes.{Each1, Each2, zip2, sum_l, fold_l, Steps}
use mir.Val.{Fits}
use Rattle.lerc_header.specs.Checksum.{words, weighted}
use Rattle.lerc_header.proofs.Words.{length-words}

pub sum_is : (xs : List ℕ) → sum xs ≡ sum_l xs
sum_is [] = refl
sum_is (x ∷ xs) = sum_by-cons (λ y. y) x xs ∙ ap (λ n. x + n) (sum_is xs)

pub total_append : (xs ys : List ℕ) → sum_l (xs ++ ys) ≡ sum_l xs + sum_l ys
total_append [] ys = omega arith
total_append (x ∷ xs) ys = omega (arith, total_append xs ys)

pub weighted_append : (xs ys : List ℕ) → weighted (xs ++ ys) ≡ weighted xs + length ys * sum_l xs + weighted ys
weighted_append [] ys = omega arith
weighted_append (x ∷ xs) ys =
    let parts : (length xs + length ys + 1) * x + (weighted xs + length ys * sum_l xs + weighted ys) ≡ (length xs + 1) * x + weighted xs + length ys * (x + sum_l xs) + weighted ys = omega arith in
    ap (λ n. (n + 1) * x + weighted (xs ++ ys)) (length-append xs ys)
    ∙ ap (λ n. (length xs + length ys + 1) * x + n) (weighted_append xs ys)
    ∙ parts

-- the weighted sums of lanes that are added
weighted_added : (xs ys : List ℕ) → length xs ≡ length ys → weighted (zip2 (λ a b. a + b) xs ys) ≡ weighted xs + weighted ys
weighted_added [] [] e = refl
weighted_added [] (y ∷ ys) e = absurd (omega (arith, e))
weighted_added (x ∷ xs) [] e = absurd (omega (arith, e))
weighted_added (x ∷ xs) (y ∷ ys) e =
    let same : length xs ≡ length ys = omega (arith, e) in
    let parts : (length xs + 1) * (x + y) + (weighted xs + weighted ys) ≡ (length xs + 1) * x + weighted xs + ((length xs + 1) * y + weighted ys) = omega arith in
    ap (λ n. (n + 1) * (x + y) + weighted (zip2 (λ a b. a + b) xs ys)) (length-zip2 (λ a b. a + b) xs ys same)
    ∙ ap (λ n. (length xs + 1) * (x + y) + n) (weighted_added xs ys same)
    ∙ parts
    ∙ ap (λ n. (length xs + 1) * x + weighted xs + ((n + 1) * y + weighted ys)) same

-- lanes that have taken these words, four by four, and for each lane the sum of what stood there before each of its words
pub record HaveTaken (sums earlier ws : List ℕ) : Type 0 where
  pub sums_four : length sums ≡ 4
  pub earlier_four : length earlier ≡ 4
  pub total : sum_l sums ≡ sum_l ws
  pub weight : 4 * sum_l earlier + weighted sums ≡ weighted ws

-- four words more
taken_more : (sums earlier ws more : List ℕ) → HaveTaken sums earlier ws → length more ≡ 4 → HaveTaken (zip2 (λ a b. a + b) sums more) (zip2 (λ a b. a + b) earlier sums) (ws ++ more)
taken_more sums earlier ws more h four =
    let left : weighted (zip2 (λ a b. a + b) sums more) ≡ weighted sums + weighted more = weighted_added sums more (h.sums_four ∙ sym four) in
    let before : sum_l (zip2 (λ a b. a + b) earlier sums) ≡ sum_l earlier + sum_l sums = sum-zip2 earlier sums (h.earlier_four ∙ sym h.sums_four) in
    let right : weighted (ws ++ more) ≡ weighted ws + 4 * sum_l ws + weighted more = weighted_append ws more ∙ ap (λ n. weighted ws + n * sum_l ws + weighted more) four in
    record {
      sums_four = length-zip2 (λ a b. a + b) sums more (h.sums_four ∙ sym four) ∙ h.sums_four;
      earlier_four = length-zip2 (λ a b. a + b) earlier sums (h.earlier_four ∙ sym h.sums_four) ∙ h.earlier_four;
      total = sum-zip2 sums more (h.sums_four ∙ sym four) ∙ ap (λ n. n + sum_l more) h.total ∙ sym (total_append ws more);
      weight = omega (arith, left, before, right, h.total, h.weight);
    }

-- the words are small
abbrev pub AreSmall : List ℕ → Type 0
AreSmall ws = Each1 (λ w. w ≤ 65535) ws

pub words_small : (bytes : List ℕ) → ((k : ℕ) → Fits w8 (get_or bytes k 0)) → AreSmall (words bytes)
words_small [] fit = tt
words_small (a ∷ []) fit = tt
words_small (a ∷ b ∷ bytes) fit = (omega (arith, (fit 0).fits, (fit 1).fits), words_small bytes (λ k. fit (suc (suc k))))

weighted_bound : (ws : List ℕ) → AreSmall ws → 2 * weighted ws ≤ 65535 * (length ws * (length ws + 1))
weighted_bound [] h = omega arith
weighted_bound (w ∷ ws) h =
    let first : (length ws + 1) * w ≤ (length ws + 1) * 65535 = mul-le (length ws + 1) w (length ws + 1) 65535 (omega arith) h.0 in
    omega (arith, first, weighted_bound ws h.1)

-- so no sum of a group's words leaves 32 bits
pub record HaveBounds (ws : List ℕ) : Type 0 where
  pub total : sum_l ws ≤ 23068320
  pub weight : weighted ws ≤ 4071558480

pub bounds : (ws : List ℕ) → AreSmall ws → length ws ≤ 352 → HaveBounds ws
bounds ws small short =
    let square : length ws * (length ws + 1) ≤ 352 * 353 = mul-le (length ws) (length ws + 1) 352 353 short (omega (arith, short)) in
    record {
      total = omega (arith, sum_bound 65535 ws small, short);
      weight = omega (arith, weighted_bound ws small, square);
    }

twice : (k : ℕ) → 2 * suc k ≡ suc (suc (2 * k))
twice k = omega arith

-- the words of a front and of the rest
pub words_drop : (k : ℕ) (bytes : List ℕ) → words (drop (2 * k) bytes) ≡ drop k (words bytes)
words_drop zero bytes = refl
words_drop (suc k) [] = ap (λ n. words (drop n [])) (twice k)
words_drop (suc k) (a ∷ []) = ap (λ n. words (drop n (a ∷ []))) (twice k)
words_drop (suc k) (a ∷ b ∷ bytes) = ap (λ n. words (drop n (a ∷ b ∷ bytes))) (twice k) ∙ words_drop k bytes

pub words_take : (k : ℕ) (bytes : List ℕ) → words (take (2 * k) bytes) ≡ take k (words bytes)
words_take zero bytes = refl
words_take (suc k) [] = ap (λ n. words (take n [])) (twice k)
words_take (suc k) (a ∷ []) = ap (λ n. words (take n (a ∷ []))) (twice k)
words_take (suc k) (a ∷ b ∷ bytes) = ap (λ n. words (take n (a ∷ b ∷ bytes))) (twice k) ∙ ap (λ ws. (256 * a + b) ∷ ws) (words_take k bytes)

-- sixteen bytes more
pub record SixteenMore (sums earlier first second ws all : List ℕ) : Type 0 where
  pub between_fits : Each2 (λ a b. Fits w32 (a + b)) sums first
  pub earlier_fits : Each2 (λ a b. Fits w32 (a + b)) earlier sums
  pub before_fits : Each2 (λ a b. Fits w32 (a + b)) (zip2 (λ a b. a + b) earlier sums) (zip2 (λ a b. a + b) sums first)
  pub sums_fit : Each2 (λ a b. Fits w32 (a + b)) (zip2 (λ a b. a + b) sums first) second
  pub taken : HaveTaken (zip2 (λ a b. a + b) (zip2 (λ a b. a + b) sums first) second) (zip2 (λ a b. a + b) (zip2 (λ a b. a + b) earlier sums) (zip2 (λ a b. a + b) sums first)) all

pub steps : (ws : List ℕ) (at : ℕ) (sums earlier first second : List ℕ) → AreSmall ws → length ws ≤ 352 → at + 8 ≤ length ws → HaveTaken sums earlier (take at ws)
    → first ≡ take 4 (drop at ws) → second ≡ take 4 (drop (at + 4) ws) → SixteenMore sums earlier first second (take at ws) (take (at + 8) ws)
steps ws at sums earlier first second small short within h e e' =
    let between = zip2 (λ a b. a + b) sums first in
    let before = zip2 (λ a b. a + b) earlier sums in
    let four : length first ≡ 4 = ap length e ∙ length-take-le 4 (drop at ws) (omega (arith, length-drop at ws)) in
    let four' : length second ≡ 4 = ap length e' ∙ length-take-le 4 (drop (at + 4) ws) (omega (arith, length-drop (at + 4) ws)) in
    let t1 : HaveTaken between before (take (at + 4) ws) =
    subst (HaveTaken between before) (ap (λ v. take at ws ++ v) e ∙ sym (take-add at 4 ws)) (taken_more sums earlier (take at ws) first h four) in
    let all : at + 4 + 4 ≡ at + 8 = omega arith in
    let t2 : HaveTaken (zip2 (λ a b. a + b) between second) (zip2 (λ a b. a + b) before between) (take (at + 8) ws) =
    subst (HaveTaken (zip2 (λ a b. a + b) between second) (zip2 (λ a b. a + b) before between)) (ap (λ v. take (at + 4) ws ++ v) e' ∙ sym (take-add (at + 4) 4 ws) ∙ ap (λ n. take n ws) all)
    (taken_more between before (take (at + 4) ws) second t1 four') in
    let b1 = bounds (take (at + 4) ws) (Each1-chunk (λ w. w ≤ 65535) 0 (at + 4) ws small) (omega (arith, short, length-take-le (at + 4) ws (omega (arith, within)), within)) in
    let b2 = bounds (take (at + 8) ws) (Each1-chunk (λ w. w ≤ 65535) 0 (at + 8) ws small) (omega (arith, short, length-take-le (at + 8) ws within, within)) in
    let s1 : sum_l between ≡ sum_l sums + sum_l first = sum-zip2 sums first (h.sums_four ∙ sym four) in
    let s2 : sum_l before ≡ sum_l earlier + sum_l sums = sum-zip2 earlier sums (h.earlier_four ∙ sym h.sums_four) in
    let s3 : sum_l (zip2 (λ a b. a + b) before between) ≡ sum_l before + sum_l between = sum-zip2 before between (t1.earlier_four ∙ sym t1.sums_four) in
    let s4 : sum_l (zip2 (λ a b. a + b) between second) ≡ sum_l between + sum_l second = sum-zip2 between second (t1.sums_four ∙ sym four') in
    record {
      between_fits = adds_fit w32 sums first (omega (arith, s1, t1.total, b1.total));
      earlier_fits = adds_fit w32 earlier sums (omega (arith, s2, t1.weight, b1.weight));
      before_fits = adds_fit w32 before between (omega (arith, s3, t2.weight, b2.weight));
      sums_fit = adds_fit w32 between second (omega (arith, s4, t2.total, b2.total));
      taken = t2;
    }

pub sixteen_more : (bytes : List ℕ) (i : ℕ) (sums earlier first second : List ℕ) → ((k : ℕ) → Fits w8 (get_or bytes k 0)) → length bytes ≤ 718 → length bytes % 16 ≡ 0 → i < length bytes / 16
    → HaveTaken sums earlier (take (8 * i) (words bytes))
    → first ≡ take 4 (words (take (length bytes - 16 * i) (drop (16 * i) bytes)))
    → second ≡ take 4 (words (take (length bytes - (16 * i + 8)) (drop (16 * i + 8) bytes)))
    → SixteenMore sums earlier first second (take (8 * i) (words bytes)) (take (8 * (i + 1)) (words bytes))
sixteen_more bytes i sums earlier first second fit short whole within h e e' =
    let ws = words bytes in
    let long = length-words bytes in
    let low : 16 * i ≡ 2 * (8 * i) = omega arith in
    let high : 16 * i + 8 ≡ 2 * (8 * i + 4) = omega arith in
    let next : 8 * i + 8 ≡ 8 * (i + 1) = omega arith in
    let one : first ≡ take 4 (drop (8 * i) ws) =
    e ∙ ap (λ bs. take 4 (words bs)) (take_all (length bytes - 16 * i) (drop (16 * i) bytes) (omega (arith, length-drop (16 * i) bytes)))
    ∙ ap (λ n. take 4 (words (drop n bytes))) low ∙ ap (take 4) (words_drop (8 * i) bytes) in
    let two : second ≡ take 4 (drop (8 * i + 4) ws) =
    e' ∙ ap (λ bs. take 4 (words bs)) (take_all (length bytes - (16 * i + 8)) (drop (16 * i + 8) bytes) (omega (arith, length-drop (16 * i + 8) bytes)))
    ∙ ap (λ n. take 4 (words (drop n bytes))) high ∙ ap (take 4) (words_drop (8 * i + 4) bytes) in
    subst (λ n. SixteenMore sums earlier first second (take (8 * i) ws) (take n ws)) next
    (steps ws (8 * i) sums earlier first second (words_small bytes fit) (omega (arith, long, short, whole)) (omega (arith, long, within, whole)) h one two)

-- the lanes behind the last word
pub record AreAll (sums earlier ws : List ℕ) : Type 0 where
  pub earlier_fit : Steps (λ s x. Fits w32 (s + x)) (λ s x. s + x) 0 earlier
  pub product_fits : Fits w32 (4 * fold_l (λ s x. s + x) 0 earlier)
  pub weighted_fits : weighted sums < 4294967296
  pub weight_fits : Fits w32 (4 * fold_l (λ s x. s + x) 0 earlier + weighted sums)
  pub sums_fit : Steps (λ s x. Fits w32 (s + x)) (λ s x. s + x) 0 sums
  pub total : fold_l (λ s x. s + x) 0 sums ≡ sum ws
  pub weight : 4 * fold_l (λ s x. s + x) 0 earlier + weighted sums ≡ weighted ws
  pub small : (fold_l (λ s x. s + x) 0 sums ≤ 23068320) × (4 * fold_l (λ s x. s + x) 0 earlier + weighted sums ≤ 4071558480)

pub all_taken : (bytes : List ℕ) (i : ℕ) (sums earlier : List ℕ) → ((k : ℕ) → Fits w8 (get_or bytes k 0)) → length bytes ≤ 718 → length bytes % 16 ≡ 0 → length bytes / 16 ≤ i
    → HaveTaken sums earlier (take (8 * i) (words bytes)) → AreAll sums earlier (words bytes)
all_taken bytes i sums earlier fit short whole behind h =
    let ws = words bytes in
    let long = length-words bytes in
    let every : take (8 * i) ws ≡ ws = take_all (8 * i) ws (omega (arith, long, whole, behind)) in
    let are = subst (HaveTaken sums earlier) every h in
    let small = bounds ws (words_small bytes fit) (omega (arith, long, short, whole)) in
    let left = fold-sum 0 sums in
    let right = fold-sum 0 earlier in
    record {
      earlier_fit = sum_fits w32 0 earlier (omega (arith, are.weight, small.weight));
      product_fits = record { fits = omega (arith, right, are.weight, small.weight) };
      weighted_fits = omega (arith, are.weight, small.weight);
      weight_fits = record { fits = omega (arith, right, are.weight, small.weight) };
      sums_fit = sum_fits w32 0 sums (omega (arith, are.total, small.total));
      total = omega (arith, left, are.total, sum_is ws);
      weight = omega (arith, right, are.weight);
      small = (omega (arith, left, are.total, small.total), omega (arith, right, are.weight, small.weight));
    }

-- bytes that are cut between two words
pub record AreParts (bytes front back : List ℕ) : Type 0 where
  pub count : length (words bytes) ≡ length front / 2 + length (words back)
  pub total : sum (words bytes) ≡ sum (words front) + sum (words back)
  pub weight : weighted (words bytes) ≡ weighted (words front) + length (words back) * sum (words front) + weighted (words back)

pub parts : (k : ℕ) (bytes front back : List ℕ) → front ≡ take (2 * k) bytes → back ≡ drop (2 * k) bytes → AreParts bytes front back
parts k bytes front back e e' =
    let is : words bytes ≡ words front ++ words back =
    sym (take-append-drop k (words bytes)) ∙ sym (ap (λ ws. ws ++ drop k (words bytes)) (ap words e ∙ words_take k bytes)) ∙ sym (ap (λ ws. words front ++ ws) (ap words e' ∙ words_drop k bytes)) in
    record {
      count = ap length is ∙ length-append (words front) (words back) ∙ ap (λ n. n + length (words back)) (length-words front);
      total = omega (arith, sum_is (words bytes), ap sum_l is, total_append (words front) (words back), sum_is (words front), sum_is (words back));
      weight = ap weighted is ∙ weighted_append (words front) (words back) ∙ ap (λ n. weighted (words front) + length (words back) * n + weighted (words back)) (sym (sum_is (words front)));
    }
