-- Words of bytes, and their weighted sum.
use Rattle.std.proofs.Common.{◌≡◌, ℕ, ◌+◌, ◌-◌, ◌*◌, ◌/◌, ◌<◌, ◌≤◌, zero, suc, List, [], ◌∷◌, ◌++◌, length, get_or, take, drop, refl, sym, ap, ◌∙◌, arith, sum, min}
use Rattle.std.proofs.lemmas.List.{take_more, length-take-le, length-take, length-drop, length-append, get_or-take, get_or-drop, drop-drop, ext_get_or}
use Rattle.std.proofs.lemmas.List.Sums.{sum_by-cons}
use Rattle.std.proofs.lemmas.Grind.{common_steps}
use Rattle.lerc_header.specs.Checksum.{words, weighted, Sums, after_group, after_groups}

pub length-words : (bytes : List ℕ) → length (words bytes) ≡ length bytes / 2
length-words [] = refl
length-words (a ∷ []) = refl
length-words (a ∷ b ∷ bytes) = omega (arith, length-words bytes)

pub get_or-words : (bytes : List ℕ) (i : ℕ) → i < length bytes / 2 → get_or (words bytes) i 0 ≡ 256 * get_or bytes (2 * i) 0 + get_or bytes (2 * i + 1) 0
get_or-words [] i h = absurd (omega arith)
get_or-words (a ∷ []) i h = absurd (omega arith)
get_or-words (a ∷ b ∷ bytes) zero h = refl
get_or-words (a ∷ b ∷ bytes) (suc i) h =
    let low : suc (suc (2 * i)) ≡ 2 * suc i = omega arith in
    let high : suc (suc (2 * i + 1)) ≡ 2 * suc i + 1 = omega arith in
    get_or-words bytes i (omega arith) ∙ ap (λ n. 256 * get_or (a ∷ b ∷ bytes) n 0 + get_or bytes (2 * i + 1) 0) low
    ∙ ap (λ n. 256 * get_or (a ∷ b ∷ bytes) (2 * suc i) 0 + get_or (a ∷ b ∷ bytes) n 0) high

pub weighted_push : (ws : List ℕ) (w : ℕ) → weighted (ws ++ w ∷ []) ≡ weighted ws + (sum ws + w)
weighted_push [] w = omega arith
weighted_push (v ∷ ws) w =
    let long : length (ws ++ w ∷ []) ≡ length ws + 1 = length-append ws (w ∷ []) in
    let total : sum (v ∷ ws) ≡ v + sum ws = sum_by-cons (λ x. x) v ws in
    ap (λ n. (n + 1) * v + weighted (ws ++ w ∷ [])) long ∙ ap (λ n. (length ws + 1 + 1) * v + n) (weighted_push ws w) ∙ omega (arith, total)

pub sum_push : (ws : List ℕ) (w : ℕ) → sum (ws ++ w ∷ []) ≡ sum ws + w
sum_push ws w = grind (arith, common_steps)

-- the sums after one more word
pub first_more : (ws : List ℕ) (i s w : ℕ) → i < length ws → w ≡ get_or ws i 0 → s + sum (take i ws) + w ≡ s + sum (take (i + 1) ws)
first_more ws i s w h e = omega (arith, e, ap sum (take_more ws i 0 h), sum_push (take i ws) (get_or ws i 0))

pub weighted_more : (ws : List ℕ) (i w : ℕ) → i < length ws → w ≡ get_or ws i 0 → weighted (take (i + 1) ws) ≡ weighted (take i ws) + (sum (take i ws) + w)
weighted_more ws i w h e = ap weighted (take_more ws i 0 h) ∙ weighted_push (take i ws) (get_or ws i 0) ∙ ap (λ n. weighted (take i ws) + (sum (take i ws) + n)) (sym e)

-- the words of the bytes of group g
pub words_group : (bytes : List ℕ) (g n : ℕ) → n ≡ min (length bytes / 2 * 2) (g * 718 + 718) - g * 718 → words (take n (drop (g * 718) bytes)) ≡ take 359 (drop (359 * g) (words bytes))
words_group bytes g n e =
    let cut = take n (drop (g * 718) bytes) in
    let short : n ≤ length (drop (g * 718) bytes) = omega (arith, length-drop (g * 718) bytes) in
    let long : length cut ≡ n = length-take-le n (drop (g * 718) bytes) short in
    let left : length (words cut) ≡ n / 2 = length-words cut ∙ ap (λ m. m / 2) long in
    let right : length (take 359 (drop (359 * g) (words bytes))) ≡ min 359 (length bytes / 2 - 359 * g) = length-take 359 (drop (359 * g) (words bytes)) ∙ ap (min 359) (length-drop (359 * g) (words bytes) ∙ ap (λ m. m - 359 * g) (length-words bytes)) in
    let halves : n / 2 ≡ min 359 (length bytes / 2 - 359 * g) = omega (arith, e) in
    ext_get_or 0 _ _ (left ∙ halves ∙ sym right) (λ k h.
    let below : k < n / 2 = omega arith in
    let in_group : k < 359 = omega arith in
    let low : 2 * k < n = omega arith in
    let high : 2 * k + 1 < n = omega arith in
    let within : 359 * g + k < length bytes / 2 = omega arith in
    let at_low : g * 718 + 2 * k ≡ 2 * (359 * g + k) = omega arith in
    let at_high : g * 718 + (2 * k + 1) ≡ 2 * (359 * g + k) + 1 = omega arith in
    let l : get_or cut (2 * k) 0 ≡ get_or bytes (2 * (359 * g + k)) 0 = get_or-take n (drop (g * 718) bytes) (2 * k) 0 low ∙ get_or-drop (g * 718) bytes (2 * k) 0 ∙ ap (λ j. get_or bytes j 0) at_low in
    let r : get_or cut (2 * k + 1) 0 ≡ get_or bytes (2 * (359 * g + k) + 1) 0 = get_or-take n (drop (g * 718) bytes) (2 * k + 1) 0 high ∙ get_or-drop (g * 718) bytes (2 * k + 1) 0 ∙ ap (λ j. get_or bytes j 0) at_high in
    get_or-words cut k (omega (arith, long)) ∙ ap (λ x. 256 * x + get_or cut (2 * k + 1) 0) l ∙ ap (λ x. 256 * get_or bytes (2 * (359 * g + k)) 0 + x) r
    ∙ sym (get_or-take 359 (drop (359 * g) (words bytes)) k 0 in_group ∙ get_or-drop (359 * g) (words bytes) k 0 ∙ get_or-words bytes (359 * g + k) within))

-- one more group
pub groups_more : (n g : ℕ) (s : Sums) (ws : List ℕ) (all : Sums) → g < n → after_groups (n - g) s (drop (359 * g) ws) ≡ all
    → after_groups (n - (g + 1)) (after_group s (take 359 (drop (359 * g) ws))) (drop (359 * (g + 1)) ws) ≡ all
groups_more n g s ws all h e =
    let left : n - g ≡ suc (n - (g + 1)) = omega arith in
    let next : 359 * g + 359 ≡ 359 * (g + 1) = omega arith in
    ap (after_groups (n - (g + 1)) (after_group s (take 359 (drop (359 * g) ws)))) (sym (drop-drop 359 (359 * g) ws ∙ ap (λ m. drop m ws) next))
    ∙ ap (λ m. after_groups m s (drop (359 * g) ws)) (sym left) ∙ e

pub groups_all : (n g : ℕ) (s : Sums) (ws : List ℕ) (all : Sums) → n ≤ g → after_groups (n - g) s ws ≡ all → s ≡ all
groups_all n g s ws all h e = let none : n - g ≡ 0 = omega arith in ap (λ m. after_groups m s ws) (sym none) ∙ e
