-- Steps of writing stuffed bytes.
use Rattle.std.proofs.Common.{◌≡◌, ℕ, ◌+◌, ◌-◌, ◌*◌, ◌/◌, ◌%◌, ◌^◌, ◌<◌, ◌≤◌, List, [], ◌++◌, length, get_or, take, drop, sym, ap, ◌∙◌, arith}
use Rattle.std.proofs.lemmas.Nat.{pow-add, shl_whole, shr_split}
use Rattle.std.proofs.lemmas.List.{append_assoc, append-nil, length-append, length-take-le, length-take, length-drop, take_at, drop_at, drop_all}
use Rattle.std.proofs.Math.Nat.{mul-le-mul_left, pow-le-pow_right, mod-lt}
use borrow.Rule.Slice.PartMut.{put_mid}
use Rattle.byteorder.specs.Endian.{little_bytes}
use Rattle.byteorder.proofs.Bytes.{pow256}
use Rattle.bit_stuff.specs.Stuffed.{number_of_bytes, number_of_values}
use Rattle.bit_stuff.proofs.Fields.{values-take}
use Rattle.bit_stuff.proofs.Numbers.{number-append, number-little_bytes, length-little_bytes}

-- a shift within the word loses nothing
pub shifted : (v u w : ℕ) → v < 2 ^ w → w + u ≤ 64 → v * 2 ^ u % 2 ^ 64 ≡ v * 2 ^ u
shifted v u w h fits = shl_whole v w u 64 h fits

-- one more value above the held bits
pub held_more-lt : (h u v w : ℕ) → h < 2 ^ u → v < 2 ^ w → h + v * 2 ^ u < 2 ^ (u + w)
held_more-lt h u v w low below =
    let top : 2 ^ u * (v + 1) ≤ 2 ^ u * 2 ^ w = mul-le-mul_left (2 ^ u) (omega arith) in
    omega (arith, top, pow-add 2 u w)

pub fits_bytes : (h u n : ℕ) → h < 2 ^ u → u ≤ 8 * n → h < 256 ^ n
fits_bytes h u n low wide =
    let wider : 2 ^ u ≤ 2 ^ (8 * n) = pow-le-pow_right (omega arith) wide in
    omega (arith, wider, pow256 n)

-- what lies before the end of a piece that was written at `at`
pub front_written : (out piece rest : List ℕ) (at k n : ℕ) → at ≤ length out → length piece ≡ n → take (at + n) (put_mid at k out (piece ++ rest)) ≡ take at out ++ piece
front_written out piece rest at k n h len =
    let cut : length (take at out) ≡ at = length-take-le at out h in
    let front : length (take at out ++ piece) ≡ at + n = omega (arith, length-append (take at out) piece, cut, len) in
    let tail = drop k (drop at out) in
    ap (take (at + n)) (ap (λ (ys : List ℕ). take at out ++ ys) (append_assoc piece rest tail) ∙ sym (append_assoc (take at out) piece (rest ++ tail)))
    ∙ take_at (take at out ++ piece) (rest ++ tail) (at + n) front

-- four bytes out of the buffer
pub word_moved : (out : List ℕ) (at held : ℕ) (new rest : List ℕ) → at ≤ length out → new ≡ little_bytes 4 (held % 2 ^ 32) ++ rest
    → number_of_bytes (take (at + 4) (put_mid at (length out - at) out new)) + 2 ^ (8 * (at + 4)) * (held / 2 ^ 32) ≡ number_of_bytes (take at out) + 2 ^ (8 * at) * held
word_moved out at held new rest h e =
    let piece = little_bytes 4 (held % 2 ^ 32) in
    let front : take (at + 4) (put_mid at (length out - at) out new) ≡ take at out ++ piece =
    ap (λ (ys : List ℕ). take (at + 4) (put_mid at (length out - at) out ys)) e ∙ front_written out piece rest at (length out - at) 4 h (length-little_bytes 4 (held % 2 ^ 32)) in
    let word : number_of_bytes piece ≡ held % 2 ^ 32 = number-little_bytes 4 (held % 2 ^ 32) (mod-lt held (omega arith)) in
    let joined : number_of_bytes (take at out ++ piece) ≡ number_of_bytes (take at out) + 2 ^ (8 * at) * (held % 2 ^ 32) =
    number-append (take at out) piece ∙ ap (λ (n : ℕ). number_of_bytes (take at out) + 2 ^ (8 * n) * number_of_bytes piece) (length-take-le at out h)
    ∙ ap (λ (n : ℕ). number_of_bytes (take at out) + 2 ^ (8 * at) * n) word in
    let longer : 8 * (at + 4) ≡ 8 * at + 32 = omega arith in
    let power : 2 ^ (8 * (at + 4)) ≡ 2 ^ (8 * at) * 2 ^ 32 = ap (λ (k : ℕ). 2 ^ k) longer ∙ pow-add 2 (8 * at) 32 in
    rw (front, joined, power) (omega (arith, ap (λ (n : ℕ). 2 ^ (8 * at) * n) (shr_split held 32)))

-- the last bytes out of the buffer
pub last_moved : (out : List ℕ) (at held n : ℕ) (new : List ℕ) → at ≤ length out → n ≡ length out - at → held < 256 ^ n
    → new ≡ little_bytes n held ++ drop n (take (length out - at) (drop at out))
    → number_of_bytes (put_mid at (length out - at) out new) ≡ number_of_bytes (take at out) + 2 ^ (8 * at) * held
last_moved out at held n new h size fits e =
    let piece = little_bytes n held in
    let fits2 : held < 2 ^ (8 * n) = rw (← pow256 n) fits in
    let rest_none : drop n (take (length out - at) (drop at out)) ≡ [] = drop_all n (take (length out - at) (drop at out)) (omega (arith, length-take (length out - at) (drop at out))) in
    let post_none : drop (length out - at) (drop at out) ≡ [] = drop_all (length out - at) (drop at out) (omega (arith, length-drop at out)) in
    let whole : put_mid at (length out - at) out new ≡ take at out ++ piece =
    ap (λ (ys : List ℕ). put_mid at (length out - at) out ys) (e ∙ ap (λ (ys : List ℕ). piece ++ ys) rest_none ∙ append-nil piece)
    ∙ ap (λ (ys : List ℕ). take at out ++ (piece ++ ys)) post_none ∙ ap (λ (ys : List ℕ). take at out ++ ys) (append-nil piece) in
    ap number_of_bytes whole ∙ number-append (take at out) piece
    ∙ ap (λ (m : ℕ). number_of_bytes (take at out) + 2 ^ (8 * m) * number_of_bytes piece) (length-take-le at out h)
    ∙ ap (λ (m : ℕ). number_of_bytes (take at out) + 2 ^ (8 * at) * m) (number-little_bytes n held fits2)

-- one more value in the buffer
pub value_taken : (out values : List ℕ) (w i at used held at' held' : ℕ) → at' ≡ at → held' ≡ held + 2 ^ used * get_or values i 0 → 8 * at + used ≡ w * i
    → i < length values
    → number_of_bytes (take at out) + 2 ^ (8 * at) * held ≡ number_of_values w (take i values)
    → number_of_bytes (take at' out) + 2 ^ (8 * at') * held' ≡ number_of_values w (take (i + 1) values)
value_taken out values w i at used held at' held' e1 e2 bits lt before =
    let power : 2 ^ (w * i) ≡ 2 ^ (8 * at) * 2 ^ used = ap (λ (k : ℕ). 2 ^ k) (sym bits) ∙ pow-add 2 (8 * at) used in
    let step : number_of_values w (take (i + 1) values) ≡ number_of_values w (take i values) + 2 ^ (8 * at) * 2 ^ used * get_or values i 0 =
    values-take w values i lt ∙ ap (λ (n : ℕ). number_of_values w (take i values) + n * get_or values i 0) power in
    ap (λ (n : ℕ). number_of_bytes (take n out) + 2 ^ (8 * n) * held') e1 ∙ ap (λ (n : ℕ). number_of_bytes (take at out) + 2 ^ (8 * at) * n) e2
    ∙ omega (arith, step, before)

-- what stands after a front of n places was written over to the end
pub end_written : (front rest new : List ℕ) (n k : ℕ) → length front ≡ n → length rest ≤ k → put_mid n k (front ++ rest) new ≡ front ++ new
end_written front rest new n k len short =
    let post : drop k (drop n (front ++ rest)) ≡ [] = ap (drop k) (drop_at front rest n len) ∙ drop_all k rest short in
    ap (λ (ys : List ℕ). ys ++ (new ++ drop k (drop n (front ++ rest)))) (take_at front rest n len)
    ∙ ap (λ (ys : List ℕ). front ++ (new ++ ys)) post ∙ ap (λ (ys : List ℕ). front ++ ys) (append-nil new)
