-- Codes as they are held, against bits.
use Rattle.std.proofs.Common.{◌≡◌, ℕ, ◌<◌, ◌≤◌, Bool, true, false, List, [], ◌++◌, length, get_or, take, drop, refl, sym, ap, ◌∙◌, subst, inl, inr, arith}
use Rattle.std.specs.Prelude.{All, HoldsAt, SomeIndex, IsTrue, ◌↔◌}
use Rattle.std.specs.Bool.{MatchBool}
use Rattle.std.proofs.lemmas.Bool.{cases_lt, false≢true}
use Rattle.std.proofs.lemmas.List.{length-append, length-map, length-take, length-take-le, take_at, take-take, take_all, take-append-drop, get_or-map, get_or_past, append-nil, nil_from_length}
use Rattle.huff_codes.specs.Bits.{bits_of, BeginsWith}
use Rattle.huff_codes.specs.Codes.{code_at, HasCode}
use Rattle.huff_codes.specs.declared.codes.Code.{Code}
use Rattle.huff_codes.specs.declared.codes.Ahead.{Ahead}
use Rattle.huff_codes.specs.inside.Spans.{no_code}
use Rattle.huff_codes.specs.inside.Stored.{code_bits, codes_held, AreHeld, IsAhead, AreAlike, IsInFront, IsBehind}
use Rattle.huff_codes.specs.Words.{IsStuck, IsBegun}
use Rattle.huff_codes.specs.inside.Reading.{IsNext}
use Rattle.huff_codes.proofs.BitLists.{length-bits}

pub code_bits-is : (c : Code) → code_bits c ≡ take c.length (bits_of 32 c.bits)
unfolding code_bits
code_bits-is c = refl

pub length-code_bits : (c : Code) → c.length ≤ 32 → length (code_bits c) ≡ c.length
length-code_bits c low = ap length (code_bits-is c) ∙ length-take-le c.length (bits_of 32 c.bits) (omega (arith, length-bits 32 c.bits))

pub held-at : (cs : List Code) (s : ℕ) (d : Code) → s < length cs → code_at (codes_held cs) s ≡ code_bits (get_or cs s d)
unfolding codes_held
held-at cs s d h = get_or-map code_bits cs s d [] h

pub length-held : (cs : List Code) → length (codes_held cs) ≡ length cs
unfolding codes_held
length-held cs = length-map cs code_bits

pub held_256 : (cs : List Code) → AreHeld cs → length cs ≡ 256
held_256 cs h = omega (arith, length-held cs, h.codes.size)

-- a symbol with a code is one of those that are held
pub coded_within : (cs : List Code) (s : ℕ) → HasCode (codes_held cs) s → s < length cs
coded_within cs s h = elim (cases_lt s (length cs)) [
  | inl lt ↦ lt
  | inr ge ↦
      let none : code_at (codes_held cs) s ≡ [] = get_or_past (codes_held cs) s [] (omega (arith, length-held cs)) in
      absurd (omega (arith, h, ap length none))
]

-- the first bits of what is ahead
ahead_take : (a : Ahead) (left : List Bool) (n : ℕ) → IsAhead a left → n ≤ 32 → take n left ≡ take n (take a.count (bits_of 32 a.word))
ahead_take a left n h low = sym (take-take n 32 left low) ∙ ap (take n) h.same

length-ahead : (a : Ahead) → a.count ≤ 32 → length (take a.count (bits_of 32 a.word)) ≡ a.count
length-ahead a few = length-take-le a.count (bits_of 32 a.word) (omega (arith, length-bits 32 a.word))

pub in_front_from : (c : Code) (a : Ahead) (left : List Bool) → c.length ≤ 32 → IsAhead a left → 0 < c.length → BeginsWith left (code_bits c) → IsInFront c a
unfolding AreAlike
in_front_from c a left low h some (rest, e) =
    let l = c.length in
    let size : length (code_bits c) ≡ l = length-code_bits c low in
    let front : take l (take a.count (bits_of 32 a.word)) ≡ code_bits c = sym (ahead_take a left l h low) ∙ ap (take l) e ∙ take_at (code_bits c) rest l size in
    let within : l ≤ a.count = omega (arith, ap length front, size, length-take l (take a.count (bits_of 32 a.word)), length-ahead a h.few) in
    (some, (within, sym (take-take l a.count (bits_of 32 a.word) within) ∙ front ∙ code_bits-is c))

pub begins_from : (c : Code) (a : Ahead) (left : List Bool) → c.length ≤ 32 → IsAhead a left → IsInFront c a → BeginsWith left (code_bits c)
unfolding AreAlike
begins_from c a left low h (some, (within, alike)) =
    let l = c.length in
    let front : take l left ≡ code_bits c = ahead_take a left l h low ∙ take-take l a.count (bits_of 32 a.word) within ∙ alike ∙ sym (code_bits-is c) in
    (drop l left, sym (take-append-drop l left) ∙ ap (λ (bs : List Bool). bs ++ drop l left) front)

-- all that is left, where it is less than a word
left_is : (a : Ahead) (left : List Bool) → IsAhead a left → a.count < 32 → left ≡ take a.count (bits_of 32 a.word)
left_is a left h few =
    let size : length (take 32 left) ≡ a.count = ap length h.same ∙ length-ahead a h.few in
    let short : length left ≤ 32 = omega (arith, size, length-take 32 left) in
    sym (take_all 32 left short) ∙ h.same

pub behind_from : (c : Code) (a : Ahead) (left : List Bool) → c.length ≤ 32 → IsAhead a left → a.count < 32 → 0 < c.length → BeginsWith (code_bits c) left → IsBehind c a
unfolding AreAlike
behind_from c a left low h few some (rest, e) =
    let n = a.count in
    let is : left ≡ take n (bits_of 32 a.word) = left_is a left h few in
    let size : length left ≡ n = ap length is ∙ length-ahead a h.few in
    let within : n ≤ c.length = omega (arith, size, ap length e, length-append left rest, length-code_bits c low) in
    let front : take n (take c.length (bits_of 32 c.bits)) ≡ left = ap (take n) (sym (code_bits-is c) ∙ e) ∙ take_at left rest n size in
    (some, (within, sym (take-take n c.length (bits_of 32 c.bits) within) ∙ front ∙ is))

pub begun_from : (c : Code) (a : Ahead) (left : List Bool) → c.length ≤ 32 → IsAhead a left → a.count < 32 → IsBehind c a → BeginsWith (code_bits c) left
unfolding AreAlike
begun_from c a left low h few (some, (within, alike)) =
    let n = a.count in
    let is : left ≡ take n (bits_of 32 a.word) = left_is a left h few in
    let front : take n (code_bits c) ≡ left = ap (take n) (code_bits-is c) ∙ take-take n c.length (bits_of 32 c.bits) within ∙ alike ∙ sym is in
    (drop n (code_bits c), sym (take-append-drop n (code_bits c)) ∙ ap (λ (bs : List Bool). bs ++ drop n (code_bits c)) front)

-- no code in front of what is ahead
pub stuck_held : (cs : List Code) (a : Ahead) (left : List Bool) → AreHeld cs → IsAhead a left → All (λ c. IsInFront c a → ⊥) cs → IsStuck (codes_held cs) left
stuck_held cs a left held h none s coded begins =
    let lt : s < length cs = coded_within cs s coded in
    let c = get_or cs s no_code in
    let is : code_at (codes_held cs) s ≡ code_bits c = held-at cs s no_code lt in
    let low : c.length ≤ 32 = (held.laid s no_code lt).low in
    none s no_code lt (in_front_from c a left low h (omega (arith, coded, ap length is, length-code_bits c low)) (subst (BeginsWith left) is begins))

pub next_held : (cs : List Code) (a : Ahead) (left : List Bool) (s size : ℕ) → AreHeld cs → IsAhead a left → s < length cs → HoldsAt (λ c. IsInFront c a) cs s
    → size ≡ (get_or cs s no_code).length → IsNext (codes_held cs) left s size
next_held cs a left s size held h lt front len =
    let c = get_or cs s no_code in
    let is : code_at (codes_held cs) s ≡ code_bits c = held-at cs s no_code lt in
    let low : c.length ≤ 32 = (held.laid s no_code lt).low in
    let in_front : IsInFront c a = front no_code in record {
      coded = omega (arith, in_front.0, ap length is, length-code_bits c low);
      front = subst (BeginsWith left) (sym is) (begins_from c a left low h in_front);
      takes = len ∙ sym (ap length is ∙ length-code_bits c low);
    }

pub begun_held : (cs : List Code) (a : Ahead) (left : List Bool) (s : ℕ) → AreHeld cs → IsAhead a left → a.count < 32 → s < length cs → HoldsAt (λ c. IsBehind c a) cs s → IsBegun (codes_held cs) left
begun_held cs a left s held h few lt behind =
    let c = get_or cs s no_code in
    let is : code_at (codes_held cs) s ≡ code_bits c = held-at cs s no_code lt in
    let low : c.length ≤ 32 = (held.laid s no_code lt).low in
    let on : IsBehind c a = behind no_code in
    (s, (omega (arith, on.0, ap length is, length-code_bits c low), subst (λ (bs : List Bool). BeginsWith bs left) (sym is) (begun_from c a left low h few on)))

pub not_begun_held : (cs : List Code) (a : Ahead) (left : List Bool) → AreHeld cs → IsAhead a left → a.count < 32 → All (λ c. IsBehind c a → ⊥) cs → IsBegun (codes_held cs) left → ⊥
not_begun_held cs a left held h few none (s, (coded, begins)) =
    let lt : s < length cs = coded_within cs s coded in
    let c = get_or cs s no_code in
    let is : code_at (codes_held cs) s ≡ code_bits c = held-at cs s no_code lt in
    let low : c.length ≤ 32 = (held.laid s no_code lt).low in
    none s no_code lt (behind_from c a left low h few (omega (arith, coded, ap length is, length-code_bits c low)) (subst (λ (bs : List Bool). BeginsWith bs left) is begins))

-- 32 bits or more are the front of no code, if no code is the front of them
pub not_begun_long : (cs : List Code) (a : Ahead) (left : List Bool) → AreHeld cs → IsAhead a left → 32 ≤ a.count → IsStuck (codes_held cs) left → IsBegun (codes_held cs) left → ⊥
not_begun_long cs a left held h many stuck (s, (coded, (rest, e))) =
    let short : length (code_at (codes_held cs) s) ≤ 32 = held.codes.short s in
    let long : 32 ≤ length left = omega (arith, ap length h.same, length-ahead a h.few, length-take 32 left) in
    let none : rest ≡ [] = nil_from_length rest (omega (arith, ap length e, length-append left rest)) in
    let whole : left ≡ code_at (codes_held cs) s ++ [] = sym (append-nil left) ∙ ap (λ (bs : List Bool). left ++ bs) (sym none) ∙ sym e ∙ sym (append-nil (code_at (codes_held cs) s)) in
    stuck s coded ([], whole)

pub cut_answer : (cs : List Code) (a : Ahead) (left : List Bool) (r : Bool) → AreHeld cs → IsAhead a left → a.count < 32
    → MatchBool r (SomeIndex cs (λ s. HoldsAt (λ c. IsBehind c a) cs s)) (All (λ c. IsBehind c a → ⊥) cs) → IsTrue r ↔ IsBegun (codes_held cs) left
cut_answer cs a left true held h few (s, lt, behind) = (λ _. begun_held cs a left s held h few lt behind, λ _. refl)
cut_answer cs a left false held h few none = (λ e. absurd (false≢true e), λ b. absurd (not_begun_held cs a left held h few none b))

pub cut_never : (cs : List Code) (a : Ahead) (left : List Bool) (r : Bool) → AreHeld cs → IsAhead a left → 32 ≤ a.count → r ≡ false → IsStuck (codes_held cs) left → IsTrue r ↔ IsBegun (codes_held cs) left
cut_never cs a left r held h many e stuck = (λ t. absurd (false≢true (sym e ∙ t)), λ b. absurd (not_begun_long cs a left held h many stuck b))
