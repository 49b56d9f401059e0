-- Reading symbols one after the other.
use Rattle.std.proofs.Common.{◌≡◌, ℕ, ◌+◌, ◌*◌, ◌/◌, ◌<◌, ◌≤◌, Bool, List, [], ◌∷◌, ◌++◌, length, take, drop, refl, sym, ap, ◌∙◌, subst, inl, inr, arith}
use Rattle.std.proofs.lemmas.List.{length-append, length-drop, length-take-le, take_at, take-take, take-append-drop, drop_at, drop-drop, append_assoc, append-nil}
use Rattle.std.proofs.lemmas.List.Elements.{All-nil, All-push}
use Rattle.huff_codes.specs.Bits.{word_bits}
use Rattle.huff_codes.specs.Codes.{code_at, HasCode}
use Rattle.huff_codes.specs.declared.faults.CodeFault.{CodeFault}
use Rattle.huff_codes.specs.declared.faults.CodeReason.TheVariants.{Cut, NoCode}
use Rattle.huff_codes.specs.Words.{joined_codes, whole_end, AreWords, ArePassed, IsStuck, word_faults}
use Rattle.huff_codes.specs.Words.{code_cut, no_code, further_cut}
use Rattle.first_fault.specs.Faults.{wrong}
use Rattle.huff_codes.specs.inside.Reading.{HaveReached, IsNext, IsStop}
use Rattle.huff_codes.proofs.Windows.{length-word_bits, word-take}

pub joined_codes-nil : (codes : List (List Bool)) → joined_codes codes [] ≡ []
unfolding joined_codes
joined_codes-nil codes = refl

pub joined_codes-cons : (codes : List (List Bool)) (s : ℕ) (symbols : List ℕ) → joined_codes codes (s ∷ symbols) ≡ code_at codes s ++ joined_codes codes symbols
unfolding joined_codes
joined_codes-cons codes s symbols = refl

pub joined_codes-append : (codes : List (List Bool)) (xs ys : List ℕ) → joined_codes codes (xs ++ ys) ≡ joined_codes codes xs ++ joined_codes codes ys
joined_codes-append codes [] ys = ap (λ (bs : List Bool). bs ++ joined_codes codes ys) (sym (joined_codes-nil codes))
joined_codes-append codes (s ∷ xs) ys =
    joined_codes-cons codes s (xs ++ ys) ∙ ap (λ (bs : List Bool). code_at codes s ++ bs) (joined_codes-append codes xs ys)
    ∙ sym (append_assoc (code_at codes s) (joined_codes codes xs) (joined_codes codes ys)) ∙ ap (λ (bs : List Bool). bs ++ joined_codes codes ys) (sym (joined_codes-cons codes s xs))

pub joined_codes-push : (codes : List (List Bool)) (xs : List ℕ) (s : ℕ) → joined_codes codes (xs ++ s ∷ []) ≡ joined_codes codes xs ++ code_at codes s
joined_codes-push codes xs s =
    joined_codes-append codes xs (s ∷ []) ∙ ap (λ (bs : List Bool). joined_codes codes xs ++ bs)
    (joined_codes-cons codes s [] ∙ ap (λ (bs : List Bool). code_at codes s ++ bs) (joined_codes-nil codes) ∙ append-nil (code_at codes s))

pub reach_none : (codes : List (List Bool)) (bytes : List ℕ) → HaveReached codes bytes [] 0
reach_none codes bytes = record {
  coded = All-nil (HasCode codes);
  takes = sym (ap length (joined_codes-nil codes));
  bits = ap (λ (bs : List Bool). bs ++ word_bits bytes) (sym (joined_codes-nil codes));
}

pub reach_within : (codes : List (List Bool)) (bytes symbols : List ℕ) (bit : ℕ) → HaveReached codes bytes symbols bit → bit ≤ 32 * (length bytes / 4)
reach_within codes bytes symbols bit h =
    omega (arith, h.takes, ap length h.bits, length-append (joined_codes codes symbols) (drop bit (word_bits bytes)), length-word_bits bytes)

pub reach_more : (codes : List (List Bool)) (bytes symbols : List ℕ) (bit s size : ℕ) → HaveReached codes bytes symbols bit → IsNext codes (drop bit (word_bits bytes)) s size
    → HaveReached codes bytes (symbols ++ s ∷ []) (bit + size)
reach_more codes bytes symbols bit s size h next =
    let code = code_at codes s in
    let rest = next.front.0 in
    let left : drop bit (word_bits bytes) ≡ code ++ rest = next.front.1 in
    let after : drop (bit + size) (word_bits bytes) ≡ rest =
    sym (drop-drop size bit (word_bits bytes)) ∙ ap (drop size) left ∙ drop_at code rest size (sym next.takes) in record {
      coded = All-push (HasCode codes) symbols s h.coded next.coded;
      takes = omega (arith, h.takes, next.takes, ap length (joined_codes-push codes symbols s), length-append (joined_codes codes symbols) code);
      bits = h.bits ∙ ap (λ (bs : List Bool). joined_codes codes symbols ++ bs) left ∙ sym (append_assoc (joined_codes codes symbols) code rest)
          ∙ ap (λ (bs : List Bool). bs ++ rest) (sym (joined_codes-push codes symbols s))
          ∙ ap (λ (bs : List Bool). joined_codes codes (symbols ++ s ∷ []) ++ bs) (sym after);
    }

-- the code that stands next lies within the whole words
pub next_within : (codes : List (List Bool)) (bytes : List ℕ) (bit s size : ℕ) → bit ≤ 32 * (length bytes / 4) → IsNext codes (drop bit (word_bits bytes)) s size → bit + size ≤ 32 * (length bytes / 4)
next_within codes bytes bit s size within next =
    omega (arith, within, next.takes, ap length next.front.1, length-append (code_at codes s) next.front.0, length-drop bit (word_bits bytes), length-word_bits bytes)

pub are_words : (codes : List (List Bool)) (bytes symbols : List ℕ) (bit used : ℕ) → HaveReached codes bytes symbols bit → used ≡ (bit + 31) / 32 * 4 + 4 → used ≤ length bytes
    → AreWords codes (length symbols) (take used bytes) symbols
are_words codes bytes symbols bit used h is within =
    let i = (bit + 31) / 32 + 1 in
    let whole : used ≡ 4 * i = omega (arith, is) in
    let words = take (32 * i) (word_bits bytes) in
    let same : word_bits (take used bytes) ≡ words = ap (λ (k : ℕ). word_bits (take k bytes)) whole ∙ word-take i bytes (omega arith) in
    let front : take bit words ≡ joined_codes codes symbols =
    take-take bit (32 * i) (word_bits bytes) (omega arith) ∙ ap (take bit) h.bits ∙ take_at (joined_codes codes symbols) (drop bit (word_bits bytes)) bit (sym h.takes) in record {
      count = refl;
      coded = h.coded;
      begin = (drop bit words, same ∙ sym (take-append-drop bit words) ∙ ap (λ (bs : List Bool). bs ++ drop bit words) front);
      size = length-take-le used bytes within ∙ is ∙ (let e : (bit + 31) / 32 * 4 + 4 ≡ 4 * ((length (joined_codes codes symbols) + 31) / 32) + 4 = omega (arith, h.takes) in e);
    }

passed : (codes : List (List Bool)) (bytes symbols : List ℕ) (bit : ℕ) → HaveReached codes bytes symbols bit → ArePassed codes bytes symbols (drop bit (word_bits bytes))
passed codes bytes symbols bit h = record { coded = h.coded; bits = h.bits }

pub stop_fault : (codes : List (List Bool)) (bytes symbols : List ℕ) (bit n : ℕ) (f : CodeFault) → HaveReached codes bytes symbols bit → length symbols < n
    → IsStuck codes (drop bit (word_bits bytes)) → IsStop codes bytes bit (drop bit (word_bits bytes)) f → word_faults codes n bytes f.at f.reason
stop_fault codes bytes symbols bit n f h few stuck (inl (begun, is)) = code_cut symbols (drop bit (word_bits bytes)) (passed codes bytes symbols bit h) few stuck begun is
stop_fault codes bytes symbols bit n f h few stuck (inr (none, is)) =
    no_code symbols (drop bit (word_bits bytes)) (passed codes bytes symbols bit h) few stuck none
    (subst (λ (k : ℕ). wrong NoCode (4 * (k / 32)) f.at f.reason) h.takes is)

pub end_fault : (codes : List (List Bool)) (bytes symbols : List ℕ) (bit n at : ℕ) → HaveReached codes bytes symbols bit → length symbols ≡ n
    → length bytes < (bit + 31) / 32 * 4 + 4 → at ≡ whole_end bytes → word_faults codes n bytes at Cut
end_fault codes bytes symbols bit n at h all short is =
    further_cut symbols (drop bit (word_bits bytes)) (passed codes bytes symbols bit h) all (omega (arith, h.takes, short)) (is, refl)
