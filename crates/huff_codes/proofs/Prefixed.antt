-- What eight bits tell of codes of which none is the front of another.
use Rattle.std.proofs.Common.{◌≡◌, ℕ, ◌+◌, ◌<◌, ◌≤◌, Bool, List, [], ◌∷◌, ◌++◌, length, take, drop, ◌/◌, ◌^◌, sym, ap, ◌∙◌, subst, refl, arith}
use Rattle.std.proofs.lemmas.List.{length-append, append_assoc, append-nil, take-append-drop, take-take}
use Rattle.huff_codes.specs.Bits.{bits_of, BeginsWith}
use Rattle.huff_codes.specs.Codes.{HasCode, IsPrefixFree, code_at}
use Rattle.huff_codes.specs.Prefixes.{IsFront, IsLonger, IsLook}
use Rattle.huff_codes.specs.Words.{IsBegun, IsStuck}
use Rattle.huff_codes.specs.inside.Reading.{IsNext}
use Rattle.huff_codes.specs.inside.Stored.{IsAhead}
use Rattle.huff_codes.specs.declared.codes.Ahead.{Ahead}
use Rattle.huff_codes.specs.declared.words.prefixes.Look.{Look}
use Rattle.huff_codes.specs.declared.words.prefixes.Look.TheVariants.{Symbol, Longer, Nothing}
use Rattle.huff_codes.proofs.BitLists.{length-bits, take-bits}
use Rattle.huff_codes.proofs.WordLaws.{one_symbol}

-- no code stands in front of eight bits with which a longer one begins
pub no_longer : (codes : List (List Bool)) (byte s : ℕ) → IsPrefixFree codes → HasCode codes s → BeginsWith (bits_of 8 byte) (code_at codes s) → IsLonger codes byte → ⊥
no_longer codes byte s free coded (rest, front) (t, (long, (more, goes))) =
    let both : code_at codes t ++ [] ≡ code_at codes s ++ (rest ++ more) =
    append-nil (code_at codes t) ∙ goes ∙ ap (λ (bs : List Bool). bs ++ more) front ∙ append_assoc (code_at codes s) rest more in
    let same : t ≡ s = one_symbol codes t s [] (rest ++ more) free (omega (arith, long)) coded both in
    let size : 8 ≡ length (code_at codes s) + length rest = sym (length-bits 8 byte) ∙ ap length front ∙ length-append (code_at codes s) rest in
    omega (arith, long, size, ap (λ (k : ℕ). length (code_at codes k)) same)

symbol_or : ℕ → Look → ℕ
symbol_or d (Symbol t m) = t
symbol_or d Longer = d
symbol_or d Nothing = d

size_or : ℕ → Look → ℕ
size_or d (Symbol t m) = m
size_or d Longer = d
size_or d Nothing = d

abbrev IsSymbol : Look → Type 0
IsSymbol (Symbol t m) = Unit {0}
IsSymbol Longer = ⊥
IsSymbol Nothing = ⊥

abbrev IsLong : Look → Type 0
IsLong (Symbol t m) = ⊥
IsLong Longer = Unit {0}
IsLong Nothing = ⊥

-- the symbol whose code stands in front
pub look_symbol : (codes : List (List Bool)) (byte s n : ℕ) → IsPrefixFree codes → IsNext codes (bits_of 8 byte) s n → IsLook codes byte (Symbol s n)
unfolding symbol_or size_or
look_symbol codes byte s n free next = record {
  symbol = λ t m. (
    λ e.
        let same : s ≡ t = ap (symbol_or s) e in
        let size : n ≡ m = ap (size_or n) e in
        record {
          coded = subst (HasCode codes) same next.coded;
          takes = sym size ∙ next.takes ∙ ap (λ (k : ℕ). length (code_at codes k)) same;
          front = subst (λ (k : ℕ). BeginsWith (bits_of 8 byte) (code_at codes k)) same next.front;
        },
    λ is.
        let same : s ≡ t = one_symbol codes s t next.front.0 is.front.0 free next.coded is.coded (sym next.front.1 ∙ is.front.1) in
        let size : n ≡ m = next.takes ∙ ap (λ (k : ℕ). length (code_at codes k)) same ∙ sym is.takes in
        (λ i. Symbol (same i) (size i)),
  );
  longer = (
    λ e. absurd (subst IsSymbol e tt),
    λ long. absurd (no_longer codes byte s free next.coded next.front long),
  );
}

-- no code stands in front, and one begins with the bits
pub look_longer : (codes : List (List Bool)) (byte : ℕ) → IsStuck codes (bits_of 8 byte) → IsBegun codes (bits_of 8 byte) → IsLook codes byte Longer
look_longer codes byte stuck (s, (coded, (rest, goes))) = record {
  symbol = λ t m. (λ e. absurd (subst IsLong e tt), λ is. absurd (stuck t is.coded is.front));
  longer = (λ e. (s, (long rest goes, (rest, goes))), λ is. refl);
}
  where
    long : (rest : List Bool) → code_at codes s ≡ bits_of 8 byte ++ rest → 8 < length (code_at codes s)
    long [] e =
        let whole : bits_of 8 byte ≡ code_at codes s ++ [] = sym (append-nil (bits_of 8 byte)) ∙ sym e ∙ sym (append-nil (code_at codes s)) in
        absurd (stuck s coded ([], whole))
    long (b ∷ bs) e =
        let size : length (code_at codes s) ≡ length (bits_of 8 byte) + length (b ∷ bs) = ap length e ∙ length-append (bits_of 8 byte) (b ∷ bs) in
        omega (arith, size, length-bits 8 byte)

-- neither
pub look_nothing : (codes : List (List Bool)) (byte : ℕ) → IsStuck codes (bits_of 8 byte) → (IsBegun codes (bits_of 8 byte) → ⊥) → IsLook codes byte Nothing
look_nothing codes byte stuck none = record {
  symbol = λ t m. (λ e. absurd (subst IsSymbol (sym e) tt), λ is. absurd (stuck t is.coded is.front));
  longer = (
    λ e. absurd (subst IsLong (sym e) tt),
    λ is. absurd (none (is.0, (omega (arith, is.1.0), is.1.1))),
  );
}

-- the eight bits stand in front of the bits ahead
pub ahead_front : (codes : List (List Bool)) (byte s n : ℕ) (left : List Bool) → IsFront codes byte s n → take 8 left ≡ bits_of 8 byte → IsNext codes left s n
ahead_front codes byte s n left is e = record {
  coded = is.coded;
  front = (is.front.0 ++ drop 8 left, sym (take-append-drop 8 left) ∙ ap (λ (bs : List Bool). bs ++ drop 8 left) (e ∙ is.front.1) ∙ append_assoc (code_at codes s) is.front.0 (drop 8 left));
  takes = is.takes;
}

-- they are those of the highest byte of the word
pub ahead_byte : (a : Ahead) (left : List Bool) → IsAhead a left → 8 ≤ a.count → take 8 left ≡ bits_of 8 (a.word / 2 ^ 24)
ahead_byte a left h long =
    sym (take-take 8 32 left (omega arith)) ∙ ap (take 8) h.same ∙ take-take 8 a.count (bits_of 32 a.word) long ∙ take-bits 8 32 a.word (omega arith)

pub short_front : (byte n : ℕ) (codes : List (List Bool)) (s : ℕ) → IsFront codes byte s n → n ≤ 8
short_front byte n codes s is =
    let size : 8 ≡ length (code_at codes s) + length is.front.0 = sym (length-bits 8 byte) ∙ ap length is.front.1 ∙ length-append (code_at codes s) is.front.0 in
    omega (arith, size, is.takes)
