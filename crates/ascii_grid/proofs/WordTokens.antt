-- Words, each with a blank behind it, as tokens.
use Rattle.std.proofs.Common.{◌≡◌, ℕ, ℤ, pos, negsuc, suc, ◌+◌, ◌%◌, ◌==◌, ◌<◌, Bool, true, false, ◌||◌, List, [], ◌∷◌, ◌++◌, length, All, refl, sym, ap, ◌∙◌, subst, arith, inl, inr, decimal}
use Rattle.std.specs.Prelude.{if◌then◌else◌, unsigned_abs, ◌^◌}
use Rattle.std.proofs.lemmas.Bool.{ne_eqb}
use Rattle.std.proofs.lemmas.List.{append-nil}
use Rattle.std.proofs.lemmas.List.Elements.{All-cons, All-from_get_or, All-nil, All-weaker}
use Rattle.std.proofs.lemmas.Fmt.{decimal_is_IsNumeral, decimal_nonempty, length-decimal-le}
use Rattle.std.proofs.lemmas.Str.Parse.{digit_at}
use Rattle.std.specs.Fmt.{signed_decimal}
use Rattle.outside_io.specs.program.Word.{IsDigit}
use Rattle.ascii_grid.specs.Tokens.{AreTokens, IsBlank, IsDark, TokenAt, is_blank}
use Rattle.ascii_grid.specs.Head.{AreDigits, IsInteger, IsText, IsTextByte}
use Rattle.ascii_grid.specs.Canon.{Word, end_of, spelled}
use Rattle.ascii_grid.proofs.TokenLists.{spot}

-- ---- bytes of words

pub dark_above : (b : ℕ) → 32 < b → IsDark b
dark_above b above =
    let one : (b == 32) ≡ false = ne_eqb b 32 (λ e. omega arith) in
    let two : (b == 9) ≡ false = ne_eqb b 9 (λ e. omega arith) in
    let three : (b == 13) ≡ false = ne_eqb b 13 (λ e. omega arith) in
    let four : (b == 10) ≡ false = ne_eqb b 10 (λ e. omega arith) in
    λ i. one i || (two i || (three i || four i))

pub digits_dark : (bytes : List ℕ) → All IsDigit bytes → All IsDark bytes
digits_dark bytes all = All-weaker IsDigit IsDark (λ b is. dark_above b (omega (arith, is))) bytes all

text_dark : (b : ℕ) → IsTextByte b → IsDark b
text_dark b (inl is) = dark_above b (omega (arith, is))
text_dark b (inr (inl is)) = dark_above b (omega (arith, is))
text_dark b (inr (inr (inl is))) = dark_above b (omega (arith, is))
text_dark b (inr (inr (inr (inl is)))) = dark_above b (omega (arith, is))
text_dark b (inr (inr (inr (inr (inl is))))) = dark_above b (omega (arith, is))
text_dark b (inr (inr (inr (inr (inr is))))) = dark_above b (omega (arith, is))

abbrev pub dark_test : List ℕ → Bool
dark_test [] = true
dark_test (b ∷ bs) = if is_blank b then false else dark_test bs

pub dark_by : (bytes : List ℕ) → dark_test bytes ≡ true → All IsDark bytes
dark_by [] is = All-nil IsDark
dark_by (b ∷ bs) is = by (λ e. dark_by bs (sym (ap (λ (u : Bool). if u then false else dark_test bs) e) ∙ is)) (is_blank b) refl
  where
    by : (is_blank b ≡ false → All IsDark bs) → (v : Bool) → is_blank b ≡ v → All IsDark (b ∷ bs)
    by later false e = All-cons IsDark b bs e (later e)
    by later true e = absurd (let no : false ≡ true = sym (ap (λ (u : Bool). if u then false else dark_test bs) e) ∙ is in let bad : ⊥ = cc in bad)

-- ---- numbers

pub decimal_digits : (n : ℕ) → n < 10000000000 → AreDigits (decimal n) n
decimal_digits n below =
    let fits_ : n < 2 ^ 64 = omega (arith, below) in
    record {
      digits = All-from_get_or IsDigit (decimal n) 0 (λ i l. digit_at (decimal n) i (decimal_is_IsNumeral n fits_).0.1 l);
      some = decimal_nonempty n fits_;
      few = length-decimal-le 10 n (omega arith) (omega (arith, below)) fits_;
      value = (decimal_is_IsNumeral n fits_).1;
    }

pub signed_integer : (z : ℤ) → unsigned_abs z < 10000000000 → IsInteger (signed_decimal z) z
signed_integer (pos n) below = (n, inl (decimal_digits n below, refl))
signed_integer (negsuc n) below = (suc n, inr (decimal (suc n), (refl, (decimal_digits (suc n) below, refl))))

pub integer_dark : (bytes : List ℕ) (z : ℤ) → IsInteger bytes z → All IsDark bytes
integer_dark bytes z (n, inl a) = digits_dark bytes a.0.digits
integer_dark bytes z (n, inr a) = subst (All IsDark) (sym a.1.0) (All-cons IsDark 45 a.0 (dark_above 45 (omega arith)) (digits_dark a.0 a.1.1.0.digits))

pub integer_some : (bytes : List ℕ) (z : ℤ) → IsInteger bytes z → 0 < length bytes
integer_some bytes z (n, inl a) = a.0.some
integer_some bytes z (n, inr a) = let size : length bytes ≡ suc (length a.0) = ap length a.1.0 in omega (arith, size)

-- ---- words

pub record IsWord (w : Word) : Type 0 where
  pub some : 0 < length w.bytes
  pub dark : All IsDark w.bytes
  pub behind : IsBlank w.behind

abbrev pub AreWords : List Word → Type 0
AreWords [] = Unit {0}
AreWords (w ∷ ws) = IsWord w × AreWords ws

abbrev pub spots : ℕ → List Word → List TokenAt
spots p [] = []
spots p (w ∷ ws) = spot p w.bytes ∷ spots (p + length w.bytes + 1) ws

pub are_tokens : (from : ℕ) (gap : List ℕ) (ws : List Word) → All IsBlank gap → AreWords ws → AreTokens from (gap ++ spelled ws) (spots (from + length gap) ws)
are_tokens from gap [] blank words = subst (All IsBlank) (sym (append-nil gap)) blank
are_tokens from gap (w ∷ ws) blank words =
    let one : All IsBlank (w.behind ∷ []) = All-cons IsBlank w.behind [] words.0.behind (All-nil IsBlank) in
    let later = are_tokens (from + length gap + length w.bytes) (w.behind ∷ []) ws one words.1 in
    (gap, w.behind ∷ spelled ws, (refl, (blank, (refl, (words.0.some, (words.0.dark, (words.0.behind, later)))))))

pub words_tokens : (ws : List Word) → AreWords ws → AreTokens 0 (spelled ws) (spots 0 ws)
words_tokens ws words = are_tokens 0 [] ws (All-nil IsBlank) words

pub spots_long : (p : ℕ) (ws : List Word) → length (spots p ws) ≡ length ws
spots_long p [] = refl
spots_long p (w ∷ ws) = ap suc (spots_long (p + length w.bytes + 1) ws)

pub end_blank : (cols k : ℕ) → IsBlank (end_of cols k)
end_blank cols k = by ((suc k) % cols == 0)
  where
    by : (v : Bool) → IsBlank (if v then 10 else 32)
    by true = refl
    by false = refl

pub text_word : (bytes : List ℕ) → IsText bytes → IsWord (record { bytes = bytes; behind = 10 })
text_word bytes is = record { some = is.some; dark = All-weaker IsTextByte IsDark text_dark bytes is.each; behind = refl }

pub number_word : (z : ℤ) (behind : ℕ) → unsigned_abs z < 10000000000 → IsBlank behind → IsWord (record { bytes = signed_decimal z; behind = behind })
number_word z behind below blank =
    let is = signed_integer z below in
    record { some = integer_some (signed_decimal z) z is; dark = integer_dark (signed_decimal z) z is; behind = blank }
