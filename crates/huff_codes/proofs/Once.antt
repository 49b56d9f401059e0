-- Bytes that are written are the only ones.
use Rattle.std.proofs.Common.{◌≡◌, ℕ, zero, suc, ◌+◌, ◌*◌, ◌^◌, ◌<◌, Bool, List, [], ◌∷◌, ◌++◌, length, get_or, take, drop, refl, sym, ap, ◌∙◌, subst, arith}
use Rattle.std.proofs.lemmas.List.{take_at, drop_at, get_or-append-add}
use Rattle.std.proofs.Math.Nat.{mod-eq_of_lt}
use Rattle.byteorder.specs.Endian.{little_number}
use Rattle.bit_stuff.specs.Simple.{simple_bytes}
use Rattle.first_fault.specs.Parts.{AreBytes}
use Rattle.huff_codes.specs.Bits.{bits_of, word_bits}
use Rattle.huff_codes.specs.Codes.{canonical_codes}
use Rattle.huff_codes.specs.Table.{symbols_in}
use Rattle.huff_codes.specs.declared.tables.table.SymbolRange.{SymbolRange}
use Rattle.huff_codes.specs.Written.{AreTableWords, IsFilled, run_lengths, table_head}
use Rattle.huff_codes.specs.Laws.{WrittenWordsAreOnce, WrittenTablesAreOnce}
use Rattle.huff_codes.proofs.BitLists.{length-bits, same_from_bits}
use Rattle.huff_codes.proofs.ChosenRuns.{one_run}

-- four bytes by their number
four_number : (a b c d x y z w : ℕ) → a < 256 → b < 256 → c < 256 → d < 256 → x < 256 → y < 256 → z < 256 → w < 256
    → (little_number 4 (a ∷ (b ∷ (c ∷ (d ∷ [])))) ≡ little_number 4 (x ∷ (y ∷ (z ∷ (w ∷ []))))) → ((a ≡ x) × (b ≡ y)) × ((c ≡ z) × (d ≡ w))
four_number a b c d x y z w ha hb hc hd hx hy hz hw e = ((omega arith, omega arith), (omega arith, omega arith))

four_low : (a b c d : ℕ) → a < 256 → b < 256 → c < 256 → d < 256 → little_number 4 (a ∷ (b ∷ (c ∷ (d ∷ [])))) < 2 ^ 32
four_low a b c d ha hb hc hd = omega arith

word-cons : (a b c d : ℕ) (rest : List ℕ) → word_bits (a ∷ (b ∷ (c ∷ (d ∷ rest)))) ≡ bits_of 32 (little_number 4 (a ∷ (b ∷ (c ∷ (d ∷ []))))) ++ word_bits rest
unfolding word_bits
word-cons a b c d rest = refl

later : (a : ℕ) (xs : List ℕ) → AreBytes (a ∷ xs) → AreBytes xs
later a xs h i = h (suc i)

-- bytes of whole words by their bits
pub same_bytes : (n : ℕ) (a b : List ℕ) → length a ≡ 4 * n → length b ≡ 4 * n → AreBytes a → AreBytes b → word_bits a ≡ word_bits b → a ≡ b
same_bytes zero [] [] la lb ha hb e = refl
same_bytes zero (x ∷ xs) b la lb ha hb e = absurd (omega (arith, la))
same_bytes zero [] (y ∷ ys) la lb ha hb e = absurd (omega (arith, lb))
same_bytes (suc n) [] b la lb ha hb e = absurd (omega (arith, la))
same_bytes (suc n) (a ∷ []) b la lb ha hb e = absurd (omega (arith, la))
same_bytes (suc n) (a ∷ (b ∷ [])) ys la lb ha hb e = absurd (omega (arith, la))
same_bytes (suc n) (a ∷ (b ∷ (c ∷ []))) ys la lb ha hb e = absurd (omega (arith, la))
same_bytes (suc n) (a ∷ (b ∷ (c ∷ (d ∷ xs)))) [] la lb ha hb e = absurd (omega (arith, lb))
same_bytes (suc n) (a ∷ (b ∷ (c ∷ (d ∷ xs)))) (x ∷ []) la lb ha hb e = absurd (omega (arith, lb))
same_bytes (suc n) (a ∷ (b ∷ (c ∷ (d ∷ xs)))) (x ∷ (y ∷ [])) la lb ha hb e = absurd (omega (arith, lb))
same_bytes (suc n) (a ∷ (b ∷ (c ∷ (d ∷ xs)))) (x ∷ (y ∷ (z ∷ []))) la lb ha hb e = absurd (omega (arith, lb))
same_bytes (suc n) (a ∷ (b ∷ (c ∷ (d ∷ xs)))) (x ∷ (y ∷ (z ∷ (w ∷ ys)))) la lb ha hb e =
    let m = little_number 4 (a ∷ (b ∷ (c ∷ (d ∷ [])))) in
    let k = little_number 4 (x ∷ (y ∷ (z ∷ (w ∷ [])))) in
    let whole : bits_of 32 m ++ word_bits xs ≡ bits_of 32 k ++ word_bits ys = sym (word-cons a b c d xs) ∙ e ∙ word-cons x y z w ys in
    let front : bits_of 32 m ≡ bits_of 32 k =
    sym (take_at (bits_of 32 m) (word_bits xs) 32 (length-bits 32 m)) ∙ ap (take 32) whole ∙ take_at (bits_of 32 k) (word_bits ys) 32 (length-bits 32 k) in
    let back : word_bits xs ≡ word_bits ys =
    sym (drop_at (bits_of 32 m) (word_bits xs) 32 (length-bits 32 m)) ∙ ap (drop 32) whole ∙ drop_at (bits_of 32 k) (word_bits ys) 32 (length-bits 32 k) in
    let lm = four_low a b c d (ha 0) (ha 1) (ha 2) (ha 3) in
    let lk = four_low x y z w (hb 0) (hb 1) (hb 2) (hb 3) in
    let number : m ≡ k = sym (mod-eq_of_lt lm) ∙ same_from_bits 32 m k front ∙ mod-eq_of_lt lk in
    let four = four_number a b c d x y z w (ha 0) (ha 1) (ha 2) (ha 3) (hb 0) (hb 1) (hb 2) (hb 3) number in
    let rest : xs ≡ ys = same_bytes n xs ys (omega (arith, la)) (omega (arith, lb)) (λ i. ha (suc (suc (suc (suc i))))) (λ i. hb (suc (suc (suc (suc i))))) back in
    λ i. four.0.0 i ∷ (four.0.1 i ∷ (four.1.0 i ∷ (four.1.1 i ∷ rest i)))

filled_once : (n : ℕ) (bits : List Bool) (a b : List ℕ) → AreBytes a → AreBytes b → IsFilled n bits a → IsFilled n bits b → a ≡ b
filled_once n bits a b ha hb fa fb = same_bytes n a b fa.size fb.size ha hb (fa.same ∙ sym fb.same)

pub words_once : WrittenWordsAreOnce
words_once codes symbols a b ha hb wa wb = filled_once _ _ a b ha hb wa wb

-- bytes behind others are bytes
behind : (xs ys bytes : List ℕ) → bytes ≡ xs ++ ys → AreBytes bytes → AreBytes ys
behind xs ys bytes e h i = (let same = ap (λ (u : List ℕ). get_or u (length xs + i) 0) e ∙ get_or-append-add xs ys i 0 in let low = h (length xs + i) in omega (arith, same, low))

pub tables_once : WrittenTablesAreOnce
tables_once lengths a b ha hb wa wb =
    let run : wa.range ≡ wb.range = one_run lengths wa.range wb.range wa.run wb.run in
    let words_a = behind (simple_bytes (run_lengths lengths wa.range)) wa.words (simple_bytes (run_lengths lengths wa.range) ++ wa.words) refl (behind (table_head wa.range) (simple_bytes (run_lengths lengths wa.range) ++ wa.words) a wa.joined ha) in
    let words_b = behind (simple_bytes (run_lengths lengths wb.range)) wb.words (simple_bytes (run_lengths lengths wb.range) ++ wb.words) refl (behind (table_head wb.range) (simple_bytes (run_lengths lengths wb.range) ++ wb.words) b wb.joined hb) in
    let filled : AreTableWords (canonical_codes lengths) (symbols_in wa.range.first wa.range.count) wb.words =
    subst (λ (r : SymbolRange). AreTableWords (canonical_codes lengths) (symbols_in r.first r.count) wb.words) (sym run) wb.filled in
    let words : wa.words ≡ wb.words = filled_once _ _ wa.words wb.words words_a words_b wa.filled filled in
    wa.joined ∙ (λ i. table_head (run i) ++ (simple_bytes (run_lengths lengths (run i)) ++ words i)) ∙ sym wb.joined
