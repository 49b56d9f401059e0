-- Words have one reading, and one first fault.
use Rattle.std.proofs.Common.{◌≡◌, ℕ, ◌+◌, ◌*◌, ◌/◌, ◌<◌, ◌≤◌, ◌⊎◌, Bool, List, [], ◌∷◌, ◌++◌, length, take, drop, refl, sym, ap, ◌∙◌, subst, inl, inr, arith}
use Rattle.std.specs.Prelude.{All}
use Rattle.std.proofs.lemmas.Bool.{cases_lt}
use Rattle.std.proofs.lemmas.List.{length-append, take_at, take-append-le, take-append-drop, append_assoc, append-nil, append_cancel_left, nil_from_length}
use Rattle.std.proofs.lemmas.List.Elements.{All-head, All-tail}
use Rattle.huff_codes.specs.Bits.{word_bits, BeginsWith}
use Rattle.huff_codes.specs.Codes.{code_at, HasCode, IsPrefixFree}
use Rattle.huff_codes.specs.declared.faults.CodeReason.{CodeReason}
use Rattle.huff_codes.specs.declared.faults.CodeReason.TheVariants.{Cut, NoCode}
use Rattle.first_fault.specs.Faults.{Faults, choice, wrong}
use Rattle.first_fault.specs.Parts.{IsSingle, IsPart}
use Rattle.first_fault.proofs.Parts.{single-choice, single-wrong}
use Rattle.huff_codes.specs.Words.{joined_codes, word_count, whole_end, AreWords, ArePassed, IsStuck, IsBegun, word_faults}
use Rattle.huff_codes.specs.Words.{code_cut, no_code, further_cut}
use Rattle.huff_codes.proofs.Windows.{word-take}
use Rattle.huff_codes.proofs.Reading.{joined_codes-nil, joined_codes-cons}

-- of two fronts of one list, the longer begins with the shorter
front_of : (xs s ys t : List Bool) → xs ++ s ≡ ys ++ t → length xs ≤ length ys → BeginsWith ys xs
front_of xs s ys t e h =
    let front : take (length xs) ys ≡ xs = sym (take-append-le (length xs) ys t h) ∙ ap (take (length xs)) (sym e) ∙ take_at xs s (length xs) refl in
    (drop (length xs) ys, sym (take-append-drop (length xs) ys) ∙ ap (λ (bs : List Bool). bs ++ drop (length xs) ys) front)

pub one_symbol : (codes : List (List Bool)) (a b : ℕ) (s t : List Bool) → IsPrefixFree codes → HasCode codes a → HasCode codes b → code_at codes a ++ s ≡ code_at codes b ++ t → a ≡ b
one_symbol codes a b s t free p q e = elim (cases_lt (length (code_at codes b)) (length (code_at codes a))) [
  | inl less ↦ sym (free b a q p (front_of (code_at codes b) t (code_at codes a) s (sym e) (omega arith)))
  | inr more ↦ free a b p q (front_of (code_at codes a) s (code_at codes b) t e more)
]

-- one reading goes on from the other
pub record GoesOn (codes : List (List Bool)) (xs ys : List ℕ) (s t : List Bool) : Type 0 where
  pub more : List ℕ
  pub coded : All (HasCode codes) more
  pub whole : ys ≡ xs ++ more
  pub left : s ≡ joined_codes codes more ++ t

pub same_reading : (codes : List (List Bool)) (xs ys : List ℕ) (s t : List Bool) → IsPrefixFree codes → All (HasCode codes) xs → All (HasCode codes) ys
    → joined_codes codes xs ++ s ≡ joined_codes codes ys ++ t → length xs ≤ length ys → GoesOn codes xs ys s t
same_reading codes [] ys s t free p q e h = record {
  more = ys;
  coded = q;
  whole = refl;
  left = ap (λ (bs : List Bool). bs ++ s) (sym (joined_codes-nil codes)) ∙ e;
}
same_reading codes (x ∷ xs) [] s t free p q e h = absurd (omega arith)
same_reading codes (x ∷ xs) (y ∷ ys) s t free p q e h =
    let long : code_at codes x ++ (joined_codes codes xs ++ s) ≡ code_at codes y ++ (joined_codes codes ys ++ t) =
    sym (append_assoc (code_at codes x) (joined_codes codes xs) s) ∙ ap (λ (bs : List Bool). bs ++ s) (sym (joined_codes-cons codes x xs)) ∙ e
    ∙ ap (λ (bs : List Bool). bs ++ t) (joined_codes-cons codes y ys) ∙ append_assoc (code_at codes y) (joined_codes codes ys) t in
    let same : x ≡ y = one_symbol codes x y (joined_codes codes xs ++ s) (joined_codes codes ys ++ t) free (All-head (HasCode codes) x xs p) (All-head (HasCode codes) y ys q) long in
    let rest : joined_codes codes xs ++ s ≡ joined_codes codes ys ++ t =
    append_cancel_left (code_at codes x) (joined_codes codes xs ++ s) (joined_codes codes ys ++ t) (long ∙ ap (λ (k : ℕ). code_at codes k ++ (joined_codes codes ys ++ t)) (sym same)) in
    let on = same_reading codes xs ys s t free (All-tail (HasCode codes) x xs p) (All-tail (HasCode codes) y ys q) rest (omega arith) in record {
      more = on.more;
      coded = on.coded;
      whole = ap (λ (k : ℕ). k ∷ ys) (sym same) ∙ ap (λ (zs : List ℕ). x ∷ zs) on.whole;
      left = on.left;
    }

pub equal_reading : (codes : List (List Bool)) (xs ys : List ℕ) (s t : List Bool) → IsPrefixFree codes → All (HasCode codes) xs → All (HasCode codes) ys
    → joined_codes codes xs ++ s ≡ joined_codes codes ys ++ t → length xs ≡ length ys → (xs ≡ ys) × (s ≡ t)
equal_reading codes xs ys s t free p q e h =
    let on = same_reading codes xs ys s t free p q e (omega arith) in
    let none : on.more ≡ [] = nil_from_length on.more (omega (arith, ap length on.whole, length-append xs on.more)) in (
      sym (append-nil xs) ∙ ap (λ (zs : List ℕ). xs ++ zs) (sym none) ∙ sym on.whole,
      on.left ∙ ap (λ (zs : List ℕ). joined_codes codes zs ++ t) none ∙ ap (λ (bs : List Bool). bs ++ t) (joined_codes-nil codes),
    )

-- what goes on by one symbol or more is not stuck
pub not_stuck : (codes : List (List Bool)) (xs ys : List ℕ) (s t : List Bool) → GoesOn codes xs ys s t → length xs < length ys → IsStuck codes s → ⊥
not_stuck codes xs ys s t on h stuck = go on.more on.coded on.left (omega (arith, ap length on.whole, length-append xs on.more))
  where
    go : (more : List ℕ) → All (HasCode codes) more → s ≡ joined_codes codes more ++ t → 0 < length more → ⊥
    go [] coded left some = absurd (omega arith)
    go (x ∷ more) coded left some =
        stuck x (All-head (HasCode codes) x more coded)
        (joined_codes codes more ++ t, left ∙ ap (λ (bs : List Bool). bs ++ t) (joined_codes-cons codes x more) ∙ append_assoc (code_at codes x) (joined_codes codes more) t)

-- words stand in front of what follows them
pub words_front : (codes : List (List Bool)) (n : ℕ) (a symbols s : List ℕ) → AreWords codes n a symbols → BeginsWith (word_bits (a ++ s)) (joined_codes codes symbols)
words_front codes n a symbols s h =
    let i = word_count (length (joined_codes codes symbols)) + 1 in
    let whole : 4 * i ≡ length a = omega (arith, h.size) in
    let front : word_bits a ≡ take (32 * i) (word_bits (a ++ s)) =
    ap word_bits (sym (take_at a s (4 * i) (sym whole))) ∙ word-take i (a ++ s) (omega (arith, length-append a s)) in
    let rest = drop (32 * i) (word_bits (a ++ s)) in (
      h.begin.0 ++ rest,
      sym (take-append-drop (32 * i) (word_bits (a ++ s))) ∙ ap (λ (bs : List Bool). bs ++ rest) (sym front ∙ h.begin.1) ∙ append_assoc (joined_codes codes symbols) h.begin.0 rest,
    )

pub once : (codes : List (List Bool)) (n : ℕ) (a b x y s t : List ℕ) → IsPrefixFree codes → AreWords codes n a x → AreWords codes n b y → a ++ s ≡ b ++ t → (a ≡ b) × (x ≡ y)
once codes n a b x y s t free p q e =
    let fp = words_front codes n a x s p in
    let fq = words_front codes n b y t q in
    let same = equal_reading codes x y fp.0 fq.0 free p.coded q.coded (sym fp.1 ∙ ap word_bits e ∙ fq.1) (p.count ∙ sym q.count) in
    let size : length a ≡ length b = p.size ∙ ap (λ (zs : List ℕ). 4 * word_count (length (joined_codes codes zs)) + 4) same.0 ∙ sym q.size in
    (sym (take_at a s (length a) refl) ∙ ap (take (length a)) e ∙ take_at b t (length a) (sym size), same.0)

-- where reading ends: stuck before n symbols, or at n symbols with too few bytes
record IsEnd (codes : List (List Bool)) (n : ℕ) (bytes symbols : List ℕ) (left : List Bool) : Type 0 where
  at_most : length symbols ≤ n
  early : length symbols < n → IsStuck codes left
  late : length symbols ≡ n → length bytes < 4 * word_count (length (joined_codes codes symbols)) + 4

-- the place and the reason at an end
abbrev Told : List (List Bool) → ℕ → List ℕ → List ℕ → List Bool → Faults CodeReason
Told codes n bytes symbols left p r =
    ((length symbols < n) × choice (IsBegun codes left) (wrong Cut (whole_end bytes)) (wrong NoCode (4 * (length (joined_codes codes symbols) / 32))) p r)
    ⊎ ((length symbols ≡ n) × wrong Cut (whole_end bytes) p r)

-- a fault, as the end of reading that it stands for, with its place and reason
record IsTold (codes : List (List Bool)) (n : ℕ) (bytes : List ℕ) (p : ℕ) (r : CodeReason) : Type 0 where
  symbols : List ℕ
  left : List Bool
  passed : ArePassed codes bytes symbols left
  end : IsEnd codes n bytes symbols left
  told : Told codes n bytes symbols left p r

told_of : (codes : List (List Bool)) (n : ℕ) (bytes : List ℕ) (p : ℕ) (r : CodeReason) → word_faults codes n bytes p r → IsTold codes n bytes p r
told_of codes n bytes p r (code_cut symbols left passed few stuck begun is) = record {
  symbols = symbols;
  left = left;
  passed = passed;
  end = record { at_most = omega (arith, few); early = λ _. stuck; late = λ e. absurd (omega (arith, few, e)) };
  told = inl (few, inl (begun, is));
}
told_of codes n bytes p r (no_code symbols left passed few stuck none is) = record {
  symbols = symbols;
  left = left;
  passed = passed;
  end = record { at_most = omega (arith, few); early = λ _. stuck; late = λ e. absurd (omega (arith, few, e)) };
  told = inl (few, inr (none, is));
}
told_of codes n bytes p r (further_cut symbols left passed all short is) = record {
  symbols = symbols;
  left = left;
  passed = passed;
  end = record { at_most = omega (arith, all); early = λ h. absurd (omega (arith, all, h)); late = λ _. short };
  told = inr (all, is);
}

no_end : (codes : List (List Bool)) (n : ℕ) (a x s symbols : List ℕ) (left : List Bool) → IsPrefixFree codes → AreWords codes n a x → ArePassed codes (a ++ s) symbols left → IsEnd codes n (a ++ s) symbols left → ⊥
no_end codes n a x s symbols left free p passed end =
    let front = words_front codes n a x s p in
    let both : joined_codes codes symbols ++ left ≡ joined_codes codes x ++ front.0 = sym passed.bits ∙ front.1 in
    elim (cases_lt (length symbols) n) [
      | inl less ↦
          not_stuck codes symbols x left front.0 (same_reading codes symbols x left front.0 free passed.coded p.coded both (omega (arith, end.at_most, p.count))) (omega (arith, p.count)) (end.early less)
      | inr more ↦
          let same = equal_reading codes symbols x left front.0 free passed.coded p.coded both (omega (arith, end.at_most, p.count)) in
          absurd (omega (arith, end.late (omega (arith, end.at_most)), p.size, ap (λ (zs : List ℕ). 4 * word_count (length (joined_codes codes zs)) + 4) same.0, length-append a s))
    ]

pub either : (codes : List (List Bool)) (n : ℕ) (a s x : List ℕ) (p : ℕ) (r : CodeReason) → IsPrefixFree codes → AreWords codes n a x → word_faults codes n (a ++ s) p r → ⊥
either codes n a s x p r free words fault =
    let t = told_of codes n (a ++ s) p r fault in
    no_end codes n a x s t.symbols t.left free words t.passed t.end

one_end : (codes : List (List Bool)) (n : ℕ) (bytes xs ys : List ℕ) (s t : List Bool) → IsPrefixFree codes → ArePassed codes bytes xs s → ArePassed codes bytes ys t
    → IsEnd codes n bytes xs s → IsEnd codes n bytes ys t → (xs ≡ ys) × (s ≡ t)
one_end codes n bytes xs ys s t free p q d e =
    let both : joined_codes codes xs ++ s ≡ joined_codes codes ys ++ t = sym p.bits ∙ q.bits in
    elim (cases_lt (length xs) (length ys)) [
      | inl less ↦ absurd (not_stuck codes xs ys s t (same_reading codes xs ys s t free p.coded q.coded both (omega arith)) less (d.early (omega (arith, e.at_most))))
      | inr ge ↦ elim (cases_lt (length ys) (length xs)) [
        | inl more ↦ absurd (not_stuck codes ys xs t s (same_reading codes ys xs t s free q.coded p.coded (sym both) (omega arith)) more (e.early (omega (arith, d.at_most))))
        | inr le ↦ equal_reading codes xs ys s t free p.coded q.coded both (omega arith)
      ]
    ]

single_told : (codes : List (List Bool)) (n : ℕ) (bytes symbols : List ℕ) (left : List Bool) → IsSingle (Told codes n bytes symbols left)
single_told codes n bytes symbols left p q a b (inl (few, f)) (inl (less, g)) =
    single-choice (IsBegun codes left) (wrong Cut (whole_end bytes)) (wrong NoCode (4 * (length (joined_codes codes symbols) / 32)))
    (single-wrong Cut (whole_end bytes)) (single-wrong NoCode (4 * (length (joined_codes codes symbols) / 32))) p q a b f g
single_told codes n bytes symbols left p q a b (inl (few, f)) (inr (all, g)) = absurd (omega arith)
single_told codes n bytes symbols left p q a b (inr (all, f)) (inl (few, g)) = absurd (omega arith)
single_told codes n bytes symbols left p q a b (inr (all, f)) (inr (every, g)) = single-wrong Cut (whole_end bytes) p q a b f g

pub single : (codes : List (List Bool)) (n : ℕ) (bytes : List ℕ) → IsPrefixFree codes → IsSingle (word_faults codes n bytes)
single codes n bytes free p q a b f g =
    let one = told_of codes n bytes p a f in
    let two = told_of codes n bytes q b g in
    let same = one_end codes n bytes one.symbols two.symbols one.left two.left free one.passed two.passed one.end two.end in
    single_told codes n bytes two.symbols two.left p q a b
    (subst (λ (us : List ℕ). Told codes n bytes us two.left p a) same.0 (subst (λ (bs : List Bool). Told codes n bytes one.symbols bs p a) same.1 one.told)) two.told

-- the words of n symbols, and what may be wrong with them
pub words_part : (codes : List (List Bool)) (n : ℕ) → IsPrefixFree codes → IsPart (AreWords codes n) (word_faults codes n)
words_part codes n free = record {
  once = λ a b s t x y p q e. once codes n a b x y s t free p q e;
  either = λ a s x p r words fault. either codes n a s x p r free words fault;
  single = λ bytes. single codes n bytes free;
}
