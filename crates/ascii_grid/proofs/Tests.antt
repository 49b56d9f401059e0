-- What a token is, as tests that are decided.
use Rattle.std.proofs.Common.{◌≡◌, ℕ, ℤ, pos, negsuc, neg_ℤ, zero, suc, ◌*◌, ◌<◌, ◌≤◌, List, [], ◌∷◌, length, map, All, Option, None, Some, refl, sym, ap, ◌∙◌, subst, arith, inl, inr, ◌⊎◌, ⊎_elim}
use Rattle.std.specs.Char.{to_ascii_lowercase}
use Rattle.std.specs.Str.Parse.{digits_value}
use Rattle.std.proofs.lemmas.Bool.{cases_lt}
use Rattle.std.proofs.lemmas.Int.{ints}
use Rattle.std.proofs.lemmas.List.Elements.{All-cons, All-head, All-nil, All-tail}
use Rattle.outside_io.specs.program.Word.{IsDigit}
use Rattle.first_fault.specs.Faults.{none, unless, wrong}
use Rattle.first_fault.specs.Parts.{HasFault}
use Rattle.first_fault.proofs.Decided.{decided_unless}
use Rattle.raster_cells.specs.declared.kind.PixelType.{PixelType}
use Rattle.raster_cells.specs.declared.kind.PixelType.TheVariants.{I8, U8, I16, U16, I32, U32}
use Rattle.raster_cells.specs.PixelType.{InRange}
use Rattle.ascii_grid.specs.declared.words.Key.{Key}
use Rattle.ascii_grid.specs.declared.words.Key.TheVariants.{Cols, Rows, XCorner, XCenter, YCorner, YCenter, Cell, Nodata}
use Rattle.ascii_grid.specs.declared.fault.AsciiReason.{AsciiReason}
use Rattle.ascii_grid.specs.declared.fault.AsciiReason.TheVariants.{BadText, BadNumber, BadSize, TooLarge, OutOfRange}
use Rattle.ascii_grid.specs.Tokens.{TokenAt}
use Rattle.ascii_grid.specs.Head.{AreDigits, BeginsWithLetter, HasAll, IsInteger, IsKey, IsSize, IsText, IsTextByte, IsValue, Pair, Says, SaysNumber, SomePair, name_of, quantity_of, size_faults, text_faults, value_faults}
use Rattle.ascii_grid.specs.Text.{IsCell, cell_faults}
use Rattle.ascii_grid.proofs.DigitSteps.{one_integer}

abbrev pub Tested : Type 0 → Type 0
Tested X = X ⊎ (X → ⊥)

pub same_nat : (a b : ℕ) → Tested (a ≡ b)
same_nat a b = by (cases_lt a b) (cases_lt b a)
  where
    by : (a < b) ⊎ (b ≤ a) → (b < a) ⊎ (a ≤ b) → Tested (a ≡ b)
    by (inl less) y = inr (λ e. omega (arith, e, less))
    by (inr x) (inl less) = inr (λ e. omega (arith, e, less))
    by (inr x) (inr y) = inl (omega (arith, x, y))

pub same_list : (xs ys : List ℕ) → Tested (xs ≡ ys)
same_list [] [] = inl refl
same_list [] (y ∷ ys) = inr (λ e. let bad : ⊥ = cc in bad)
same_list (x ∷ xs) [] = inr (λ e. let bad : ⊥ = cc in bad)
same_list (x ∷ xs) (y ∷ ys) = by (same_nat x y) (same_list xs ys)
  where
    by : Tested (x ≡ y) → Tested (xs ≡ ys) → Tested (x ∷ xs ≡ y ∷ ys)
    by (inl a) (inl b) = inl (λ i. a i ∷ b i)
    by (inr a) b = inr (λ e. a (let h : x ≡ y = cc in h))
    by (inl a) (inr b) = inr (λ e. b (let h : xs ≡ ys = cc in h))

pub test_both : {X Y : Type 0} → Tested X → Tested Y → Tested (X × Y)
test_both (inl x) (inl y) = inl (x, y)
test_both (inr x) y = inr (λ h. x h.0)
test_both (inl x) (inr y) = inr (λ h. y h.1)

pub test_either : {X Y : Type 0} → Tested X → Tested Y → Tested (X ⊎ Y)
test_either (inl x) y = inl (inl x)
test_either (inr x) (inl y) = inl (inr y)
test_either (inr x) (inr y) = inr (λ h. ⊎_elim x y h)

pub test_most : (a b : ℕ) → Tested (a ≤ b)
test_most a b = by (cases_lt b a)
  where
    by : (b < a) ⊎ (a ≤ b) → Tested (a ≤ b)
    by (inl less) = inr (λ h. omega (arith, h, less))
    by (inr fits) = inl fits

pub test_less : (a b : ℕ) → Tested (a < b)
test_less a b = by (cases_lt a b)
  where
    by : (a < b) ⊎ (b ≤ a) → Tested (a < b)
    by (inl less) = inl less
    by (inr fits) = inr (λ h. omega (arith, h, fits))

pub test_all : (P : ℕ → Type 0) → ((b : ℕ) → Tested (P b)) → (bytes : List ℕ) → Tested (All P bytes)
test_all P test [] = inl (All-nil P)
test_all P test (b ∷ bs) = by (test b) (test_all P test bs)
  where
    by : Tested (P b) → Tested (All P bs) → Tested (All P (b ∷ bs))
    by (inl x) (inl y) = inl (All-cons P b bs x y)
    by (inr x) y = inr (λ h. x (All-head P b bs h))
    by (inl x) (inr y) = inr (λ h. y (All-tail P b bs h))

pub test_some : (P : Pair → Type 0) → ((p : Pair) → Tested (P p)) → (ps : List Pair) → Tested (SomePair P ps)
test_some P test [] = inr (λ h. h)
test_some P test (p ∷ ps) = test_either (test p) (test_some P test ps)

-- ---- words

pub test_letter : (bytes : List ℕ) → Tested (BeginsWithLetter bytes)
test_letter [] = inr (λ h. h)
test_letter (b ∷ bs) = test_either (test_both (test_most 65 b) (test_most b 90)) (test_both (test_most 97 b) (test_most b 122))

test_one_key : (word : List ℕ) (key : Key) → Tested (IsKey word key)
test_one_key word key = same_list (map to_ascii_lowercase word) (map to_ascii_lowercase (name_of key))

no_key : (word : List ℕ) → ¬ IsKey word Cols → ¬ IsKey word Rows → ¬ IsKey word XCorner → ¬ IsKey word XCenter → ¬ IsKey word YCorner → ¬ IsKey word YCenter → ¬ IsKey word Cell → ¬ IsKey word Nodata → (key : Key) → ¬ IsKey word key
no_key word a b c d e f g h Cols = a
no_key word a b c d e f g h Rows = b
no_key word a b c d e f g h XCorner = c
no_key word a b c d e f g h XCenter = d
no_key word a b c d e f g h YCorner = e
no_key word a b c d e f g h YCenter = f
no_key word a b c d e f g h Cell = g
no_key word a b c d e f g h Nodata = h

pub test_key : (word : List ℕ) → ((key : Key) × IsKey word key) ⊎ ((key : Key) → ¬ IsKey word key)
test_key word =
    by (test_one_key word Cols) (test_one_key word Rows) (test_one_key word XCorner) (test_one_key word XCenter) (test_one_key word YCorner) (test_one_key word YCenter) (test_one_key word Cell) (test_one_key word Nodata)
  where
    by : Tested (IsKey word Cols) → Tested (IsKey word Rows) → Tested (IsKey word XCorner) → Tested (IsKey word XCenter) → Tested (IsKey word YCorner) → Tested (IsKey word YCenter) → Tested (IsKey word Cell) → Tested (IsKey word Nodata)
        → ((key : Key) × IsKey word key) ⊎ ((key : Key) → ¬ IsKey word key)
    by (inl x) b c d e f g h = inl (Cols, x)
    by (inr a) (inl x) c d e f g h = inl (Rows, x)
    by (inr a) (inr b) (inl x) d e f g h = inl (XCorner, x)
    by (inr a) (inr b) (inr c) (inl x) e f g h = inl (XCenter, x)
    by (inr a) (inr b) (inr c) (inr d) (inl x) f g h = inl (YCorner, x)
    by (inr a) (inr b) (inr c) (inr d) (inr e) (inl x) g h = inl (YCenter, x)
    by (inr a) (inr b) (inr c) (inr d) (inr e) (inr f) (inl x) h = inl (Cell, x)
    by (inr a) (inr b) (inr c) (inr d) (inr e) (inr f) (inr g) (inl x) = inl (Nodata, x)
    by (inr a) (inr b) (inr c) (inr d) (inr e) (inr f) (inr g) (inr h) = inr (no_key word a b c d e f g h)

test_digit : (b : ℕ) → Tested (IsDigit b)
test_digit b = test_both (test_most 48 b) (test_most b 57)

pub test_digits : (bytes : List ℕ) → Tested ((n : ℕ) × AreDigits bytes n)
test_digits bytes = by (test_all IsDigit test_digit bytes) (test_less 0 (length bytes)) (test_most (length bytes) 10)
  where
    by : Tested (All IsDigit bytes) → Tested (0 < length bytes) → Tested (length bytes ≤ 10) → Tested ((n : ℕ) × AreDigits bytes n)
    by (inl a) (inl b) (inl c) = inl (digits_value 10 bytes, record { digits = a; some = b; few = c; value = refl })
    by (inr a) b c = inr (λ h. a h.1.digits)
    by (inl a) (inr b) c = inr (λ h. b h.1.some)
    by (inl a) (inl b) (inr c) = inr (λ h. c h.1.few)

pub test_integer : (bytes : List ℕ) → Tested ((z : ℤ) × IsInteger bytes z)
test_integer [] = by (test_digits [])
  where
    never : ((n : ℕ) × AreDigits [] n → ⊥) → (z : ℤ) → IsInteger [] z → ⊥
    never x z (n, inl a) = x (n, a.0)
    never x z (n, inr a) = let e = a.1.0 in let bad : ⊥ = cc in bad

    by : Tested ((n : ℕ) × AreDigits [] n) → Tested ((z : ℤ) × IsInteger [] z)
    by (inl x) = inl (pos x.0, (x.0, inl (x.1, refl)))
    by (inr x) = inr (λ h. never x h.0 h.1)
test_integer (b ∷ bs) = by (test_digits (b ∷ bs)) (same_nat b 45) (test_digits bs)
  where
    no_minus : ((n : ℕ) × AreDigits (b ∷ bs) n → ⊥) → (b ≡ 45 → ⊥) → (z : ℤ) → IsInteger (b ∷ bs) z → ⊥
    no_minus x other z (n, inl a) = x (n, a.0)
    no_minus x other z (n, inr a) = let e = a.1.0 in other (let h : b ≡ 45 = cc in h)

    no_digits : ((n : ℕ) × AreDigits (b ∷ bs) n → ⊥) → ((n : ℕ) × AreDigits bs n → ⊥) → (z : ℤ) → IsInteger (b ∷ bs) z → ⊥
    no_digits x y z (n, inl a) = x (n, a.0)
    no_digits x y z (n, inr a) = let e = a.1.0 in let same : a.0 ≡ bs = cc in y (n, subst (λ (u : List ℕ). AreDigits u n) same a.1.1.0)

    by : Tested ((n : ℕ) × AreDigits (b ∷ bs) n) → Tested (b ≡ 45) → Tested ((n : ℕ) × AreDigits bs n) → Tested ((z : ℤ) × IsInteger (b ∷ bs) z)
    by (inl x) m y = inl (pos x.0, (x.0, inl (x.1, refl)))
    by (inr x) (inl m) (inl y) = inl (neg_ℤ (pos y.0), (y.0, inr (bs, ((λ i. m i ∷ bs), (y.1, refl)))))
    by (inr x) (inr m) y = inr (λ h. no_minus x m h.0 h.1)
    by (inr x) (inl m) (inr y) = inr (λ h. no_digits x y h.0 h.1)

pub test_text_byte : (b : ℕ) → Tested (IsTextByte b)
test_text_byte b = test_either (test_digit b) (test_either (same_nat b 43) (test_either (same_nat b 45) (test_either (same_nat b 46) (test_either (same_nat b 101) (same_nat b 69)))))

pub test_text : (bytes : List ℕ) → Tested (IsText bytes)
test_text bytes = by (test_less 0 (length bytes)) (test_most (length bytes) 32) (test_all IsTextByte test_text_byte bytes)
  where
    by : Tested (0 < length bytes) → Tested (length bytes ≤ 32) → Tested (All IsTextByte bytes) → Tested (IsText bytes)
    by (inl a) (inl b) (inl c) = inl (record { some = a; few = b; each = c })
    by (inr a) b c = inr (λ h. a h.some)
    by (inl a) (inr b) c = inr (λ h. b h.few)
    by (inl a) (inl b) (inr c) = inr (λ h. c h.each)

-- ---- values

pub test_says : (ps : List Pair) (q : ℕ) → Tested (Says ps q)
test_says ps q = test_some (λ p. quantity_of p.key ≡ q) (λ p. same_nat (quantity_of p.key) q) ps

pub test_has_all : (ps : List Pair) → Tested (HasAll ps)
test_has_all ps = test_both (test_says ps 0) (test_both (test_says ps 1) (test_both (test_says ps 2) (test_both (test_says ps 3) (test_says ps 4))))

pos_same : (a b : ℕ) → pos a ≡ pos b → a ≡ b
pos_same a b e = cc

pos_not : (a b : ℕ) → pos a ≡ negsuc b → ⊥
pos_not a b e = cc

abbrev Within : ℕ → List Pair → ℕ → Type 0
Within n ps q = (m : ℕ) → SaysNumber ps q (pos m) → n * m ≤ 16777216

test_within : (n : ℕ) (ps : List Pair) (q : ℕ) → Tested (Within n ps q)
test_within n [] q = inl (λ m h. absurd h)
test_within n (p ∷ ps) q = by (test_within n ps q) (same_nat (quantity_of p.key) q) (test_integer p.value.bytes)
  where
    skip : Within n ps q → ((m : ℕ) → (quantity_of p.key ≡ q) × IsInteger p.value.bytes (pos m) → n * m ≤ 16777216) → Within n (p ∷ ps) q
    skip later first m (inl h) = first m h
    skip later first m (inr h) = later m h

    sized : Within n ps q → (quantity_of p.key ≡ q) → (z : ℤ) → IsInteger p.value.bytes z → Tested (Within n (p ∷ ps) q)
    sized later is (negsuc k) number = inl (skip later (λ m h. absurd (pos_not m k (one_integer p.value.bytes (pos m) (negsuc k) h.1 number))))
    sized later is (pos k) number = fit (test_most (n * k) 16777216)
      where
        fit : Tested (n * k ≤ 16777216) → Tested (Within n (p ∷ ps) q)
        fit (inl fits_) = inl (skip later (λ m h. subst (λ (j : ℕ). n * j ≤ 16777216) (pos_same k m (one_integer p.value.bytes (pos k) (pos m) number h.1)) fits_))
        fit (inr over) = inr (λ all. over (all k (inl (is, number))))

    by : Tested (Within n ps q) → Tested (quantity_of p.key ≡ q) → Tested ((z : ℤ) × IsInteger p.value.bytes z) → Tested (Within n (p ∷ ps) q)
    by (inr over) b c = inr (λ all. over (λ m h. all m (inr h)))
    by (inl later) (inr other) c = inl (skip later (λ m h. absurd (other h.0)))
    by (inl later) (inl is) (inr none_) = inl (skip later (λ m h. absurd (none_ (pos m, h.1))))
    by (inl later) (inl is) (inl z) = sized later is z.0 z.1

abbrev Above : List ℕ → Type 0
Above bytes = (n : ℕ) × (IsInteger bytes (pos n) × (0 < n))

test_above : (bytes : List ℕ) → Tested (Above bytes)
test_above bytes = by (test_integer bytes)
  where
    of : (z : ℤ) → IsInteger bytes z → Tested (Above bytes)
    of (negsuc k) number = inr (λ h. pos_not h.0 k (one_integer bytes (pos h.0) (negsuc k) h.1.0 number))
    of (pos zero) number = inr (λ h. let same = pos_same h.0 0 (one_integer bytes (pos h.0) (pos 0) h.1.0 number) in let bad : ⊥ = omega (arith, same, h.1.1) in bad)
    of (pos (suc k)) number = inl (suc k, (number, omega arith))

    by : Tested ((z : ℤ) × IsInteger bytes z) → Tested (Above bytes)
    by (inl z) = of z.0 z.1
    by (inr none_) = inr (λ h. none_ (pos h.0, h.1.0))

test_size : (ps : List Pair) (q : ℕ) (bytes : List ℕ) → Tested (IsSize ps q bytes)
test_size ps q bytes = by (test_above bytes)
  where
    of : (n : ℕ) → IsInteger bytes (pos n) → 0 < n → Tested (Within n ps q) → Tested (IsSize ps q bytes)
    of n number some (inl within) = inl (record { size = n; spelled = number; some = some; within = within })
    of n number some (inr over) = inr (λ s. over (subst (λ (k : ℕ). Within k ps q) (pos_same s.size n (one_integer bytes (pos s.size) (pos n) s.spelled number)) s.within))

    by : Tested (Above bytes) → Tested (IsSize ps q bytes)
    by (inl a) = of a.0 a.1.0 a.1.1 (test_within a.0 ps q)
    by (inr none_) = inr (λ s. none_ (s.size, (s.spelled, s.some)))

pub this_wrong : (why : AsciiReason) (at : ℕ) → HasFault (wrong why at)
this_wrong why at = record { place = at; reason = why; fault = (refl, refl) }

decided_size : (ps : List Pair) (q : ℕ) (v : TokenAt) → IsSize ps q v.bytes ⊎ HasFault (size_faults ps q v)
decided_size ps q v =
    decided_unless ((n : ℤ) × IsInteger v.bytes n) (wrong BadNumber v.place) (unless (Above v.bytes) (wrong BadSize v.place) (unless (IsSize ps q v.bytes) (wrong TooLarge v.place) none)) (test_integer v.bytes) (this_wrong BadNumber v.place)
    (λ a. decided_unless (Above v.bytes) (wrong BadSize v.place) (unless (IsSize ps q v.bytes) (wrong TooLarge v.place) none) (test_above v.bytes) (this_wrong BadSize v.place)
    (λ b. decided_unless (IsSize ps q v.bytes) (wrong TooLarge v.place) none (test_size ps q v.bytes) (this_wrong TooLarge v.place) (λ c. inl c)))

decided_text : (v : TokenAt) → IsText v.bytes ⊎ HasFault (text_faults v)
decided_text v = decided_unless (IsText v.bytes) (wrong BadText v.place) none (test_text v.bytes) (this_wrong BadText v.place) (λ c. inl c)

pub decided_value : (ps : List Pair) (key : Key) (v : TokenAt) → IsValue ps key v.bytes ⊎ HasFault (value_faults ps key v)
decided_value ps Cols v = decided_size ps 1 v
decided_value ps Rows v = decided_size ps 0 v
decided_value ps XCorner v = decided_text v
decided_value ps XCenter v = decided_text v
decided_value ps YCorner v = decided_text v
decided_value ps YCenter v = decided_text v
decided_value ps Cell v = decided_text v
decided_value ps Nodata v = decided_unless ((n : ℤ) × IsInteger v.bytes n) (wrong BadNumber v.place) none (test_integer v.bytes) (this_wrong BadNumber v.place) (λ c. inl c)

-- ---- numbers

pub same_int : (a b : ℤ) → Tested (a ≡ b)
same_int (pos a) (pos b) = by (same_nat a b)
  where
    by : Tested (a ≡ b) → Tested (pos a ≡ pos b)
    by (inl e) = inl (ap pos e)
    by (inr no_) = inr (λ e. no_ (pos_same a b e))
same_int (negsuc a) (negsuc b) = by (same_nat a b)
  where
    by : Tested (a ≡ b) → Tested (negsuc a ≡ negsuc b)
    by (inl e) = inl (ap negsuc e)
    by (inr no_) = inr (λ e. no_ (let h : a ≡ b = cc in h))
same_int (pos a) (negsuc b) = inr (λ e. pos_not a b e)
same_int (negsuc a) (pos b) = inr (λ e. pos_not b a (sym e))

test_range : (kind : PixelType) (z : ℤ) → Tested (InRange kind z)
test_range kind (pos n) = by kind
  where
    upto : (k : PixelType) (m : ℕ) → (n ≤ m → InRange k (pos n)) → (InRange k (pos n) → n ≤ m) → Tested (InRange k (pos n))
    upto k m to from = ⊎_elim (λ (less : m < n). inr (λ h. let le = from h in let bad : ⊥ = omega (arith, le, less) in bad)) (λ (fits_ : n ≤ m). inl (to fits_)) (cases_lt m n)

    by : (k : PixelType) → Tested (InRange k (pos n))
    by I8 = upto I8 127 (λ h. (omega (arith, ints, h), omega (arith, ints, h))) (λ h. omega (arith, ints, h))
    by U8 = upto U8 255 (λ h. (omega (arith, ints, h), omega (arith, ints, h))) (λ h. omega (arith, ints, h))
    by I16 = upto I16 32767 (λ h. (omega (arith, ints, h), omega (arith, ints, h))) (λ h. omega (arith, ints, h))
    by U16 = upto U16 65535 (λ h. (omega (arith, ints, h), omega (arith, ints, h))) (λ h. omega (arith, ints, h))
    by I32 = upto I32 2147483647 (λ h. (omega (arith, ints, h), omega (arith, ints, h))) (λ h. omega (arith, ints, h))
    by U32 = upto U32 4294967295 (λ h. (omega (arith, ints, h), omega (arith, ints, h))) (λ h. omega (arith, ints, h))
test_range kind (negsuc n) = by kind
  where
    upto : (k : PixelType) (m : ℕ) → (n ≤ m → InRange k (negsuc n)) → (InRange k (negsuc n) → n ≤ m) → Tested (InRange k (negsuc n))
    upto k m to from = ⊎_elim (λ (less : m < n). inr (λ h. let le = from h in let bad : ⊥ = omega (arith, le, less) in bad)) (λ (fits_ : n ≤ m). inl (to fits_)) (cases_lt m n)

    by : (k : PixelType) → Tested (InRange k (negsuc n))
    by I8 = upto I8 127 (λ h. (omega (arith, ints, h), omega (arith, ints, h))) (λ h. omega (arith, ints, h))
    by U8 = inr (λ h. omega (arith, ints, h))
    by I16 = upto I16 32767 (λ h. (omega (arith, ints, h), omega (arith, ints, h))) (λ h. omega (arith, ints, h))
    by U16 = inr (λ h. omega (arith, ints, h))
    by I32 = upto I32 2147483647 (λ h. (omega (arith, ints, h), omega (arith, ints, h))) (λ h. omega (arith, ints, h))
    by U32 = inr (λ h. omega (arith, ints, h))

test_cell : (kind : PixelType) (nodata : ℤ) (bytes : List ℕ) → Tested ((p : Option (List ℤ)) × IsCell kind nodata bytes p)
test_cell kind nodata bytes = by (test_integer bytes)
  where
    far : (n : ℤ) → IsInteger bytes n → (n ≡ nodata → ⊥) → (InRange kind n → ⊥) → (p : Option (List ℤ)) → IsCell kind nodata bytes p → ⊥
    far n number other out p (m, (also, inl x)) = other (one_integer bytes n m number also ∙ x.0)
    far n number other out p (m, (also, inr x)) = out (subst (InRange kind) (one_integer bytes m n also number) x.1.0)

    of : (n : ℤ) → IsInteger bytes n → Tested (n ≡ nodata) → Tested (InRange kind n) → Tested ((p : Option (List ℤ)) × IsCell kind nodata bytes p)
    of n number (inl same) r = inl (None, (n, (number, inl (same, refl))))
    of n number (inr other) (inl near) = inl (Some (n ∷ []), (n, (number, inr (other, (near, refl)))))
    of n number (inr other) (inr out) = inr (λ h. far n number other out h.0 h.1)

    by : Tested ((z : ℤ) × IsInteger bytes z) → Tested ((p : Option (List ℤ)) × IsCell kind nodata bytes p)
    by (inl z) = of z.0 z.1 (same_int z.0 nodata) (test_range kind z.0)
    by (inr none_) = inr (λ h. none_ (h.1.0, h.1.1.0))

pub decided_cell : (kind : PixelType) (nodata : ℤ) (t : TokenAt) → ((p : Option (List ℤ)) × IsCell kind nodata t.bytes p) ⊎ HasFault (cell_faults kind nodata t)
decided_cell kind nodata t =
    decided_unless ((n : ℤ) × IsInteger t.bytes n) (wrong BadNumber t.place) (unless ((p : Option (List ℤ)) × IsCell kind nodata t.bytes p) (wrong OutOfRange t.place) none) (test_integer t.bytes) (this_wrong BadNumber t.place)
    (λ a. decided_unless ((p : Option (List ℤ)) × IsCell kind nodata t.bytes p) (wrong OutOfRange t.place) none (test_cell kind nodata t.bytes) (this_wrong OutOfRange t.place) (λ c. inl c))
