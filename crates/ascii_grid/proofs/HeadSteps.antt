-- What is kept of pairs, pair by pair.
use Rattle.std.proofs.Common.{◌≡◌, ◌↔◌, ℕ, ℤ, pos, ◌*◌, ◌<◌, ◌≤◌, Bool, true, false, ◌&&◌, IsTrue, List, [], ◌∷◌, ◌++◌, length, Option, None, Some, IfSome, is_some, lit≤, append_assoc, refl, sym, ap, ◌∙◌, subst, arith, ◌⊎◌, inl, inr}
use Rattle.std.proofs.Math.Nat.{mul_comm}
use Rattle.std.proofs.lemmas.List.{append-nil, length-map}
use Rattle.std.specs.Char.{to_ascii_lowercase}
use Rattle.ascii_grid.specs.Tokens.{TokenAt}
use Rattle.ascii_grid.specs.declared.words.Key.{Key}
use Rattle.ascii_grid.specs.declared.words.Key.TheVariants.{Cols, Rows, XCorner, XCenter, YCorner, YCenter, Cell, Nodata}
use Rattle.ascii_grid.specs.declared.fault.AsciiReason.{AsciiReason}
use Rattle.ascii_grid.specs.declared.head.Head.{Head}
use Rattle.ascii_grid.specs.Head.{ArePairs, BeginsWithLetter, Has, HasAll, IsInteger, IsKey, IsSize, flat, name_of, IsText, IsValue, Pair, Says, SaysKey, SaysNumber, SaysText, SomePair, quantity_of, size_faults}
use Rattle.ascii_grid.specs.inside.Heads.{Keeps, KeepsNumber, KeepsSize, KeepsText, SizeStops, has_five, has_key}
use Rattle.ascii_grid.proofs.DigitSteps.{integer_few, one_integer}

-- ---- one of the pairs

pub push_left : (P : Pair → Type 0) (ps : List Pair) (p : Pair) → SomePair P ps → SomePair P (ps ++ p ∷ [])
push_left P [] p s = absurd s
push_left P (q ∷ ps) p (inl h) = inl h
push_left P (q ∷ ps) p (inr h) = inr (push_left P ps p h)

pub push_last : (P : Pair → Type 0) (ps : List Pair) (p : Pair) → P p → SomePair P (ps ++ p ∷ [])
push_last P [] p h = inl h
push_last P (q ∷ ps) p h = inr (push_last P ps p h)

pub push_cases : (P : Pair → Type 0) (ps : List Pair) (p : Pair) → SomePair P (ps ++ p ∷ []) → SomePair P ps ⊎ P p
push_cases P [] p (inl h) = inr h
push_cases P [] p (inr h) = absurd h
push_cases P (q ∷ ps) p (inl h) = inl (inl h)
push_cases P (q ∷ ps) p (inr h) = on (push_cases P ps p h)
  where
    on : SomePair P ps ⊎ P p → SomePair P (q ∷ ps) ⊎ P p
    on (inl a) = inl (inr a)
    on (inr b) = inr b

pub some_map : (P Q : Pair → Type 0) → ((p : Pair) → P p → Q p) → (ps : List Pair) → SomePair P ps → SomePair Q ps
some_map P Q f [] s = absurd s
some_map P Q f (p ∷ ps) (inl h) = inl (f p h)
some_map P Q f (p ∷ ps) (inr h) = inr (some_map P Q f ps h)

pub number_says : (ps : List Pair) (q : ℕ) (z : ℤ) → SaysNumber ps q z → Says ps q
number_says ps q z = some_map (λ p. (quantity_of p.key ≡ q) × IsInteger p.value.bytes z) (λ p. quantity_of p.key ≡ q) (λ p h. h.0) ps

pub text_says : (ps : List Pair) (q : ℕ) (b : List ℕ) → SaysText ps q b → Says ps q
text_says ps q b = some_map (λ p. (quantity_of p.key ≡ q) × (p.value.bytes ≡ b)) (λ p. quantity_of p.key ≡ q) (λ p h. h.0) ps

pub key_says : (ps : List Pair) (key : Key) → SaysKey ps key → Says ps (quantity_of key)
key_says ps key = some_map (λ p. p.key ≡ key) (λ p. quantity_of p.key ≡ quantity_of key) (λ p h. ap quantity_of h) ps

-- ---- a pair of another quantity

says_not : (ps : List Pair) (p : Pair) (q : ℕ) → (quantity_of p.key ≡ q → ⊥) → ¬ Says ps q → ¬ Says (ps ++ p ∷ []) q
says_not ps p q other gone says = elim (push_cases (λ x. quantity_of x.key ≡ q) ps p says) [ inl a ↦ gone a | inr b ↦ other b ]

pub size_stays : (o : Option ℕ) (ps : List Pair) (p : Pair) (q : ℕ) → (quantity_of p.key ≡ q → ⊥) → KeepsSize o ps q → KeepsSize o (ps ++ p ∷ []) q
size_stays None ps p q other gone = says_not ps p q other gone
size_stays (Some n) ps p q other (says, (some, one)) =
    (push_left (λ x. (quantity_of x.key ≡ q) × IsInteger x.value.bytes (pos n)) ps p says, (some, λ m h. elim (push_cases (λ x. (quantity_of x.key ≡ q) × IsInteger x.value.bytes m) ps p h) [ inl a ↦ one m a | inr b ↦ absurd (other b.0) ]))

pub text_stays : (o : Option TokenAt) (ps : List Pair) (p : Pair) (q : ℕ) → (quantity_of p.key ≡ q → ⊥) → KeepsText o ps q → KeepsText o (ps ++ p ∷ []) q
text_stays None ps p q other gone = says_not ps p q other gone
text_stays (Some t) ps p q other (says, is) = (push_left (λ x. (quantity_of x.key ≡ q) × (x.value.bytes ≡ t.bytes)) ps p says, is)

pub number_stays : (o : Option ℤ) (ps : List Pair) (p : Pair) (q : ℕ) → (quantity_of p.key ≡ q → ⊥) → KeepsNumber o ps q → KeepsNumber o (ps ++ p ∷ []) q
number_stays None ps p q other gone = says_not ps p q other gone
number_stays (Some z) ps p q other says = push_left (λ x. (quantity_of x.key ≡ q) × IsInteger x.value.bytes z) ps p says

pub flag_stays : (b : Bool) (ps : List Pair) (p : Pair) (key : Key) → (p.key ≡ key → ⊥) → IsTrue b ↔ SaysKey ps key → IsTrue b ↔ SaysKey (ps ++ p ∷ []) key
flag_stays b ps p key other (to, from) =
    (λ t. push_left (λ x. x.key ≡ key) ps p (to t), λ s. elim (push_cases (λ x. x.key ≡ key) ps p s) [ inl a ↦ from a | inr e ↦ absurd (other e) ])

-- ---- a pair of this quantity

pub size_new : (n : ℕ) (ps : List Pair) (p : Pair) (q : ℕ) → quantity_of p.key ≡ q → ¬ Says ps q → IsInteger p.value.bytes (pos n) → 0 < n → KeepsSize (Some n) (ps ++ p ∷ []) q
size_new n ps p q is gone number some = (
  push_last (λ x. (quantity_of x.key ≡ q) × IsInteger x.value.bytes (pos n)) ps p (is, number),
  (
    some,
    λ m h. elim (push_cases (λ x. (quantity_of x.key ≡ q) × IsInteger x.value.bytes m) ps p h) [
      | inl a ↦ absurd (gone (number_says ps q m a))
      | inr b ↦ one_integer p.value.bytes m (pos n) b.1 number
    ],
  ),
)

pub text_new : (t : TokenAt) (ps : List Pair) (p : Pair) (q : ℕ) → quantity_of p.key ≡ q → t ≡ p.value → IsText p.value.bytes → KeepsText (Some t) (ps ++ p ∷ []) q
text_new t ps p q is same text =
    (push_last (λ x. (quantity_of x.key ≡ q) × (x.value.bytes ≡ t.bytes)) ps p (is, ap (λ (s : TokenAt). s.bytes) (sym same)), subst (λ (s : TokenAt). IsText s.bytes) (sym same) text)

pub flag_true : (ps : List Pair) (p : Pair) (key : Key) → p.key ≡ key → IsTrue true ↔ SaysKey (ps ++ p ∷ []) key
flag_true ps p key is = (λ t. push_last (λ x. x.key ≡ key) ps p is, λ s. refl)

pub flag_false : (ps : List Pair) (p : Pair) (key : Key) → (p.key ≡ key → ⊥) → ¬ Says ps (quantity_of key) → IsTrue false ↔ SaysKey (ps ++ p ∷ []) key
flag_false ps p key other gone =
    (λ f. absurd (let bad : ⊥ = cc in bad), λ s. absurd (elim (push_cases (λ x. x.key ≡ key) ps p s) [ inl a ↦ gone (key_says ps key a) | inr e ↦ other e ]))

-- what is not there is said by none
pub size_none : (o : Option ℕ) (ps : List Pair) (q : ℕ) → is_some o ≡ false → KeepsSize o ps q → ¬ Says ps q
size_none None ps q e keeps = keeps
size_none (Some n) ps q e keeps = absurd (let bad : ⊥ = cc in bad)

pub text_none : (o : Option TokenAt) (ps : List Pair) (q : ℕ) → is_some o ≡ false → KeepsText o ps q → ¬ Says ps q
text_none None ps q e keeps = keeps
text_none (Some n) ps q e keeps = absurd (let bad : ⊥ = cc in bad)

pub number_none : (o : Option ℤ) (ps : List Pair) (q : ℕ) → is_some o ≡ false → KeepsNumber o ps q → ¬ Says ps q
number_none None ps q e keeps = keeps
number_none (Some n) ps q e keeps = absurd (let bad : ⊥ = cc in bad)

pub size_there : (o : Option ℕ) (ps : List Pair) (q : ℕ) → is_some o ≡ true → KeepsSize o ps q → Says ps q
size_there None ps q e keeps = absurd (let bad : ⊥ = cc in bad)
size_there (Some n) ps q e keeps = number_says ps q (pos n) keeps.0

pub text_there : (o : Option TokenAt) (ps : List Pair) (q : ℕ) → is_some o ≡ true → KeepsText o ps q → Says ps q
text_there None ps q e keeps = absurd (let bad : ⊥ = cc in bad)
text_there (Some t) ps q e keeps = text_says ps q t.bytes keeps.0

pub number_there : (o : Option ℤ) (ps : List Pair) (q : ℕ) → is_some o ≡ true → KeepsNumber o ps q → Says ps q
number_there None ps q e keeps = absurd (let bad : ⊥ = cc in bad)
number_there (Some t) ps q e keeps = number_says ps q t keeps

-- ---- keys

pub has_not : (h : Head) (ps : List Pair) (key : Key) → Keeps h ps → has_key h key ≡ false → ¬ Has ps key
has_not h ps Cols keeps e = size_none h.cols ps 0 e keeps.cols
has_not h ps Rows keeps e = size_none h.rows ps 1 e keeps.rows
has_not h ps XCorner keeps e = text_none h.x ps 2 e keeps.x
has_not h ps XCenter keeps e = text_none h.x ps 2 e keeps.x
has_not h ps YCorner keeps e = text_none h.y ps 3 e keeps.y
has_not h ps YCenter keeps e = text_none h.y ps 3 e keeps.y
has_not h ps Cell keeps e = text_none h.cell ps 4 e keeps.cell
has_not h ps Nodata keeps e = number_none h.nodata ps 5 e keeps.nodata

pub has_it : (h : Head) (ps : List Pair) (key : Key) → Keeps h ps → has_key h key ≡ true → Has ps key
has_it h ps Cols keeps e = size_there h.cols ps 0 e keeps.cols
has_it h ps Rows keeps e = size_there h.rows ps 1 e keeps.rows
has_it h ps XCorner keeps e = text_there h.x ps 2 e keeps.x
has_it h ps XCenter keeps e = text_there h.x ps 2 e keeps.x
has_it h ps YCorner keeps e = text_there h.y ps 3 e keeps.y
has_it h ps YCenter keeps e = text_there h.y ps 3 e keeps.y
has_it h ps Cell keeps e = text_there h.cell ps 4 e keeps.cell
has_it h ps Nodata keeps e = number_there h.nodata ps 5 e keeps.nodata

and_both : (a b : Bool) → (a && b) ≡ true → (a ≡ true) × (b ≡ true)
and_both true b e = (refl, e)
and_both false b e = absurd (let bad : ⊥ = cc in bad)

and_not : (a b : Bool) → (a && b) ≡ false → (a ≡ false) ⊎ (b ≡ false)
and_not true b e = inr e
and_not false b e = inl refl

pub all_there : (h : Head) (ps : List Pair) → Keeps h ps → has_five h ≡ true → HasAll ps
all_there h ps keeps e =
    let a = and_both (is_some h.cols) (is_some h.rows && (is_some h.x && (is_some h.y && is_some h.cell))) e in
    let b = and_both (is_some h.rows) (is_some h.x && (is_some h.y && is_some h.cell)) a.1 in
    let c = and_both (is_some h.x) (is_some h.y && is_some h.cell) b.1 in
    let d = and_both (is_some h.y) (is_some h.cell) c.1 in
    (size_there h.cols ps 0 a.0 keeps.cols, (size_there h.rows ps 1 b.0 keeps.rows, (text_there h.x ps 2 c.0 keeps.x, (text_there h.y ps 3 d.0 keeps.y, text_there h.cell ps 4 d.1 keeps.cell))))

pub not_all : (h : Head) (ps : List Pair) → Keeps h ps → has_five h ≡ false → ¬ HasAll ps
not_all h ps keeps e (a, (b, (c, (d, f)))) = elim (and_not (is_some h.cols) (is_some h.rows && (is_some h.x && (is_some h.y && is_some h.cell))) e) [
  | inl x ↦ size_none h.cols ps 0 x keeps.cols a
  | inr e ↦ elim (and_not (is_some h.rows) (is_some h.x && (is_some h.y && is_some h.cell)) e) [
    | inl x ↦ size_none h.rows ps 1 x keeps.rows b
    | inr e ↦ elim (and_not (is_some h.x) (is_some h.y && is_some h.cell) e) [
      | inl x ↦ text_none h.x ps 2 x keeps.x c
      | inr e ↦ elim (and_not (is_some h.y) (is_some h.cell) e) [
        | inl x ↦ text_none h.y ps 3 x keeps.y d
        | inr x ↦ text_none h.cell ps 4 x keeps.cell f
      ]
    ]
  ]
]

-- ---- sizes

pos_is : (m n : ℕ) → pos m ≡ pos n → m ≡ n
pos_is m n e = cc

pub is_size : (o : Option ℕ) (ps : List Pair) (q : ℕ) (bytes : List ℕ) (n : ℕ) → KeepsSize o ps q → IsInteger bytes (pos n) → 0 < n → IfSome o (λ m. n * m ≤ 16777216) → IsSize ps q bytes
is_size None ps q bytes n keeps number some fits = record { size = n; spelled = number; some = some; within = λ m says. absurd (keeps (number_says ps q (pos m) says)) }
is_size (Some k) ps q bytes n keeps number some fits = record {
  size = n;
  spelled = number;
  some = some;
  within = λ m says. subst (λ (x : ℕ). n * x ≤ 16777216) (sym (pos_is m k (keeps.1.1 (pos m) says))) fits;
}

pub size_wrong : (o : Option ℕ) (ps : List Pair) (q : ℕ) (v : TokenAt) (reason : AsciiReason) → KeepsSize o ps q → SizeStops o v.bytes reason → size_faults ps q v v.place reason
size_wrong o ps q v reason keeps (inl (is, never)) = inr ((λ (z, number). never z number), (refl, is))
size_wrong o ps q v reason keeps (inr (inl (is, (z, (number, small))))) =
    inl ((z, number), inr ((λ (n, (number', some)). small n some (one_integer v.bytes z (pos n) number number')), (refl, is)))
size_wrong o ps q v reason keeps (inr (inr (is, (n, m, (number, (some, (other, large))))))) =
    inl ((pos n, number), inl ((n, (number, some)), inr ((λ size. too_much size (says o keeps other)), (refl, is))))
  where
    says : (o : Option ℕ) → KeepsSize o ps q → o ≡ Some m → SaysNumber ps q (pos m)
    says None keeps e = absurd (let bad : ⊥ = cc in bad)
    says (Some k) keeps e = subst (λ (x : ℕ). SaysNumber ps q (pos x)) (let same : k ≡ m = cc in same) keeps.0

    too_much : IsSize ps q v.bytes → SaysNumber ps q (pos m) → ⊥
    too_much size said =
        let same : size.size ≡ n = pos_is size.size n (one_integer v.bytes (pos size.size) (pos n) size.spelled number) in
        let less : n * m ≤ 16777216 = subst (λ (x : ℕ). x * m ≤ 16777216) same (size.within m said) in
        omega (arith, less, large)

-- ---- a pair more

apart : (p : Pair) (k j : ℕ) → quantity_of p.key ≡ k → (k ≡ j → ⊥) → quantity_of p.key ≡ j → ⊥
apart p k j is differ e = differ (sym is ∙ e)

not_key : (p : Pair) (k : ℕ) (key : Key) → quantity_of p.key ≡ k → (k ≡ quantity_of key → ⊥) → p.key ≡ key → ⊥
not_key p k key is differ e = differ (sym is ∙ ap quantity_of e)

pub cols_more : (h : Head) (ps : List Pair) (p : Pair) (n : ℕ) → Keeps h ps → quantity_of p.key ≡ 0 → has_key h Cols ≡ false → IsInteger p.value.bytes (pos n) → 0 < n → IfSome h.rows (λ m. n * m ≤ 16777216) → Keeps (record h { cols = Some n }) (ps ++ p ∷ [])
cols_more h ps p n keeps is new number some fits = record {
  cols = size_new n ps p 0 is (has_not h ps Cols keeps new) number some;
  rows = size_stays h.rows ps p 1 (apart p 0 1 is (λ e. omega (arith, e))) keeps.rows;
  fits = λ a b ea eb. product h.rows a b (let same : n ≡ a = cc in same) eb fits;
  x = text_stays h.x ps p 2 (apart p 0 2 is (λ e. omega (arith, e))) keeps.x;
  x_centre = flag_stays h.x_centre ps p XCenter (not_key p 0 XCenter is (λ e. omega (arith, e))) keeps.x_centre;
  y = text_stays h.y ps p 3 (apart p 0 3 is (λ e. omega (arith, e))) keeps.y;
  y_centre = flag_stays h.y_centre ps p YCenter (not_key p 0 YCenter is (λ e. omega (arith, e))) keeps.y_centre;
  cell = text_stays h.cell ps p 4 (apart p 0 4 is (λ e. omega (arith, e))) keeps.cell;
  nodata = number_stays h.nodata ps p 5 (apart p 0 5 is (λ e. omega (arith, e))) keeps.nodata;
}
  where
    product : (o : Option ℕ) (a b : ℕ) → n ≡ a → o ≡ Some b → IfSome o (λ m. n * m ≤ 16777216) → a * b ≤ 16777216
    product None a b ea eb f = absurd (let bad : ⊥ = cc in bad)
    product (Some k) a b ea eb f = subst (λ (x : ℕ). x * b ≤ 16777216) ea (subst (λ (x : ℕ). n * x ≤ 16777216) (let same : k ≡ b = cc in same) f)

pub rows_more : (h : Head) (ps : List Pair) (p : Pair) (n : ℕ) → Keeps h ps → quantity_of p.key ≡ 1 → has_key h Rows ≡ false → IsInteger p.value.bytes (pos n) → 0 < n → IfSome h.cols (λ m. n * m ≤ 16777216) → Keeps (record h { rows = Some n }) (ps ++ p ∷ [])
rows_more h ps p n keeps is new number some fits = record {
  cols = size_stays h.cols ps p 0 (apart p 1 0 is (λ e. omega (arith, e))) keeps.cols;
  rows = size_new n ps p 1 is (has_not h ps Rows keeps new) number some;
  fits = λ a b ea eb. product h.cols a b ea (let same : n ≡ b = cc in same) fits;
  x = text_stays h.x ps p 2 (apart p 1 2 is (λ e. omega (arith, e))) keeps.x;
  x_centre = flag_stays h.x_centre ps p XCenter (not_key p 1 XCenter is (λ e. omega (arith, e))) keeps.x_centre;
  y = text_stays h.y ps p 3 (apart p 1 3 is (λ e. omega (arith, e))) keeps.y;
  y_centre = flag_stays h.y_centre ps p YCenter (not_key p 1 YCenter is (λ e. omega (arith, e))) keeps.y_centre;
  cell = text_stays h.cell ps p 4 (apart p 1 4 is (λ e. omega (arith, e))) keeps.cell;
  nodata = number_stays h.nodata ps p 5 (apart p 1 5 is (λ e. omega (arith, e))) keeps.nodata;
}
  where
    product : (o : Option ℕ) (a b : ℕ) → o ≡ Some a → n ≡ b → IfSome o (λ m. n * m ≤ 16777216) → a * b ≤ 16777216
    product None a b ea eb f = absurd (let bad : ⊥ = cc in bad)
    product (Some k) a b ea eb f =
        let less : n * a ≤ 16777216 = subst (λ (x : ℕ). n * x ≤ 16777216) (let same : k ≡ a = cc in same) f in
        let turned : a * n ≤ 16777216 = omega (arith, less, mul_comm a n) in
        subst (λ (x : ℕ). a * x ≤ 16777216) eb turned

pub x_more : (h : Head) (ps : List Pair) (p : Pair) (t : TokenAt) (b : Bool) → Keeps h ps → quantity_of p.key ≡ 2 → t ≡ p.value → IsText p.value.bytes → IsTrue b ↔ SaysKey (ps ++ p ∷ []) XCenter → Keeps (record h { x = Some t; x_centre = b }) (ps ++ p ∷ [])
x_more h ps p t b keeps is same text flag = record {
  cols = size_stays h.cols ps p 0 (apart p 2 0 is (λ e. omega (arith, e))) keeps.cols;
  rows = size_stays h.rows ps p 1 (apart p 2 1 is (λ e. omega (arith, e))) keeps.rows;
  fits = keeps.fits;
  x = text_new t ps p 2 is same text;
  x_centre = flag;
  y = text_stays h.y ps p 3 (apart p 2 3 is (λ e. omega (arith, e))) keeps.y;
  y_centre = flag_stays h.y_centre ps p YCenter (not_key p 2 YCenter is (λ e. omega (arith, e))) keeps.y_centre;
  cell = text_stays h.cell ps p 4 (apart p 2 4 is (λ e. omega (arith, e))) keeps.cell;
  nodata = number_stays h.nodata ps p 5 (apart p 2 5 is (λ e. omega (arith, e))) keeps.nodata;
}

pub y_more : (h : Head) (ps : List Pair) (p : Pair) (t : TokenAt) (b : Bool) → Keeps h ps → quantity_of p.key ≡ 3 → t ≡ p.value → IsText p.value.bytes → IsTrue b ↔ SaysKey (ps ++ p ∷ []) YCenter → Keeps (record h { y = Some t; y_centre = b }) (ps ++ p ∷ [])
y_more h ps p t b keeps is same text flag = record {
  cols = size_stays h.cols ps p 0 (apart p 3 0 is (λ e. omega (arith, e))) keeps.cols;
  rows = size_stays h.rows ps p 1 (apart p 3 1 is (λ e. omega (arith, e))) keeps.rows;
  fits = keeps.fits;
  x = text_stays h.x ps p 2 (apart p 3 2 is (λ e. omega (arith, e))) keeps.x;
  x_centre = flag_stays h.x_centre ps p XCenter (not_key p 3 XCenter is (λ e. omega (arith, e))) keeps.x_centre;
  y = text_new t ps p 3 is same text;
  y_centre = flag;
  cell = text_stays h.cell ps p 4 (apart p 3 4 is (λ e. omega (arith, e))) keeps.cell;
  nodata = number_stays h.nodata ps p 5 (apart p 3 5 is (λ e. omega (arith, e))) keeps.nodata;
}

pub cell_more : (h : Head) (ps : List Pair) (p : Pair) (t : TokenAt) → Keeps h ps → quantity_of p.key ≡ 4 → t ≡ p.value → IsText p.value.bytes → Keeps (record h { cell = Some t }) (ps ++ p ∷ [])
cell_more h ps p t keeps is same text = record {
  cols = size_stays h.cols ps p 0 (apart p 4 0 is (λ e. omega (arith, e))) keeps.cols;
  rows = size_stays h.rows ps p 1 (apart p 4 1 is (λ e. omega (arith, e))) keeps.rows;
  fits = keeps.fits;
  x = text_stays h.x ps p 2 (apart p 4 2 is (λ e. omega (arith, e))) keeps.x;
  x_centre = flag_stays h.x_centre ps p XCenter (not_key p 4 XCenter is (λ e. omega (arith, e))) keeps.x_centre;
  y = text_stays h.y ps p 3 (apart p 4 3 is (λ e. omega (arith, e))) keeps.y;
  y_centre = flag_stays h.y_centre ps p YCenter (not_key p 4 YCenter is (λ e. omega (arith, e))) keeps.y_centre;
  cell = text_new t ps p 4 is same text;
  nodata = number_stays h.nodata ps p 5 (apart p 4 5 is (λ e. omega (arith, e))) keeps.nodata;
}

pub nodata_more : (h : Head) (ps : List Pair) (p : Pair) (z : ℤ) → Keeps h ps → quantity_of p.key ≡ 5 → IsInteger p.value.bytes z → Keeps (record h { nodata = Some z }) (ps ++ p ∷ [])
nodata_more h ps p z keeps is number = record {
  cols = size_stays h.cols ps p 0 (apart p 5 0 is (λ e. omega (arith, e))) keeps.cols;
  rows = size_stays h.rows ps p 1 (apart p 5 1 is (λ e. omega (arith, e))) keeps.rows;
  fits = keeps.fits;
  x = text_stays h.x ps p 2 (apart p 5 2 is (λ e. omega (arith, e))) keeps.x;
  x_centre = flag_stays h.x_centre ps p XCenter (not_key p 5 XCenter is (λ e. omega (arith, e))) keeps.x_centre;
  y = text_stays h.y ps p 3 (apart p 5 3 is (λ e. omega (arith, e))) keeps.y;
  y_centre = flag_stays h.y_centre ps p YCenter (not_key p 5 YCenter is (λ e. omega (arith, e))) keeps.y_centre;
  cell = text_stays h.cell ps p 4 (apart p 5 4 is (λ e. omega (arith, e))) keeps.cell;
  nodata = push_last (λ x. (quantity_of x.key ≡ 5) × IsInteger x.value.bytes z) ps p (is, number);
}

-- ---- a head before any pair, and pairs one by one

pub keeps_none : Keeps (record { cols = None; rows = None; x = None; x_centre = false; y = None; y_centre = false; cell = None; nodata = None }) []
keeps_none = record {
  cols = λ says. says;
  rows = λ says. says;
  fits = λ n m a b. absurd (let bad : ⊥ = cc in bad);
  x = λ says. says;
  x_centre = (λ e. absurd (let bad : ⊥ = cc in bad), λ says. absurd says);
  y = λ says. says;
  y_centre = (λ e. absurd (let bad : ⊥ = cc in bad), λ says. absurd says);
  cell = λ says. says;
  nodata = λ says. says;
}

flat_more : (ps : List Pair) (p : Pair) → flat (ps ++ p ∷ []) ≡ flat ps ++ p.word ∷ p.value ∷ []
flat_more [] p = refl
flat_more (q ∷ ps) p = ap (λ (l : List TokenAt). q.word ∷ q.value ∷ l) (flat_more ps p)

-- the next pair stands behind the others
abbrev pub NextPair : List Pair → Pair → Type 0
NextPair ps p = BeginsWithLetter p.word.bytes × (IsKey p.word.bytes p.key × ((¬ Has ps p.key) × IsValue ps p.key p.value.bytes))

pub are_more : (before ps : List Pair) (p : Pair) → ArePairs before ps → NextPair (before ++ ps) p → ArePairs before (ps ++ p ∷ [])
are_more before [] p are next = (subst (λ (l : List Pair). NextPair l p) (append-nil before) next, tt)
are_more before (q ∷ ps) p are next = (are.0, are_more (before ++ q ∷ []) ps p are.1 (subst (λ (l : List Pair). NextPair l p) (sym (append_assoc before (q ∷ []) ps)) next))

pub joined_more : (tokens rest : List TokenAt) (ps : List Pair) (p : Pair) → tokens ≡ flat ps ++ p.word ∷ p.value ∷ rest → tokens ≡ flat (ps ++ p ∷ []) ++ rest
joined_more tokens rest ps p is = is ∙ sym (append_assoc (flat ps) (p.word ∷ p.value ∷ []) rest) ∙ sym (ap (λ (l : List TokenAt). l ++ rest) (flat_more ps p))

-- ---- short words

key_short : (word : List ℕ) (key : Key) → IsKey word key → length word ≤ 12
key_short word key is = omega (arith, length-map word to_ascii_lowercase, ap length is, length-map (name_of key) to_ascii_lowercase, name_few key)
  where
    name_few : (key : Key) → length (name_of key) ≤ 12
    name_few Cols = lit≤ tt
    name_few Rows = lit≤ tt
    name_few XCorner = lit≤ tt
    name_few XCenter = lit≤ tt
    name_few YCorner = lit≤ tt
    name_few YCenter = lit≤ tt
    name_few Cell = lit≤ tt
    name_few Nodata = lit≤ tt

pub key_few : (word : List ℕ) (key : Key) → IsKey word key → length word < 33
key_few word key is = omega (arith, key_short word key is)

pub value_few : (ps : List Pair) (key : Key) (bytes : List ℕ) → IsValue ps key bytes → length bytes < 33
value_few ps Cols bytes is = omega (arith, integer_few bytes (pos is.size) is.spelled)
value_few ps Rows bytes is = omega (arith, integer_few bytes (pos is.size) is.spelled)
value_few ps XCorner bytes is = omega (arith, is.few)
value_few ps XCenter bytes is = omega (arith, is.few)
value_few ps YCorner bytes is = omega (arith, is.few)
value_few ps YCenter bytes is = omega (arith, is.few)
value_few ps Cell bytes is = omega (arith, is.few)
value_few ps Nodata bytes is = omega (arith, integer_few bytes is.0 is.1)
