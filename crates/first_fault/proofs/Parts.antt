-- Laws of the words of specs/Faults.antt: whatever is built of parts that have one value and one first fault has them too.
use Rattle.std.proofs.Common.{◌≡◌, ℕ, ◌+◌, ◌<◌, suc, List, [], ◌∷◌, ◌++◌, length, refl, sym, ap, ◌∙◌, subst, arith, ◌⊎◌, inl, inr}
use Rattle.std.proofs.lemmas.List.{append_cancel_left, append_assoc}
use Rattle.std.proofs.lemmas.Bool.{cases_order}
use Rattle.first_fault.specs.Faults.{Faults, none, wrong, choice, unless, moved, in_order, ends, Numbered, InNumbered, AllNumbered}
use Rattle.first_fault.specs.Parts.{IsSingle, IsEmpty, IsPart}

pub single-none : {R : Type 0} → IsSingle (none {R = R})
single-none p q a b x y = absurd x

pub single-wrong : {R : Type 0} (why : R) (at : ℕ) → IsSingle (wrong why at)
single-wrong why at p q a b x y = (x.0 ∙ sym y.0, x.1 ∙ sym y.1)

pub single-choice : {R : Type 0} (test : Type 0) (f g : Faults R) → IsSingle f → IsSingle g → IsSingle (choice test f g)
single-choice test f g sf sg p q a b (inl x) (inl y) = sf p q a b x.1 y.1
single-choice test f g sf sg p q a b (inl x) (inr y) = absurd (y.0 x.0)
single-choice test f g sf sg p q a b (inr x) (inl y) = absurd (x.0 y.0)
single-choice test f g sf sg p q a b (inr x) (inr y) = sg p q a b x.1 y.1

pub single-unless : {R : Type 0} (test : Type 0) (why : R) (at : ℕ) (g : Faults R) → IsSingle g → IsSingle (unless test (wrong why at) g)
single-unless test why at g sg = single-choice test g (wrong why at) sg (single-wrong why at)

pub single-moved : {R : Type 0} (n : ℕ) (f : Faults R) → IsSingle f → IsSingle (moved n f)
single-moved n f sf p q a b x y =
    let same = sf x.0 y.0 a b x.1.1 y.1.1 in
    (x.1.0 ∙ ap (λ k. n + k) same.0 ∙ sym y.1.0, same.1)

pub single-ends : {R : Type 0} (why : R) (rest : List ℕ) → IsSingle (ends why rest)
single-ends why rest = single-unless (rest ≡ []) why 0 none single-none

-- ---- a test that holds

pub passed : {R : Type 0} (test : Type 0) (f g : Faults R) → test → (p : ℕ) (a : R) → choice test f g p a → f p a
passed test f g t p a (inl x) = x.1
passed test f g t p a (inr x) = absurd (x.0 t)

pub failed : {R : Type 0} (test : Type 0) (f g : Faults R) → ¬ test → (p : ℕ) (a : R) → choice test f g p a → g p a
failed test f g t p a (inl x) = absurd (t x.0)
failed test f g t p a (inr x) = x.1

pub empty-choice : {R : Type 0} (test : Type 0) (f g : Faults R) → test → IsEmpty f → IsEmpty (choice test f g)
empty-choice test f g t e p a x = e p a (passed test f g t p a x)

pub empty-failed : {R : Type 0} (test : Type 0) (f g : Faults R) → ¬ test → IsEmpty g → IsEmpty (choice test f g)
empty-failed test f g t e p a x = e p a (failed test f g t p a x)

pub empty-moved : {R : Type 0} (n : ℕ) (f : Faults R) → IsEmpty f → IsEmpty (moved n f)
empty-moved n f e p a x = e x.0 a x.1.1

pub empty-ends : {R : Type 0} (why : R) → IsEmpty (ends why [])
empty-ends why p a x = passed (◌≡◌ {A = List ℕ} [] []) none (wrong why 0) refl p a x

-- ---- parts

abbrev Moved : {R X : Type 0} → (X → List ℕ → Faults R) → ℕ → R → List ℕ → List ℕ → X → Type 0
Moved behind p a front rest x = moved (length front) (behind x rest) p a

-- equal joins of equal fronts have equal rests
pub same_rest : (a b s t : List ℕ) → a ≡ b → a ++ s ≡ b ++ t → s ≡ t
same_rest a b s t e joined = append_cancel_left b s t (ap (λ xs. xs ++ s) (sym e) ∙ joined)

carried : {R X : Type 0} (behind : X → List ℕ → Faults R) (p : ℕ) (r : R) (a b s t : List ℕ) (x y : X) → a ≡ b → s ≡ t → x ≡ y → Moved behind p r a s x → Moved behind p r b t y
carried behind p r a b s t x y ea es ex m =
    subst (λ u. Moved behind p r u t y) ea (subst (λ u. Moved behind p r a u y) es (subst (λ u. Moved behind p r a s u) ex m))

-- what is wrong behind a part that stands
pub behind_it : {R X : Type 0} (part : List ℕ → X → Type 0) (own : List ℕ → Faults R) (behind : X → List ℕ → Faults R) → IsPart part own
    → (a s : List ℕ) (x : X) → part a x → (p : ℕ) (r : R) → in_order part own behind (a ++ s) p r → moved (length a) (behind x s) p r
behind_it part own behind is a s x stands p r (inl w) = absurd (is.either a s x p r stands w)
behind_it part own behind is a s x stands p r (inr w) =
    let same = is.once w.front a w.rest s w.value x w.stands stands (sym w.joined) in
    carried behind p r w.front a w.rest s w.value x same.0 (same_rest w.front a w.rest s same.0 (sym w.joined)) same.1 w.later

pub empty-in_order : {R X : Type 0} (part : List ℕ → X → Type 0) (own : List ℕ → Faults R) (behind : X → List ℕ → Faults R) → IsPart part own
    → (a s : List ℕ) (x : X) → part a x → IsEmpty (behind x s) → IsEmpty (in_order part own behind (a ++ s))
empty-in_order part own behind is a s x stands e p r w = empty-moved (length a) (behind x s) e p r (behind_it part own behind is a s x stands p r w)

pub single-in_order : {R X : Type 0} (part : List ℕ → X → Type 0) (own : List ℕ → Faults R) (behind : X → List ℕ → Faults R) → IsPart part own
    → ((x : X) (rest : List ℕ) → IsSingle (behind x rest)) → (bytes : List ℕ) → IsSingle (in_order part own behind bytes)
single-in_order part own behind is later bytes p q r s (inl w) (inl v) = is.single bytes p q r s w v
single-in_order part own behind is later bytes p q r s (inl w) (inr v) = absurd (is.either v.front v.rest v.value p r v.stands (subst (λ u. own u p r) v.joined w))
single-in_order part own behind is later bytes p q r s (inr w) (inl v) = absurd (is.either w.front w.rest w.value q s w.stands (subst (λ u. own u q s) w.joined v))
single-in_order part own behind is later bytes p q r s (inr w) (inr v) =
    let e = sym w.joined ∙ v.joined in
    let same = is.once w.front v.front w.rest v.rest w.value v.value w.stands v.stands e in
    single-moved (length v.front) (behind v.value v.rest) (later v.value v.rest) p q r s
    (carried behind p r w.front v.front w.rest v.rest w.value v.value same.0 (same_rest w.front v.front w.rest v.rest same.0 e) same.1 w.later) v.later

-- a part and what follows it, up to the end: one value
pub one_behind : {R X Y : Type 0} (part : List ℕ → X → Type 0) (own : List ℕ → Faults R) → IsPart part own → (behind : X → List ℕ → Y → Type 0)
    → ((x : X) (rest : List ℕ) (y z : Y) → behind x rest y → behind x rest z → y ≡ z)
    → (a b s t : List ℕ) (x x' : X) (y z : Y) → a ++ s ≡ b ++ t → part a x → part b x' → behind x s y → behind x' t z → y ≡ z
one_behind part own is behind one a b s t x x' y z e pa pb ba bb =
    let same = is.once a b s t x x' pa pb e in
    one x' t y z (subst (λ u. behind x' u y) (same_rest a b s t same.0 e) (subst (λ u. behind u s y) same.1 ba)) bb

-- ---- numbered parts

next_joined : (a b c d e : List ℕ) → a ≡ b ++ c → a ++ d ≡ b ++ (c ++ d)
next_joined a b c d e joined = ap (λ u. u ++ d) joined ∙ append_assoc b c d

pub numbered_once : {R X : Type 0} (part : ℕ → List ℕ → X → Type 0) (own : ℕ → List ℕ → Faults R) → ((k : ℕ) → IsPart (part k) (own k)) → (k : ℕ) (a b s t : List ℕ) (xs ys : List X)
    → length xs ≡ length ys → Numbered part k a xs → Numbered part k b ys → a ++ s ≡ b ++ t → (a ≡ b) × (xs ≡ ys)
numbered_once part own is k a b s t [] [] long na nb e = (na ∙ sym nb, refl)
numbered_once part own is k a b s t [] (y ∷ ys) long na nb e = absurd (omega (arith, long))
numbered_once part own is k a b s t (x ∷ xs) [] long na nb e = absurd (omega (arith, long))
numbered_once part own is k a b s t (x ∷ xs) (y ∷ ys) long (front, (rest, (joined, (stands, more)))) (front', (rest', (joined', (stands', more')))) e =
    let joins : front ++ (rest ++ s) ≡ front' ++ (rest' ++ t) = sym (next_joined a front rest s [] joined) ∙ e ∙ next_joined b front' rest' t [] joined' in
    let first = (is k).once front front' (rest ++ s) (rest' ++ t) x y stands stands' joins in
    let rests = same_rest front front' (rest ++ s) (rest' ++ t) first.0 joins in
    let later = numbered_once part own is (suc k) rest rest' s t xs ys (omega (arith, long)) more more' rests in
    (joined ∙ (λ i. first.0 i ++ later.0 i) ∙ sym joined', λ i. first.1 i ∷ later.1 i)

-- where fewer of the parts are taken off, the next one comes first in what is left
pub record Next {X : Type 0} (part : ℕ → List ℕ → X → Type 0) (k : ℕ) (rest : List ℕ) : Type 0 where
  pub front : List ℕ
  pub back : List ℕ
  pub value : X
  pub joined : rest ≡ front ++ back
  pub stands : part k front value

meets : {R X : Type 0} (part : ℕ → List ℕ → X → Type 0) (own : ℕ → List ℕ → Faults R) → ((k : ℕ) → IsPart (part k) (own k)) → (k j : ℕ) (a s front rest : List ℕ) (xs before : List X)
    → Numbered part k a xs → Numbered part k front before → length before < length xs → j ≡ k + length before → a ++ s ≡ front ++ rest → Next part j rest
meets part own is k j a s front rest [] before na nb below at e = absurd (omega (arith, below))
meets part own is k j a s front rest (x ∷ xs) [] (f, (r, (joined, (stands, more)))) nb below at e = record {
  front = f;
  back = r ++ s;
  value = x;
  joined = sym (ap (λ u. u ++ rest) nb) ∙ sym e ∙ next_joined a f r s [] joined;
  stands = subst (λ n. part n f x) (let t : k ≡ j = omega (arith, at) in t) stands;
}
meets part own is k j a s front rest (x ∷ xs) (y ∷ ys) (f, (r, (joined, (stands, more)))) (f', (r', (joined', (stands', more')))) below at e =
    let joins : f ++ (r ++ s) ≡ f' ++ (r' ++ rest) = sym (next_joined a f r s [] joined) ∙ e ∙ next_joined front f' r' rest [] joined' in
    let first = (is k).once f f' (r ++ s) (r' ++ rest) x y stands stands' joins in
    meets part own is (suc k) j r s r' rest xs ys more more' (omega (arith, below)) (omega (arith, at)) (same_rest f f' (r ++ s) (r' ++ rest) first.0 joins)

next_no_fault : {R X : Type 0} (part : ℕ → List ℕ → X → Type 0) (own : ℕ → List ℕ → Faults R) → ((k : ℕ) → IsPart (part k) (own k)) → (k : ℕ) (rest : List ℕ) (n : ℕ) → Next part k rest → IsEmpty (moved n (own k rest))
next_no_fault part own is k rest n next p r w = (is k).either next.front next.back next.value w.0 r next.stands (subst (λ u. own k u w.0 r) next.joined w.1.1)

same_next : {R X : Type 0} (part : ℕ → List ℕ → X → Type 0) (own : ℕ → List ℕ → Faults R) → ((k : ℕ) → IsPart (part k) (own k)) → (n : ℕ) (bytes : List ℕ) (p q : ℕ) (r s : R)
    → (w : InNumbered part own n bytes p r) (v : InNumbered part own n bytes q s) → (length w.before ≡ length v.before) ⊎ ((length w.before < length v.before) ⊎ (length v.before < length w.before)) → (p ≡ q) × (r ≡ s)
same_next part own is n bytes p q r s w v (inl same) =
    let e = sym w.joined ∙ v.joined in
    let fronts = numbered_once part own is 0 w.front v.front w.rest v.rest w.before v.before same w.stand v.stand e in
    let next : moved (length v.front) (own (length v.before) v.rest) p r =
    subst (λ u. moved (length u) (own (length v.before) v.rest) p r) fronts.0
    (subst (λ u. moved (length w.front) (own (length v.before) u) p r) (same_rest w.front v.front w.rest v.rest fronts.0 e)
    (subst (λ k. moved (length w.front) (own k w.rest) p r) same w.next)) in
    single-moved (length v.front) (own (length v.before) v.rest) ((is (length v.before)).single v.rest) p q r s next v.next
same_next part own is n bytes p q r s w v (inr (inl less)) =
    absurd (next_no_fault part own is (length w.before) w.rest (length w.front)
    (meets part own is 0 (length w.before) v.front v.rest w.front w.rest v.before w.before v.stand w.stand less (omega arith) (sym v.joined ∙ w.joined)) p r w.next)
same_next part own is n bytes p q r s w v (inr (inr less)) =
    absurd (next_no_fault part own is (length v.before) v.rest (length v.front)
    (meets part own is 0 (length v.before) w.front w.rest v.front v.rest w.before v.before w.stand v.stand less (omega arith) (sym w.joined ∙ v.joined)) q s v.next)

-- as many numbered parts as are wanted are a part
pub numbered_part : {R X : Type 0} (part : ℕ → List ℕ → X → Type 0) (own : ℕ → List ℕ → Faults R) → ((k : ℕ) → IsPart (part k) (own k)) → (n : ℕ) → IsPart (AllNumbered part n) (InNumbered part own n)
numbered_part part own is n = record {
  once = λ a b s t x y pa pb e. numbered_once part own is 0 a b s t x y (pa.0 ∙ sym pb.0) pa.1 pb.1 e;
  either = λ a s x p r pa w.
      next_no_fault part own is (length w.before) w.rest (length w.front) (meets part own is 0 (length w.before) a s w.front w.rest x w.before pa.1 w.stand (omega (arith, w.fewer, pa.0)) (omega arith) w.joined) p r w.next;
  single = λ bytes p q r s w v. same_next part own is n bytes p q r s w v (cases_order (length w.before) (length v.before));
}
