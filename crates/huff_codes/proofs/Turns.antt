-- A part and behind it another are a part.
use Rattle.std.proofs.Common.{◌≡◌, ℕ, ◌+◌, ◌≤◌, List, ◌++◌, length, get_or, take, drop, refl, sym, ap, ◌∙◌, subst, arith, ◌⊎◌, inl, inr}
use Rattle.std.proofs.lemmas.List.{append_assoc, length-take-le, length-drop, take-append-drop, get_or-append-add}
use Rattle.std.proofs.Math.Seq.{take-add}
use Rattle.first_fault.specs.Faults.{Faults, in_order, moved}
use Rattle.first_fault.specs.Parts.{IsSingle, IsPart, IsDecided, AreBytes, InFront, HasFault}
use Rattle.first_fault.proofs.Parts.{behind_it, same_rest, single-moved}
use Rattle.huff_codes.specs.Turns.{InTurn}

-- what is wrong behind one front is wrong behind an equal one
carried : {R X : Type 0} (behind : X → List ℕ → Faults R) (p : ℕ) (r : R) (a b s t : List ℕ) (x y : X) → a ≡ b → s ≡ t → x ≡ y → moved (length a) (behind x s) p r → moved (length b) (behind y t) p r
carried behind p r a b s t x y ea es ex m =
    subst (λ (u : List ℕ). moved (length u) (behind y t) p r) ea (subst (λ (u : List ℕ). moved (length a) (behind y u) p r) es (subst (λ u. moved (length a) (behind u s) p r) ex m))

turn_once : {R X Y : Type 0} (part : List ℕ → X → Type 0) (own : List ℕ → Faults R) (next : X → List ℕ → Y → Type 0) (later : X → List ℕ → Faults R) → IsPart part own
    → ((a : List ℕ) (x : X) → part a x → IsPart (next x) (later x)) → (a b s t : List ℕ) (y z : Y) → InTurn part next a y → InTurn part next b z → a ++ s ≡ b ++ t → (a ≡ b) × (y ≡ z)
turn_once part own next later is then_ a b s t y z p q e =
    let joins : p.front ++ (p.rest ++ s) ≡ q.front ++ (q.rest ++ t) =
    sym (append_assoc p.front p.rest s) ∙ ap (λ (u : List ℕ). u ++ s) (sym p.joined) ∙ e ∙ ap (λ (u : List ℕ). u ++ t) q.joined ∙ append_assoc q.front q.rest t in
    let first = is.once p.front q.front (p.rest ++ s) (q.rest ++ t) p.value q.value p.stands q.stands joins in
    let rests = same_rest p.front q.front (p.rest ++ s) (q.rest ++ t) first.0 joins in
    let second = (then_ q.front q.value q.stands).once p.rest q.rest s t y z (subst (λ x. next x p.rest y) first.1 p.follows) q.follows rests in
    (p.joined ∙ (λ i. first.0 i ++ second.0 i) ∙ sym q.joined, second.1)

turn_either : {R X Y : Type 0} (part : List ℕ → X → Type 0) (own : List ℕ → Faults R) (next : X → List ℕ → Y → Type 0) (later : X → List ℕ → Faults R) → IsPart part own
    → ((a : List ℕ) (x : X) → part a x → IsPart (next x) (later x)) → (a s : List ℕ) (y : Y) (p : ℕ) (r : R) → InTurn part next a y → in_order part own later (a ++ s) p r → ⊥
turn_either part own next later is then_ a s y p r turn fault =
    let joins : a ++ s ≡ turn.front ++ (turn.rest ++ s) = ap (λ (u : List ℕ). u ++ s) turn.joined ∙ append_assoc turn.front turn.rest s in
    let behind = behind_it part own later is turn.front (turn.rest ++ s) turn.value turn.stands p r (subst (λ (u : List ℕ). in_order part own later u p r) joins fault) in
    (then_ turn.front turn.value turn.stands).either turn.rest s y behind.0 r turn.follows behind.1.1

turn_single : {R X Y : Type 0} (part : List ℕ → X → Type 0) (own : List ℕ → Faults R) (next : X → List ℕ → Y → Type 0) (later : X → List ℕ → Faults R) → IsPart part own
    → ((a : List ℕ) (x : X) → part a x → IsPart (next x) (later x)) → (bytes : List ℕ) → IsSingle (in_order part own later bytes)
turn_single part own next later is then_ bytes p q r s (inl w) (inl v) = is.single bytes p q r s w v
turn_single part own next later is then_ bytes p q r s (inl w) (inr v) = absurd (is.either v.front v.rest v.value p r v.stands (subst (λ u. own u p r) v.joined w))
turn_single part own next later is then_ bytes p q r s (inr w) (inl v) = absurd (is.either w.front w.rest w.value q s w.stands (subst (λ u. own u q s) w.joined v))
turn_single part own next later is then_ bytes p q r s (inr w) (inr v) =
    let e = sym w.joined ∙ v.joined in
    let same = is.once w.front v.front w.rest v.rest w.value v.value w.stands v.stands e in
    single-moved (length v.front) (later v.value v.rest) ((then_ v.front v.value v.stands).single v.rest) p q r s
    (carried later p r w.front v.front w.rest v.rest w.value v.value same.0 (same_rest w.front v.front w.rest v.rest same.0 e) same.1 w.later) v.later

pub part_in_turn : {R X Y : Type 0} (part : List ℕ → X → Type 0) (own : List ℕ → Faults R) (next : X → List ℕ → Y → Type 0) (later : X → List ℕ → Faults R) → IsPart part own
    → ((a : List ℕ) (x : X) → part a x → IsPart (next x) (later x)) → IsPart (InTurn part next) (in_order part own later)
part_in_turn part own next later is then_ = record {
  once = turn_once part own next later is then_;
  either = turn_either part own next later is then_;
  single = turn_single part own next later is then_;
}

-- where both are decided, so are they in turn
pub decided_in_turn : {R X Y : Type 0} (part : List ℕ → X → Type 0) (own : List ℕ → Faults R) (next : X → List ℕ → Y → Type 0) (later : X → List ℕ → Faults R) → IsDecided part own
    → ((a : List ℕ) (x : X) → part a x → IsDecided (next x) (later x)) → IsDecided (InTurn part next) (in_order part own later)
decided_in_turn part own next later is then_ bytes are = first (is bytes are)
  where
    in_front : (f : InFront part bytes) → InFront (next f.value) f.rest → InFront (InTurn part next) bytes
    in_front f g = record {
      front = f.front ++ g.front;
      rest = g.rest;
      value = g.value;
      joined = f.joined ∙ ap (λ (u : List ℕ). f.front ++ u) g.joined ∙ sym (append_assoc f.front g.front g.rest);
      stands = record { front = f.front; rest = g.front; value = f.value; joined = refl; stands = f.stands; follows = g.stands };
    }

    behind : (f : InFront part bytes) → HasFault (later f.value f.rest) → HasFault (in_order part own later bytes)
    behind f w = record {
      place = length f.front + w.place;
      reason = w.reason;
      fault = inr (record { front = f.front; rest = f.rest; value = f.value; joined = f.joined; stands = f.stands; later = (w.place, (refl, w.fault)) });
    }

    second : (f : InFront part bytes) → InFront (next f.value) f.rest ⊎ HasFault (later f.value f.rest) → InFront (InTurn part next) bytes ⊎ HasFault (in_order part own later bytes)
    second f (inl g) = inl (in_front f g)
    second f (inr w) = inr (behind f w)

    rest_bytes : (f : InFront part bytes) → AreBytes f.rest
    rest_bytes f i =
        let same : get_or bytes (length f.front + i) 0 ≡ get_or f.rest i 0 = ap (λ (u : List ℕ). get_or u (length f.front + i) 0) f.joined ∙ get_or-append-add f.front f.rest i 0 in
        omega (arith, same, are (length f.front + i))

    first : InFront part bytes ⊎ HasFault (own bytes) → InFront (InTurn part next) bytes ⊎ HasFault (in_order part own later bytes)
    first (inl f) = second f (then_ f.front f.value f.stands f.rest (rest_bytes f))
    first (inr w) = inr (record { place = w.place; reason = w.reason; fault = inl w.fault })

-- ---- what a reader of both has, from what it has read of each

pub turn_read : {X Y : Type 0} (part : List ℕ → X → Type 0) (next : X → List ℕ → Y → Type 0) (bytes rest : List ℕ) (m n : ℕ) (x : X) (y : Y) → m ≤ length bytes → rest ≡ drop m bytes → n ≤ length rest
    → part (take m bytes) x → next x (take n rest) y → (m + n ≤ length bytes) × InTurn part next (take (m + n) bytes) y
turn_read part next bytes rest m n x y within e inside stands follows = (
  omega (arith, ap length e, length-drop m bytes),
  record {
    front = take m bytes;
    rest = take n rest;
    value = x;
    joined = take-add m n bytes ∙ ap (λ (u : List ℕ). take m bytes ++ take n u) (sym e);
    stands = stands;
    follows = follows;
  },
)

pub turn_fault : {R X : Type 0} (part : List ℕ → X → Type 0) (own : List ℕ → Faults R) (later : X → List ℕ → Faults R) (bytes rest : List ℕ) (m at : ℕ) (x : X) (reason : R) → m ≤ length bytes → rest ≡ drop m bytes
    → part (take m bytes) x → later x rest at reason → in_order part own later bytes (m + at) reason
turn_fault part own later bytes rest m at x reason within e stands fault = inr (record {
  front = take m bytes;
  rest = rest;
  value = x;
  joined = sym (take-append-drop m bytes) ∙ ap (λ (u : List ℕ). take m bytes ++ u) (sym e);
  stands = stands;
  later = (at, (ap (λ (k : ℕ). k + at) (sym (length-take-le m bytes within)), fault));
})
