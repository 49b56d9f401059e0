-- Whatever is built of parts that stand or have a fault stands or has a fault.
use Rattle.std.proofs.Common.{◌≡◌, ℕ, ◌+◌, zero, suc, List, [], ◌∷◌, ◌++◌, length, get_or, refl, sym, ap, ◌∙◌, subst, arith, ◌⊎◌, inl, inr}
use Rattle.std.proofs.lemmas.List.{append_assoc, append-nil, length-append, get_or-append-add}
use Rattle.first_fault.specs.Faults.{Faults, unless, in_order, Numbered, InNumbered, AllNumbered}
use Rattle.first_fault.specs.Parts.{AreBytes, InFront, HasFault, IsDecided}

bytes_rest : (front rest bytes : List ℕ) → bytes ≡ front ++ rest → AreBytes bytes → AreBytes rest
bytes_rest front rest bytes e are i =
    let same : get_or bytes (length front + i) 0 ≡ get_or rest i 0 = ap (λ (u : List ℕ). get_or u (length front + i) 0) e ∙ get_or-append-add front rest i 0 in
    omega (arith, same, are (length front + i))

-- a test that is decided
pub decided_unless : {R : Type 0} (test : Type 0) (fault later : Faults R) {Y : Type 0} → test ⊎ (¬ test) → HasFault fault → (test → Y ⊎ HasFault later) → Y ⊎ HasFault (unless test fault later)
decided_unless test fault later (inl holds) w go = after test fault later holds (go holds)
  where
    after : {R : Type 0} (test : Type 0) (fault later : Faults R) {Y : Type 0} → test → Y ⊎ HasFault later → Y ⊎ HasFault (unless test fault later)
    after test fault later holds (inl y) = inl y
    after test fault later holds (inr w) = inr (record { place = w.place; reason = w.reason; fault = inl (holds, w.fault) })
decided_unless test fault later (inr no_) w go = inr (record { place = w.place; reason = w.reason; fault = inr (no_, w.fault) })

fault_behind : {R X : Type 0} (part : List ℕ → X → Type 0) (own : List ℕ → Faults R) (behind : X → List ℕ → Faults R) (bytes : List ℕ) (f : InFront part bytes) → HasFault (behind f.value f.rest) → HasFault (in_order part own behind bytes)
fault_behind part own behind bytes f w = record {
  place = length f.front + w.place;
  reason = w.reason;
  fault = inr (record { front = f.front; rest = f.rest; value = f.value; joined = f.joined; stands = f.stands; later = (w.place, (refl, w.fault)) });
}

-- a part and what follows it up to the end
pub record Joined {X Y : Type 0} (part : List ℕ → X → Type 0) (behind : X → List ℕ → Y → Type 0) (bytes : List ℕ) : Type 0 where
  pub first : InFront part bytes
  pub last : Y
  pub stands : behind first.value first.rest last

pub decided_in_order : {R X Y : Type 0} (part : List ℕ → X → Type 0) (own : List ℕ → Faults R) (behind : X → List ℕ → Y → Type 0) (faults : X → List ℕ → Faults R) → IsDecided part own
    → ((x : X) (rest : List ℕ) → AreBytes rest → ((y : Y) × behind x rest y) ⊎ HasFault (faults x rest)) → (bytes : List ℕ) → AreBytes bytes
    → Joined part behind bytes ⊎ HasFault (in_order part own faults bytes)
decided_in_order part own behind faults is later bytes are = first (is bytes are)
  where
    last : (f : InFront part bytes) → ((y : _) × behind f.value f.rest y) ⊎ HasFault (faults f.value f.rest) → Joined part behind bytes ⊎ HasFault (in_order part own faults bytes)
    last f (inl y) = inl (record { first = f; last = y.0; stands = y.1 })
    last f (inr w) = inr (fault_behind part own faults bytes f w)

    first : InFront part bytes ⊎ HasFault (own bytes) → Joined part behind bytes ⊎ HasFault (in_order part own faults bytes)
    first (inl f) = last f (later f.value f.rest (bytes_rest f.front f.rest bytes f.joined are))
    first (inr w) = inr (record { place = w.place; reason = w.reason; fault = inl w.fault })

-- one numbered part more
pub numbered_push : {X : Type 0} (part : ℕ → List ℕ → X → Type 0) (k j : ℕ) (a b : List ℕ) (xs : List X) (y : X) → j ≡ k + length xs → Numbered part k a xs → part j b y → Numbered part k (a ++ b) (xs ++ y ∷ [])
numbered_push part k j a b [] y at na p = (b, ([], (ap (λ (u : List ℕ). u ++ b) na ∙ sym (append-nil b), (subst (λ n. part n b y) (let t : j ≡ k = omega (arith, at) in t) p, refl))))
numbered_push part k j a b (x ∷ xs) y at (front, (rest, (joined, (stands, more)))) p =
    (front, (rest ++ b, (ap (λ (u : List ℕ). u ++ b) joined ∙ append_assoc front rest b, (stands, numbered_push part (suc k) j rest b xs y (omega (arith, at)) more p))))

more_numbered : {R X : Type 0} (part : ℕ → List ℕ → X → Type 0) (own : ℕ → List ℕ → Faults R) (n : ℕ) (bytes : List ℕ) → HasFault (InNumbered part own n bytes) → HasFault (InNumbered part own (suc n) bytes)
more_numbered part own n bytes w = record {
  place = w.place;
  reason = w.reason;
  fault = record { before = w.fault.before; front = w.fault.front; rest = w.fault.rest; fewer = omega (arith, w.fault.fewer); joined = w.fault.joined; stand = w.fault.stand; next = w.fault.next };
}

next_numbered : {R X : Type 0} (part : ℕ → List ℕ → X → Type 0) (own : ℕ → List ℕ → Faults R) (n : ℕ) (bytes : List ℕ) (f : InFront (AllNumbered part n) bytes) → InFront (part n) f.rest ⊎ HasFault (own n f.rest)
    → InFront (AllNumbered part (suc n)) bytes ⊎ HasFault (InNumbered part own (suc n) bytes)
next_numbered part own n bytes f (inl g) = inl (record {
  front = f.front ++ g.front;
  rest = g.rest;
  value = f.value ++ g.value ∷ [];
  joined = f.joined ∙ ap (λ (u : List ℕ). f.front ++ u) g.joined ∙ sym (append_assoc f.front g.front g.rest);
  stands = (omega (arith, f.stands.0, length-append f.value (g.value ∷ [])), numbered_push part 0 n f.front g.front f.value g.value (omega (arith, f.stands.0)) f.stands.1 g.stands);
})
next_numbered part own n bytes f (inr w) = inr (record {
  place = length f.front + w.place;
  reason = w.reason;
  fault = record {
    before = f.value;
    front = f.front;
    rest = f.rest;
    fewer = omega (arith, f.stands.0);
    joined = f.joined;
    stand = f.stands.1;
    next = (w.place, (refl, subst (λ k. own k f.rest w.place w.reason) (sym f.stands.0) w.fault));
  };
})

pub decided_numbered : {R X : Type 0} (part : ℕ → List ℕ → X → Type 0) (own : ℕ → List ℕ → Faults R) → ((k : ℕ) → IsDecided (part k) (own k)) → (n : ℕ) → IsDecided (AllNumbered part n) (InNumbered part own n)
decided_numbered part own is zero bytes are = inl (record { front = []; rest = bytes; value = []; joined = refl; stands = (refl, refl) })
decided_numbered part own is (suc n) bytes are = go part own is n bytes are (decided_numbered part own is n bytes are)
  where
    go : {R X : Type 0} (part : ℕ → List ℕ → X → Type 0) (own : ℕ → List ℕ → Faults R) → ((k : ℕ) → IsDecided (part k) (own k)) → (n : ℕ) (bytes : List ℕ) → AreBytes bytes → InFront (AllNumbered part n) bytes ⊎ HasFault (InNumbered part own n bytes)
        → InFront (AllNumbered part (suc n)) bytes ⊎ HasFault (InNumbered part own (suc n) bytes)
    go part own is n bytes are (inl f) = next_numbered part own n bytes f (is n f.rest (bytes_rest f.front f.rest bytes f.joined are))
    go part own is n bytes are (inr w) = inr (more_numbered part own n bytes w)
