-- The exits of a function that answers `Some` exactly where some value has a property.
use Rattle.std.proofs.Common.{◌≡◌, refl, sym, ap, subst, ◌↔◌, Option, Some, None}

-- no value has it
pub none_exit : {A : Type 0} (P : A → Type 0) → ((x : A) → P x → ⊥) → (r : Option A) → r ≡ None → (x : A) → (r ≡ Some x) ↔ P x
none_exit P never r e x = (λ is. cc, λ h. absurd (never x h))

-- this value alone has it
pub some_exit : {A : Type 0} (P : A → Type 0) (v : A) → P v → ((x : A) → P x → v ≡ x) → (x : A) → (◌≡◌ {A = Option A} (Some v) (Some x)) ↔ P x
some_exit P v has only x = (λ is. let same : v ≡ x = cc in subst P same has, λ h. ap Some (only x h))

-- what a callee that answered `None` says
pub none_of : {A : Type 0} (Q : A → Type 0) → ((x : A) → (◌≡◌ {A = Option A} None (Some x)) ↔ Q x) → (x : A) → Q x → ⊥
none_of {A = A} Q exact x h = let bad : ◌≡◌ {A = Option A} None (Some x) = (exact x).1 h in cc

-- what a callee that answered `Some v` says
pub some_of : {A : Type 0} (Q : A → Type 0) (v : A) → ((x : A) → (◌≡◌ {A = Option A} (Some v) (Some x)) ↔ Q x) → (x : A) → Q x → v ≡ x
some_of {A = A} Q v exact x h = let got : ◌≡◌ {A = Option A} (Some v) (Some x) = (exact x).1 h in cc

pub some_has : {A : Type 0} (Q : A → Type 0) (v : A) → ((x : A) → (◌≡◌ {A = Option A} (Some v) (Some x)) ↔ Q x) → Q v
some_has Q v exact = (exact v).0 refl

-- a callee's answer `Some v` that is tested once more
pub passed_exit : {A : Type 0} (Q T : A → Type 0) (v : A) → ((x : A) → (◌≡◌ {A = Option A} (Some v) (Some x)) ↔ Q x) → T v → (x : A) → (◌≡◌ {A = Option A} (Some v) (Some x)) ↔ (Q x × T x)
passed_exit Q T v exact passes = some_exit (λ x. Q x × T x) v (some_has Q v exact, passes) (λ x h. some_of Q v exact x h.0)

pub failed_exit : {A : Type 0} (Q T : A → Type 0) (v : A) → ((x : A) → (◌≡◌ {A = Option A} (Some v) (Some x)) ↔ Q x) → (T v → ⊥) → (x : A) → (◌≡◌ {A = Option A} None (Some x)) ↔ (Q x × T x)
failed_exit Q T v exact fails = none_exit (λ x. Q x × T x) (λ x h. fails (subst T (sym (some_of Q v exact x h.0)) h.1)) None refl

pub untested_exit : {A : Type 0} (Q T : A → Type 0) → ((x : A) → (◌≡◌ {A = Option A} None (Some x)) ↔ Q x) → (r : Option A) → r ≡ None → (x : A) → (r ≡ Some x) ↔ (Q x × T x)
untested_exit Q T exact r e = none_exit (λ x. Q x × T x) (λ x h. none_of Q exact x h.0) r e
