-- How a run of calls goes on.
use Rattle.std.proofs.Common.{◌≡◌, inl, inr, ℕ, ◌≤◌, Result, sym, ◌∙◌, subst, arith}
use Rattle.std.proofs.lemmas.Bool.{cases_lt}
use Rattle.outside_io.specs.volume.Disk.{Disk}
use Rattle.outside_io.specs.volume.History.{History, During, DuringAt, Ticks, current}

-- before the first call
pub started_at : (P : ℕ → Disk → Type 0) (h : History) → P h.moment (current h) → DuringAt P h h
started_at P h here = record {
  later = omega arith;
  past = λ t le. λ i. h.disk_at t;
  each = λ t ge le. subst (λ (m : ℕ). P m (h.disk_at m)) (let e : h.moment ≡ t = omega arith in e) here;
}

-- one call more, after which P holds of the moment and the disk
pub goes_on_at : {T E : Type 0} (P : ℕ → Disk → Type 0) (old mid new : History) (r : Result T E) → DuringAt P old mid → Ticks mid new r → P new.moment (current new) → DuringAt P old new
goes_on_at P old mid new r so_far tick here = record {
  later = omega (arith, so_far.later, tick.later);
  past = λ t le. tick.past t (omega (arith, le, so_far.later)) ∙ so_far.past t le;
  each = λ t ge le. elim (cases_lt mid.moment t) [
    | inl now ↦ subst (λ (m : ℕ). P m (new.disk_at m)) (let e : new.moment ≡ t = omega (arith, tick.clock) in e) here
    | inr before ↦ subst (P t) (sym (tick.past t before)) (so_far.each t ge before)
  ];
}

-- two runs of calls, one after the other
pub during_join_at : (P : ℕ → Disk → Type 0) (old mid new : History) → DuringAt P old mid → DuringAt P mid new → DuringAt P old new
during_join_at P old mid new one two = record {
  later = omega (arith, one.later, two.later);
  past = λ t le. two.past t (omega (arith, le, one.later)) ∙ one.past t le;
  each = λ t ge le. elim (cases_lt mid.moment t) [
    | inl after ↦ two.each t (omega arith) le
    | inr before ↦ subst (P t) (sym (two.past t before)) (one.each t ge before)
  ];
}

-- what holds at each moment
pub during_map_at : (P Q : ℕ → Disk → Type 0) (old new : History) → ((t : ℕ) (d : Disk) → old.moment ≤ t → t ≤ new.moment → P t d → Q t d) → DuringAt P old new → DuringAt Q old new
during_map_at P Q old new so during = record { later = during.later; past = during.past; each = λ t ge le. so t (new.disk_at t) ge le (during.each t ge le) }

-- The same, of the disk alone.

pub started : (P : Disk → Type 0) (h : History) → P (current h) → During P h h
started P h here = started_at (λ _ d. P d) h here

pub goes_on : {T E : Type 0} (P : Disk → Type 0) (old mid new : History) (r : Result T E) → During P old mid → Ticks mid new r → P (current new) → During P old new
goes_on P old mid new r so_far tick here = goes_on_at (λ _ d. P d) old mid new r so_far tick here

pub during_join : (P : Disk → Type 0) (old mid new : History) → During P old mid → During P mid new → During P old new
during_join P old mid new one two = during_join_at (λ _ d. P d) old mid new one two

pub during_map : (P Q : Disk → Type 0) (old new : History) → ((d : Disk) → P d → Q d) → During P old new → During Q old new
during_map P Q old new so during = during_map_at (λ _ d. P d) (λ _ d. Q d) old new (λ _ d _ _ h. so d h) during

-- A call that leaves the disk as it is keeps what holds of it.
pub stays_on : {T E : Type 0} (P : Disk → Type 0) (old mid new : History) (r : Result T E) → During P old mid → Ticks mid new r → current new ≡ current mid → During P old new
stays_on P old mid new r so_far tick same =
    goes_on P old mid new r so_far tick (subst P (sym same) (so_far.each mid.moment so_far.later (omega arith)))

-- The end of a run is one of its moments.
pub during_end : (P : Disk → Type 0) (old new : History) → During P old new → P (current new)
during_end P old new during = during.each new.moment during.later (omega arith)
