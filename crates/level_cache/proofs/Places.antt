-- The places of a shelf in memory.
use Rattle.std.proofs.Common.{◌≡◌, ◌≢◌, inl, inr, ℕ, ◌+◌, ◌-◌, ◌^◌, ◌<◌, ◌≤◌, Bool, true, false, List, [], ◌∷◌, ◌++◌, length, take, drop, get_or, map, set, Option, Some, None, All, refl, sym, ap, subst, ◌∙◌, arith}
use Rattle.std.specs.Prelude.{IsSome, IsSomeAnd, IfSome, if◌then◌else◌}
use Rattle.std.proofs.lemmas.List.Elements.{All-head, All-tail}
use Rattle.std.proofs.lemmas.List.{drop_more, get_or_at, length-append, length-take-le, set_at, take_at, take-append-drop, take_all, take_more}
use Rattle.level_cache.specs.declared.memory.Kept.{Kept}
use Rattle.level_cache.specs.declared.memory.Lent.{Lent}
use Rattle.level_cache.specs.declared.memory.MemShelf.TheInside.{Inside}
use Rattle.outside_io.specs.volume.Recorded.{Recorded, history_of}
use Rattle.level_cache.specs.Memory.{IsSpare, MemState, fresh, is_base, one_if_none, spare_of, used_for, volume_of}
use Rattle.level_cache.specs.Places.{Corner}
use Rattle.level_cache.specs.Shelf.{Hands, IsOut, PutsBack, SameBeside}
use Rattle.level_cache.proofs.Corners.{is_same, not_same, same_is}
use Rattle.level_cache.specs.inside.Places.{AreNot, Cut, FirstOf, FirstSpare, HaveVolumes, IsLent, IsReady, LendsAt, NoneIsLeft, PutsBackAt, SparesAreNew, Takes, IsShelf, Lending, held, state_of, taken_of}

-- ---- bases

-- another base is not that of the place
not_of : (base other : Corner) (own : Option Corner) → other ≢ base → is_base base own ≡ true → is_base other own ≡ false
not_of base other None differs is = refl
not_of base other (Some own) differs is = not_same own other (λ same. differs (sym same ∙ same_is own base is))

-- ---- one place among others

pub volume_at : (base : Corner) (before : List Kept) (here : Kept) (behind : List Kept) → AreNot base before → is_base base here.base ≡ true → volume_of (before ++ (here ∷ behind)) base ≡ here.vol
volume_at base [] here behind not is = ap (λ (t : Bool). if t then here.vol else volume_of behind base) is
volume_at base (k ∷ ks) here behind not is =
    ap (λ (t : Bool). if t then k.vol else volume_of (ks ++ (here ∷ behind)) base) not.0 ∙ volume_at base ks here behind not.1 is

pub volume_beside : (other : Corner) (before : List Kept) (h k : Kept) (behind : List Kept) → is_base other h.base ≡ false → is_base other k.base ≡ false
    → volume_of (before ++ (k ∷ behind)) other ≡ volume_of (before ++ (h ∷ behind)) other
volume_beside other [] h k behind one two =
    ap (λ (t : Bool). if t then k.vol else volume_of behind other) two ∙ sym (ap (λ (t : Bool). if t then h.vol else volume_of behind other) one)
volume_beside other (b ∷ bs) h k behind one two = ap (λ v. if is_base other b.base then b.vol else v) (volume_beside other bs h k behind one two)

pub none_of : (base : Corner) (ks : List Kept) → AreNot base ks → volume_of ks base ≡ None
none_of base [] not = refl
none_of base (k ∷ ks) not = ap (λ (t : Bool). if t then k.vol else volume_of ks base) not.0 ∙ none_of base ks not.1

spare_cut : (before : List Kept) (here : Kept) (behind : List Kept) → spare_of (before ++ (here ∷ behind)) ≡ spare_of before + (one_if_none here.base + spare_of behind)
spare_cut [] here behind = (let same : one_if_none here.base + spare_of behind ≡ 0 + (one_if_none here.base + spare_of behind) = omega arith in same)
spare_cut (k ∷ ks) here behind = let rest = spare_cut ks here behind in omega (arith, rest)

not_front : (base : Corner) (before behind : List Kept) → AreNot base (before ++ behind) → AreNot base before
not_front base [] behind not = tt
not_front base (k ∷ ks) behind not = (not.0, not_front base ks behind not.1)

pub not_more : (base : Corner) (ks : List Kept) (k : Kept) → AreNot base ks → is_base base k.base ≡ false → AreNot base (ks ++ (k ∷ []))
not_more base [] k not is = (is, tt)
not_more base (b ∷ bs) k not is = (not.0, not_more base bs k not.1 is)

pub spare_more : (ks : List Kept) (k : Kept) → spare_of ks ≡ 0 → (k.base ≡ None → ⊥) → spare_of (ks ++ (k ∷ [])) ≡ 0
spare_more [] k none is = one k.base is
  where
    one : (b : Option Corner) → (b ≡ None → ⊥) → one_if_none b + 0 ≡ 0
    one None is = absurd (is refl)
    one (Some c) is = refl
spare_more (b ∷ bs) k none is = let rest = spare_more bs k (omega (arith, none)) is in omega (arith, none, rest)

volumes_front : (before : List Kept) (here : Kept) (behind : List Kept) → HaveVolumes (before ++ (here ∷ behind)) → HaveVolumes before × (IsSome here.vol × HaveVolumes behind)
volumes_front [] here behind have = (tt, have)
volumes_front (k ∷ ks) here behind have = let rest = volumes_front ks here behind have.1 in ((have.0, rest.0), rest.1)

volumes_join : (before : List Kept) (here : Kept) (behind : List Kept) → HaveVolumes before → IsSome here.vol → HaveVolumes behind → HaveVolumes (before ++ (here ∷ behind))
volumes_join [] here behind front has back = (has, back)
volumes_join (k ∷ ks) here behind front has back = (front.0, volumes_join ks here behind front.1 has back)

spares_put : (before : List Kept) (h k : Kept) (behind : List Kept) → (k.base ≡ None → IsSomeAnd k.vol IsSpare) → SparesAreNew (before ++ (h ∷ behind)) → SparesAreNew (before ++ (k ∷ behind))
spares_put [] h k behind new spares = (new, spares.1)
spares_put (b ∷ bs) h k behind new spares = (spares.0, spares_put bs h k behind new spares.1)

spare_here : (before : List Kept) (here : Kept) (behind : List Kept) → SparesAreNew (before ++ (here ∷ behind)) → here.base ≡ None → IsSomeAnd here.vol IsSpare
spare_here [] here behind spares = spares.0
spare_here (b ∷ bs) here behind spares = spare_here bs here behind spares.1

-- ---- a volume is taken

has_a_base : (base : Corner) (own : Option Corner) → is_base base own ≡ true → one_if_none own ≡ 0
has_a_base base None is = absurd (let clash : false ≡ true = is in cc)
has_a_base base (Some own) is = refl

not_none : (base : Corner) (own : Option Corner) → is_base base own ≡ true → own ≡ None → ⊥
not_none base None is none = absurd (let clash : false ≡ true = is in cc)
not_none base (Some own) is none = cc

abbrev pub lent_to : ℕ → Corner → ℕ → Lent
lent_to at base faults = record { at = at; base = base; faults = faults }

abbrev pub gone_from : Corner → Kept
gone_from base = held (Some base) None

module _ (base : Corner) (at faults : ℕ) (old new : List Kept) (vol : Recorded)
    (have : HaveVolumes old) (spares : SparesAreNew old) (counted : faults ≡ vol.faults) where
  -- from one place, whether it has been the base's or not
  module _ (c : Cut old at) (not : AreNot base c.before) (own : (other : Corner) → other ≢ base → is_base other c.here.base ≡ false)
      (was : c.here.vol ≡ Some vol) (after : new ≡ c.before ++ (gone_from base ∷ c.behind)) where
    all : HaveVolumes c.before × (IsSome c.here.vol × HaveVolumes c.behind)
    all = volumes_front c.before c.here c.behind (subst HaveVolumes c.joined have)

    beside : SameBeside base (volume_of old) (volume_of new)
    beside = λ other differs.
        ap (λ ks. volume_of ks other) after
        ∙ volume_beside other c.before c.here (gone_from base) c.behind (own other differs) (not_same base other (λ e. differs (sym e)))
        ∙ sym (ap (λ ks. volume_of ks other) c.joined)

    gone : volume_of new base ≡ None
    gone = ap (λ ks. volume_of ks base) after ∙ volume_at base c.before (gone_from base) c.behind not (is_same base base refl)

    spares_left : SparesAreNew new
    spares_left = subst SparesAreNew (sym after) (spares_put c.before c.here (gone_from base) c.behind (λ is. absurd (let clash : Some base ≡ None = is in cc)) (subst SparesAreNew c.joined spares))

    is_lent : IsLent new (lent_to at base faults)
    is_lent = record {
      first = record { cut = record { before = c.before; here = gone_from base; behind = c.behind; joined = after; many = c.many }; not_before = not; is = is_same base base refl };
      gone = refl;
      before = all.0;
      behind = all.1.1;
    }

    less : spare_of new + one_if_none c.here.base ≡ spare_of old
    less =
        let now = ap spare_of after ∙ spare_cut c.before (gone_from base) c.behind in
        let was_so = ap spare_of c.joined ∙ spare_cut c.before c.here c.behind in
        omega (arith, now, was_so)

  pub taken : IsReady base old at → LendsAt at base old new (Some vol) → Takes base old new (lent_to at base faults) vol
  taken (inl (f, room)) lends =
      let c = f.cut in
      let l = lends c in
      let stood : volume_of old base ≡ Some vol = ap (λ ks. volume_of ks base) c.joined ∙ volume_at base c.before c.here c.behind f.not_before f.is ∙ l.0 in
      let own = λ (other : Corner) (differs : other ≢ base). not_of base other c.here.base differs f.is in
      record {
        base_is = refl;
        faults_is = counted;
        room = subst (λ o. IsSomeAnd o (λ (v : Recorded). v.faults < 18446744073709551615)) l.0 room;
        hands = subst (λ o. Hands (λ _. true) history_of (λ (v : Recorded). v.faults) o vol) (sym stood) refl;
        beside = beside c f.not_before own l.0 l.1;
        gone = gone c f.not_before own l.0 l.1;
        spares = spares_left c f.not_before own l.0 l.1;
        lending = is_lent c f.not_before own l.0 l.1;
        spare = (
            let n = less c f.not_before own l.0 l.1 in
            let none = has_a_base base c.here.base f.is in
            let used : used_for (volume_of old base) ≡ 0 = ap used_for stood in
            omega (arith, n, none, used));
      }
  taken (inr (not, s)) lends =
      let c = s.cut in
      let l = lends c in
      let front = not_front base c.before (c.here ∷ c.behind) (subst (AreNot base) c.joined not) in
      let none : volume_of old base ≡ None = none_of base old not in
      let own : (other : Corner) → other ≢ base → is_base other c.here.base ≡ false = λ other differs. ap (is_base other) s.is in
      let new_one : IsSpare vol = subst (λ o. IsSomeAnd o IsSpare) l.0 (spare_here c.before c.here c.behind (subst SparesAreNew c.joined spares) s.is) in
      record {
        base_is = refl;
        faults_is = counted;
        room = (let zero = new_one.faults_none in omega (arith, zero));
        hands = subst (λ o. Hands (λ _. true) history_of (λ (v : Recorded). v.faults) o vol) (sym none) new_one;
        beside = beside c front own l.0 l.1;
        gone = gone c front own l.0 l.1;
        spares = spares_left c front own l.0 l.1;
        lending = is_lent c front own l.0 l.1;
        spare = (
            let n = less c front own l.0 l.1 in
            let one : one_if_none c.here.base ≡ 1 = ap one_if_none s.is in
            let used : used_for (volume_of old base) ≡ 1 = ap used_for none in
            omega (arith, n, one, used));
      }

-- ---- and put back

pub record Returned (base : Corner) (old new : List Kept) (vol : Recorded) : Type 0 where
  pub there : volume_of new base ≡ Some vol
  pub beside : SameBeside base (volume_of old) (volume_of new)
  pub have : HaveVolumes new
  pub spares : SparesAreNew new
  pub spare : spare_of new ≡ spare_of old

pub returned : (lent : Lent) (old new : List Kept) (vol : Recorded) → IsLent old lent → SparesAreNew old → PutsBackAt lent.at old new vol → Returned lent.base old new vol
returned lent old new vol lending spares puts =
    let c = lending.first.cut in
    let k : Kept = held c.here.base (Some vol) in
    let after : new ≡ c.before ++ (k ∷ c.behind) = puts c in
    record {
      there = ap (λ ks. volume_of ks lent.base) after ∙ volume_at lent.base c.before k c.behind lending.first.not_before lending.first.is;
      beside = λ other differs. (
          let own = not_of lent.base other c.here.base differs lending.first.is in
          ap (λ ks. volume_of ks other) after ∙ volume_beside other c.before c.here k c.behind own own ∙ sym (ap (λ ks. volume_of ks other) c.joined));
      have = subst HaveVolumes (sym after) (volumes_join c.before k c.behind lending.before refl lending.behind);
      spares = subst SparesAreNew (sym after) (spares_put c.before c.here k c.behind (λ none. absurd (not_none lent.base c.here.base lending.first.is none)) (subst SparesAreNew c.joined spares));
      spare = ap spare_of after ∙ spare_cut c.before k c.behind ∙ sym (spare_cut c.before c.here c.behind) ∙ sym (ap spare_of c.joined);
    }

-- ---- searches

pub cut_here : (ks : List Kept) (at : ℕ) (d : Kept) → at < length ks → ks ≡ take at ks ++ (get_or ks at d ∷ drop (at + 1) ks)
cut_here ks at d less = sym (take-append-drop at ks) ∙ ap (λ r. take at ks ++ r) (drop_more ks at d less)

pub cut_many : (ks : List Kept) (at : ℕ) → at < length ks → length (take at ks) ≡ at
cut_many ks at less = length-take-le at ks (omega (arith, less))

abbrev pub cut_at : (ks : List Kept) (at : ℕ) (d : Kept) → at < length ks → Cut ks at
cut_at ks at d less = record { before = take at ks; here = get_or ks at d; behind = drop (at + 1) ks; joined = cut_here ks at d less; many = cut_many ks at less }

pub at_cut : (ks : List Kept) (at : ℕ) → Cut ks at → at < length ks
at_cut ks at c = (let long = ap length c.joined in let parts = length-append c.before (c.here ∷ c.behind) in let many = c.many in omega (arith, long, parts, many))

-- ---- new places

pub fresh_have : (vs : List Recorded) → HaveVolumes (map fresh vs)
fresh_have [] = tt
fresh_have (v ∷ vs) = (refl, fresh_have vs)

pub fresh_spares : (vs : List Recorded) → All IsSpare vs → SparesAreNew (map fresh vs)
fresh_spares [] each = tt
fresh_spares (v ∷ vs) each = (λ none. spare_one v (All-head IsSpare v vs each), fresh_spares vs (All-tail IsSpare v vs each))
  where
    spare_one : (v : Recorded) → IsSpare v → IsSomeAnd (fresh v).vol IsSpare
    spare_one v is = is

pub fresh_more : (vs : List Recorded) (v : Recorded) → map fresh vs ++ (fresh v ∷ []) ≡ map fresh (vs ++ (v ∷ []))
fresh_more [] v = refl
fresh_more (x ∷ xs) v = ap (λ l. fresh x ∷ l) (fresh_more xs v)

-- ---- the loops of the searches

pub not_step : (base : Corner) (ks : List Kept) (i : ℕ) (k : Kept) → k ≡ get_or ks i k → i < length ks → AreNot base (take i ks) → is_base base k.base ≡ false → AreNot base (take (i + 1) ks)
not_step base ks i k same less not is = subst (AreNot base) (sym (take_more ks i k less))
    (not_more base (take i ks) (get_or ks i k) not (subst (λ (x : Kept). is_base base x.base ≡ false) same is))

pub not_all : (base : Corner) (ks : List Kept) (i : ℕ) → length ks ≤ i → AreNot base (take i ks) → AreNot base ks
not_all base ks i all not = subst (AreNot base) (take_all i ks all) not

pub first_of : (base : Corner) (ks : List Kept) (i : ℕ) (k : Kept) → k ≡ get_or ks i k → i < length ks → AreNot base (take i ks) → is_base base k.base ≡ true → FirstOf base ks i
first_of base ks i k same less not is = record { cut = cut_at ks i k less; not_before = not; is = subst (λ (x : Kept). is_base base x.base ≡ true) same is }

pub spare_step : (ks : List Kept) (i : ℕ) (k : Kept) → k ≡ get_or ks i k → i < length ks → spare_of (take i ks) ≡ 0 → (k.base ≡ None → ⊥) → spare_of (take (i + 1) ks) ≡ 0
spare_step ks i k same less none some = ap spare_of (take_more ks i k less)
    ∙ spare_more (take i ks) (get_or ks i k) none (subst (λ (x : Kept). x.base ≡ None → ⊥) same some)

pub spare_all : (ks : List Kept) (i : ℕ) → length ks ≤ i → spare_of (take i ks) ≡ 0 → spare_of ks ≡ 0
spare_all ks i all none = ap spare_of (sym (take_all i ks all)) ∙ none

pub first_spare : (ks : List Kept) (i : ℕ) (k : Kept) → k ≡ get_or ks i k → i < length ks → k.base ≡ None → FirstSpare ks i
first_spare ks i k same less is = record { cut = cut_at ks i k less; is = subst (λ (x : Kept). x.base ≡ None) same is }

-- ---- whether a volume can be lent

here_get : (ks : List Kept) (at : ℕ) (d : Kept) (c : Cut ks at) → get_or ks at d ≡ c.here
here_get ks at d c = ap (λ l. get_or l at d) c.joined ∙ get_or_at c.before c.here c.behind d at c.many

pub here_is : (ks : List Kept) (at : ℕ) (k : Kept) → k ≡ get_or ks at k → (c : Cut ks at) → k ≡ c.here
here_is ks at k is c = is ∙ here_get ks at k c

pub set_is : (ks : List Kept) (at : ℕ) (k : Kept) (c : Cut ks at) → set ks at k ≡ c.before ++ (k ∷ c.behind)
set_is ks at k c = ap (λ l. set l at k) c.joined ∙ set_at c.before c.here c.behind k at c.many

abbrev pub CanCount : Kept → Type 0
CanCount k = IsSomeAnd k.vol (λ v. v.faults < 2 ^ 64 - 1)

abbrev pub IsFull : Kept → Type 0
IsFull k = IsSomeAnd k.vol (λ v. v.faults ≡ 2 ^ 64 - 1)

stood_at : (base : Corner) (ks : List Kept) (at : ℕ) (f : FirstOf base ks at) → volume_of ks base ≡ f.cut.here.vol
stood_at base ks at f = ap (λ l. volume_of l base) f.cut.joined ∙ volume_at base f.cut.before f.cut.here f.cut.behind f.not_before f.is

pub have_at : (ks : List Kept) (at : ℕ) (k : Kept) → k ≡ get_or ks at k → Cut ks at → HaveVolumes ks → IsSome k.vol
have_at ks at k is c have = subst (λ (x : Kept). IsSome x.vol) (sym (here_is ks at k is c)) (volumes_front c.before c.here c.behind (subst HaveVolumes c.joined have)).1.0

pub ready_own : (base : Corner) (ks : List Kept) (at : ℕ) (k : Kept) → k ≡ get_or ks at k → FirstOf base ks at → CanCount k → IsReady base ks at
ready_own base ks at k is f can = inl (f, subst CanCount (here_is ks at k is f.cut) can)

pub left_full : (base : Corner) (ks : List Kept) (at : ℕ) (k : Kept) → k ≡ get_or ks at k → FirstOf base ks at → IsFull k → NoneIsLeft base ks
left_full base ks at k is f full = inr (subst (λ o. IsSomeAnd o (λ (v : Recorded). v.faults ≡ 2 ^ 64 - 1)) (sym (stood_at base ks at f)) (subst IsFull (here_is ks at k is f.cut) full))

count_or_full : (v : Option Recorded) → IsSomeAnd v (λ (x : Recorded). x.faults < 2 ^ 64 - 1) → IsSomeAnd v (λ (x : Recorded). x.faults ≡ 2 ^ 64 - 1) → ⊥
count_or_full None can full = absurd can
count_or_full (Some v) can full = omega (arith, can, full)

count_or_none : (v : Option Recorded) → IsSomeAnd v (λ (x : Recorded). x.faults < 2 ^ 64 - 1) → v ≡ None → ⊥
count_or_none None can none = absurd can
count_or_none (Some v) can none = cc

pub not_left : (base : Corner) (ks : List Kept) (at : ℕ) (k : Kept) → k ≡ get_or ks at k → FirstOf base ks at → CanCount k → NoneIsLeft base ks → ⊥
not_left base ks at k is f can left =
    let could = subst CanCount (here_is ks at k is f.cut) can in
    let stood = subst (λ o. IsSomeAnd o (λ (v : Recorded). v.faults < 2 ^ 64 - 1)) (sym (stood_at base ks at f)) could in
    elim left [ inl none ↦ count_or_none (volume_of ks base) stood none.0 | inr full ↦ count_or_full (volume_of ks base) stood full ]

pub spare_left : (base : Corner) (ks : List Kept) (at : ℕ) → AreNot base ks → FirstSpare ks at → NoneIsLeft base ks → ⊥
spare_left base ks at not f (inl none) =
    let now = ap spare_of f.cut.joined ∙ spare_cut f.cut.before f.cut.here f.cut.behind in
    let one : one_if_none f.cut.here.base ≡ 1 = ap one_if_none f.is in
    let zero = none.1 in
    omega (arith, now, one, zero)
spare_left base ks at not f (inr full) = subst (λ o. IsSomeAnd o (λ (v : Recorded). v.faults ≡ 2 ^ 64 - 1)) (none_of base ks not) full

pub none_left : (base : Corner) (ks : List Kept) → AreNot base ks → spare_of ks ≡ 0 → NoneIsLeft base ks
none_left base ks not none = inl (none_of base ks not, none)

pub lent_at : (ks : List Kept) (at : ℕ) (base : Corner) (d : Kept) (r v : Option Recorded) → r ≡ (get_or ks at d).vol → v ≡ None → LendsAt at base ks (set ks at (held (Some base) v)) r
lent_at ks at base d r v is none = λ c. (
  ap (λ (k : Kept). k.vol) (sym (here_get ks at d c)) ∙ sym is,
  ap (λ (o : Option Recorded). set ks at (held (Some base) o)) none ∙ set_is ks at (gone_from base) c,
)

pub put_at : (ks : List Kept) (at : ℕ) (d : Kept) (vol : Recorded) → PutsBackAt at ks (set ks at (held (get_or ks at d).base (Some vol))) vol
put_at ks at d vol = λ c.
    ap (λ (k : Kept). set ks at (held k.base (Some vol))) (here_get ks at d c) ∙ set_is ks at (held c.here.base (Some vol)) c

ready_cut : (base : Corner) (ks : List Kept) (at : ℕ) → IsReady base ks at → Cut ks at
ready_cut base ks at (inl own) = own.0.cut
ready_cut base ks at (inr new) = new.1.cut

pub ready_at : (base : Corner) (ks : List Kept) (at : ℕ) → IsReady base ks at → at < length ks
ready_at base ks at ready = at_cut ks at (ready_cut base ks at ready)

pub cannot : (base : Corner) (ks new : List Kept) (at : ℕ) (r : Option Recorded) → HaveVolumes ks → IsReady base ks at → LendsAt at base ks new r → r ≡ None → ⊥
cannot base ks new at r have ready lends none =
    let c = ready_cut base ks at ready in
    let some = (volumes_front c.before c.here c.behind (subst HaveVolumes c.joined have)).1.0 in
    let gone : c.here.vol ≡ None = (lends c).0 ∙ none in
    absurd (let clash : IsSome {T = Recorded} None = subst IsSome gone some in (let no_more : false ≡ true = clash in cc))

pub no_spare : (base : Corner) (ks : List Kept) (r : Option ℕ) → IfSome r (λ at. FirstSpare ks at) → AreNot base ks → NoneIsLeft base ks → r ≡ None
no_spare base ks None found not left = refl
no_spare base ks (Some at) found not left = absurd (spare_left base ks at not found left)

-- ---- a list in a vector

pub whole : (xs ys : List Kept) (n : ℕ) → length xs ≡ length ys → length ys ≡ n → take n (xs ++ drop (length xs) ys) ≡ xs
whole xs ys n many len = take_at xs (drop (length xs) ys) n (many ∙ len)

-- ---- the whole shelf

pub record Gave (base : Corner) (old new : List Kept) (vol : Recorded) : Type 0 where
  pub put : PutsBack base vol (volume_of old) (volume_of new)
  pub have : HaveVolumes new
  pub spares : SparesAreNew new
  pub spare : spare_of new ≡ spare_of old

pub is_lent_now : (i : Inside) (lent : Lent) → IsShelf i → i.lent ≡ Some lent → IsLent i.places.items lent
is_lent_now i lent shelf is = subst (λ o. Lending i.places.items o) is shelf.lending

pub at_lent : (i : Inside) (lent : Lent) → IsShelf i → i.lent ≡ Some lent → lent.at < length i.places.items
at_lent i lent shelf is = at_cut i.places.items lent.at (is_lent_now i lent shelf is).first.cut

pub gave : (i : Inside) (s : MemState) (lent : Lent) (base : Corner) (n : ℕ) (new : List Kept) (vol : Recorded) → IsShelf i → state_of i ≡ s → i.lent ≡ Some lent → IsOut s.out base n
    → PutsBackAt lent.at i.places.items new vol → Gave base s.places new vol
gave i s lent base n new vol shelf view is out puts =
    let r = returned lent i.places.items new vol (is_lent_now i lent shelf is) shelf.spares puts in
    let lent_out : s.out ≡ taken_of (Some lent) = ap (λ (x : MemState). x.out) (sym view) ∙ ap taken_of is in
    let same : lent.base ≡ base = (subst (λ o. IsOut o base n) lent_out out).0 in
    let places : i.places.items ≡ s.places = ap (λ (x : MemState). x.places) view in
    record {
      put = record {
        there = subst (λ (b : Corner). volume_of new b ≡ Some vol) same r.there;
        beside = subst (λ (ks : List Kept). SameBeside base (volume_of ks) (volume_of new)) places (subst (λ (b : Corner). SameBeside b (volume_of i.places.items) (volume_of new)) same r.beside);
      };
      have = r.have;
      spares = r.spares;
      spare = r.spare ∙ ap spare_of places;
    }

map_same : (vs : List Recorded) → map (λ (v : Recorded). v) vs ≡ vs
map_same [] = refl
map_same (v ∷ vs) = ap (λ l. v ∷ l) (map_same vs)

pub all_fresh : (ks : List Kept) (vs ws : List Recorded) → ks ≡ map fresh vs → map (λ (v : Recorded). v) vs ≡ ws → ks ≡ map fresh ws
all_fresh ks vs ws is ended = is ∙ ap (map fresh) (sym (map_same vs) ∙ ended)
