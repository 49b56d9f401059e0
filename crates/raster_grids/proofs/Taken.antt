-- Bytes taken from a source, and the first fault of what it had left.
use Rattle.std.proofs.Common.{[], ℕ, List, Option, Some, None, refl, ◌++◌, take, drop, sym, ap, ◌∙◌, ◌≡◌, ◌+◌, subst, length, arith, ◌<◌, ◌≤◌, ⊎_elim, get_or, ◌-◌, length-append, inr, inl, Bool, map, zero, suc, cond, ◌∷◌, append_assoc}
use Rattle.std.proofs.lemmas.List.{take-append-drop, append-nil, take_at, take_all, get_or_past, get_or_append_left, get_or-append-add, length-take-le, map-append, length-map}
use Rattle.std.proofs.lemmas.Bool.{cases_lt}
use Rattle.std.specs.Prelude.{nat_eq}
use Rattle.raster_grids.specs.Taken.{TookBytes}
use Rattle.outside_io.specs.streams.Source.{TakesFront, IsAtEnd}
use Rattle.first_fault.specs.Faults.{Faults, moved}
use Rattle.raster_grids.proofs.TakenBytes.{took_join}
use Rattle.raster_grids.specs.declared.reading.GridReason.{GridReason}
use Rattle.raster_grids.specs.declared.reading.GridFault.{GridFault}
use Rattle.raster_grids.specs.declared.reading.GridStop.TheVariants.{Fault, Source, OutOfMemory}
use Rattle.raster_grids.specs.ReadGrid.{IsToldFault, head_faults, magic_faults, AreLawful, mark_faults, value_faults, AreMarks}
use Rattle.raster_grids.specs.declared.reading.GridStop.{GridStop}
use Rattle.raster_grids.specs.declared.reading.GridReason.TheVariants.{BadMark, Truncated}

-- ---- bytes taken

pub took_none : (left : Option (List ℕ)) → TookBytes left left []
took_none None = refl
took_none (Some left) = (left, (refl, refl))

pub took_front : (left new : Option (List ℕ)) (n : ℕ) (buf : List ℕ) → TakesFront left new n buf → TookBytes left new (take n buf)
took_front None new n buf h = h
took_front (Some left) new n buf h = (drop n left, (sym (take-append-drop n left) ∙ ap (λ xs. xs ++ drop n left) (sym h.1.1), h.0))

-- ---- faults

-- where bytes were taken, what is wrong first is said of these and of what is left
pub told : (faults : List ℕ → Faults GridReason) (old new : Option (List ℕ)) (at : ℕ) (f : GridFault) (p : ℕ) (bytes : List ℕ) → TookBytes old new bytes → f.place ≡ at + p
    → ((rest : List ℕ) → new ≡ Some rest → faults (bytes ++ rest) p f.reason) → IsToldFault faults old at (Fault f)
told faults None new at f p bytes took is go = tt
told faults (Some left) new at f p bytes (rest, (joined, then)) is go = (p, (is, subst (λ xs. faults xs p f.reason) (sym joined) (go rest then)))

-- at the end of the bytes nothing is left
pub ended : (new : Option (List ℕ)) (rest : List ℕ) → IsAtEnd new → new ≡ Some rest → rest ≡ []
ended None rest h e = absurd (cc)
ended (Some left) rest h e = (let same : rest ≡ left = cc in same) ∙ h

-- a fault of a later part, where the parts before it were taken
pub told_behind : (faults behind : List ℕ → Faults GridReason) (old mid : Option (List ℕ)) (front : List ℕ) (at next : ℕ) (stop : GridStop) → TookBytes old mid front → next ≡ at + length front
    → ((rest : List ℕ) (p : ℕ) (r : GridReason) → behind rest p r → faults (front ++ rest) (length front + p) r) → IsToldFault behind mid next stop → IsToldFault faults old at stop
told_behind faults behind None mid front at next stop took is go h = tt
told_behind faults behind (Some left) mid front at next Source took is go h = tt
told_behind faults behind (Some left) mid front at next OutOfMemory took is go h = tt
told_behind faults behind (Some left) mid front at next (Fault f) (rest, (joined, then)) is go h = at_fault faults behind left front rest at next f joined is go (subst (λ (o : Option (List ℕ)). IsToldFault behind o next (Fault f)) then h)
  where
    at_fault : (faults behind : List ℕ → Faults GridReason) (left front rest : List ℕ) (at next : ℕ) (f : GridFault) → left ≡ front ++ rest → next ≡ at + length front
        → ((rest : List ℕ) (p : ℕ) (r : GridReason) → behind rest p r → faults (front ++ rest) (length front + p) r) → moved next (behind rest) f.place f.reason → moved at (faults left) f.place f.reason
    at_fault faults behind left front rest at next f joined is go (p, (there, wrong_)) =
        (length front + p, (there ∙ (let e : next + p ≡ at + (length front + p) = omega (arith, is) in e), subst (λ xs. faults xs (length front + p) f.reason) (sym joined) (go rest p f.reason wrong_)))

-- ---- the head

pub head_of_all : (bytes rest : List ℕ) → length bytes ≤ 17 → (length bytes < 17 → rest ≡ []) → take 17 (bytes ++ rest) ≡ bytes
head_of_all bytes rest few end =
    ⊎_elim
    (λ (less : length bytes < 17). ap (take 17) (ap (λ xs. bytes ++ xs) (end less) ∙ append-nil bytes) ∙ take_all 17 bytes few)
    (λ (all : 17 ≤ length bytes). take_at bytes rest 17 (let e : length bytes ≡ 17 = omega arith in e))
    (cases_lt (length bytes) 17)

pub head_fault : (magic bytes rest : List ℕ) (p : ℕ) (r : GridReason) → length bytes ≤ 17 → (length bytes < 17 → rest ≡ []) → magic_faults magic bytes p r → head_faults magic (bytes ++ rest) p r
head_fault magic bytes rest p r few end h = subst (λ xs. magic_faults magic xs p r) (sym (head_of_all bytes rest few end)) h

-- ---- marks

-- each byte is 0 or 1
abbrev pub OnlyMarks : List ℕ → Type 0
OnlyMarks bytes = (k : ℕ) → get_or bytes k 0 ≤ 1

pub only_lawful : (bytes : List ℕ) → AreLawful (length bytes) bytes → OnlyMarks bytes
only_lawful bytes h k =
    ⊎_elim
    (λ (less : k < length bytes). h k less less)
    (λ (past : length bytes ≤ k). let e : get_or bytes k 0 ≡ 0 = get_or_past bytes k 0 past in omega arith)
    (cases_lt k (length bytes))

pub only_both : (a b : List ℕ) → OnlyMarks a → OnlyMarks b → OnlyMarks (a ++ b)
only_both a b ha hb k =
    ⊎_elim
    (λ (less : k < length a). let e : get_or (a ++ b) k 0 ≡ get_or a k 0 = get_or_append_left a b 0 k less in omega (arith, ha k))
    (λ (past : length a ≤ k).
    let e : get_or (a ++ b) (length a + (k - length a)) 0 ≡ get_or b (k - length a) 0 = get_or-append-add a b (k - length a) 0 in
    subst (λ n. get_or (a ++ b) n 0 ≤ 1) (let s : length a + (k - length a) ≡ k = omega arith in s) (let up : get_or (a ++ b) (length a + (k - length a)) 0 ≤ 1 = omega (arith, hb (k - length a)) in up))
    (cases_lt k (length a))

pub piece_wrong : (want k : ℕ) (bytes rest : List ℕ) → k < want → k < length bytes → ((j : ℕ) → j < k → get_or bytes j 0 ≤ 1) → 1 < get_or bytes k 0 → mark_faults want (bytes ++ rest) k BadMark
piece_wrong want k bytes rest below there before wrong_ =
    let same : get_or (bytes ++ rest) k 0 ≡ get_or bytes k 0 = get_or_append_left bytes rest 0 k there in
    let in_ : k < length (bytes ++ rest) = omega (arith, length-append bytes rest) in
    inr (
      (λ lawful. let no : ⊥ = omega (arith, lawful k below in_) in no),
      (
        record {
          one = below;
          there = in_;
          wrong = omega arith;
          before = λ j less. let e : get_or (bytes ++ rest) j 0 ≡ get_or bytes j 0 = get_or_append_left bytes rest 0 j (omega arith) in omega (arith, before j less);
        },
        refl,
      ),
    )

pub piece_cut : (want : ℕ) (bytes rest : List ℕ) → length bytes < want → OnlyMarks bytes → rest ≡ [] → mark_faults want (bytes ++ rest) (length bytes) Truncated
piece_cut want bytes rest fewer only end =
    let all : bytes ++ rest ≡ bytes = ap (λ xs. bytes ++ xs) end ∙ append-nil bytes in
    subst (λ xs. mark_faults want xs (length bytes) Truncated) (sym all) (inl ((λ k _ _. only k), inr ((λ long. let no : ⊥ = omega arith in no), (refl, refl))))

-- what is wrong in a later piece is what is wrong in all
pub marks_behind : (n want : ℕ) (front rest : List ℕ) (p : ℕ) (r : GridReason) → length front + want ≤ n → OnlyMarks front → mark_faults want rest p r → mark_faults n (front ++ rest) (length front + p) r
marks_behind n want front rest p r within only (inr (bad, (first, is))) =
    let at = first.one in
    let there = first.there in
    let in_ : length front + p < length (front ++ rest) = omega (arith, length-append front rest) in
    let same : get_or (front ++ rest) (length front + p) 0 ≡ get_or rest p 0 = get_or-append-add front rest p 0 in
    let high = first.wrong in
    inr (
      (λ lawful. let no : ⊥ = omega (arith, lawful (length front + p) (omega arith) in_) in no),
      (
        record {
          one = omega arith;
          there = in_;
          wrong = omega arith;
          before = λ k less. below front rest p k only first.before less;
        },
        is,
      ),
    )
  where
    below : (front rest : List ℕ) (p k : ℕ) → OnlyMarks front → ((j : ℕ) → j < p → get_or rest j 0 ≤ 1) → k < length front + p → get_or (front ++ rest) k 0 ≤ 1
    below front rest p k only before less =
        ⊎_elim
        (λ (lt : k < length front). let e : get_or (front ++ rest) k 0 ≡ get_or front k 0 = get_or_append_left front rest 0 k lt in omega (arith, only k))
        (λ (ge : length front ≤ k).
        let e : get_or (front ++ rest) (length front + (k - length front)) 0 ≡ get_or rest (k - length front) 0 = get_or-append-add front rest (k - length front) 0 in
        subst (λ m. get_or (front ++ rest) m 0 ≤ 1) (let s : length front + (k - length front) ≡ k = omega arith in s) (let up : get_or (front ++ rest) (length front + (k - length front)) 0 ≤ 1 = omega (arith, before (k - length front) (omega arith)) in up))
        (cases_lt k (length front))
marks_behind n want front rest p r within only (inl (lawful, inr (short, is))) =
    let few : ¬ (want ≤ length rest) = short in
    let less : length rest < want = grind arith in
    inl ((λ k _ low. all front rest want k only lawful less low), inr ((λ long. let no : ⊥ = omega (arith, length-append front rest) in no), (ap (λ m. length front + m) is.0 ∙ sym (length-append front rest), is.1)))
  where
    all : (front rest : List ℕ) (want k : ℕ) → OnlyMarks front → AreLawful want rest → length rest < want → k < length (front ++ rest) → get_or (front ++ rest) k 0 ≤ 1
    all front rest want k only lawful less low =
        ⊎_elim
        (λ (lt : k < length front). let e : get_or (front ++ rest) k 0 ≡ get_or front k 0 = get_or_append_left front rest 0 k lt in omega (arith, only k))
        (λ (ge : length front ≤ k).
        let e : get_or (front ++ rest) (length front + (k - length front)) 0 ≡ get_or rest (k - length front) 0 = get_or-append-add front rest (k - length front) 0 in
        let low_ : k - length front < length rest = omega (arith, length-append front rest) in
        subst (λ m. get_or (front ++ rest) m 0 ≤ 1) (let s : length front + (k - length front) ≡ k = omega arith in s) (let up : get_or (front ++ rest) (length front + (k - length front)) 0 ≤ 1 = omega (arith, lawful (k - length front) (omega arith) low_) in up))
        (cases_lt k (length front))
marks_behind n want front rest p r within only (inl (lawful, inl (long, none_))) = absurd none_

-- the marks that the bytes say
abbrev pub marks_said : List ℕ → List Bool
marks_said bytes = map (λ b. nat_eq b 1) bytes

byte_back : (b : ℕ) → b ≤ 1 → cond (nat_eq b 1) 1 0 ≡ b
byte_back zero h = refl
byte_back (suc zero) h = refl
byte_back (suc (suc b)) h = absurd (let no : ⊥ = omega arith in no)

pub said_back : (bytes : List ℕ) → OnlyMarks bytes → bytes ≡ map (λ m. cond m 1 0) (marks_said bytes)
said_back [] h = refl
said_back (b ∷ bytes) h = ap (λ x. x ∷ bytes) (sym (byte_back b (h 0))) ∙ ap (λ xs. cond (nat_eq b 1) 1 0 ∷ xs) (said_back bytes (λ k. h (suc k)))

-- ---- values

pub values_cut : (size : ℕ) (bytes rest : List ℕ) → length bytes < size → rest ≡ [] → value_faults size (bytes ++ rest) (length bytes) Truncated
values_cut size bytes rest fewer end =
    let all : bytes ++ rest ≡ bytes = ap (λ xs. bytes ++ xs) end ∙ append-nil bytes in
    subst (λ xs. value_faults size xs (length bytes) Truncated) (sym all) (inr ((λ long. let no : ⊥ = omega arith in no), (refl, refl)))

-- ---- marks taken so far

pub record MarksTaken (old now : Option (List ℕ)) (marks : List Bool) (done : ℕ) : Type 0 where
  pub read : List ℕ
  pub took : TookBytes old now read
  pub long : length read ≡ done
  pub only : OnlyMarks read
  pub said : take done marks ≡ marks_said read

pub more_marks_taken : (old mid new : Option (List ℕ)) (marks next : List Bool) (done want : ℕ) (piece : List ℕ) → MarksTaken old mid marks done → TookBytes mid new piece → AreLawful (length piece) piece
    → length piece ≡ want → done + want ≤ length marks → next ≡ take done marks ++ (marks_said piece ++ drop (done + length piece) marks) → MarksTaken old new next (done + want)
more_marks_taken old mid new marks next done want piece h took lawful long within is =
    let said_long : length (marks_said piece) ≡ want = length-map piece (λ b. nat_eq b 1) ∙ long in
    let front : length (take done marks ++ marks_said piece) ≡ done + want = length-append (take done marks) (marks_said piece) ∙ omega (arith, length-take-le done marks (omega arith)) in
    record {
      read = h.read ++ piece;
      took = took_join old mid new h.read piece h.took took;
      long = length-append h.read piece ∙ omega (arith, h.long);
      only = only_both h.read piece h.only (only_lawful piece lawful);
      said = ap (take (done + want)) (is ∙ sym (append_assoc (take done marks) (marks_said piece) (drop (done + length piece) marks)))
          ∙ take_at (take done marks ++ marks_said piece) (drop (done + length piece) marks) (done + want) front
          ∙ ap (λ ms. ms ++ marks_said piece) h.said ∙ sym (map-append (λ b. nat_eq b 1) h.read piece);
    }

pub marks_all_taken : (old now : Option (List ℕ)) (marks : List Bool) (done n : ℕ) → MarksTaken old now marks done → length marks ≡ n → n ≤ done → done ≤ n → (bytes : List ℕ) × (AreMarks n bytes marks × TookBytes old now bytes)
marks_all_taken old now marks done n h long low high =
    let whole : marks ≡ marks_said h.read = sym (take_all done marks (omega arith)) ∙ h.said in
    (h.read, (record { count = long; spelled = said_back h.read h.only ∙ ap (map (λ m. cond m 1 0)) (sym whole) }, h.took))

pub marks_fault : (old mid : Option (List ℕ)) (marks : List Bool) (done want n at next : ℕ) (stop : GridStop) → MarksTaken old mid marks done → done + want ≤ n → next ≡ at + done
    → IsToldFault (mark_faults want) mid next stop → IsToldFault (mark_faults n) old at stop
marks_fault old mid marks done want n at next stop h within is fault_ =
    let long = h.long in
    told_behind (mark_faults n) (mark_faults want) old mid h.read at next stop h.took (omega (arith, is)) (λ rest p r w. marks_behind n want h.read rest p r (omega arith) h.only w) fault_
