-- Rounds of coarse places: what was read of them, and their halves.
use Rattle.std.proofs.Common.{◌≡◌, inr, ℕ, zero, suc, ◌+◌, ◌<◌, Bool, IsTrue, List, [], ◌∷◌, ◌++◌, All, length, get_or, ap, ◌∙◌, subst, arith}
use Rattle.std.specs.Prelude.{IfErr, OnOk, Result, Ok, Err}
use Rattle.std.specs.List.{AllZip}
use Rattle.std.proofs.lemmas.List.Elements.{All-nil, All-push}
use Rattle.lerc_header.specs.declared.header.Version.{Version}
use Rattle.overview_updates.specs.Overview.{place_of, quarter_slot}
use Rattle.overview_updates.specs.declared.halves.Half.{Half}
use Rattle.overview_updates.specs.declared.quarters.Four.{Four}
use Rattle.overview_updates.specs.declared.quarters.Quarter.{Quarter}
use Rattle.overview_updates.specs.declared.places.Next.{Next}
use Rattle.overview_updates.specs.declared.stop.OverviewStop.{OverviewStop}
use Rattle.overview_updates.specs.declared.stop.OverviewStop.TheVariants.{Volume, OutOfMemory}
use Rattle.overview_updates.specs.inside.SoFar.{IsToldAtOnce}
use Rattle.overview_updates.specs.inside.Fours.{AreHalves, ArePlaced, HalfSays, IsFour, IsHalved, IsReadable, IsRound, QuarterFits, QuarterSays}

-- ---- one place

-- what is said of the bundle and of the slot of a quarter of the place
abbrev pub SaysAt : List ℕ → ℕ → ℕ → Quarter → Type 0
SaysAt bundle k q quarter = QuarterSays bundle (quarter_slot (place_of k).0 (place_of k).1 q) quarter

pub four_says : (bundle : List ℕ) (k : ℕ) (first second third last : Quarter) → SaysAt bundle k 0 first → SaysAt bundle k 1 second → SaysAt bundle k 2 third → SaysAt bundle k 3 last
    → (q : ℕ) (d : Quarter) → q < 4 → SaysAt bundle k q (get_or (first ∷ second ∷ third ∷ last ∷ []) q d)
four_says bundle k first second third last a b c e zero d few = a
four_says bundle k first second third last a b c e (suc zero) d few = b
four_says bundle k first second third last a b c e (suc (suc zero)) d few = c
four_says bundle k first second third last a b c e (suc (suc (suc zero))) d few = e
four_says bundle k first second third last a b c e (suc (suc (suc (suc q)))) d few = absurd (let no : ⊥ = omega (arith, few) in no)

pub four_fit : (first second third last : Quarter) → QuarterFits first → QuarterFits second → QuarterFits third → QuarterFits last → (q : ℕ) (d : Quarter) → q < 4 → QuarterFits (get_or (first ∷ second ∷ third ∷ last ∷ []) q d)
four_fit first second third last a b c e zero d few = a
four_fit first second third last a b c e (suc zero) d few = b
four_fit first second third last a b c e (suc (suc zero)) d few = c
four_fit first second third last a b c e (suc (suc (suc zero))) d few = e
four_fit first second third last a b c e (suc (suc (suc (suc q)))) d few = absurd (let no : ⊥ = omega (arith, few) in no)

-- ---- a place more

placed_more : (k : ℕ) (fours : List Four) (four : Four) → four.place ≡ k + length fours → ArePlaced k fours → ArePlaced k (fours ++ four ∷ [])
placed_more k [] four is placed = ((let same : four.place ≡ k = omega (arith, is) in same), tt)
placed_more k (f ∷ fs) four is placed = (placed.0, placed_more (k + 1) fs four (let same : four.place ≡ k + 1 + length fs = omega (arith, is) in same) placed.1)

pub round_none : (told : Bool) (bundle : List ℕ) (k : ℕ) → IsRound told bundle k []
round_none told bundle k = record { placed = tt; readable = All-nil IsReadable; are = λ tells. All-nil (IsFour bundle) }

pub round_more : (told : Bool) (bundle : List ℕ) (k : ℕ) (fours : List Four) (four : Four) → four.place ≡ k + length fours → IsReadable four → (IsTrue told → IsFour bundle four) → IsRound told bundle k fours
    → IsRound told bundle k (fours ++ four ∷ [])
round_more told bundle k fours four is readable here round = record {
  placed = placed_more k fours four is round.placed;
  readable = All-push IsReadable fours four round.readable readable;
  are = λ tells. All-push (IsFour bundle) fours four (round.are tells) (here tells);
}

-- ---- their halves

pub one_longer : {A : Type 0} (xs : List A) (x : A) (ys : List A) → xs ≡ x ∷ ys → length xs ≡ length ys + 1
one_longer xs x ys is = ap length is ∙ (let e : suc (length ys) ≡ length ys + 1 = omega arith in e)

rest_all : {A : Type 0} (P : A → Type 0) (x : A) (xs : List A) → All P (x ∷ xs) → All P xs
rest_all P x xs all = λ k d less. all (suc k) d (omega (arith, less))

halves_are : (told : Bool) (bundle : List ℕ) (v : Version) (k : ℕ) (fours : List Four) (halves : List Half) → AllZip (IsHalved v) fours halves → ArePlaced k fours → (IsTrue told → All (IsFour bundle) fours) → AreHalves told bundle v k halves
halves_are told bundle v k [] [] zip placed are = tt
halves_are told bundle v k [] (h ∷ hs) zip placed are = absurd zip
halves_are told bundle v k (f ∷ fs) [] zip placed are = absurd zip
halves_are told bundle v k (f ∷ fs) (h ∷ hs) zip placed are = (
  record { says = λ tells. subst (λ (n : ℕ). HalfSays bundle v n h) placed.0 (zip.0.says bundle (are tells 0 f (omega arith))); fits = zip.0.fits },
  halves_are told bundle v (k + 1) fs hs zip.1 placed.1 (λ tells. rest_all (IsFour bundle) f fs (are tells)),
)

pub round_halves : (told : Bool) (bundle : List ℕ) (v : Version) (k : ℕ) (fours : List Four) (halves : List Half) → IsRound told bundle k fours → AllZip (IsHalved v) fours halves → AreHalves told bundle v k halves
round_halves told bundle v k fours halves round zip = halves_are told bundle v k fours halves zip round.placed round.are

-- ---- where there is no memory for them

pub want_once : (r : Result Next OverviewStop) → IfErr r (λ stop. stop ≡ OutOfMemory) → IfErr r (λ stop. IsToldAtOnce stop)
want_once (Ok next) want = tt
want_once (Err stop) want = inr want

pub want_only : (r : Result Next OverviewStop) → IfErr r (λ stop. stop ≡ OutOfMemory) → r ≡ Err Volume → ⊥
want_only r want is = let no : Volume ≡ OutOfMemory = subst (λ (u : Result Next OverviewStop). IfErr u (λ stop. stop ≡ OutOfMemory)) is want in (let never : ⊥ = cc in never)

pub on_ok : {T E P : Type 0} (r : Result T E) → P → OnOk r P
on_ok (Ok value) is = is
on_ok (Err stop) is = tt
