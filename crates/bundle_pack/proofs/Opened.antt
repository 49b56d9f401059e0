-- Files that recover to a bundle that opens, and those that do not.
use Rattle.std.proofs.Common.{◌≡◌, ◌⊎◌, inl, inr, ℕ, suc, ◌<◌, List, [], ◌∷◌, slice_get, Result, Err, refl, sym, ap, subst, ◌∙◌, arith}
use Rattle.std.proofs.lemmas.Bool.{cases_lt}
use Rattle.std.proofs.lemmas.Option.{slice_get_within}
use Rattle.bundle_index.specs.declared.header.HeaderFault.{HeaderFault}
use Rattle.bundle_store.specs.declared.fault.StoreFault.{StoreFault}
use Rattle.bundle_store.specs.declared.fault.StoreFault.TheVariants.{Device, BadBundle, BadJournal, NoTile, Beyond, TileTooLarge, EmptyTile, Full, NotEmpty, OutOfMemory, Stopped}
use Rattle.bundle_store.specs.declared.recovery.Recovery.{Recovery}
use Rattle.bundle_store.specs.Recover.{Refuses}
use Rattle.bundle_store.specs.Session.{open_fault}
use Rattle.bundle_store.specs.Tiles.{Opens}
use Rattle.bundle_store.proofs.OneRecovery.{one_answer, one_left}
use Rattle.opened_bundle.specs.Files.{Files}
use Rattle.opened_bundle.proofs.OneBundle.{left_or_refused, opens_or_fault}
use Rattle.bundle_pack.specs.Opening.{AreOpened, IsFirstUnopened, OpeningFault, OpensAs}
use Rattle.bundle_pack.proofs.Volumes.{get_some, one_some}

-- files recover to one bundle
pub one_opened : (f : Files) (a b : List ℕ) → OpensAs f a → OpensAs f b → a ≡ b
one_opened f a b one two = (one_left f.bundle f.journal one.found two.found a b one.leaves two.leaves).1

pub opens_or_fails : (f : Files) (left : List ℕ) (fault : StoreFault) → OpensAs f left → OpeningFault f fault → (fault ≡ Device → ⊥) → ⊥
opens_or_fails f left Device opens fails not = not refl
opens_or_fails f left (BadBundle place number) opens (other, (found, (leaves, is))) not =
    let same : left ≡ other = (one_left f.bundle f.journal opens.found found left other opens.leaves leaves).1 in
    opens_or_fault other (record { place = place; found = number }) (subst Opens same opens.opens) is
opens_or_fails f left (BadJournal place number) opens fails not = left_or_refused f.bundle f.journal opens.found left place number opens.leaves fails
opens_or_fails f left NoTile opens fails not = fails
opens_or_fails f left (Beyond entry got) opens fails not = fails
opens_or_fails f left (TileTooLarge at len) opens fails not = fails
opens_or_fails f left (EmptyTile at) opens fails not = fails
opens_or_fails f left (Full len) opens fails not = fails
opens_or_fails f left (NotEmpty len) opens fails not = fails
opens_or_fails f left OutOfMemory opens fails not = fails
opens_or_fails f left Stopped opens fails not = fails

-- why they do not open, but that the volume failed
IsOfJournal : Files → StoreFault → Type 0
IsOfJournal f fault = (place : ℕ) × ((number : ℕ) × ((fault ≡ BadJournal place number) × Refuses f.bundle f.journal place number))

IsOfBundle : Files → StoreFault → Type 0
IsOfBundle f fault = (place : ℕ) × ((number : ℕ) × ((fault ≡ BadBundle place number) × OpeningFault f (BadBundle place number)))

which : (f : Files) (fault : StoreFault) → OpeningFault f fault → (fault ≡ Device → ⊥) → IsOfJournal f fault ⊎ IsOfBundle f fault
unfolding IsOfJournal IsOfBundle
which f Device fails not = absurd (not refl)
which f (BadBundle place number) fails not = inr (place, (number, (refl, fails)))
which f (BadJournal place number) fails not = inl (place, (number, (refl, fails)))
which f NoTile fails not = absurd fails
which f (Beyond entry got) fails not = absurd fails
which f (TileTooLarge at len) fails not = absurd fails
which f (EmptyTile at) fails not = absurd fails
which f (Full len) fails not = absurd fails
which f (NotEmpty len) fails not = absurd fails
which f OutOfMemory fails not = absurd fails
which f Stopped fails not = absurd fails

one_journal : (f : Files) (p n q m : ℕ) → Refuses f.bundle f.journal p n → Refuses f.bundle f.journal q m → BadJournal p n ≡ BadJournal q m
one_journal f p n q m one two =
    let same : ◌≡◌ {A = Result Recovery StoreFault} (Err (BadJournal p n)) (Err (BadJournal q m)) = one_answer f.bundle f.journal (Err (BadJournal p n)) (Err (BadJournal q m)) one two (λ is. cc) (λ is. cc) in cc

one_bundle : (f : Files) (p n q m : ℕ) → OpeningFault f (BadBundle p n) → OpeningFault f (BadBundle q m) → BadBundle p n ≡ BadBundle q m
one_bundle f p n q m (left, (found, (leaves, is))) (other, (again, (leaves_it, so))) =
    let same : left ≡ other = (one_left f.bundle f.journal found again left other leaves leaves_it).1 in
    let first : HeaderFault = record { place = p; found = n } in
    let second : HeaderFault = record { place = q; found = m } in
    let e : first ≡ second = one_some first second (sym is ∙ ap open_fault same ∙ so) in
    λ i. BadBundle (e i).place (e i).found

neither : (f : Files) (p n q m : ℕ) → Refuses f.bundle f.journal p n → OpeningFault f (BadBundle q m) → ⊥
neither f p n q m refuses (left, (found, (leaves, is))) = left_or_refused f.bundle f.journal found left p n leaves refuses

-- they do not open for one reason
pub one_fault : (f : Files) (a b : StoreFault) → OpeningFault f a → OpeningFault f b → (a ≡ Device → ⊥) → (b ≡ Device → ⊥) → a ≡ b
unfolding IsOfJournal IsOfBundle
one_fault f a b one two not never = elim (which f a one not) [
  | inl (p, (n, (is, refuses))) ↦ elim (which f b two never) [
    | inl (q, (m, (so, refused))) ↦ is ∙ one_journal f p n q m refuses refused ∙ sym so
    | inr (q, (m, (so, opened))) ↦ absurd (neither f p n q m refuses opened)
  ]
  | inr (p, (n, (is, opened))) ↦ elim (which f b two never) [
    | inl (q, (m, (so, refused))) ↦ absurd (neither f q m p n refused opened)
    | inr (q, (m, (so, opened_too))) ↦ is ∙ one_bundle f p n q m opened opened_too ∙ sym so
  ]
]

-- a list of files recovers to one list of bundles
pub all_opened : (files : List Files) (xs ys : List (List ℕ)) → AreOpened files xs → AreOpened files ys → xs ≡ ys
all_opened [] [] [] one two = refl
all_opened [] [] (b ∷ ys) one two = absurd (let no : ⊥ = omega (arith, two.many) in no)
all_opened [] (a ∷ xs) ys one two = absurd (let no : ⊥ = omega (arith, one.many) in no)
all_opened (f ∷ fs) [] ys one two = absurd (let no : ⊥ = omega (arith, one.many) in no)
all_opened (f ∷ fs) (a ∷ xs) [] one two = absurd (let no : ⊥ = omega (arith, two.many) in no)
all_opened (f ∷ fs) (a ∷ xs) (b ∷ ys) one two =
    let same : a ≡ b = one_opened f a b (one.each 0 f a refl refl) (two.each 0 f b refl refl) in
    let rest : xs ≡ ys = all_opened fs xs ys (later fs xs f a one) (later fs ys f b two) in
    λ i. same i ∷ rest i
  where
    later : (fs : List Files) (xs : List (List ℕ)) (f : Files) (a : List ℕ) → AreOpened (f ∷ fs) (a ∷ xs) → AreOpened fs xs
    later fs xs f a all = record { many = omega (arith, all.many); each = λ i g b there is. all.each (suc i) g b there is }

-- all open, or one is the first that does not
pub opened_or_not : (files : List Files) (bundles : List (List ℕ)) (at : ℕ) (fault : StoreFault) → AreOpened files bundles → IsFirstUnopened files at fault → (fault ≡ Device → ⊥) → ⊥
opened_or_not files bundles at fault opened first not =
    let b = get_some bundles at (omega (arith, opened.many, slice_get_within files at first.file first.there)) in
    opens_or_fails first.file b.0 fault (opened.each at first.file b.0 first.there b.1) first.fails not

not_before : (files : List Files) (at other : ℕ) (a b : StoreFault) → IsFirstUnopened files at a → IsFirstUnopened files other b → (a ≡ Device → ⊥) → at < other → ⊥
not_before files at other a b one two not less =
    let opens = two.before at one.file less one.there in
    opens_or_fails one.file opens.0 a opens.1 one.fails not

pub one_unopened : (files : List Files) (at other : ℕ) (a b : StoreFault) → IsFirstUnopened files at a → IsFirstUnopened files other b → (a ≡ Device → ⊥) → (b ≡ Device → ⊥) → (at ≡ other) × (a ≡ b)
one_unopened files at other a b one two not never = elim (cases_lt at other) [
  | inl less ↦ absurd (not_before files at other a b one two not less)
  | inr ge ↦ elim (cases_lt other at) [
    | inl more ↦ absurd (not_before files other at b a two one never more)
    | inr le ↦
        let same : at ≡ other = omega (arith, ge, le) in
        let file : one.file ≡ two.file = one_some one.file two.file (sym one.there ∙ ap (slice_get files) same ∙ two.there) in
        (same, one_fault two.file a b (subst (λ (f : Files). OpeningFault f a) file one.fails) two.fails not never)
  ]
]
