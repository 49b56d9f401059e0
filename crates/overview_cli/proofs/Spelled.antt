-- Words behind the name of the command: what they stand for is one.
use Rattle.std.proofs.Common.{◌≡◌, ◌↔◌, ℕ, ◌<◌, ◌≤◌, Bool, true, false, List, [], ◌∷◌, codes, length, Option, Some, None, refl, sym, ap, subst, ◌∙◌, arith}
use Rattle.std.specs.Prelude.{IsTrue}
use Rattle.command_words.proofs.OneWord.{one_number, one_version}
use Rattle.overview_cli.specs.Commands.{AreSpelled, IsSpelled}
use Rattle.overview_cli.specs.declared.words.Command.{Command}

pub one_command : (q v e w : List ℕ) (c d : Command) → AreSpelled c q v e w → AreSpelled d q v e w → c ≡ d
one_command q v e w c d one two =
    let quarter = one_number q q c.quarter d.quarter refl one.0.0 two.0.0 in
    let version = one_version v v c.version d.version refl one.1 two.1 in
    let error = one_number e e c.error d.error refl one.2.0 two.2.0 in
    let workers = one_number w w c.workers d.workers refl one.3.0 two.3.0 in
    λ i. record { quarter = quarter i; version = version i; error = error i; workers = workers i }

pub overview_some : (q v e w : List ℕ) (c : Command) → AreSpelled c q v e w → (d : Command) → (◌≡◌ {A = Option Command} (Some c) (Some d)) ↔ AreSpelled d q v e w
overview_some q v e w c is d = (
  λ same. subst (λ (x : Command). AreSpelled x q v e w) (let here : c ≡ d = cc in here) is,
  λ s. ap Some (one_command q v e w c d is s),
)

pub overview_none : (q v e w : List ℕ) (found : Option Command) → found ≡ None → ((d : Command) → AreSpelled d q v e w → ⊥) → (d : Command) → (found ≡ Some d) ↔ AreSpelled d q v e w
overview_none q v e w found is never d = (
  λ same. absurd (let other = sym is ∙ same in cc),
  λ s. absurd (never d s),
)

-- ---- the words

-- the four behind the name
behind_name : (name q v e w : List ℕ) (c : Command) → IsSpelled c (name ∷ q ∷ v ∷ e ∷ w ∷ []) → AreSpelled c q v e w
unfolding IsSpelled
behind_name name q v e w c s =
    let same = s.4.0 in
    let one : s.0 ≡ q = cc in
    let two : s.1 ≡ v = cc in
    let three : s.2 ≡ e = cc in
    let four : s.3 ≡ w = cc in
    subst (λ (x : List ℕ). AreSpelled c x v e w) one (subst (λ (x : List ℕ). AreSpelled c s.0 x e w) two
    (subst (λ (x : List ℕ). AreSpelled c s.0 s.1 x w) three (subst (λ (x : List ℕ). AreSpelled c s.0 s.1 s.2 x) four s.4.1)))

with_name : (name q v e w : List ℕ) (c : Command) → name ≡ codes "overview" → AreSpelled c q v e w → IsSpelled c (name ∷ q ∷ v ∷ e ∷ w ∷ [])
unfolding IsSpelled
with_name name q v e w c named s = (q, v, e, w, (ap (λ (n : List ℕ). n ∷ q ∷ v ∷ e ∷ w ∷ []) named, s))

pub spelled_as : (name q v e w : List ℕ) (found : Option Command) → name ≡ codes "overview" → ((c : Command) → (found ≡ Some c) ↔ AreSpelled c q v e w) → (c : Command) → (found ≡ Some c) ↔ IsSpelled c (name ∷ q ∷ v ∷ e ∷ w ∷ [])
spelled_as name q v e w found named tells c = (λ same. with_name name q v e w c named ((tells c).0 same), λ s. (tells c).1 (behind_name name q v e w c s))

-- another name
pub other_name : (name q v e w : List ℕ) → (name ≡ codes "overview" → ⊥) → (c : Command) → (◌≡◌ {A = Option Command} None (Some c)) ↔ IsSpelled c (name ∷ q ∷ v ∷ e ∷ w ∷ [])
unfolding IsSpelled
other_name name q v e w other c = (λ same. absurd cc, λ s. absurd (other (let same = s.4.0 in cc)))

pub not_both : (b : Bool) → b ≡ false → IsTrue b → ⊥
not_both true is holds = cc
not_both false is holds = cc

-- another number of words
pub other_length : (words : List (List ℕ)) → (length words ≡ 5 → ⊥) → (c : Command) → IsSpelled c words → ⊥
unfolding IsSpelled
other_length words five c s = five (ap length s.4.0)

pub none_spelled : (words : List (List ℕ)) → ((c : Command) → IsSpelled c words → ⊥) → (c : Command) → (◌≡◌ {A = Option Command} None (Some c)) ↔ IsSpelled c words
none_spelled words never c = (λ same. absurd cc, λ s. absurd (never c s))

-- ---- what a command is

pub lawful_quarter : (c : Command) (words : List (List ℕ)) → IsSpelled c words → c.quarter < 4
unfolding IsSpelled
lawful_quarter c words s = omega (arith, s.4.1.0.2)

pub lawful_workers : (c : Command) (words : List (List ℕ)) → IsSpelled c words → (1 ≤ c.workers) × (c.workers ≤ 64)
unfolding IsSpelled
lawful_workers c words s = (s.4.1.3.1, s.4.1.3.2)
