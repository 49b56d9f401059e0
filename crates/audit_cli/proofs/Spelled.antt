-- Words: what they stand for is one.
use Rattle.std.proofs.Common.{◌≡◌, ◌↔◌, ℕ, ◌≤◌, Bool, true, false, List, [], ◌∷◌, codes, length, get_or, Option, Some, None, refl, sym, ap, subst, ◌∙◌, arith}
use mathlib.Core.HLevel.{is_prop→PathP}
use native.Mathlib.Bridge.{le_prop}
use Rattle.std.specs.Prelude.{IsTrue}
use Rattle.command_words.specs.Words.{IsWithin}
use Rattle.command_words.proofs.OneWord.{one_number}
use Rattle.audit_cli.specs.Commands.{AreAsked, IsNamed, IsSpelled, option_words}
use Rattle.audit_cli.specs.declared.command.Command.{Command}

-- ---- a number of workers, with options

same_command : (c d : Command) → c.workers ≡ d.workers → c.all ≡ d.all → c.strict ≡ d.strict → c ≡ d
same_command c d workers all strict = λ i. record {
  workers = workers i;
  all = all i;
  strict = strict i;
  some = is_prop→PathP (λ j. 1 ≤ workers j) (λ j. le_prop) c.some d.some i;
  few = is_prop→PathP (λ j. workers j ≤ 64) (λ j. le_prop) c.few d.few i;
}

one_asked : (w : List ℕ) (all strict : Bool) (c d : Command) → AreAsked c w all strict → AreAsked d w all strict → c ≡ d
one_asked w all strict c d is so = same_command c d (one_number w w c.workers d.workers refl is.workers_are.0 so.workers_are.0) (is.all_is ∙ sym so.all_is) (is.strict_is ∙ sym so.strict_is)

pub asked_some : (c : Command) (w : List ℕ) (all strict : Bool) → AreAsked c w all strict → (d : Command) → (◌≡◌ {A = Option Command} (Some c) (Some d)) ↔ AreAsked d w all strict
asked_some c w all strict is d = (
  λ same. subst (λ (x : Command). AreAsked x w all strict) (let here : c ≡ d = cc in here) is,
  λ so. ap Some (one_asked w all strict c d is so),
)

pub asked_none : (w : List ℕ) (all strict : Bool) (found : Option Command) → found ≡ None → ((d : Command) → AreAsked d w all strict → ⊥) → (d : Command) → (found ≡ Some d) ↔ AreAsked d w all strict
asked_none w all strict found is never d = (
  λ same. absurd (let other = sym is ∙ same in cc),
  λ so. absurd (never d so),
)

-- ---- with a name

pub named_as : (name w : List ℕ) (all strict : Bool) (found : Option Command) → name ≡ codes "audit" → ((c : Command) → (found ≡ Some c) ↔ AreAsked c w all strict) → (c : Command) → (found ≡ Some c) ↔ IsNamed c name w all strict
named_as name w all strict found is tells c = (λ same. record { name_is = is; asked = (tells c).0 same }, λ so. (tells c).1 so.asked)

pub other_name : (name w : List ℕ) (all strict : Bool) → (name ≡ codes "audit" → ⊥) → (c : Command) → (◌≡◌ {A = Option Command} None (Some c)) ↔ IsNamed c name w all strict
other_name name w all strict other c = (λ same. absurd cc, λ so. absurd (other so.name_is))

-- ---- the words of a command

-- the two options, as the words behind tell them
both_same : (a b c d : Bool) → option_words a b ≡ option_words c d → (a ≡ c) × (b ≡ d)
both_same true true true true e = (refl, refl)
both_same true true true false e = absurd (let n : 2 ≡ 1 = ap length e in omega (arith, n))
both_same true true false true e = absurd (let n : 2 ≡ 1 = ap length e in omega (arith, n))
both_same true true false false e = absurd (let n : 2 ≡ 0 = ap length e in omega (arith, n))
both_same true false true true e = absurd (let n : 1 ≡ 2 = ap length e in omega (arith, n))
both_same true false true false e = (refl, refl)
both_same true false false true e = absurd cc
both_same true false false false e = absurd (let n : 1 ≡ 0 = ap length e in omega (arith, n))
both_same false true true true e = absurd (let n : 1 ≡ 2 = ap length e in omega (arith, n))
both_same false true true false e = absurd cc
both_same false true false true e = (refl, refl)
both_same false true false false e = absurd (let n : 1 ≡ 0 = ap length e in omega (arith, n))
both_same false false true true e = absurd (let n : 0 ≡ 2 = ap length e in omega (arith, n))
both_same false false true false e = absurd (let n : 0 ≡ 1 = ap length e in omega (arith, n))
both_same false false false true e = absurd (let n : 0 ≡ 1 = ap length e in omega (arith, n))
both_same false false false false e = (refl, refl)

with_words : (c : Command) (name w : List ℕ) (all strict : Bool) (rest : List (List ℕ)) → rest ≡ option_words all strict → IsNamed c name w all strict → IsSpelled c (name ∷ w ∷ rest)
unfolding IsSpelled
with_words c name w all strict rest are is =
    (w, ((λ i. is.name_is i ∷ w ∷ (are ∙ (λ j. option_words (sym is.asked.all_is j) (sym is.asked.strict_is j))) i), is.asked.workers_are))

behind : (c : Command) (name w : List ℕ) (all strict : Bool) (rest : List (List ℕ)) → rest ≡ option_words all strict → IsSpelled c (name ∷ w ∷ rest) → IsNamed c name w all strict
unfolding IsSpelled
behind c name w all strict rest are (word, (is, within)) =
    let named : name ≡ codes "audit" = cc in
    let number : word ≡ w = cc in
    let options : rest ≡ option_words c.all c.strict = cc in
    let same = both_same c.all c.strict all strict (sym options ∙ are) in
    record { name_is = named; asked = record { workers_are = subst (λ (x : List ℕ). IsWithin x c.workers 1 64) number within; all_is = same.0; strict_is = same.1 } }

-- words whose options are told are those of a name and a number of workers
pub spelled_as : (name w : List ℕ) (all strict : Bool) (rest : List (List ℕ)) (found : Option Command) → rest ≡ option_words all strict → ((c : Command) → (found ≡ Some c) ↔ IsNamed c name w all strict) → (c : Command) → (found ≡ Some c) ↔ IsSpelled c (name ∷ w ∷ rest)
spelled_as name w all strict rest found are tells c = (λ same. with_words c name w all strict rest are ((tells c).0 same), λ s. (tells c).1 (behind c name w all strict rest are s))

-- words that are those of no options
pub no_options : (name w : List ℕ) (rest : List (List ℕ)) → ((all strict : Bool) → rest ≡ option_words all strict → ⊥) → (c : Command) → (◌≡◌ {A = Option Command} None (Some c)) ↔ IsSpelled c (name ∷ w ∷ rest)
unfolding IsSpelled
no_options name w rest other c = (λ same. absurd cc, λ s. absurd (other c.all c.strict (let is = s.1.0 in cc)))

most_options : (all strict : Bool) → length (option_words all strict) ≤ 2
most_options true true = omega arith
most_options true false = omega arith
most_options false true = omega arith
most_options false false = omega arith

pub neither : (option : List ℕ) → (option ≡ codes "all" → ⊥) → (option ≡ codes "strict" → ⊥) → (all strict : Bool) → option ∷ [] ≡ option_words all strict → ⊥
neither option one two true true e = let n : 1 ≡ 2 = ap length e in omega (arith, n)
neither option one two true false e = one (ap (λ (l : List (List ℕ)). get_or l 0 []) e)
neither option one two false true e = two (ap (λ (l : List (List ℕ)). get_or l 0 []) e)
neither option one two false false e = let n : 1 ≡ 0 = ap length e in omega (arith, n)

pub not_both : (first second : List ℕ) → (first ≡ codes "all" → second ≡ codes "strict" → ⊥) → (all strict : Bool) → first ∷ second ∷ [] ≡ option_words all strict → ⊥
not_both first second other true true e = other (ap (λ (l : List (List ℕ)). get_or l 0 []) e) (ap (λ (l : List (List ℕ)). get_or l 1 []) e)
not_both first second other true false e = let n : 2 ≡ 1 = ap length e in omega (arith, n)
not_both first second other false true e = let n : 2 ≡ 1 = ap length e in omega (arith, n)
not_both first second other false false e = let n : 2 ≡ 0 = ap length e in omega (arith, n)

-- a test that fails
pub fails : (test : Bool) → test ≡ false → IsTrue test → ⊥
fails true is holds = cc
fails false is holds = cc

-- another number of words
pub other_length : (words : List (List ℕ)) → ((2 ≤ length words) × (length words ≤ 4) → ⊥) → (c : Command) → (◌≡◌ {A = Option Command} None (Some c)) ↔ IsSpelled c words
unfolding IsSpelled
other_length words other c = (
  λ same. absurd cc,
  λ s. absurd (let n : length words ≡ length (codes "audit" ∷ (s.0 ∷ option_words c.all c.strict)) = ap length s.1.0 in let most = most_options c.all c.strict in other (omega (arith, n), omega (arith, n, most))),
)
