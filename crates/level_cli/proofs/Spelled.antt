-- Words: what they stand for is one, and which command they spell.
use Rattle.std.proofs.Common.{◌≡◌, ◌⊎◌, inl, inr, ℕ, ◌^◌, ◌≤◌, ◌↔◌, List, [], ◌∷◌, get_or, length, Option, Some, None, refl, sym, ap, subst, ◌∙◌, codes, arith}
use Rattle.std.specs.Prelude.{IfSome}
use Rattle.lerc_header.specs.declared.header.Version.{Version}
use Rattle.command_words.proofs.OneWord.{one_number, one_version}
use Rattle.command_words.specs.Words.{IsVersionWord, IsWithin}
use Rattle.level_cache.specs.Places.{Corner}
use Rattle.level_cli.specs.declared.words.Command.{Command}
use Rattle.level_cli.specs.declared.words.Command.TheVariants.{Put, Get, Name}
use Rattle.level_cli.specs.Commands.{ArePlaceWords, IsSpelled}
use Rattle.level_cli.specs.inside.Spelling.{IsGet, IsName, IsPut}

-- ---- a place

one_place : (r s c d : List ℕ) (a b : Corner) → r ≡ s → c ≡ d → ArePlaceWords r c a → ArePlaceWords s d b → a ≡ b
one_place r s c d a b row col one other =
    let up : a.row ≡ b.row = one_number r s a.row b.row row one.0.0 other.0.0 in
    let along : a.col ≡ b.col = one_number c d a.col b.col col one.1.0 other.1.0 in
    λ i. record { row = up i; col = along i }

pub place_words : (rw cw : List ℕ) (row col : ℕ) (found : Option Corner) → IsWithin rw row 0 2147483647 → IsWithin cw col 0 2147483647 → IfSome found (λ p. p ≡ record { row = row; col = col })
    → (found ≡ None) ↔ ((2 ^ 31 ≤ row) ⊎ (2 ^ 31 ≤ col)) → (place : Corner) → (found ≡ Some place) ↔ ArePlaceWords rw cw place
place_words rw cw row col None r c is none place = absurd (elim (none.0 refl) [ inl out ↦ omega (arith, out, r.2) | inr out ↦ omega (arith, out, c.2) ])
place_words rw cw row col (Some p) r c is none place =
    let are : ArePlaceWords rw cw p = subst (ArePlaceWords rw cw) (sym is) (r, c) in (
      λ same. (let here : p ≡ place = cc in subst (ArePlaceWords rw cw) here are),
      λ w. ap Some (one_place rw rw cw cw p place refl refl are w),
    )

pub place_none : (rw cw : List ℕ) (found : Option Corner) → found ≡ None → ((place : Corner) → ArePlaceWords rw cw place → ⊥) → (place : Corner) → (found ≡ Some place) ↔ ArePlaceWords rw cw place
place_none rw cw found is never place = (
  λ same. absurd (let other = sym is ∙ same in cc),
  λ w. absurd (never place w),
)

-- ---- the words behind a name

pub get_some : (rw cw : List ℕ) (place : Corner) → ArePlaceWords rw cw place → (c : Command) → (◌≡◌ {A = Option Command} (Some (Get place)) (Some c)) ↔ IsGet rw cw c
get_some rw cw place is c = (
  λ same. (place, ((let here : c ≡ Get place = cc in here), is)),
  λ s. ap Some (ap Get (one_place rw rw cw cw place s.0 refl refl is s.1.1) ∙ sym s.1.0),
)

pub get_none : (rw cw : List ℕ) (found : Option Command) → found ≡ None → ((place : Corner) → ArePlaceWords rw cw place → ⊥) → (c : Command) → (found ≡ Some c) ↔ IsGet rw cw c
get_none rw cw found is never c = (
  λ same. absurd (let other = sym is ∙ same in cc),
  λ s. absurd (never s.0 s.1.1),
)

pub name_some : (rw cw : List ℕ) (place : Corner) → ArePlaceWords rw cw place → (c : Command) → (◌≡◌ {A = Option Command} (Some (Name place)) (Some c)) ↔ IsName rw cw c
name_some rw cw place is c = (
  λ same. (place, ((let here : c ≡ Name place = cc in here), is)),
  λ s. ap Some (ap Name (one_place rw rw cw cw place s.0 refl refl is s.1.1) ∙ sym s.1.0),
)

pub name_none : (rw cw : List ℕ) (found : Option Command) → found ≡ None → ((place : Corner) → ArePlaceWords rw cw place → ⊥) → (c : Command) → (found ≡ Some c) ↔ IsName rw cw c
name_none rw cw found is never c = (
  λ same. absurd (let other = sym is ∙ same in cc),
  λ s. absurd (never s.0 s.1.1),
)

pub put_some : (v e rw cw : List ℕ) (version : Version) (error : ℕ) (place : Corner) → IsVersionWord v version → IsWithin e error 0 4294967295 → ArePlaceWords rw cw place
    → (c : Command) → (◌≡◌ {A = Option Command} (Some (Put version error place)) (Some c)) ↔ IsPut v e rw cw c
put_some v e rw cw version error place is within at c = (
  λ same. (version, (error, (place, ((let here : c ≡ Put version error place = cc in here), is, within, at)))),
  λ s. (let one = one_version v v version s.0 refl is s.1.1.1.1 in
      let two = one_number e e error s.1.0 refl within.0 s.1.1.1.2.0 in
      let three = one_place rw rw cw cw place s.1.1.0 refl refl at s.1.1.1.3 in
      ap Some ((λ i. Put (one i) (two i) (three i)) ∙ sym s.1.1.1.0)),
)

pub put_none : (v e rw cw : List ℕ) (found : Option Command) → found ≡ None
    → ((version : Version) (error : ℕ) (place : Corner) → IsVersionWord v version → IsWithin e error 0 4294967295 → ArePlaceWords rw cw place → ⊥) → (c : Command) → (found ≡ Some c) ↔ IsPut v e rw cw c
put_none v e rw cw found is never c = (
  λ same. absurd (let other = sym is ∙ same in cc),
  λ s. absurd (never s.0 s.1.0 s.1.1.0 s.1.1.1.1 s.1.1.1.2 s.1.1.1.3),
)

-- ---- a name and the words behind it

name_of : (words others : List (List ℕ)) → words ≡ others → get_or words 0 [] ≡ get_or others 0 []
name_of words others same = ap (λ (ws : List (List ℕ)). get_or ws 0 []) same

-- a place's words under equal words
as_place : (a b r c : List ℕ) (place : Corner) → a ≡ r → b ≡ c → ArePlaceWords r c place → ArePlaceWords a b place
as_place a b r c place one other at =
    subst (λ (u : List ℕ). ArePlaceWords u b place) (sym one) (subst (λ (u : List ℕ). ArePlaceWords r u place) (sym other) at)

pub spelled_as : (words : List (List ℕ)) (Such : Command → Type 0) (found : Option Command) → ((c : Command) → (found ≡ Some c) ↔ Such c) → ((c : Command) → Such c → IsSpelled c words) → ((c : Command) → IsSpelled c words → Such c)
    → (c : Command) → (found ≡ Some c) ↔ IsSpelled c words
spelled_as words Such found tells to from c = (λ same. to c ((tells c).0 same), λ s. (tells c).1 (from c s))

pub none_spelled : (words : List (List ℕ)) → ((c : Command) → IsSpelled c words → ⊥) → (c : Command) → (◌≡◌ {A = Option Command} None (Some c)) ↔ IsSpelled c words
none_spelled words never c = (λ same. absurd cc, λ s. absurd (never c s))

-- which commands three words spell
pub three_words : (name a b : List ℕ) (c : Command) → IsSpelled c (name ∷ a ∷ b ∷ []) → (name ≡ codes "name") × IsName a b c
three_words name a b (Put v n p) s = absurd (let same : ◌≡◌ {A = ℕ} 3 5 = ap length s.4.0 in omega (arith, same))
three_words name a b (Get p) s = absurd (let same : ◌≡◌ {A = ℕ} 3 4 = ap length s.2.0 in omega (arith, same))
three_words name a b (Name p) s =
    let same = s.2.0 in
    let one : a ≡ s.0 = cc in
    let other : b ≡ s.1 = cc in
    (name_of _ _ same, (p, (refl, as_place a b s.0 s.1 p one other s.2.1)))

pub name_to : (name row col : List ℕ) → name ≡ codes "name" → (c : Command) → IsName row col c → IsSpelled c (name ∷ row ∷ col ∷ [])
name_to name row col named c s = subst (λ (x : Command). IsSpelled x (name ∷ row ∷ col ∷ [])) (sym s.1.0) (row, col, (ap (λ (w : List ℕ). w ∷ row ∷ col ∷ []) named, s.1.1))

-- four words
pub four_words : (name a b d : List ℕ) (c : Command) → IsSpelled c (name ∷ a ∷ b ∷ d ∷ []) → (name ≡ codes "get") × (d ≡ codes "raw") × IsGet a b c
four_words name a b d (Put v n p) s = absurd (let same : ◌≡◌ {A = ℕ} 4 5 = ap length s.4.0 in omega (arith, same))
four_words name a b d (Get p) s =
    let same = s.2.0 in
    let one : a ≡ s.0 = cc in
    let other : b ≡ s.1 = cc in
    let raw : d ≡ codes "raw" = cc in
    (name_of _ _ same, raw, (p, (refl, as_place a b s.0 s.1 p one other s.2.1)))
four_words name a b d (Name p) s = absurd (let same : ◌≡◌ {A = ℕ} 4 3 = ap length s.2.0 in omega (arith, same))

pub get_to : (name row col raw : List ℕ) → name ≡ codes "get" → raw ≡ codes "raw" → (c : Command) → IsGet row col c → IsSpelled c (name ∷ row ∷ col ∷ raw ∷ [])
get_to name row col raw named is c s = subst (λ (x : Command). IsSpelled x (name ∷ row ∷ col ∷ raw ∷ [])) (sym s.1.0) (row, col, ((λ i. named i ∷ row ∷ col ∷ is i ∷ []), s.1.1))

-- five words
pub five_words : (name a b d f : List ℕ) (c : Command) → IsSpelled c (name ∷ a ∷ b ∷ d ∷ f ∷ []) → (name ≡ codes "put") × IsPut a b d f c
five_words name a b d f (Put v n p) s =
    let same = s.4.0 in
    let one : a ≡ s.0 = cc in
    let two : b ≡ s.1 = cc in
    let three : d ≡ s.2 = cc in
    let four : f ≡ s.3 = cc in
    (name_of _ _ same, (v, (n, (p, (refl, subst (λ (u : List ℕ). IsVersionWord u v) (sym one) s.4.1, subst (λ (u : List ℕ). IsWithin u n 0 4294967295) (sym two) s.4.2, as_place d f s.2 s.3 p three four s.4.3)))))
five_words name a b d f (Get p) s = absurd (let same : ◌≡◌ {A = ℕ} 5 4 = ap length s.2.0 in omega (arith, same))
five_words name a b d f (Name p) s = absurd (let same : ◌≡◌ {A = ℕ} 5 3 = ap length s.2.0 in omega (arith, same))

pub put_to : (name v e row col : List ℕ) → name ≡ codes "put" → (c : Command) → IsPut v e row col c → IsSpelled c (name ∷ v ∷ e ∷ row ∷ col ∷ [])
put_to name v e row col named c s =
    subst (λ (x : Command). IsSpelled x (name ∷ v ∷ e ∷ row ∷ col ∷ [])) (sym s.1.1.1.0) (v, e, row, col, (ap (λ (u : List ℕ). u ∷ v ∷ e ∷ row ∷ col ∷ []) named, s.1.1.1.1, s.1.1.1.2, s.1.1.1.3))

-- any other number of words
pub other_length : (words : List (List ℕ)) → (length words ≡ 3 → ⊥) → (length words ≡ 4 → ⊥) → (length words ≡ 5 → ⊥) → (c : Command) → IsSpelled c words → ⊥
other_length words three four five (Put v n p) s = five (ap length s.4.0)
other_length words three four five (Get p) s = four (ap length s.2.0)
other_length words three four five (Name p) s = three (ap length s.2.0)
