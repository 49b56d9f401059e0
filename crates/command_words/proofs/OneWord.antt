-- What a word stands for is one.
use Rattle.std.proofs.Common.{◌≡◌, ◌⊎◌, inl, inr, ℕ, ◌+◌, ◌*◌, ◌/◌, ◌%◌, ◌<◌, ◌≤◌, ◌↔◌, List, get_or, Option, Some, None, refl, sym, ap, subst, ◌∙◌, codes, arith}
use Rattle.std.specs.Prelude.{IfSome}
use Rattle.outside_io.specs.program.Word.{IsNumber, decimal_value}
use Rattle.lerc_header.specs.declared.header.Version.{Version}
use Rattle.lerc_header.specs.declared.header.Version.TheVariants.{V3, V4}
use Rattle.command_words.specs.Words.{AreSlotWords, IsVersionWord, IsWithin}

-- ---- one version, one number

not_both : codes "3" ≡ codes "4" → ⊥
not_both e = absurd (let n : ◌≡◌ {A = ℕ} 51 52 = ap (λ (word : List ℕ). get_or word 0 0) e in omega (arith, n))

pub one_version : (v w : List ℕ) (a b : Version) → v ≡ w → IsVersionWord v a → IsVersionWord w b → a ≡ b
one_version v w V3 V3 same one other = refl
one_version v w V3 V4 same one other = absurd (not_both (sym one ∙ same ∙ other))
one_version v w V4 V3 same one other = absurd (not_both (sym other ∙ sym same ∙ one))
one_version v w V4 V4 same one other = refl

pub one_number : (v w : List ℕ) (n m : ℕ) → v ≡ w → IsNumber v n → IsNumber w m → n ≡ m
one_number v w n m same one other = sym one.value ∙ ap decimal_value same ∙ other.value

pub one_slot : (r s c d : List ℕ) (a b : ℕ) → r ≡ s → c ≡ d → AreSlotWords r c a → AreSlotWords s d b → a ≡ b
one_slot r s c d a b row col one other =
    let up : a / 128 ≡ b / 128 = one_number r s (a / 128) (b / 128) row one.0.0 other.0.0 in
    let along : a % 128 ≡ b % 128 = one_number c d (a % 128) (b % 128) col one.1.0 other.1.0 in
    omega (arith, up, along)

-- ---- a number within limits

pub in_limits : (word : List ℕ) (found : Option ℕ) (e least greatest : ℕ) → found ≡ Some e → ((n : ℕ) → (found ≡ Some n) ↔ IsNumber word n) → least ≤ e → e ≤ greatest
    → (n : ℕ) → (◌≡◌ {A = Option ℕ} (Some e) (Some n)) ↔ IsWithin word n least greatest
in_limits word found e least greatest is tells some few n = (
  λ same. (let here : e ≡ n = cc in ((tells n).0 (is ∙ same), omega (arith, here, some), omega (arith, here, few))),
  λ w. sym is ∙ (tells n).1 w.0,
)

pub past_limits : (word : List ℕ) (found : Option ℕ) (e least greatest : ℕ) → found ≡ Some e → ((n : ℕ) → (found ≡ Some n) ↔ IsNumber word n) → (e < least) ⊎ (greatest < e)
    → (n : ℕ) → (◌≡◌ {A = Option ℕ} None (Some n)) ↔ IsWithin word n least greatest
past_limits word found e least greatest is tells out n = (
  λ same. absurd cc,
  λ w. absurd (let other = sym is ∙ (tells n).1 w.0 in let here : e ≡ n = cc in elim out [ inl below ↦ omega (arith, here, below, w.1) | inr above ↦ omega (arith, here, above, w.2) ]),
)

pub no_limits : (word : List ℕ) (found : Option ℕ) (least greatest : ℕ) → found ≡ None → ((n : ℕ) → (found ≡ Some n) ↔ IsNumber word n)
    → (n : ℕ) → (◌≡◌ {A = Option ℕ} None (Some n)) ↔ IsWithin word n least greatest
no_limits word found least greatest is tells n = (
  λ same. absurd cc,
  λ w. absurd (let other = sym is ∙ (tells n).1 w.0 in cc),
)

-- ---- a slot

slot_some : (rw cw : List ℕ) (row col s : ℕ) → IsWithin rw row 0 127 → IsWithin cw col 0 127 → s ≡ 128 * row + col → AreSlotWords rw cw s
slot_some rw cw row col s r c is =
    let up : row ≡ s / 128 = omega (arith, is, c.2) in
    let along : col ≡ s % 128 = omega (arith, is, c.2) in
    (subst (λ (n : ℕ). IsWithin rw n 0 127) up r, subst (λ (n : ℕ). IsWithin cw n 0 127) along c)

pub slot_words : (rw cw : List ℕ) (row col : ℕ) (found : Option ℕ) → IsWithin rw row 0 127 → IsWithin cw col 0 127 → IfSome found (λ s. s ≡ 128 * row + col) → (found ≡ None) ↔ ((127 < row) ⊎ (127 < col))
    → (slot : ℕ) → (found ≡ Some slot) ↔ AreSlotWords rw cw slot
slot_words rw cw row col None r c is none slot = absurd (elim (none.0 refl) [ inl out ↦ omega (arith, out, r.2) | inr out ↦ omega (arith, out, c.2) ])
slot_words rw cw row col (Some s) r c is none slot = (
  λ same. (let here : s ≡ slot = cc in subst (AreSlotWords rw cw) here (slot_some rw cw row col s r c is)),
  λ w. ap Some (one_slot rw rw cw cw s slot refl refl (slot_some rw cw row col s r c is) w),
)

pub slot_none : (rw cw : List ℕ) (found : Option ℕ) → found ≡ None → ((slot : ℕ) → AreSlotWords rw cw slot → ⊥) → (slot : ℕ) → (found ≡ Some slot) ↔ AreSlotWords rw cw slot
slot_none rw cw found is never slot = (
  λ same. absurd (let other = sym is ∙ same in cc),
  λ w. absurd (never slot w),
)
