-- Words behind the name of a command: what they stand for is one.
use Rattle.std.proofs.Common.{◌≡◌, ◌⊎◌, inl, inr, ℕ, ◌<◌, ◌≤◌, ◌↔◌, List, [], ◌∷◌, get_or, length, Option, Some, None, refl, sym, ap, subst, ◌∙◌, codes, arith}
use Rattle.lerc_header.specs.declared.header.Version.{Version}
use Rattle.command_words.proofs.OneWord.{one_number, one_slot, one_version}
use Rattle.lerc_cli.specs.declared.words.Command.{Command}
use Rattle.lerc_cli.specs.declared.words.Command.TheVariants.{Encode, Decode, Info, Build, Put, Get, GetRaw, List as ListAll, Check, Recover, Sample}
use Rattle.command_words.specs.Words.{AreSlotWords, IsVersionWord, IsWithin}
use Rattle.lerc_cli.specs.words.Commands.{IsSpelled, SpellsOne}
use Rattle.lerc_cli.specs.inside.Spelling.{IsBuild, IsEncode, IsGet, IsGetRaw, IsLawful, IsOfTiles, IsPut, IsSample}

-- ---- one command of two words

pub one_encode : (v w e f : List ℕ) (a b : Version) (n m : ℕ) → v ≡ w → e ≡ f → IsVersionWord v a → IsVersionWord w b → IsWithin e n 0 4294967295 → IsWithin f m 0 4294967295 → Encode a n ≡ Encode b m
one_encode v w e f a b n m same equal va wb en fm =
    let version = one_version v w a b same va wb in
    let error = one_number e f n m equal en.0 fm.0 in
    λ i. Encode (version i) (error i)

pub get_some : (rw cw : List ℕ) (slot : ℕ) → AreSlotWords rw cw slot → (c : Command) → (◌≡◌ {A = Option Command} (Some (Get slot)) (Some c)) ↔ IsGet rw cw c
get_some rw cw slot is c = (
  λ same. (slot, ((let here : c ≡ Get slot = cc in here), is)),
  λ s. ap Some (ap Get (one_slot rw rw cw cw slot s.0 refl refl is s.1.1) ∙ sym s.1.0),
)

pub get_none : (rw cw : List ℕ) (found : Option Command) → found ≡ None → ((slot : ℕ) → AreSlotWords rw cw slot → ⊥) → (c : Command) → (found ≡ Some c) ↔ IsGet rw cw c
get_none rw cw found is never c = (
  λ same. absurd (let other = sym is ∙ same in cc),
  λ s. absurd (never s.0 s.1.1),
)

pub raw_some : (rw cw : List ℕ) (slot : ℕ) → AreSlotWords rw cw slot → (c : Command) → (◌≡◌ {A = Option Command} (Some (GetRaw slot)) (Some c)) ↔ IsGetRaw rw cw c
raw_some rw cw slot is c = (
  λ same. (slot, ((let here : c ≡ GetRaw slot = cc in here), is)),
  λ s. ap Some (ap GetRaw (one_slot rw rw cw cw slot s.0 refl refl is s.1.1) ∙ sym s.1.0),
)

pub raw_none : (rw cw : List ℕ) (found : Option Command) → found ≡ None → ((slot : ℕ) → AreSlotWords rw cw slot → ⊥) → (c : Command) → (found ≡ Some c) ↔ IsGetRaw rw cw c
raw_none rw cw found is never c = (
  λ same. absurd (let other = sym is ∙ same in cc),
  λ s. absurd (never s.0 s.1.1),
)

-- ---- the command of two words

pub encode_some : (v e : List ℕ) (version : Version) (error : ℕ) → IsVersionWord v version → IsWithin e error 0 4294967295
    → (c : Command) → (◌≡◌ {A = Option Command} (Some (Encode version error)) (Some c)) ↔ IsEncode v e c
encode_some v e version error is within c = (
  λ same. (version, (error, ((let here : c ≡ Encode version error = cc in here), is, within))),
  λ s. ap Some (one_encode v v e e version s.0 error s.1.0 refl refl is s.1.1.1 within s.1.1.2 ∙ sym s.1.1.0),
)

pub encode_none : (v e : List ℕ) (found : Option Command) → found ≡ None → ((version : Version) (error : ℕ) → IsVersionWord v version → IsWithin e error 0 4294967295 → ⊥)
    → (c : Command) → (found ≡ Some c) ↔ IsEncode v e c
encode_none v e found is never c = (
  λ same. absurd (let other = sym is ∙ same in cc),
  λ s. absurd (never s.0 s.1.0 s.1.1.1 s.1.1.2),
)

pub one_sample : (u v w x : List ℕ) (s t n m : ℕ) → u ≡ v → w ≡ x → IsWithin u s 0 4294967295 → IsWithin v t 0 4294967295 → IsWithin w n 0 4096 → IsWithin x m 0 4096 → Sample s n ≡ Sample t m
one_sample u v w x s t n m same equal us vt wn xm =
    let start = one_number u v s t same us.0 vt.0 in
    let count = one_number w x n m equal wn.0 xm.0 in
    λ i. Sample (start i) (count i)

pub sample_some : (u w : List ℕ) (start count : ℕ) → IsWithin u start 0 4294967295 → IsWithin w count 0 4096
    → (c : Command) → (◌≡◌ {A = Option Command} (Some (Sample start count)) (Some c)) ↔ IsSample u w c
sample_some u w start count is within c = (
  λ same. (start, count, ((let here : c ≡ Sample start count = cc in here), is, within)),
  λ s. ap Some (one_sample u u w w start s.0 count s.1 refl refl is s.2.1 within s.2.2 ∙ sym s.2.0),
)

pub sample_none : (u w : List ℕ) (found : Option Command) → found ≡ None → ((start count : ℕ) → IsWithin u start 0 4294967295 → IsWithin w count 0 4096 → ⊥)
    → (c : Command) → (found ≡ Some c) ↔ IsSample u w c
sample_none u w found is never c = (
  λ same. absurd (let other = sym is ∙ same in cc),
  λ s. absurd (never s.0 s.1 s.2.1 s.2.2),
)

-- ---- words spell one command

-- lists that begin with other words, whose first letters differ
other_letters : (one two : List (List ℕ)) → one ≡ two → get_or (get_or one 0 []) 0 0 ≡ get_or (get_or two 0 []) 0 0
other_letters one two same = ap (λ (words : List (List ℕ)). get_or (get_or words 0 []) 0 0) same

pub spells_one : SpellsOne
spells_one (Encode a e) (Encode b f) words one other =
    let same = sym one.2.0 ∙ other.2.0 in
    let v : one.0 ≡ other.0 = cc in
    let w : one.1 ≡ other.1 = cc in
    one_encode one.0 other.0 one.1 other.1 a b e f v w one.2.1 other.2.1 one.2.2 other.2.2
spells_one (Encode a e) Decode words one other = absurd (let same : ◌≡◌ {A = ℕ} 3 1 = ap length (sym one.2.0 ∙ other) in omega (arith, same))
spells_one (Encode a e) Info words one other = absurd (let same : ◌≡◌ {A = ℕ} 3 1 = ap length (sym one.2.0 ∙ other) in omega (arith, same))
spells_one (Encode a e) (Get t) words one other = absurd (let same : ◌≡◌ {A = ℕ} 101 103 = other_letters _ _ (sym one.2.0 ∙ other.2.0) in omega (arith, same))
spells_one (Encode a e) (GetRaw t) words one other = absurd (let same : ◌≡◌ {A = ℕ} 3 4 = ap length (sym one.2.0 ∙ other.2.0) in omega (arith, same))
spells_one (Encode a e) ListAll words one other = absurd (let same : ◌≡◌ {A = ℕ} 3 1 = ap length (sym one.2.0 ∙ other) in omega (arith, same))
spells_one (Encode a e) Check words one other = absurd (let same : ◌≡◌ {A = ℕ} 3 1 = ap length (sym one.2.0 ∙ other) in omega (arith, same))
spells_one (Encode a e) Recover words one other = absurd (let same : ◌≡◌ {A = ℕ} 3 1 = ap length (sym one.2.0 ∙ other) in omega (arith, same))
spells_one Decode (Encode b f) words one other = absurd (let same : ◌≡◌ {A = ℕ} 1 3 = ap length (sym one ∙ other.2.0) in omega (arith, same))
spells_one Decode Decode words one other = refl
spells_one Decode Info words one other = absurd (let same : ◌≡◌ {A = ℕ} 100 105 = other_letters _ _ (sym one ∙ other) in omega (arith, same))
spells_one Decode (Get t) words one other = absurd (let same : ◌≡◌ {A = ℕ} 1 3 = ap length (sym one ∙ other.2.0) in omega (arith, same))
spells_one Decode (GetRaw t) words one other = absurd (let same : ◌≡◌ {A = ℕ} 1 4 = ap length (sym one ∙ other.2.0) in omega (arith, same))
spells_one Decode ListAll words one other = absurd (let same : ◌≡◌ {A = ℕ} 100 108 = other_letters _ _ (sym one ∙ other) in omega (arith, same))
spells_one Decode Check words one other = absurd (let same : ◌≡◌ {A = ℕ} 100 99 = other_letters _ _ (sym one ∙ other) in omega (arith, same))
spells_one Decode Recover words one other = absurd (let same : ◌≡◌ {A = ℕ} 100 114 = other_letters _ _ (sym one ∙ other) in omega (arith, same))
spells_one Info (Encode b f) words one other = absurd (let same : ◌≡◌ {A = ℕ} 1 3 = ap length (sym one ∙ other.2.0) in omega (arith, same))
spells_one Info Decode words one other = absurd (let same : ◌≡◌ {A = ℕ} 105 100 = other_letters _ _ (sym one ∙ other) in omega (arith, same))
spells_one Info Info words one other = refl
spells_one Info (Get t) words one other = absurd (let same : ◌≡◌ {A = ℕ} 1 3 = ap length (sym one ∙ other.2.0) in omega (arith, same))
spells_one Info (GetRaw t) words one other = absurd (let same : ◌≡◌ {A = ℕ} 1 4 = ap length (sym one ∙ other.2.0) in omega (arith, same))
spells_one Info ListAll words one other = absurd (let same : ◌≡◌ {A = ℕ} 105 108 = other_letters _ _ (sym one ∙ other) in omega (arith, same))
spells_one Info Check words one other = absurd (let same : ◌≡◌ {A = ℕ} 105 99 = other_letters _ _ (sym one ∙ other) in omega (arith, same))
spells_one Info Recover words one other = absurd (let same : ◌≡◌ {A = ℕ} 105 114 = other_letters _ _ (sym one ∙ other) in omega (arith, same))
spells_one (Get s) (Encode b f) words one other = absurd (let same : ◌≡◌ {A = ℕ} 103 101 = other_letters _ _ (sym one.2.0 ∙ other.2.0) in omega (arith, same))
spells_one (Get s) Decode words one other = absurd (let same : ◌≡◌ {A = ℕ} 3 1 = ap length (sym one.2.0 ∙ other) in omega (arith, same))
spells_one (Get s) Info words one other = absurd (let same : ◌≡◌ {A = ℕ} 3 1 = ap length (sym one.2.0 ∙ other) in omega (arith, same))
spells_one (Get s) (Get t) words one other =
    let same = sym one.2.0 ∙ other.2.0 in
    let row : one.0 ≡ other.0 = cc in
    let col : one.1 ≡ other.1 = cc in
    ap Get (one_slot one.0 other.0 one.1 other.1 s t row col one.2.1 other.2.1)
spells_one (Get s) (GetRaw t) words one other = absurd (let same : ◌≡◌ {A = ℕ} 3 4 = ap length (sym one.2.0 ∙ other.2.0) in omega (arith, same))
spells_one (Get s) ListAll words one other = absurd (let same : ◌≡◌ {A = ℕ} 3 1 = ap length (sym one.2.0 ∙ other) in omega (arith, same))
spells_one (Get s) Check words one other = absurd (let same : ◌≡◌ {A = ℕ} 3 1 = ap length (sym one.2.0 ∙ other) in omega (arith, same))
spells_one (Get s) Recover words one other = absurd (let same : ◌≡◌ {A = ℕ} 3 1 = ap length (sym one.2.0 ∙ other) in omega (arith, same))
spells_one (GetRaw s) (Encode b f) words one other = absurd (let same : ◌≡◌ {A = ℕ} 4 3 = ap length (sym one.2.0 ∙ other.2.0) in omega (arith, same))
spells_one (GetRaw s) Decode words one other = absurd (let same : ◌≡◌ {A = ℕ} 4 1 = ap length (sym one.2.0 ∙ other) in omega (arith, same))
spells_one (GetRaw s) Info words one other = absurd (let same : ◌≡◌ {A = ℕ} 4 1 = ap length (sym one.2.0 ∙ other) in omega (arith, same))
spells_one (GetRaw s) (Get t) words one other = absurd (let same : ◌≡◌ {A = ℕ} 4 3 = ap length (sym one.2.0 ∙ other.2.0) in omega (arith, same))
spells_one (GetRaw s) (GetRaw t) words one other =
    let same = sym one.2.0 ∙ other.2.0 in
    let row : one.0 ≡ other.0 = cc in
    let col : one.1 ≡ other.1 = cc in
    ap GetRaw (one_slot one.0 other.0 one.1 other.1 s t row col one.2.1 other.2.1)
spells_one (GetRaw s) ListAll words one other = absurd (let same : ◌≡◌ {A = ℕ} 4 1 = ap length (sym one.2.0 ∙ other) in omega (arith, same))
spells_one (GetRaw s) Check words one other = absurd (let same : ◌≡◌ {A = ℕ} 4 1 = ap length (sym one.2.0 ∙ other) in omega (arith, same))
spells_one (GetRaw s) Recover words one other = absurd (let same : ◌≡◌ {A = ℕ} 4 1 = ap length (sym one.2.0 ∙ other) in omega (arith, same))
spells_one ListAll (Encode b f) words one other = absurd (let same : ◌≡◌ {A = ℕ} 1 3 = ap length (sym one ∙ other.2.0) in omega (arith, same))
spells_one ListAll Decode words one other = absurd (let same : ◌≡◌ {A = ℕ} 108 100 = other_letters _ _ (sym one ∙ other) in omega (arith, same))
spells_one ListAll Info words one other = absurd (let same : ◌≡◌ {A = ℕ} 108 105 = other_letters _ _ (sym one ∙ other) in omega (arith, same))
spells_one ListAll (Get t) words one other = absurd (let same : ◌≡◌ {A = ℕ} 1 3 = ap length (sym one ∙ other.2.0) in omega (arith, same))
spells_one ListAll (GetRaw t) words one other = absurd (let same : ◌≡◌ {A = ℕ} 1 4 = ap length (sym one ∙ other.2.0) in omega (arith, same))
spells_one ListAll ListAll words one other = refl
spells_one ListAll Check words one other = absurd (let same : ◌≡◌ {A = ℕ} 108 99 = other_letters _ _ (sym one ∙ other) in omega (arith, same))
spells_one ListAll Recover words one other = absurd (let same : ◌≡◌ {A = ℕ} 108 114 = other_letters _ _ (sym one ∙ other) in omega (arith, same))
spells_one Check (Encode b f) words one other = absurd (let same : ◌≡◌ {A = ℕ} 1 3 = ap length (sym one ∙ other.2.0) in omega (arith, same))
spells_one Check Decode words one other = absurd (let same : ◌≡◌ {A = ℕ} 99 100 = other_letters _ _ (sym one ∙ other) in omega (arith, same))
spells_one Check Info words one other = absurd (let same : ◌≡◌ {A = ℕ} 99 105 = other_letters _ _ (sym one ∙ other) in omega (arith, same))
spells_one Check (Get t) words one other = absurd (let same : ◌≡◌ {A = ℕ} 1 3 = ap length (sym one ∙ other.2.0) in omega (arith, same))
spells_one Check (GetRaw t) words one other = absurd (let same : ◌≡◌ {A = ℕ} 1 4 = ap length (sym one ∙ other.2.0) in omega (arith, same))
spells_one Check ListAll words one other = absurd (let same : ◌≡◌ {A = ℕ} 99 108 = other_letters _ _ (sym one ∙ other) in omega (arith, same))
spells_one Check Check words one other = refl
spells_one Check Recover words one other = absurd (let same : ◌≡◌ {A = ℕ} 99 114 = other_letters _ _ (sym one ∙ other) in omega (arith, same))
spells_one Recover (Encode b f) words one other = absurd (let same : ◌≡◌ {A = ℕ} 1 3 = ap length (sym one ∙ other.2.0) in omega (arith, same))
spells_one Recover Decode words one other = absurd (let same : ◌≡◌ {A = ℕ} 114 100 = other_letters _ _ (sym one ∙ other) in omega (arith, same))
spells_one Recover Info words one other = absurd (let same : ◌≡◌ {A = ℕ} 114 105 = other_letters _ _ (sym one ∙ other) in omega (arith, same))
spells_one Recover (Get t) words one other = absurd (let same : ◌≡◌ {A = ℕ} 1 3 = ap length (sym one ∙ other.2.0) in omega (arith, same))
spells_one Recover (GetRaw t) words one other = absurd (let same : ◌≡◌ {A = ℕ} 1 4 = ap length (sym one ∙ other.2.0) in omega (arith, same))
spells_one Recover ListAll words one other = absurd (let same : ◌≡◌ {A = ℕ} 114 108 = other_letters _ _ (sym one ∙ other) in omega (arith, same))
spells_one Recover Check words one other = absurd (let same : ◌≡◌ {A = ℕ} 114 99 = other_letters _ _ (sym one ∙ other) in omega (arith, same))
spells_one Recover Recover words one other = refl
spells_one (Build a e w) (Encode b f) words one other = absurd (let same : ◌≡◌ {A = ℕ} 4 3 = ap length (sym one.3.0 ∙ other.2.0) in omega (arith, same))
spells_one (Put a e w) (Encode b f) words one other = absurd (let same : ◌≡◌ {A = ℕ} 4 3 = ap length (sym one.3.0 ∙ other.2.0) in omega (arith, same))
spells_one (Encode a e) (Build b f x) words one other = absurd (let same : ◌≡◌ {A = ℕ} 3 4 = ap length (sym one.2.0 ∙ other.3.0) in omega (arith, same))
spells_one (Encode a e) (Put b f x) words one other = absurd (let same : ◌≡◌ {A = ℕ} 3 4 = ap length (sym one.2.0 ∙ other.3.0) in omega (arith, same))
spells_one (Build a e w) Decode words one other = absurd (let same : ◌≡◌ {A = ℕ} 4 1 = ap length (sym one.3.0 ∙ other) in omega (arith, same))
spells_one (Put a e w) Decode words one other = absurd (let same : ◌≡◌ {A = ℕ} 4 1 = ap length (sym one.3.0 ∙ other) in omega (arith, same))
spells_one Decode (Build b f x) words one other = absurd (let same : ◌≡◌ {A = ℕ} 1 4 = ap length (sym one ∙ other.3.0) in omega (arith, same))
spells_one Decode (Put b f x) words one other = absurd (let same : ◌≡◌ {A = ℕ} 1 4 = ap length (sym one ∙ other.3.0) in omega (arith, same))
spells_one (Build a e w) Info words one other = absurd (let same : ◌≡◌ {A = ℕ} 4 1 = ap length (sym one.3.0 ∙ other) in omega (arith, same))
spells_one (Put a e w) Info words one other = absurd (let same : ◌≡◌ {A = ℕ} 4 1 = ap length (sym one.3.0 ∙ other) in omega (arith, same))
spells_one Info (Build b f x) words one other = absurd (let same : ◌≡◌ {A = ℕ} 1 4 = ap length (sym one ∙ other.3.0) in omega (arith, same))
spells_one Info (Put b f x) words one other = absurd (let same : ◌≡◌ {A = ℕ} 1 4 = ap length (sym one ∙ other.3.0) in omega (arith, same))
spells_one (Build a e w) (Build b f x) words one other =
    let same = sym one.3.0 ∙ other.3.0 in
    let u : one.0 ≡ other.0 = cc in
    let v : one.1 ≡ other.1 = cc in
    let n : one.2 ≡ other.2 = cc in
    let version = one_version one.0 other.0 a b u one.3.1 other.3.1 in
    let error = one_number one.1 other.1 e f v one.3.2.0 other.3.2.0 in
    let workers = one_number one.2 other.2 w x n one.3.3.0 other.3.3.0 in
    λ i. Build (version i) (error i) (workers i)
spells_one (Put a e w) (Put b f x) words one other =
    let same = sym one.3.0 ∙ other.3.0 in
    let u : one.0 ≡ other.0 = cc in
    let v : one.1 ≡ other.1 = cc in
    let n : one.2 ≡ other.2 = cc in
    let version = one_version one.0 other.0 a b u one.3.1 other.3.1 in
    let error = one_number one.1 other.1 e f v one.3.2.0 other.3.2.0 in
    let workers = one_number one.2 other.2 w x n one.3.3.0 other.3.3.0 in
    λ i. Put (version i) (error i) (workers i)
spells_one (Build a e w) (Get t) words one other = absurd (let same : ◌≡◌ {A = ℕ} 4 3 = ap length (sym one.3.0 ∙ other.2.0) in omega (arith, same))
spells_one (Put a e w) (Get t) words one other = absurd (let same : ◌≡◌ {A = ℕ} 4 3 = ap length (sym one.3.0 ∙ other.2.0) in omega (arith, same))
spells_one (Get s) (Build b f x) words one other = absurd (let same : ◌≡◌ {A = ℕ} 3 4 = ap length (sym one.2.0 ∙ other.3.0) in omega (arith, same))
spells_one (Get s) (Put b f x) words one other = absurd (let same : ◌≡◌ {A = ℕ} 3 4 = ap length (sym one.2.0 ∙ other.3.0) in omega (arith, same))
spells_one (Build a e w) (GetRaw t) words one other = absurd (let same : ◌≡◌ {A = ℕ} 98 103 = other_letters _ _ (sym one.3.0 ∙ other.2.0) in omega (arith, same))
spells_one (Put a e w) (GetRaw t) words one other = absurd (let same : ◌≡◌ {A = ℕ} 112 103 = other_letters _ _ (sym one.3.0 ∙ other.2.0) in omega (arith, same))
spells_one (GetRaw s) (Build b f x) words one other = absurd (let same : ◌≡◌ {A = ℕ} 103 98 = other_letters _ _ (sym one.2.0 ∙ other.3.0) in omega (arith, same))
spells_one (GetRaw s) (Put b f x) words one other = absurd (let same : ◌≡◌ {A = ℕ} 103 112 = other_letters _ _ (sym one.2.0 ∙ other.3.0) in omega (arith, same))
spells_one (Build a e w) ListAll words one other = absurd (let same : ◌≡◌ {A = ℕ} 4 1 = ap length (sym one.3.0 ∙ other) in omega (arith, same))
spells_one (Put a e w) ListAll words one other = absurd (let same : ◌≡◌ {A = ℕ} 4 1 = ap length (sym one.3.0 ∙ other) in omega (arith, same))
spells_one ListAll (Build b f x) words one other = absurd (let same : ◌≡◌ {A = ℕ} 1 4 = ap length (sym one ∙ other.3.0) in omega (arith, same))
spells_one ListAll (Put b f x) words one other = absurd (let same : ◌≡◌ {A = ℕ} 1 4 = ap length (sym one ∙ other.3.0) in omega (arith, same))
spells_one (Build a e w) Check words one other = absurd (let same : ◌≡◌ {A = ℕ} 4 1 = ap length (sym one.3.0 ∙ other) in omega (arith, same))
spells_one (Put a e w) Check words one other = absurd (let same : ◌≡◌ {A = ℕ} 4 1 = ap length (sym one.3.0 ∙ other) in omega (arith, same))
spells_one Check (Build b f x) words one other = absurd (let same : ◌≡◌ {A = ℕ} 1 4 = ap length (sym one ∙ other.3.0) in omega (arith, same))
spells_one Check (Put b f x) words one other = absurd (let same : ◌≡◌ {A = ℕ} 1 4 = ap length (sym one ∙ other.3.0) in omega (arith, same))
spells_one (Build a e w) (Put b f x) words one other = absurd (let same : ◌≡◌ {A = ℕ} 98 112 = other_letters _ _ (sym one.3.0 ∙ other.3.0) in omega (arith, same))
spells_one (Put a e w) (Build b f x) words one other = absurd (let same : ◌≡◌ {A = ℕ} 112 98 = other_letters _ _ (sym one.3.0 ∙ other.3.0) in omega (arith, same))
spells_one (Build a e w) Recover words one other = absurd (let same : ◌≡◌ {A = ℕ} 4 1 = ap length (sym one.3.0 ∙ other) in omega (arith, same))
spells_one (Put a e w) Recover words one other = absurd (let same : ◌≡◌ {A = ℕ} 4 1 = ap length (sym one.3.0 ∙ other) in omega (arith, same))
spells_one Recover (Build b f x) words one other = absurd (let same : ◌≡◌ {A = ℕ} 1 4 = ap length (sym one ∙ other.3.0) in omega (arith, same))
spells_one Recover (Put b f x) words one other = absurd (let same : ◌≡◌ {A = ℕ} 1 4 = ap length (sym one ∙ other.3.0) in omega (arith, same))
spells_one (Sample s n) (Encode b f) words one other = absurd (let same : ◌≡◌ {A = ℕ} 115 101 = other_letters _ _ (sym one.2.0 ∙ other.2.0) in omega (arith, same))
spells_one (Sample s n) Decode words one other = absurd (let same : ◌≡◌ {A = ℕ} 3 1 = ap length (sym one.2.0 ∙ other) in omega (arith, same))
spells_one (Sample s n) Info words one other = absurd (let same : ◌≡◌ {A = ℕ} 3 1 = ap length (sym one.2.0 ∙ other) in omega (arith, same))
spells_one (Sample s n) (Get t) words one other = absurd (let same : ◌≡◌ {A = ℕ} 115 103 = other_letters _ _ (sym one.2.0 ∙ other.2.0) in omega (arith, same))
spells_one (Sample s n) (GetRaw t) words one other = absurd (let same : ◌≡◌ {A = ℕ} 3 4 = ap length (sym one.2.0 ∙ other.2.0) in omega (arith, same))
spells_one (Sample s n) ListAll words one other = absurd (let same : ◌≡◌ {A = ℕ} 3 1 = ap length (sym one.2.0 ∙ other) in omega (arith, same))
spells_one (Sample s n) Check words one other = absurd (let same : ◌≡◌ {A = ℕ} 3 1 = ap length (sym one.2.0 ∙ other) in omega (arith, same))
spells_one (Sample s n) Recover words one other = absurd (let same : ◌≡◌ {A = ℕ} 3 1 = ap length (sym one.2.0 ∙ other) in omega (arith, same))
spells_one (Sample s n) (Build b f x) words one other = absurd (let same : ◌≡◌ {A = ℕ} 3 4 = ap length (sym one.2.0 ∙ other.3.0) in omega (arith, same))
spells_one (Sample s n) (Put b f x) words one other = absurd (let same : ◌≡◌ {A = ℕ} 3 4 = ap length (sym one.2.0 ∙ other.3.0) in omega (arith, same))
spells_one (Encode a e) (Sample t m) words one other = absurd (let same : ◌≡◌ {A = ℕ} 101 115 = other_letters _ _ (sym one.2.0 ∙ other.2.0) in omega (arith, same))
spells_one Decode (Sample t m) words one other = absurd (let same : ◌≡◌ {A = ℕ} 1 3 = ap length (sym one ∙ other.2.0) in omega (arith, same))
spells_one Info (Sample t m) words one other = absurd (let same : ◌≡◌ {A = ℕ} 1 3 = ap length (sym one ∙ other.2.0) in omega (arith, same))
spells_one (Get s) (Sample t m) words one other = absurd (let same : ◌≡◌ {A = ℕ} 103 115 = other_letters _ _ (sym one.2.0 ∙ other.2.0) in omega (arith, same))
spells_one (GetRaw s) (Sample t m) words one other = absurd (let same : ◌≡◌ {A = ℕ} 4 3 = ap length (sym one.2.0 ∙ other.2.0) in omega (arith, same))
spells_one ListAll (Sample t m) words one other = absurd (let same : ◌≡◌ {A = ℕ} 1 3 = ap length (sym one ∙ other.2.0) in omega (arith, same))
spells_one Check (Sample t m) words one other = absurd (let same : ◌≡◌ {A = ℕ} 1 3 = ap length (sym one ∙ other.2.0) in omega (arith, same))
spells_one Recover (Sample t m) words one other = absurd (let same : ◌≡◌ {A = ℕ} 1 3 = ap length (sym one ∙ other.2.0) in omega (arith, same))
spells_one (Build a e w) (Sample t m) words one other = absurd (let same : ◌≡◌ {A = ℕ} 4 3 = ap length (sym one.3.0 ∙ other.2.0) in omega (arith, same))
spells_one (Put a e w) (Sample t m) words one other = absurd (let same : ◌≡◌ {A = ℕ} 4 3 = ap length (sym one.3.0 ∙ other.2.0) in omega (arith, same))
spells_one (Sample s n) (Sample t m) words one other =
    let same = sym one.2.0 ∙ other.2.0 in
    let u : one.0 ≡ other.0 = cc in
    let v : one.1 ≡ other.1 = cc in
    one_sample one.0 other.0 one.1 other.1 s t n m u v one.2.1 other.2.1 one.2.2 other.2.2

-- words that spell one command spell no other
pub spelled_some : (words : List (List ℕ)) (d : Command) → IsSpelled d words → (c : Command) → (◌≡◌ {A = Option Command} (Some d) (Some c)) ↔ IsSpelled c words
spelled_some words d is c = (
  λ same. (let here : d ≡ c = cc in subst (λ (x : Command). IsSpelled x words) here is),
  λ s. ap Some (spells_one d c words is s),
)

pub spelled_none : (words : List (List ℕ)) → ((c : Command) → IsSpelled c words → ⊥) → (c : Command) → (◌≡◌ {A = Option Command} None (Some c)) ↔ IsSpelled c words
spelled_none words never c = (λ same. absurd cc, λ s. absurd (never c s))

-- what was found of the words behind a name is what the words spell
pub spelled_as : (words : List (List ℕ)) (Such : Command → Type 0) (found : Option Command) → ((c : Command) → (found ≡ Some c) ↔ Such c) → ((c : Command) → Such c → IsSpelled c words) → ((c : Command) → IsSpelled c words → Such c)
    → (c : Command) → (found ≡ Some c) ↔ IsSpelled c words
spelled_as words Such found tells to from c = (λ same. to c ((tells c).0 same), λ s. (tells c).1 (from c s))

-- ---- one word

-- a word that names no command of one word
pub record IsNoName (word : List ℕ) : Type 0 where
  pub decode : word ≡ codes "decode" → ⊥
  pub info : word ≡ codes "info" → ⊥
  pub list : word ≡ codes "list" → ⊥
  pub check : word ≡ codes "check" → ⊥
  pub recover : word ≡ codes "recover" → ⊥

head_of : (v w : List ℕ) → ◌≡◌ {A = List (List ℕ)} (v ∷ []) (w ∷ []) → v ≡ w
head_of v w same = ap (λ (words : List (List ℕ)). get_or words 0 []) same

pub no_name : (word : List ℕ) → IsNoName word → (c : Command) → IsSpelled c (word ∷ []) → ⊥
no_name word none (Encode a e) is = let same : ◌≡◌ {A = ℕ} 1 3 = ap length is.2.0 in omega (arith, same)
no_name word none Decode is = none.decode (head_of word (codes "decode") is)
no_name word none Info is = none.info (head_of word (codes "info") is)
no_name word none (Get s) is = let same : ◌≡◌ {A = ℕ} 1 3 = ap length is.2.0 in omega (arith, same)
no_name word none (GetRaw s) is = let same : ◌≡◌ {A = ℕ} 1 4 = ap length is.2.0 in omega (arith, same)
no_name word none ListAll is = none.list (head_of word (codes "list") is)
no_name word none Check is = none.check (head_of word (codes "check") is)
no_name word none Recover is = none.recover (head_of word (codes "recover") is)
no_name word none (Sample s n) is = let same : ◌≡◌ {A = ℕ} 1 3 = ap length is.2.0 in omega (arith, same)
no_name word none (Build a e w) is = let same : ◌≡◌ {A = ℕ} 1 4 = ap length is.3.0 in omega (arith, same)
no_name word none (Put a e w) is = let same : ◌≡◌ {A = ℕ} 1 4 = ap length is.3.0 in omega (arith, same)

-- ---- a name and two words

name_of : (words others : List (List ℕ)) → words ≡ others → get_or words 0 [] ≡ get_or others 0 []
name_of words others same = ap (λ (ws : List (List ℕ)). get_or ws 0 []) same

-- one name is no other, where their first letters differ
other_name : (name one two : List ℕ) → (get_or one 0 0 ≡ get_or two 0 0 → ⊥) → name ≡ one → name ≡ two → ⊥
other_name name one two differ is so = differ (ap (λ (u : List ℕ). get_or u 0 0) (sym is ∙ so))

-- which commands three words spell
two_words : (name a b : List ℕ) (c : Command) → IsSpelled c (name ∷ a ∷ b ∷ []) → ((name ≡ codes "encode") × IsEncode a b c) ⊎ (((name ≡ codes "get") × IsGet a b c) ⊎ ((name ≡ codes "sample") × IsSample a b c))
two_words name a b (Encode v n) s =
    let same = s.2.0 in
    let one : a ≡ s.0 = cc in
    let other : b ≡ s.1 = cc in
    inl (name_of _ _ same, (v, (n, (refl, subst (λ (u : List ℕ). IsVersionWord u v) (sym one) s.2.1, subst (λ (u : List ℕ). IsWithin u n 0 4294967295) (sym other) s.2.2))))
two_words name a b Decode s = absurd (let same : ◌≡◌ {A = ℕ} 3 1 = ap length s in omega (arith, same))
two_words name a b Info s = absurd (let same : ◌≡◌ {A = ℕ} 3 1 = ap length s in omega (arith, same))
two_words name a b (Get slot) s =
    let same = s.2.0 in
    let one : a ≡ s.0 = cc in
    let other : b ≡ s.1 = cc in
    inr (inl (name_of _ _ same, (slot, (refl, subst (λ (u : List ℕ). AreSlotWords u b slot) (sym one) (subst (λ (u : List ℕ). AreSlotWords s.0 u slot) (sym other) s.2.1)))))
two_words name a b (GetRaw slot) s = absurd (let same : ◌≡◌ {A = ℕ} 3 4 = ap length s.2.0 in omega (arith, same))
two_words name a b ListAll s = absurd (let same : ◌≡◌ {A = ℕ} 3 1 = ap length s in omega (arith, same))
two_words name a b Check s = absurd (let same : ◌≡◌ {A = ℕ} 3 1 = ap length s in omega (arith, same))
two_words name a b Recover s = absurd (let same : ◌≡◌ {A = ℕ} 3 1 = ap length s in omega (arith, same))
two_words name a b (Sample start count) s =
    let same = s.2.0 in
    let one : a ≡ s.0 = cc in
    let other : b ≡ s.1 = cc in
    inr (inr (name_of _ _ same, (start, count, (refl, subst (λ (u : List ℕ). IsWithin u start 0 4294967295) (sym one) s.2.1, subst (λ (u : List ℕ). IsWithin u count 0 4096) (sym other) s.2.2))))
two_words name a b (Build v n w) s = absurd (let same : ◌≡◌ {A = ℕ} 3 4 = ap length s.3.0 in omega (arith, same))
two_words name a b (Put v n w) s = absurd (let same : ◌≡◌ {A = ℕ} 3 4 = ap length s.3.0 in omega (arith, same))

pub encode_to : (name v e : List ℕ) → name ≡ codes "encode" → (c : Command) → IsEncode v e c → IsSpelled c (name ∷ v ∷ e ∷ [])
encode_to name v e named c s = subst (λ (x : Command). IsSpelled x (name ∷ v ∷ e ∷ [])) (sym s.1.1.0) (v, e, (ap (λ (w : List ℕ). w ∷ v ∷ e ∷ []) named, s.1.1.1, s.1.1.2))

pub encode_from : (name v e : List ℕ) → name ≡ codes "encode" → (c : Command) → IsSpelled c (name ∷ v ∷ e ∷ []) → IsEncode v e c
encode_from name v e named c s = elim (two_words name v e c s) [
  | inl is ↦ is.1
  | inr other ↦ elim other [
    | inl is ↦ absurd (other_name name (codes "encode") (codes "get") (λ same. omega (arith, same)) named is.0)
    | inr is ↦ absurd (other_name name (codes "encode") (codes "sample") (λ same. omega (arith, same)) named is.0)
  ]
]

pub get_to : (name row col : List ℕ) → name ≡ codes "get" → (c : Command) → IsGet row col c → IsSpelled c (name ∷ row ∷ col ∷ [])
get_to name row col named c s = subst (λ (x : Command). IsSpelled x (name ∷ row ∷ col ∷ [])) (sym s.1.0) (row, col, (ap (λ (w : List ℕ). w ∷ row ∷ col ∷ []) named, s.1.1))

pub get_from : (name row col : List ℕ) → name ≡ codes "get" → (c : Command) → IsSpelled c (name ∷ row ∷ col ∷ []) → IsGet row col c
get_from name row col named c s = elim (two_words name row col c s) [
  | inl is ↦ absurd (other_name name (codes "get") (codes "encode") (λ same. omega (arith, same)) named is.0)
  | inr other ↦ elim other [
    | inl is ↦ is.1
    | inr is ↦ absurd (other_name name (codes "get") (codes "sample") (λ same. omega (arith, same)) named is.0)
  ]
]

pub sample_to : (name u w : List ℕ) → name ≡ codes "sample" → (c : Command) → IsSample u w c → IsSpelled c (name ∷ u ∷ w ∷ [])
sample_to name u w named c s = subst (λ (x : Command). IsSpelled x (name ∷ u ∷ w ∷ [])) (sym s.2.0) (u, w, (ap (λ (v : List ℕ). v ∷ u ∷ w ∷ []) named, s.2.1, s.2.2))

pub sample_from : (name u w : List ℕ) → name ≡ codes "sample" → (c : Command) → IsSpelled c (name ∷ u ∷ w ∷ []) → IsSample u w c
sample_from name u w named c s = elim (two_words name u w c s) [
  | inl is ↦ absurd (other_name name (codes "sample") (codes "encode") (λ same. omega (arith, same)) named is.0)
  | inr other ↦ elim other [
    | inl is ↦ absurd (other_name name (codes "sample") (codes "get") (λ same. omega (arith, same)) named is.0)
    | inr is ↦ is.1
  ]
]

pub no_two : (name a b : List ℕ) → (name ≡ codes "encode" → ⊥) → (name ≡ codes "get" → ⊥) → (name ≡ codes "sample" → ⊥) → (c : Command) → IsSpelled c (name ∷ a ∷ b ∷ []) → ⊥
no_two name a b encode get sample c s = elim (two_words name a b c s) [
  | inl is ↦ encode is.0
  | inr other ↦ elim other [ inl is ↦ get is.0 | inr is ↦ sample is.0 ]
]

-- ---- a name and three words

-- words that are equal to these are of the same tiles
as_tiles : (make : Version → ℕ → ℕ → Command) (name a b d text : List ℕ) (version : Version) (error workers : ℕ)
    → ((v e w : List ℕ) × ((name ∷ a ∷ b ∷ d ∷ [] ≡ text ∷ v ∷ e ∷ w ∷ []) × IsVersionWord v version × IsWithin e error 0 4294967295 × IsWithin w workers 1 64))
    → IsOfTiles make a b d (make version error workers)
as_tiles make name a b d text version error workers (v, e, w, (same, is, within, some)) =
    let one : a ≡ v = cc in
    let two : b ≡ e = cc in
    let three : d ≡ w = cc in
    (version, (error, workers, (refl, subst (λ (u : List ℕ). IsVersionWord u version) (sym one) is, subst (λ (u : List ℕ). IsWithin u error 0 4294967295) (sym two) within, subst (λ (u : List ℕ). IsWithin u workers 1 64) (sym three) some)))

-- which commands four words spell
three_behind : (name a b d : List ℕ) (c : Command) → IsSpelled c (name ∷ a ∷ b ∷ d ∷ [])
    → ((name ≡ codes "build") × IsBuild a b d c) ⊎ (((name ≡ codes "put") × IsPut a b d c) ⊎ ((name ≡ codes "get") × (d ≡ codes "raw") × IsGetRaw a b c))
three_behind name a b d (Encode v n) s = absurd (let same : ◌≡◌ {A = ℕ} 4 3 = ap length s.2.0 in omega (arith, same))
three_behind name a b d Decode s = absurd (let same : ◌≡◌ {A = ℕ} 4 1 = ap length s in omega (arith, same))
three_behind name a b d Info s = absurd (let same : ◌≡◌ {A = ℕ} 4 1 = ap length s in omega (arith, same))
three_behind name a b d (Get slot) s = absurd (let same : ◌≡◌ {A = ℕ} 4 3 = ap length s.2.0 in omega (arith, same))
three_behind name a b d (GetRaw slot) s =
    let same = s.2.0 in
    let one : a ≡ s.0 = cc in
    let other : b ≡ s.1 = cc in
    let raw : d ≡ codes "raw" = cc in
    inr (inr (name_of _ _ same, raw, (slot, (refl, subst (λ (u : List ℕ). AreSlotWords u b slot) (sym one) (subst (λ (u : List ℕ). AreSlotWords s.0 u slot) (sym other) s.2.1)))))
three_behind name a b d ListAll s = absurd (let same : ◌≡◌ {A = ℕ} 4 1 = ap length s in omega (arith, same))
three_behind name a b d Check s = absurd (let same : ◌≡◌ {A = ℕ} 4 1 = ap length s in omega (arith, same))
three_behind name a b d Recover s = absurd (let same : ◌≡◌ {A = ℕ} 4 1 = ap length s in omega (arith, same))
three_behind name a b d (Sample start count) s = absurd (let same : ◌≡◌ {A = ℕ} 4 3 = ap length s.2.0 in omega (arith, same))
three_behind name a b d (Build v n w) s = inl (name_of _ _ s.3.0, as_tiles Build name a b d (codes "build") v n w s)
three_behind name a b d (Put v n w) s = inr (inl (name_of _ _ s.3.0, as_tiles Put name a b d (codes "put") v n w s))

pub raw_to : (name row col raw : List ℕ) → name ≡ codes "get" → raw ≡ codes "raw" → (c : Command) → IsGetRaw row col c → IsSpelled c (name ∷ row ∷ col ∷ raw ∷ [])
raw_to name row col raw named is c s = subst (λ (x : Command). IsSpelled x (name ∷ row ∷ col ∷ raw ∷ [])) (sym s.1.0) (row, col, ((λ i. named i ∷ row ∷ col ∷ is i ∷ []), s.1.1))

pub raw_from : (name row col raw : List ℕ) → name ≡ codes "get" → (c : Command) → IsSpelled c (name ∷ row ∷ col ∷ raw ∷ []) → IsGetRaw row col c
raw_from name row col raw named c s = elim (three_behind name row col raw c s) [
  | inl is ↦ absurd (other_name name (codes "get") (codes "build") (λ same. omega (arith, same)) named is.0)
  | inr other ↦ elim other [
    | inl is ↦ absurd (other_name name (codes "get") (codes "put") (λ same. omega (arith, same)) named is.0)
    | inr is ↦ is.2
  ]
]

pub no_three : (name row col raw : List ℕ) → (name ≡ codes "build" → ⊥) → (name ≡ codes "put" → ⊥) → ((name ≡ codes "get") × (raw ≡ codes "raw") → ⊥) → (c : Command) → IsSpelled c (name ∷ row ∷ col ∷ raw ∷ []) → ⊥
no_three name row col raw build put none c s = elim (three_behind name row col raw c s) [
  | inl is ↦ build is.0
  | inr other ↦ elim other [ inl is ↦ put is.0 | inr is ↦ none (is.0, is.1) ]
]

pub build_to : (name v e w : List ℕ) → name ≡ codes "build" → (c : Command) → IsBuild v e w c → IsSpelled c (name ∷ v ∷ e ∷ w ∷ [])
build_to name v e w named c s = subst (λ (x : Command). IsSpelled x (name ∷ v ∷ e ∷ w ∷ [])) (sym s.1.2.0) (v, e, w, (ap (λ (u : List ℕ). u ∷ v ∷ e ∷ w ∷ []) named, s.1.2.1, s.1.2.2, s.1.2.3))

pub build_from : (name v e w : List ℕ) → name ≡ codes "build" → (c : Command) → IsSpelled c (name ∷ v ∷ e ∷ w ∷ []) → IsBuild v e w c
build_from name v e w named c s = elim (three_behind name v e w c s) [
  | inl is ↦ is.1
  | inr other ↦ elim other [
    | inl is ↦ absurd (other_name name (codes "build") (codes "put") (λ same. omega (arith, same)) named is.0)
    | inr is ↦ absurd (other_name name (codes "build") (codes "get") (λ same. omega (arith, same)) named is.0)
  ]
]

pub put_to : (name v e w : List ℕ) → name ≡ codes "put" → (c : Command) → IsPut v e w c → IsSpelled c (name ∷ v ∷ e ∷ w ∷ [])
put_to name v e w named c s = subst (λ (x : Command). IsSpelled x (name ∷ v ∷ e ∷ w ∷ [])) (sym s.1.2.0) (v, e, w, (ap (λ (u : List ℕ). u ∷ v ∷ e ∷ w ∷ []) named, s.1.2.1, s.1.2.2, s.1.2.3))

pub put_from : (name v e w : List ℕ) → name ≡ codes "put" → (c : Command) → IsSpelled c (name ∷ v ∷ e ∷ w ∷ []) → IsPut v e w c
put_from name v e w named c s = elim (three_behind name v e w c s) [
  | inl is ↦ absurd (other_name name (codes "put") (codes "build") (λ same. omega (arith, same)) named is.0)
  | inr other ↦ elim other [
    | inl is ↦ is.1
    | inr is ↦ absurd (other_name name (codes "put") (codes "get") (λ same. omega (arith, same)) named is.0)
  ]
]

-- what was found of the three words, or that they are none
pub tiles_some : (make : Version → ℕ → ℕ → Command) (v e w : List ℕ) (version : Version) (error workers : ℕ) → IsVersionWord v version → IsWithin e error 0 4294967295 → IsWithin w workers 1 64
    → (c : Command) → (◌≡◌ {A = Option Command} (Some (make version error workers)) (Some c)) ↔ IsOfTiles make v e w c
tiles_some make v e w version error workers is within some c = (
  λ same. (version, (error, workers, ((let here : c ≡ make version error workers = cc in here), is, within, some))),
  λ s. (let one = one_version v v version s.0 refl is s.1.2.1 in
      let two = one_number e e error s.1.0 refl within.0 s.1.2.2.0 in
      let three = one_number w w workers s.1.1 refl some.0 s.1.2.3.0 in
      ap Some ((λ i. make (one i) (two i) (three i)) ∙ sym s.1.2.0)),
)

pub tiles_none : (make : Version → ℕ → ℕ → Command) (v e w : List ℕ) (found : Option Command) → found ≡ None
    → ((version : Version) (error workers : ℕ) → IsVersionWord v version → IsWithin e error 0 4294967295 → IsWithin w workers 1 64 → ⊥)
    → (c : Command) → (found ≡ Some c) ↔ IsOfTiles make v e w c
tiles_none make v e w found is never c = (
  λ same. absurd (let other = sym is ∙ same in cc),
  λ s. absurd (never s.0 s.1.0 s.1.1 s.1.2.1 s.1.2.2 s.1.2.3),
)

-- ---- the number of words

pub other_length : (words : List (List ℕ)) → (length words ≡ 1 → ⊥) → (length words ≡ 3 → ⊥) → (length words ≡ 4 → ⊥) → (c : Command) → IsSpelled c words → ⊥
other_length words one three four (Encode a e) s = three (ap length s.2.0)
other_length words one three four Decode s = one (ap length s)
other_length words one three four Info s = one (ap length s)
other_length words one three four (Get t) s = three (ap length s.2.0)
other_length words one three four (GetRaw t) s = four (ap length s.2.0)
other_length words one three four ListAll s = one (ap length s)
other_length words one three four Check s = one (ap length s)
other_length words one three four Recover s = one (ap length s)
other_length words one three four (Sample start count) s = three (ap length s.2.0)
other_length words one three four (Build a e w) s = four (ap length s.3.0)
other_length words one three four (Put a e w) s = four (ap length s.3.0)

-- words of so many items

pub three_words : (words : List (List ℕ)) (a b c : List ℕ) → 3 ≤ length words → length words < 4 → a ≡ get_or words 0 a → b ≡ get_or words 1 b → c ≡ get_or words 2 c → words ≡ a ∷ b ∷ c ∷ []
three_words [] a b c least below x y z = absurd (omega arith)
three_words (u ∷ []) a b c least below x y z = absurd (omega arith)
three_words (u ∷ v ∷ []) a b c least below x y z = absurd (omega arith)
three_words (u ∷ v ∷ w ∷ []) a b c least below x y z = λ i. sym x i ∷ sym y i ∷ sym z i ∷ []
three_words (u ∷ v ∷ w ∷ t ∷ ts) a b c least below x y z = absurd (omega arith)

-- ---- what is known of a command that is spelled

pub lawful : (c : Command) (words : List (List ℕ)) → IsSpelled c words → IsLawful c
lawful (Encode a e) words s = tt
lawful Decode words s = tt
lawful Info words s = tt
lawful (Build a e w) words s = (s.3.3.1, s.3.3.2)
lawful (Put a e w) words s = (s.3.3.1, s.3.3.2)
lawful (Get t) words s = tt
lawful (GetRaw t) words s = tt
lawful ListAll words s = tt
lawful Check words s = tt
lawful Recover words s = tt
lawful (Sample start count) words s = s.2.2.2
