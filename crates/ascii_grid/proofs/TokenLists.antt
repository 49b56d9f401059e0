-- The tokens of a text, byte by byte.
use Rattle.std.proofs.Common.{◌≡◌, ℕ, suc, ◌+◌, ◌<◌, ◌≤◌, Bool, true, false, rules, ◌&&◌, ◌||◌, List, [], ◌∷◌, ◌++◌, length, All, refl, sym, ap, ◌∙◌, arith, ◌⊎◌, inl, inr}
use Rattle.std.specs.Prelude.{if◌then◌else◌, nat_lt, nat_le}
use Rattle.std.proofs.lemmas.List.Elements.{All-head, All-tail}
use Rattle.std.proofs.lemmas.Bool.{cases_lt}
use Rattle.ascii_grid.specs.Tokens.{EndsToken, IsBlank, IsDark, TokenAt, is_blank, limit}
use Rattle.ascii_grid.specs.Tokens.{decided_front, is_decided, shown}
use Rattle.ascii_grid.specs.inside.Reading.{begins_dark, led, tokens_of}

pub step_blank : (p b : ℕ) (rest : List ℕ) → IsBlank b → tokens_of p (b ∷ rest) ≡ tokens_of (suc p) rest
step_blank p b rest is = ap (λ (v : Bool). if v then tokens_of (suc p) rest else led p b (begins_dark rest) (tokens_of (suc p) rest)) is

pub step_dark : (p b : ℕ) (rest : List ℕ) → IsDark b → tokens_of p (b ∷ rest) ≡ led p b (begins_dark rest) (tokens_of (suc p) rest)
step_dark p b rest is = ap (λ (v : Bool). if v then tokens_of (suc p) rest else led p b (begins_dark rest) (tokens_of (suc p) rest)) is

pub dark_first : (b : ℕ) (rest : List ℕ) → IsDark b → begins_dark (b ∷ rest) ≡ true
dark_first b rest is = ap (λ (v : Bool). if v then false else true) is

pub not_dark : (rest : List ℕ) → EndsToken rest → begins_dark rest ≡ false
not_dark [] ends = refl
not_dark (b ∷ rest) ends = ap (λ (v : Bool). if v then false else true) ends

abbrev pub spot : ℕ → List ℕ → TokenAt
spot p w = record { place = p; bytes = w }

-- a whole token in front
pub word_front : (p : ℕ) (w behind : List ℕ) → 0 < length w → All IsDark w → EndsToken behind → tokens_of p (w ++ behind) ≡ spot p w ∷ tokens_of (p + length w) behind
word_front p [] behind some dark ends = absurd (omega (arith, some))
word_front p (b ∷ []) behind some dark ends =
    let one : IsDark b = All-head IsDark b [] dark in
    let next : suc p ≡ p + 1 = omega arith in
    step_dark p b behind one ∙ ap (λ (v : Bool). led p b v (tokens_of (suc p) behind)) (not_dark behind ends) ∙ ap (λ (q : ℕ). spot p (b ∷ []) ∷ tokens_of q behind) next
word_front p (b ∷ c ∷ w) behind some dark ends =
    let one : IsDark b = All-head IsDark b (c ∷ w) dark in
    let rest : All IsDark (c ∷ w) = All-tail IsDark b (c ∷ w) dark in
    let two : IsDark c = All-head IsDark c w rest in
    let later = word_front (suc p) (c ∷ w) behind (omega arith) rest ends in
    let place : suc p + length (c ∷ w) ≡ p + length (b ∷ c ∷ w) = omega arith in
    step_dark p b ((c ∷ w) ++ behind) one ∙ ap (λ (v : Bool). led p b v (tokens_of (suc p) ((c ∷ w) ++ behind))) (dark_first c (w ++ behind) two)
    ∙ ap (λ (ts : List TokenAt). led p b true ts) later ∙ ap (λ (q : ℕ). spot p (b ∷ c ∷ w) ∷ tokens_of q behind) place

-- the first bytes of a token in front
pub record Longer (p : ℕ) (w behind : List ℕ) : Type 0 where
  pub more : List ℕ
  pub others : List TokenAt
  pub is : tokens_of p (w ++ behind) ≡ spot p (w ++ more) ∷ others
  pub some : begins_dark behind ≡ true → 0 < length more

led_some : (p b : ℕ) (dark : Bool) (ts : List TokenAt) → (more : List ℕ) × ((others : List TokenAt) × ((led p b dark ts ≡ spot p (b ∷ more) ∷ others)))
led_some p b false ts = ([], (ts, refl))
led_some p b true [] = ([], ([], refl))
led_some p b true (t ∷ ts) = (t.bytes, (ts, refl))

pub first_some : (p b : ℕ) (rest : List ℕ) → IsDark b → (more : List ℕ) × ((others : List TokenAt) × ((tokens_of p (b ∷ rest) ≡ spot p (b ∷ more) ∷ others)))
first_some p b rest is =
    let made = led_some p b (begins_dark rest) (tokens_of (suc p) rest) in
    (made.0, (made.1.0, step_dark p b rest is ∙ made.1.1))

dark_is : (b : ℕ) (rest : List ℕ) → begins_dark (b ∷ rest) ≡ true → IsDark b
dark_is b rest e = by (is_blank b) refl
  where
    by : (v : Bool) → is_blank b ≡ v → IsDark b
    by false is = is
    by true is = absurd (let no : false ≡ true = sym (ap (λ (u : Bool). if u then false else true) is) ∙ e in let bad : ⊥ = cc in bad)

pub word_more : (p : ℕ) (w behind : List ℕ) → 0 < length w → All IsDark w → Longer p w behind
word_more p [] behind some dark = absurd (omega (arith, some))
word_more p (b ∷ []) [] some dark = record {
  more = [];
  others = [];
  is = word_front p (b ∷ []) [] some dark tt;
  some = λ no. absurd (let bad : ⊥ = cc in bad);
}
word_more p (b ∷ []) (c ∷ behind) some dark = by (is_blank c) refl
  where
    by : (v : Bool) → is_blank c ≡ v → Longer p (b ∷ []) (c ∷ behind)
    by true is = record {
      more = [];
      others = tokens_of (p + 1) (c ∷ behind);
      is = word_front p (b ∷ []) (c ∷ behind) some dark is;
      some = λ no. absurd (let blank : false ≡ true = sym (ap (λ (u : Bool). if u then false else true) is) ∙ no in let bad : ⊥ = cc in bad);
    }
    by false is =
        let one : IsDark b = All-head IsDark b [] dark in
        let next = first_some (suc p) c behind is in
        record {
          more = c ∷ next.0;
          others = next.1.0;
          is = step_dark p b (c ∷ behind) one ∙ ap (λ (v : Bool). led p b v (tokens_of (suc p) (c ∷ behind))) (dark_first c behind is) ∙ ap (λ (ts : List TokenAt). led p b true ts) next.1.1;
          some = λ yes. omega arith;
        }
word_more p (b ∷ c ∷ w) behind some dark =
    let one : IsDark b = All-head IsDark b (c ∷ w) dark in
    let rest : All IsDark (c ∷ w) = All-tail IsDark b (c ∷ w) dark in
    let two : IsDark c = All-head IsDark c w rest in
    let later = word_more (suc p) (c ∷ w) behind (omega arith) rest in
    record {
      more = later.more;
      others = later.others;
      is = step_dark p b ((c ∷ w) ++ behind) one ∙ ap (λ (v : Bool). led p b v (tokens_of (suc p) ((c ∷ w) ++ behind))) (dark_first c (w ++ behind) two)
          ∙ ap (λ (ts : List TokenAt). led p b true ts) later.is;
      some = later.some;
    }

-- ---- what a text shows

pub shown_all : (total : ℕ) (ts : List TokenAt) → total ≤ limit → shown total ts ≡ ts
shown_all total ts within = ap (λ (v : Bool). if v then ts else decided_front ts) (let h : nat_le total limit ≡ true = search rules in h)

pub shown_front : (total : ℕ) (ts : List TokenAt) → limit < total → shown total ts ≡ decided_front ts
shown_front total ts over = ap (λ (v : Bool). if v then ts else decided_front ts) (let h : nat_le total limit ≡ false = search rules in h)

pub decided_more : (t : TokenAt) (ts : List TokenAt) → is_decided t ≡ true → decided_front (t ∷ ts) ≡ t ∷ decided_front ts
decided_more t ts is = ap (λ (v : Bool). if v then t ∷ decided_front ts else []) is

pub decided_none : (t : TokenAt) (ts : List TokenAt) → is_decided t ≡ false → decided_front (t ∷ ts) ≡ []
decided_none t ts is = ap (λ (v : Bool). if v then t ∷ decided_front ts else []) is

-- a token that is decided, or not
pub is_decided_short : (t : TokenAt) → t.place + length t.bytes < limit → is_decided t ≡ true
is_decided_short t less = let h : nat_lt (t.place + length t.bytes) limit ≡ true = search rules in ap (λ (v : Bool). v || (nat_le 33 (length t.bytes) && nat_le (t.place + 33) limit)) h

pub is_decided_long : (t : TokenAt) → 33 ≤ length t.bytes → t.place + 33 ≤ limit → is_decided t ≡ true
is_decided_long t many room = by (nat_lt (t.place + length t.bytes) limit)
  where
    one : nat_le 33 (length t.bytes) ≡ true
    one = search rules

    two : nat_le (t.place + 33) limit ≡ true
    two = search rules

    by : (v : Bool) → v || (nat_le 33 (length t.bytes) && nat_le (t.place + 33) limit) ≡ true
    by true = refl
    by false = (λ i. one i && two i)

pub is_decided_not : (t : TokenAt) → limit ≤ t.place + length t.bytes → (33 ≤ length t.bytes → limit < t.place + 33) → is_decided t ≡ false
is_decided_not t over few = first ∙ by (cases_lt (length t.bytes) 33)
  where
    before : nat_lt (t.place + length t.bytes) limit ≡ false
    before = search rules

    first : is_decided t ≡ (nat_le 33 (length t.bytes) && nat_le (t.place + 33) limit)
    first = ap (λ (v : Bool). v || (nat_le 33 (length t.bytes) && nat_le (t.place + 33) limit)) before

    by : (length t.bytes < 33) ⊎ (33 ≤ length t.bytes) → nat_le 33 (length t.bytes) && nat_le (t.place + 33) limit ≡ false
    by (inl less) = let h : nat_le 33 (length t.bytes) ≡ false = search rules in ap (λ (v : Bool). v && nat_le (t.place + 33) limit) h
    by (inr many) =
        let one : nat_le 33 (length t.bytes) ≡ true = search rules in
        let far : limit < t.place + 33 = few many in
        let two : nat_le (t.place + 33) limit ≡ false = search rules in
        λ i. one i && two i

-- no token is decided that begins at the limit or behind it
pub none_decided : (bytes : List ℕ) (p : ℕ) → limit ≤ p → decided_front (tokens_of p bytes) ≡ []
none_decided [] p far = refl
none_decided (b ∷ rest) p far = by (none_decided rest (suc p) (omega arith)) (is_blank b) refl
  where
    by : decided_front (tokens_of (suc p) rest) ≡ [] → (v : Bool) → is_blank b ≡ v → decided_front (tokens_of p (b ∷ rest)) ≡ []
    by later true is = ap decided_front (step_blank p b rest is) ∙ later
    by later false is =
        let first = first_some p b rest is in
        ap decided_front first.1.1 ∙ decided_none (spot p (b ∷ first.0)) first.1.0 (is_decided_not (spot p (b ∷ first.0)) (omega arith) (λ many. omega arith))
