-- The steps of reading a text, token by token.
use Rattle.std.proofs.Common.{◌≡◌, ◌≢◌, ℕ, suc, ◌+◌, ◌<◌, ◌≤◌, Bool, true, false, List, [], ◌∷◌, ◌++◌, length, take, map, Option, None, Some, Ok, Err, All, refl, sym, ap, ◌∙◌, subst, arith, append_assoc, length-append, ◌⊎◌, inl, inr}
use Rattle.std.specs.Prelude.{if◌then◌else◌, nat_le}
use Rattle.std.proofs.lemmas.Bool.{cases_lt}
use Rattle.std.proofs.lemmas.List.{take_all, take_at, append-nil}
use Rattle.ascii_grid.specs.declared.fault.AsciiFault.{AsciiFault}
use Rattle.ascii_grid.specs.declared.fault.AsciiStop.{AsciiStop}
use Rattle.ascii_grid.specs.declared.fault.AsciiStop.TheVariants.{Fault, Source, OutOfMemory}
use Rattle.ascii_grid.specs.declared.fault.AsciiReason.TheVariants.{Truncated}
use Rattle.ascii_grid.specs.Tokens.{EndsToken, IsBlank, IsDark, TokenAt, limit, seen}
use Rattle.ascii_grid.specs.inside.Reading.{Ahead, Held, Left, TakesNext, begins_dark, tokens_of}
use Rattle.ascii_grid.specs.Tokens.{decided_front, is_decided, shown}
use Rattle.ascii_grid.specs.inside.Steps.{Demanded, NextTaken, Skipped, Skips, Takes, WordTaken}
use Rattle.ascii_grid.specs.inside.Stops.{IsTooLong}
use Rattle.ascii_grid.proofs.TokenLists.{dark_first, not_dark, decided_more, decided_none, is_decided_long, is_decided_not, is_decided_short, none_decided, shown_all, shown_front, spot, step_blank, word_front, word_more}

pub some_length : (xs : List ℕ) → xs ≢ [] → 0 < length xs
some_length [] some = absurd (some refl)
some_length (x ∷ xs) some = omega arith

-- ---- one byte

-- going past the first byte
pub advance : (left : Option (List ℕ)) (w v : Held) (bytes rest : List ℕ) (b : ℕ) → w.bytes ≡ b ∷ rest → v.bytes ≡ rest → Ahead left w bytes → (later : List ℕ) × (Ahead left v later × (bytes ≡ b ∷ later))
advance left w v bytes rest b old new ahead =
    (rest ++ ahead.rest, (record { rest = ahead.rest; told = ahead.told; joined = ap (λ (u : List ℕ). u ++ ahead.rest) (sym new) }, ahead.joined ∙ ap (λ (u : List ℕ). u ++ ahead.rest) old))

-- the first byte of those ahead
first_ahead : (left : Option (List ℕ)) (w : Held) (bytes rest : List ℕ) (b : ℕ) → w.bytes ≡ b ∷ rest → (ahead : Ahead left w bytes) → bytes ≡ b ∷ (rest ++ ahead.rest)
first_ahead left w bytes rest b old ahead = ahead.joined ∙ ap (λ (u : List ℕ). u ++ ahead.rest) old

-- ---- blanks

-- where a text stands behind some blanks
pub record Same (left : Option (List ℕ)) (window : Held) (from : ℕ) (text bytes : List ℕ) : Type 0 where
  pub ahead : Ahead left window bytes
  pub total : window.place + length bytes ≡ from + length text
  pub tokens : tokens_of window.place bytes ≡ tokens_of from text

pub skip_end : (left : Option (List ℕ)) (window : Held) (from : ℕ) (text bytes : List ℕ) → Same left window from text bytes → window.place ≤ limit → bytes ≡ [] → (b : List ℕ) × Skips left window from text b false
skip_end left window from text bytes same within none = (
  bytes,
  record {
    ahead = same.ahead;
    total = same.total;
    tokens = same.tokens;
    within = within;
    dark = ap begins_dark none;
    ends = λ no. none;
  },
)

pub skip_dark : (left : Option (List ℕ)) (window : Held) (from : ℕ) (text bytes rest : List ℕ) (b : ℕ) → Same left window from text bytes → window.place ≤ limit → window.bytes ≡ b ∷ rest → IsDark b → (bs : List ℕ) × Skips left window from text bs true
skip_dark left window from text bytes rest b same within held is = (
  bytes,
  record {
    ahead = same.ahead;
    total = same.total;
    tokens = same.tokens;
    within = within;
    dark = ap begins_dark (first_ahead left window bytes rest b held same.ahead) ∙ dark_first b (rest ++ same.ahead.rest) is;
    ends = λ no. absurd (let bad : ⊥ = cc in bad);
  },
)

pub skip_blank : (left : Option (List ℕ)) (w v : Held) (from : ℕ) (text bytes rest : List ℕ) (b : ℕ) → Same left w from text bytes → w.bytes ≡ b ∷ rest → v.bytes ≡ rest → v.place ≡ w.place + 1 → IsBlank b → (later : List ℕ) × Same left v from text later
skip_blank left w v from text bytes rest b same old new next is =
    let on = advance left w v bytes rest b old new same.ahead in
    let longer : length bytes ≡ suc (length on.0) = ap length on.1.1 in
    let place : v.place ≡ suc w.place = omega (arith, next) in (
      on.0,
      record {
        ahead = on.1.0;
        total = omega (arith, longer, next, same.total);
        tokens = ap (λ (q : ℕ). tokens_of q on.0) place ∙ sym (step_blank w.place b on.0 is) ∙ ap (λ (u : List ℕ). tokens_of w.place u) (sym on.1.1) ∙ same.tokens;
      },
    )

pub skip_stopped : (e : AsciiStop) (left : Option (List ℕ)) (window later : Held) (from place : ℕ) (text bytes : List ℕ) → place ≡ window.place → place + length bytes ≡ from + length text → tokens_of place bytes ≡ tokens_of from text → IsTooLong e (place ≡ limit) bytes
    → Skipped (Err e) left later from text
skip_stopped (Fault f) left window later from place text bytes same total tokens (is, (at, some)) =
    (is, (omega (arith, some_length bytes some, total, at), ap decided_front (sym tokens) ∙ none_decided bytes place (omega (arith, at))))
skip_stopped Source left window later from place text bytes same total tokens told = tt
skip_stopped OutOfMemory left window later from place text bytes same total tokens told = told

-- ---- the bytes of a token

-- where a token's bytes were taken up to here
pub record Word (left : Option (List ℕ)) (window : Held) (from : ℕ) (text word bytes : List ℕ) : Type 0 where
  pub ahead : Ahead left window bytes
  pub joined : text ≡ word ++ bytes

pub word_step : (left : Option (List ℕ)) (w v : Held) (from : ℕ) (text word bytes rest : List ℕ) (b : ℕ) → Word left w from text word bytes → w.bytes ≡ b ∷ rest → v.bytes ≡ rest → (later : List ℕ) × Word left v from text (word ++ b ∷ []) later
word_step left w v from text word bytes rest b is old new =
    let on = advance left w v bytes rest b old new is.ahead in
    (on.0, record { ahead = on.1.0; joined = is.joined ∙ ap (λ (u : List ℕ). word ++ u) on.1.1 ∙ sym (append_assoc word (b ∷ []) on.0) })

pub word_stopped : (e : AsciiStop) (left later : Option (List ℕ)) (window after : Held) (from place : ℕ) (text word bytes : List ℕ) → text ≡ word ++ bytes → All IsDark word → length word < 33 → place ≡ from + length word → IsTooLong e (place ≡ limit) bytes
    → WordTaken (Err e) later after from text word
word_stopped (Fault f) left later window after from place text word bytes joined dark few at (is, (limited, some)) =
    (bytes, record { fault = is; joined = joined; some = some; place = sym at ∙ limited; dark = dark; few = few })
word_stopped Source left later window after from place text word bytes joined dark few at told = tt
word_stopped OutOfMemory left later window after from place text word bytes joined dark few at told = told

pub ends_blank : (left : Option (List ℕ)) (w : Held) (bytes rest : List ℕ) (b : ℕ) → w.bytes ≡ b ∷ rest → IsBlank b → Ahead left w bytes → EndsToken bytes
ends_blank left w bytes rest b held is ahead = subst EndsToken (sym (first_ahead left w bytes rest b held ahead)) is

pub ends_none : (bytes : List ℕ) → bytes ≡ [] → EndsToken bytes
ends_none bytes none = subst EndsToken (sym none) tt

-- ---- a token

-- the first token of a text that goes on with a dark byte has some bytes
word_some : (text word bytes : List ℕ) → text ≡ word ++ bytes → begins_dark text ≡ true → (length word < 33 → EndsToken bytes) → 0 < length word
word_some text [] bytes joined dark ends =
    let no : false ≡ true = sym (not_dark bytes (ends (omega arith))) ∙ ap begins_dark (sym joined) ∙ dark in
    let bad : ⊥ = cc in absurd bad
word_some text (b ∷ word) bytes joined dark ends = omega arith

-- all of a token that is short, or 33 bytes of one: it is shown
token_shown : (total p : ℕ) (word more : List ℕ) (others : List TokenAt) → length word ≤ 33 → (length word < 33 → more ≡ []) → p + length word ≤ limit → (length word < 33 → limit < total → p + length word < limit) → (others' : List TokenAt)
    × ((shown total (spot p (word ++ more) ∷ others) ≡ spot p (word ++ more) ∷ others') × (length word < 33 → others' ≡ shown total others))
token_shown total p word more others few whole within ends = by (cases_lt limit total)
  where
    by : (limit < total) ⊎ (total ≤ limit) → (others' : List TokenAt) × ((shown total (spot p (word ++ more) ∷ others) ≡ spot p (word ++ more) ∷ others') × (length word < 33 → others' ≡ shown total others))
    by (inr short) = (others, (shown_all total (spot p (word ++ more) ∷ others) short, λ less. sym (shown_all total others short)))
    by (inl long) =
        let decided : is_decided (spot p (word ++ more)) ≡ true = elim (cases_lt (length word) 33) [
          | inl less ↦
              let all : word ++ more ≡ word = ap (λ (u : List ℕ). word ++ u) (whole less) ∙ append-nil word in
              is_decided_short (spot p (word ++ more)) (omega (arith, ap length all, ends less long))
          | inr many ↦ is_decided_long (spot p (word ++ more)) (omega (arith, length-append word more)) (omega arith)
        ] in
        (decided_front others, (shown_front total (spot p (word ++ more) ∷ others) long ∙ decided_more (spot p (word ++ more)) others decided, λ less. sym (shown_front total others long)))

shown_none : (total : ℕ) → shown total [] ≡ []
shown_none total = by (nat_le total limit)
  where
    by : (v : Bool) → (if v then [] else decided_front []) ≡ []
    by true = refl
    by false = refl

-- no token is left
pub next_end : (old left : Option (List ℕ)) (w window : Held) (total : ℕ) (tokens : List TokenAt) → (before : Left old w total tokens) → (bytes : List ℕ) × Skips left window w.place before.bytes bytes false → TakesNext left window total tokens None
next_end old left w window total tokens before (bytes, skips) =
    let none : bytes ≡ [] = skips.ends refl in
    let same : tokens_of w.place before.bytes ≡ [] = sym skips.tokens ∙ ap (λ (u : List ℕ). tokens_of window.place u) none in
    let empty : tokens ≡ [] = before.tokens_are ∙ ap (λ (ts : List TokenAt). map seen (shown total ts)) same ∙ ap (λ (ts : List TokenAt). map seen ts) (shown_none total) in
    let place : window.place ≡ total = omega (arith, skips.total, before.total_is, ap length none) in
    subst (λ (ts : List TokenAt). TakesNext left window total ts None) (sym empty) ((omega (arith, skips.within, place), place))

-- no token is decided
pub next_over : (old left : Option (List ℕ)) (w window : Held) (total : ℕ) (tokens : List TokenAt) (e : AsciiStop) → (before : Left old w total tokens) → Skipped (Err e) left window w.place before.bytes → NextTaken (Err e) left window total tokens
next_over old left w window total tokens (Fault f) before (is, (over, none)) =
    let long : limit < total = omega (arith, over, before.total_is) in
    (before.tokens_are ∙ ap (λ (ts : List TokenAt). map seen ts) (shown_front total (tokens_of w.place before.bytes) long ∙ none), (long, is))
next_over old left w window total tokens Source before told = tt
next_over old left w window total tokens OutOfMemory before told = told

pub next_cut : (old mid left : Option (List ℕ)) (w v window : Held) (total : ℕ) (tokens : List TokenAt) (e : AsciiStop) (word : List ℕ) → (before : Left old w total tokens) → (skipped : (bytes : List ℕ) × Skips mid v w.place before.bytes bytes true) → WordTaken (Err e) left window v.place skipped.0 word
    → NextTaken (Err e) left window total tokens
next_cut old mid left w v window total tokens (Fault f) word before (bytes, skips) (behind, cut) =
    let size : length bytes ≡ length (word ++ behind) = ap length cut.joined in
    let long : limit < total = omega (arith, size, length-append word behind, cut.place, some_length behind cut.some, skips.total, before.total_is) in
    let none : decided_front (tokens_of v.place (word ++ behind)) ≡ [] = undecided v.place word behind cut.place cut.dark cut.few in
    let here : decided_front (tokens_of w.place before.bytes) ≡ [] = ap decided_front (sym skips.tokens) ∙ ap (λ (u : List ℕ). decided_front (tokens_of v.place u)) cut.joined ∙ none in
    (before.tokens_are ∙ ap (λ (ts : List TokenAt). map seen ts) (shown_front total (tokens_of w.place before.bytes) long ∙ here), (long, cut.fault))
  where
    undecided : (p : ℕ) (word behind : List ℕ) → p + length word ≡ limit → All IsDark word → length word < 33 → decided_front (tokens_of p (word ++ behind)) ≡ []
    undecided p [] behind at dark few = none_decided behind p (omega (arith, at))
    undecided p (b ∷ word) behind at dark few =
        let first = word_more p (b ∷ word) behind (omega arith) dark in
        let size = length-append (b ∷ word) first.more in
        ap decided_front first.is ∙ decided_none (spot p ((b ∷ word) ++ first.more)) first.others (is_decided_not (spot p ((b ∷ word) ++ first.more)) (omega (arith, size, at)) (λ many. omega (arith, at, few)))
next_cut old mid left w v window total tokens Source word before skipped told = tt
next_cut old mid left w v window total tokens OutOfMemory word before skipped told = told

-- the token of which these bytes were taken
record First (p : ℕ) (text word bytes : List ℕ) : Type 0 where
  more : List ℕ
  others : List TokenAt
  is : tokens_of p text ≡ spot p (word ++ more) ∷ others
  whole : length word < 33 → (more ≡ []) × (others ≡ tokens_of (p + length word) bytes)

first_taken : (p : ℕ) (text word bytes : List ℕ) → text ≡ word ++ bytes → 0 < length word → All IsDark word → (length word < 33 → EndsToken bytes) → First p text word bytes
first_taken p text word bytes joined some dark ends = by (cases_lt (length word) 33)
  where
    by : (length word < 33) ⊎ (33 ≤ length word) → First p text word bytes
    by (inl less) = record {
      more = [];
      others = tokens_of (p + length word) bytes;
      is = ap (λ (u : List ℕ). tokens_of p u) joined ∙ word_front p word bytes some dark (ends less) ∙ ap (λ (u : List ℕ). spot p u ∷ tokens_of (p + length word) bytes) (sym (append-nil word));
      whole = λ l. (refl, refl);
    }
    by (inr many) =
        let first = word_more p word bytes some dark in
        record {
          more = first.more;
          others = first.others;
          is = ap (λ (u : List ℕ). tokens_of p u) joined ∙ first.is;
          whole = λ less. absurd (let no : ⊥ = omega (arith, many, less) in no);
        }

seen_word : (p : ℕ) (word more : List ℕ) → length word ≤ 33 → (length word < 33 → more ≡ []) → seen (spot p (word ++ more)) ≡ spot p word
seen_word p word more few whole = ap (spot p) (by (cases_lt (length word) 33))
  where
    by : (length word < 33) ⊎ (33 ≤ length word) → take 33 (word ++ more) ≡ word
    by (inl less) = ap (λ (u : List ℕ). take 33 (word ++ u)) (whole less) ∙ ap (take 33) (append-nil word) ∙ take_all 33 word few
    by (inr many) = take_at word more 33 (omega (arith, many, few))

-- a token was taken
pub next_word : (old mid left : Option (List ℕ)) (w v window : Held) (total : ℕ) (tokens : List TokenAt) (u : TokenAt) → (before : Left old w total tokens) → (skipped : (bytes : List ℕ) × Skips mid v w.place before.bytes bytes true)
    → u.place ≡ v.place → (bytes : List ℕ) × Takes left window v.place skipped.0 u.bytes bytes → TakesNext left window total tokens (Some u)
next_word old mid left w v window total tokens u before (text, skips) at (bytes, taken) =
    let word = u.bytes in
    let some = word_some text word bytes taken.joined skips.dark (λ less. (taken.ends less).0) in
    let first = first_taken v.place text word bytes taken.joined some taken.dark (λ less. (taken.ends less).0) in
    let size : length text ≡ length word + length bytes = ap length taken.joined ∙ length-append word bytes in
    let sum : window.place + length bytes ≡ total = omega (arith, size, taken.place, skips.total, before.total_is) in
    let early : length word < 33 → limit < total → v.place + length word < limit = λ less long. omega (arith, taken.place, (taken.ends less).1 (λ none. absurd (let no : ⊥ = omega (arith, ap length none, sum, taken.within, long) in no))) in
    let shown_ = token_shown total v.place word first.more first.others taken.few (λ less. (first.whole less).0) (omega (arith, taken.place, taken.within)) early in
    let same : tokens_of w.place before.bytes ≡ spot v.place (word ++ first.more) ∷ first.others = sym skips.tokens ∙ first.is in
    let front : seen (spot v.place (word ++ first.more)) ≡ u = seen_word v.place word first.more taken.few (λ less. (first.whole less).0) ∙ ap (λ (q : ℕ). spot q word) (sym at) in
    let is : tokens ≡ u ∷ map seen shown_.0 = before.tokens_are ∙ ap (λ (ts : List TokenAt). map seen (shown total ts)) same ∙ ap (λ (ts : List TokenAt). map seen ts) shown_.1.0 ∙ ap (λ (x : TokenAt). x ∷ map seen shown_.0) front in
    subst (λ (ts : List TokenAt). TakesNext left window total ts (Some u)) (sym is) ((
      refl,
      λ less. record {
        bytes = bytes;
        ahead = taken.ahead;
        total_is = sum;
        tokens_are = ap (λ (ts : List TokenAt). map seen ts) (shown_.1.1 less ∙ ap (λ (ts : List TokenAt). shown total ts) ((first.whole less).1 ∙ ap (λ (q : ℕ). tokens_of q bytes) (sym taken.place)));
      },
    ))

-- ---- a token that is owed

pub owed_stopped : (left : Option (List ℕ)) (window : Held) (total : ℕ) (tokens : List TokenAt) (e : AsciiStop) → NextTaken (Err e) left window total tokens → Demanded (Err e) left window total tokens
owed_stopped left window total tokens (Fault f) (none, (long, is)) =
    (none, inr ((λ short. let no : ⊥ = omega (arith, long, short) in no), (ap (λ (g : AsciiFault). g.place) is, ap (λ (g : AsciiFault). g.reason) is)))
owed_stopped left window total tokens Source told = tt
owed_stopped left window total tokens OutOfMemory told = told

pub owed_taken : (left : Option (List ℕ)) (window : Held) (total : ℕ) (tokens : List TokenAt) (u : TokenAt) → TakesNext left window total tokens (Some u) → Demanded (Ok u) left window total tokens
owed_taken left window total [] u told = absurd told
owed_taken left window total (t ∷ ts) u (is, next) = (ts, (ap (λ (x : TokenAt). x ∷ ts) (sym is), next))

pub owed_ended : (left : Option (List ℕ)) (window later : Held) (total place : ℕ) (tokens : List TokenAt) (e : AsciiStop) → TakesNext left window total tokens None → place ≡ window.place → e ≡ Fault (record { reason = Truncated; place = place }) → Demanded (Err e) left later total tokens
owed_ended left window later total place [] e (short, at) same is = subst (λ (s : AsciiStop). Demanded (Err s) left later total []) (sym is) ((refl, inl (short, (same ∙ at, refl))))
owed_ended left window later total place (t ∷ ts) e told same is = absurd told
