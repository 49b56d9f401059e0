-- What bytes tell, noted symbol by symbol: what is noted stays, since no code is the front of another.
use Rattle.std.proofs.Common.{◌≡◌, ℕ, ◌+◌, ◌-◌, ◌*◌, ◌/◌, ◌%◌, ◌^◌, ◌<◌, ◌≤◌, ◌⊎◌, Bool, List, [], ◌∷◌, ◌++◌, length, get_or, take, drop, sym, ap, ◌∙◌, subst, inl, inr, arith}
use Rattle.std.specs.Prelude.{replicate}
use Rattle.std.proofs.lemmas.Bool.{cases_lt, cases_eq}
use Rattle.std.proofs.lemmas.List.{length-append, length-replicate, length-take-le, take-take, take-append-drop, take_at, get_or_append_left, get_or-append_right, get_or-take, get_or-drop, get_or-replicate, append-nil}
use Rattle.std.proofs.lemmas.Nat.{pow-add, pow_pos, shr_high, shr_below, shr_split, mod_low}
use Rattle.std.proofs.Math.Nat.{mod-lt, mod-eq_of_lt}
use borrow.Rule.Slice.PartMut.{put_mid}
use Rattle.huff_codes.specs.Bits.{bits_of, BeginsWith}
use Rattle.huff_codes.specs.Codes.{HasCode, IsPrefixFree, code_at}
use Rattle.huff_codes.specs.Prefixes.{ArePrefixes, IsLook}
use Rattle.huff_codes.specs.declared.codes.Code.{Code}
use Rattle.huff_codes.specs.declared.words.prefixes.Look.{Look}
use Rattle.huff_codes.specs.declared.words.prefixes.Look.TheVariants.{Symbol, Longer, Nothing}
use Rattle.huff_codes.specs.inside.Noted.{Tells, IsNoted, AreNotedBelow}
use Rattle.huff_codes.specs.inside.Spans.{IsLaid}
use Rattle.huff_codes.specs.inside.Stored.{code_bits}
use Rattle.huff_codes.proofs.BitLists.{length-bits, take-bits, same_from_bits}
use Rattle.huff_codes.proofs.Decided.{coded_below}
use Rattle.huff_codes.proofs.Held.{code_bits-is, length-code_bits}
use Rattle.huff_codes.proofs.Prefixed.{look_symbol, look_longer, look_nothing, no_longer}
use Rattle.huff_codes.proofs.Spans.{in_span}

-- ---- a code and the bits of a byte

-- the first byte that a code of at most eight bits stands in front of
from_is : (c : Code) → IsLaid c → 0 < c.length → c.length ≤ 8 → c.bits / 2 ^ 24 ≡ c.bits / 2 ^ (32 - c.length) * 2 ^ (8 - c.length)
from_is c laid some low =
    let j = 8 - c.length in
    let q = c.bits / 2 ^ (32 - c.length) in
    let sum : 32 - c.length ≡ j + 24 = omega arith in
    let whole : c.bits ≡ q * 2 ^ (32 - c.length) = omega (arith, shr_split c.bits (32 - c.length), laid.aligned some) in
    let split : c.bits ≡ (q * 2 ^ j) * 2 ^ 24 + 0 = omega (arith, whole, ap (λ (k : ℕ). q * 2 ^ k) sum, ap (λ (x : ℕ). q * x) (pow-add 2 j 24)) in
    ap (λ (x : ℕ). x / 2 ^ 24) split ∙ shr_high (q * 2 ^ j) 24 0 (pow_pos 24)

top_below : (c : Code) → IsLaid c → c.bits / 2 ^ (32 - c.length) < 2 ^ c.length
top_below c laid =
    let sum : c.length + (32 - c.length) ≡ 32 = omega (arith, laid.low) in
    shr_below c.bits c.length (32 - c.length) (rw sum laid.fits)

pub run_within : (c : Code) → IsLaid c → 0 < c.length → c.length ≤ 8 → c.bits / 2 ^ 24 + 2 ^ (8 - c.length) ≤ 256
run_within c laid some low =
    let l = c.length in
    let j = 8 - l in
    let q = c.bits / 2 ^ (32 - l) in
    let eight : l + j ≡ 8 = omega arith in
    let pow : 2 ^ l * 2 ^ j ≡ 256 = sym (pow-add 2 l j) ∙ ap (λ (k : ℕ). 2 ^ k) eight in
    let le : (q + 1) * 2 ^ j ≤ 2 ^ l * 2 ^ j = mul_le (q + 1) (2 ^ l) (2 ^ j) (omega (arith, top_below c laid)) in
    omega (arith, from_is c laid some low, pow, le)
  where
    mul_le : (a b x : ℕ) → a ≤ b → a * x ≤ b * x
    mul_le a b x h = grind arith

short_front_in : (c : Code) (b : ℕ) → IsLaid c → 0 < c.length → c.length ≤ 8 → c.bits / 2 ^ 24 ≤ b → b < c.bits / 2 ^ 24 + 2 ^ (8 - c.length) → BeginsWith (bits_of 8 b) (code_bits c)
short_front_in c b laid some low le lt =
    let l = c.length in
    let j = 8 - l in
    let q = c.bits / 2 ^ (32 - l) in
    let from = c.bits / 2 ^ 24 in
    let multiple : from ≡ q * 2 ^ j + 0 = omega (arith, from_is c laid some low) in
    let aligned : from % 2 ^ j ≡ 0 = ap (λ (x : ℕ). x % 2 ^ j) multiple ∙ mod_low q j 0 (pow_pos j) in
    let top : b / 2 ^ j ≡ q = in_span j from b aligned le lt ∙ ap (λ (x : ℕ). x / 2 ^ j) multiple ∙ shr_high q j 0 (pow_pos j) in
    let front : take l (bits_of 8 b) ≡ code_bits c = take-bits l 8 b low ∙ ap (bits_of l) top ∙ sym (take-bits l 32 c.bits laid.low) ∙ sym (code_bits-is c) in
    (drop l (bits_of 8 b), sym (take-append-drop l (bits_of 8 b)) ∙ ap (λ (bs : List Bool). bs ++ drop l (bits_of 8 b)) front)

short_front_out : (c : Code) (b : ℕ) → IsLaid c → 0 < c.length → c.length ≤ 8 → b < 256 → BeginsWith (bits_of 8 b) (code_bits c) → (c.bits / 2 ^ 24 ≤ b) × (b < c.bits / 2 ^ 24 + 2 ^ (8 - c.length))
short_front_out c b laid some low small (rest, e) =
    let l = c.length in
    let j = 8 - l in
    let q = c.bits / 2 ^ (32 - l) in
    let fronts : bits_of l (b / 2 ^ j) ≡ bits_of l q = sym (take-bits l 8 b low) ∙ ap (take l) e ∙ take_at (code_bits c) rest l (length-code_bits c laid.low) ∙ code_bits-is c ∙ take-bits l 32 c.bits laid.low in
    let eight : l + j ≡ 8 = omega arith in
    let b_lt : b / 2 ^ j < 2 ^ l = shr_below b l j (rw eight small) in
    let same : b / 2 ^ j ≡ q = sym (mod-eq_of_lt b_lt) ∙ same_from_bits l (b / 2 ^ j) q fronts ∙ mod-eq_of_lt (top_below c laid) in
    let up : b / 2 ^ j * 2 ^ j ≡ q * 2 ^ j = ap (λ (x : ℕ). x * 2 ^ j) same in
    let low_b = mod-lt b (pow_pos j) in
    (omega (arith, from_is c laid some low, up, shr_split b j), omega (arith, from_is c laid some low, up, shr_split b j, low_b))

long_front : (c : Code) → 8 < c.length → take 8 (code_bits c) ≡ bits_of 8 (c.bits / 2 ^ 24)
long_front c long = ap (take 8) (code_bits-is c) ∙ take-take 8 c.length (bits_of 32 c.bits) (omega (arith, long)) ∙ take-bits 8 32 c.bits (omega arith)

long_in : (c : Code) → 8 < c.length → BeginsWith (code_bits c) (bits_of 8 (c.bits / 2 ^ 24))
long_in c long = (drop 8 (code_bits c), sym (take-append-drop 8 (code_bits c)) ∙ ap (λ (bs : List Bool). bs ++ drop 8 (code_bits c)) (long_front c long))

pub first_below : (c : Code) → IsLaid c → c.bits / 2 ^ 24 < 256
first_below c laid = shr_below c.bits 8 24 laid.fits

long_out : (c : Code) (b : ℕ) → IsLaid c → 8 < c.length → b < 256 → BeginsWith (code_bits c) (bits_of 8 b) → b ≡ c.bits / 2 ^ 24
long_out c b laid long small (rest, e) =
    let first = c.bits / 2 ^ 24 in
    let bits : bits_of 8 b ≡ bits_of 8 first = sym (take_at (bits_of 8 b) rest 8 (length-bits 8 b)) ∙ ap (take 8) (sym e) ∙ long_front c long in
    sym (mod-eq_of_lt small) ∙ same_from_bits 8 b first bits ∙ mod-eq_of_lt (first_below c laid)

-- ---- one symbol more

has_code : (codes : List (List Bool)) (c : Code) (s : ℕ) → IsLaid c → 0 < c.length → code_at codes s ≡ code_bits c → HasCode codes s
has_code codes c s laid some is = omega (arith, some, ap length is, length-code_bits c laid.low)

short_out : (codes : List (List Bool)) (c : Code) (s b : ℕ) → IsLaid c → 0 < c.length → c.length ≤ 8 → code_at codes s ≡ code_bits c → b < 256
    → ((c.bits / 2 ^ 24 ≤ b) × (b < c.bits / 2 ^ 24 + 2 ^ (8 - c.length)) → ⊥) → Tells codes b s → ⊥
short_out codes c s b laid some low is small out tells = out (short_front_out c b laid some low small (front tells.meets))
  where
    whole : (rest : List Bool) → code_bits c ≡ bits_of 8 b ++ rest → BeginsWith (bits_of 8 b) (code_bits c)
    whole [] e = ([], sym (append-nil (bits_of 8 b)) ∙ sym e ∙ sym (append-nil (code_bits c)))
    whole (x ∷ rest) e =
        let size : length (code_bits c) ≡ length (bits_of 8 b) + length (x ∷ rest) = ap length e ∙ length-append (bits_of 8 b) (x ∷ rest) in
        absurd (omega (arith, size, length-bits 8 b, length-code_bits c laid.low, low))

    front : BeginsWith (bits_of 8 b) (code_at codes s) ⊎ BeginsWith (code_at codes s) (bits_of 8 b) → BeginsWith (bits_of 8 b) (code_bits c)
    front (inl h) = subst (BeginsWith (bits_of 8 b)) is h
    front (inr h) = whole h.0 (sym is ∙ h.1)

pub short_noted : (codes : List (List Bool)) (c : Code) (s b : ℕ) (old new : Look) → IsLaid c → 0 < c.length → c.length ≤ 8 → IsPrefixFree codes → code_at codes s ≡ code_bits c → b < 256
    → ((c.bits / 2 ^ 24 ≤ b) → (b < c.bits / 2 ^ 24 + 2 ^ (8 - c.length)) → new ≡ Symbol s c.length)
    → (((c.bits / 2 ^ 24 ≤ b) × (b < c.bits / 2 ^ 24 + 2 ^ (8 - c.length)) → ⊥) → new ≡ old)
    → IsNoted codes s b old new
short_noted codes c s b old new laid some low free is small inside outside =
    elim (cases_lt b (c.bits / 2 ^ 24)) [
      | inl under ↦ let out : (c.bits / 2 ^ 24 ≤ b) × (b < c.bits / 2 ^ 24 + 2 ^ (8 - c.length)) → ⊥ = λ h. omega (arith, under, h.0) in inr (short_out codes c s b laid some low is small out, outside out)
      | inr above ↦ elim (cases_lt b (c.bits / 2 ^ 24 + 2 ^ (8 - c.length))) [
        | inl lt ↦
            let front : BeginsWith (bits_of 8 b) (code_at codes s) = subst (BeginsWith (bits_of 8 b)) (sym is) (short_front_in c b laid some low above lt) in
            let coded : HasCode codes s = has_code codes c s laid some is in
            let takes : c.length ≡ length (code_at codes s) = sym (ap length is ∙ length-code_bits c laid.low) in
            inl (record { coded = coded; meets = inl front }, subst (IsLook codes b) (sym (inside above lt)) (look_symbol codes b s c.length free (record { coded = coded; front = front; takes = takes })))
        | inr past ↦ let out : (c.bits / 2 ^ 24 ≤ b) × (b < c.bits / 2 ^ 24 + 2 ^ (8 - c.length)) → ⊥ = λ h. omega (arith, past, h.1) in inr (short_out codes c s b laid some low is small out, outside out)
      ]
    ]

pub long_noted : (codes : List (List Bool)) (c : Code) (s b : ℕ) (old new : Look) → IsLaid c → 8 < c.length → IsPrefixFree codes → code_at codes s ≡ code_bits c → b < 256
    → (b ≡ c.bits / 2 ^ 24 → new ≡ Longer) → ((b ≡ c.bits / 2 ^ 24 → ⊥) → new ≡ old) → IsNoted codes s b old new
long_noted codes c s b old new laid long free is small here there =
    let coded : HasCode codes s = has_code codes c s laid (omega (arith, long)) is in
    let size : length (code_at codes s) ≡ c.length = ap length is ∙ length-code_bits c laid.low in
    elim (cases_eq b (c.bits / 2 ^ 24)) [
      | inl same ↦
          let begins : BeginsWith (code_at codes s) (bits_of 8 b) = subst (λ (k : ℕ). BeginsWith (code_at codes s) (bits_of 8 k)) (sym same) (subst (λ (bs : List Bool). BeginsWith bs (bits_of 8 (c.bits / 2 ^ 24))) (sym is) (long_in c long)) in
          inl (
            record { coded = coded; meets = inr begins },
            subst (IsLook codes b) (sym (here same))
                (look_longer codes b (λ t has front. no_longer codes b t free has front (s, (omega (arith, size, long), begins))) (s, (coded, begins))),
          )
      | inr other ↦ inr (λ tells. out other tells.meets, there other)
    ]
  where
    out : (b ≡ c.bits / 2 ^ 24 → ⊥) → BeginsWith (bits_of 8 b) (code_at codes s) ⊎ BeginsWith (code_at codes s) (bits_of 8 b) → ⊥
    out other (inl h) =
        let size : length (bits_of 8 b) ≡ length (code_at codes s) + length h.0 = ap length h.1 ∙ length-append (code_at codes s) h.0 in
        omega (arith, size, length-bits 8 b, ap length is, length-code_bits c laid.low, long)
    out other (inr h) = other (long_out c b laid long small (h.0, sym is ∙ h.1))

pub none_noted : (codes : List (List Bool)) (c : Code) (s b : ℕ) (look : Look) → IsLaid c → c.length ≡ 0 → code_at codes s ≡ code_bits c → IsNoted codes s b look look
none_noted codes c s b look laid none is = inr (λ tells. omega (arith, tells.coded, ap length is, length-code_bits c laid.low, none), λ i. look)

-- ---- all of them

pub noted_none : (codes : List (List Bool)) (looks : List Look) → ((b : ℕ) → b < 256 → get_or looks b Nothing ≡ Nothing) → AreNotedBelow codes 0 looks
noted_none codes looks empty b lt = inr (empty b lt, λ t under. absurd (omega (arith, under)))

pub noted_more : (codes : List (List Bool)) (s : ℕ) (old new : List Look) → AreNotedBelow codes s old → ((b : ℕ) → b < 256 → IsNoted codes s b (get_or old b Nothing) (get_or new b Nothing)) → AreNotedBelow codes (s + 1) new
noted_more codes s old new before noted b lt = elim (noted b lt) [
  | inl now ↦ inl now.1
  | inr same ↦ elim (before b lt) [
    | inl told ↦ inl (subst (IsLook codes b) (sym same.1) told)
    | inr untold ↦ inr (
      same.1 ∙ untold.0,
      λ t under tells. elim (cases_eq t s) [
        | inl is ↦ same.0 (subst (Tells codes b) is tells)
        | inr other ↦ untold.1 t (omega (arith, under, other)) tells
      ],
    )
  ]
]

pub noted_all : (codes : List (List Bool)) (looks : List Look) → length codes ≡ 256 → length looks ≡ 256 → AreNotedBelow codes 256 looks → ArePrefixes codes looks
noted_all codes looks size room noted = record {
  size = room;
  each = λ b lt. elim (noted b lt) [
    | inl told ↦ told
    | inr untold ↦ subst (IsLook codes b) (sym untold.0)
        (look_nothing codes b (λ t coded front. untold.1 t (coded_below codes t size coded) (record { coded = coded; meets = inl front }))
        (λ begun. untold.1 begun.0 (coded_below codes begun.0 size begun.1.0) (record { coded = begun.1.0; meets = inr begun.1.1 })))
  ];
}

-- ---- a run of entries

pub run_at : (looks : List Look) (from n b : ℕ) (look : Look) → from + n ≤ length looks → from ≤ b → b < from + n → get_or (put_mid from n looks (replicate n look)) b Nothing ≡ look
run_at looks from n b look room le lt =
    let front : length (take from looks) ≡ from = length-take-le from looks (omega (arith, room)) in
    get_or-append_right (take from looks) (replicate n look ++ drop n (drop from looks)) from b Nothing front le
    ∙ get_or_append_left (replicate n look) (drop n (drop from looks)) Nothing (b - from) (omega (arith, le, lt, length-replicate n look))
    ∙ get_or-replicate n (b - from) look Nothing (omega (arith, le, lt))

pub run_beside : (looks : List Look) (from n b : ℕ) (look : Look) → from + n ≤ length looks → ((from ≤ b) × (b < from + n) → ⊥) → get_or (put_mid from n looks (replicate n look)) b Nothing ≡ get_or looks b Nothing
run_beside looks from n b look room out =
    let front : length (take from looks) ≡ from = length-take-le from looks (omega (arith, room)) in
    elim (cases_lt b from) [
      | inl under ↦ get_or_append_left (take from looks) (replicate n look ++ drop n (drop from looks)) Nothing b (omega (arith, under, front)) ∙ get_or-take from looks b Nothing under
      | inr above ↦
          let past : from + n ≤ b = elim (cases_lt b (from + n)) [ inl lt ↦ absurd (out (above, lt)) | inr ge ↦ ge ] in
          let back : n + (b - from - n) ≡ b - from = omega (arith, past) in
          let whole : from + (b - from) ≡ b = omega (arith, past) in
          get_or-append_right (take from looks) (replicate n look ++ drop n (drop from looks)) from b Nothing front above
          ∙ get_or-append_right (replicate n look) (drop n (drop from looks)) n (b - from) Nothing (length-replicate n look) (omega (arith, past))
          ∙ get_or-drop n (drop from looks) (b - from - n) Nothing
          ∙ ap (λ (k : ℕ). get_or (drop from looks) k Nothing) back
          ∙ get_or-drop from looks (b - from) Nothing
          ∙ ap (λ (k : ℕ). get_or looks k Nothing) whole
    ]
