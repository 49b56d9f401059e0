-- Symbols that are read, and what they leave in the raster.
use Rattle.std.proofs.Common.{◌≡◌, ℕ, pos, ◌+◌, ◌-◌, ◌*◌, ◌<◌, ◌≤◌, ◌≢◌, Bool, List, [], ◌++◌, length, get_or, take, drop, None, refl, sym, ap, ◌∙◌, subst, arith, inl, inr, ◌⊎◌}
use Rattle.std.specs.Prelude.{unwrap_or}
use Rattle.std.proofs.lemmas.Bool.{cases_lt}
use Rattle.std.proofs.lemmas.List.{append_assoc, drop-append-le, drop_at, get_or_past, length-append, length-drop, length-take-le, take-append-drop, take-append-le, take_all, take_rest}
use Rattle.std.proofs.Math.Nat.{mul-le-mul_right}
use Rattle.first_fault.specs.Faults.{moved}
use Rattle.raster_values.specs.Raster.{Pixels, IsRaster}
use Rattle.raster_values.specs.Flat.{value_in}
use Rattle.huff_codes.specs.declared.faults.CodeFault.{CodeFault}
use Rattle.huff_codes.specs.Table.{IsCoding, IsTable, table_faults}
use Rattle.huff_codes.specs.Words.{AreWords, word_faults}
use Rattle.delta_mode.specs.Deltas.{AreDeltas, TakesDeltas, deltas_from, is_valid}
use Rattle.delta_mode.proofs.SymbolLaws.{deltas_as}
use Rattle.lerc_header.specs.declared.header.Header.{Header}
use Rattle.lerc_header.specs.declared.fault.BlobReason.{BlobReason}
use Rattle.lerc_header.specs.declared.fault.BlobReason.TheVariants.{Leftover}
use Rattle.lerc_grammar.specs.Reasons.{code_reason}
use Rattle.lerc_grammar.specs.Codes.{codes_faults, symbols_of}
use Rattle.lerc_decode.specs.inside.Codes.{words_faults}

-- ---- words

pub all_words : (codes : List (List Bool)) (n used : ℕ) (rest symbols : List ℕ) → (used ≤ length rest) × AreWords codes n (take used rest) symbols → length rest ≤ used → AreWords codes n rest symbols
all_words codes n used rest symbols words whole = subst (λ (u : List ℕ). AreWords codes n u symbols) (take_all used rest (omega (arith, whole))) words.1

pub words_left : (codes : List (List Bool)) (n used place : ℕ) (rest symbols : List ℕ) → (used ≤ length rest) × AreWords codes n (take used rest) symbols → used < length rest
    → moved place (words_faults codes n rest) (place + used) Leftover
words_left codes n used place rest symbols words more = (
  used,
  (
    refl,
    inr (record {
      front = take used rest;
      rest = drop used rest;
      value = symbols;
      joined = sym (take-append-drop used rest);
      stands = words.1;
      later = (0, ((let t : used ≡ length (take used rest) + 0 = omega (arith, length-take-le used rest words.0) in t), inr ((λ e. absurd (omega (arith, ap length e, length-drop used rest, more))), (refl, refl))));
    }),
  ),
)

pub words_fault : (codes : List (List Bool)) (n place : ℕ) (rest : List ℕ) (f : CodeFault) → word_faults codes n rest f.at f.reason → moved place (words_faults codes n rest) (place + f.at) (code_reason f.reason)
words_fault codes n place rest f w = (f.at, (refl, inl (f.reason, (w, refl))))

-- ---- a table and words

-- a table of these codes takes so many bytes
abbrev TableOf : List ℕ → ℕ → List (List Bool) → Type 0
TableOf rest used codes = (used ≤ length rest) × IsTable (take used rest) codes

pub coding_read : (n used : ℕ) (rest symbols : List ℕ) (codes : List (List Bool)) → TableOf rest used codes → AreWords codes n (take (length rest - used) (drop used rest)) symbols → IsCoding n rest symbols
coding_read n used rest symbols codes t w = record {
  front = take used rest;
  rest = drop used rest;
  value = codes;
  joined = sym (take-append-drop used rest);
  stands = t.1;
  follows = subst (λ (u : List ℕ). AreWords codes n u symbols) (take_rest rest used) w;
}

pub table_fault : (n place : ℕ) (rest : List ℕ) (f : CodeFault) → table_faults rest f.at f.reason → moved place (codes_faults n rest) (place + f.at) (code_reason f.reason)
table_fault n place rest f w = (f.at, (refl, inl (f.reason, (inl w, refl))))

later_fault : (n used p : ℕ) (rest : List ℕ) (r : BlobReason) (codes : List (List Bool)) → TableOf rest used codes → words_faults codes n (drop used rest) p r → codes_faults n rest (used + p) r
later_fault n used p rest r codes t (inl (why, (w, e))) =
    inl (
      why,
      (
        inr (record { front = take used rest; rest = drop used rest; value = codes; joined = sym (take-append-drop used rest); stands = t.1; later = (p, (ap (λ k. k + p) (sym (length-take-le used rest t.0)), w)) }),
        e,
      ),
    )
later_fault n used p rest r codes t (inr s) =
    inr (record {
      front = take used rest ++ s.front;
      rest = s.rest;
      value = s.value;
      joined = sym (take-append-drop used rest) ∙ ap (λ (u : List ℕ). take used rest ++ u) s.joined ∙ sym (append_assoc (take used rest) s.front s.rest);
      stands = record { front = take used rest; rest = s.front; value = codes; joined = refl; stands = t.1; follows = s.stands };
      later = (s.later.0, (omega (arith, s.later.1.0, length-append (take used rest) s.front, length-take-le used rest t.0), s.later.1.1));
    })

pub coding_fault : (n used place p : ℕ) (rest : List ℕ) (r : BlobReason) (codes : List (List Bool)) → TableOf rest used codes
    → moved (place + used) (words_faults codes n (take (length rest - used) (drop used rest))) p r → moved place (codes_faults n rest) p r
coding_fault n used place p rest r codes t (q, (e, w)) =
    (used + q, (omega (arith, e), later_fault n used q rest r codes t (subst (λ (u : List ℕ). words_faults codes n u q r) (take_rest rest used) w)))

-- ---- depths

value_past : (r : Pixels) (d k : ℕ) → length r.pixels ≤ k → value_in r d k ≡ pos 0
value_past r d k past = ap (λ p. get_or (unwrap_or p []) d (pos 0)) (get_or_past r.pixels k None past)

same_values : (old new : Pixels) (d e : ℕ) (symbols : List ℕ) → IsRaster old → IsRaster new → TakesDeltas old new d symbols → e < old.depth → e ≢ d → (k : ℕ) → value_in new e k ≡ value_in old e k
same_values old new d e symbols was is t low other k = which (cases_lt k (old.rows * old.cols))
  where
    which : (k < old.rows * old.cols) ⊎ (old.rows * old.cols ≤ k) → value_in new e k ≡ value_in old e k
    which (inl below) = t.rest k e below low other
    which (inr past) =
        let sizes : old.rows * old.cols ≡ new.rows * new.cols = λ i. t.same.shape.rows i * t.same.shape.cols i in
        value_past new e k (omega (arith, is.places, sizes, past)) ∙ sym (value_past old e k (omega (arith, was.places, past)))

pub other_depth : (old new : Pixels) (d e : ℕ) (symbols xs : List ℕ) → IsRaster old → IsRaster new → TakesDeltas old new d symbols → e < old.depth → e ≢ d → AreDeltas old e xs → AreDeltas new e xs
other_depth old new d e symbols xs was is t low other stands =
    let same : value_in old e ≡ value_in new e = λ i k. sym (same_values old new d e symbols was is t low other k) i in
    stands ∙ ap (λ v. deltas_from old.kind old.cols (is_valid old) v 0 (old.rows * old.cols)) same ∙ deltas_as old new e was is t.same

-- one depth more has its symbols
pub next_depths : (h : Header) (old new : Pixels) (symbols : List ℕ) (d at : ℕ) → IsRaster old → IsRaster new → d < h.depth → h.depth ≡ old.depth → at ≡ d * h.valid
    → TakesDeltas old new d (take (at + h.valid - at) (drop at symbols)) → ((e : ℕ) → e < d → AreDeltas old e (symbols_of h symbols e)) → (e : ℕ) → e < d + 1 → AreDeltas new e (symbols_of h symbols e)
next_depths h old new symbols d at was is low deep at_is t before e below = which (cases_lt e d)
  where
    which : (e < d) ⊎ (d ≤ e) → AreDeltas new e (symbols_of h symbols e)
    which (inl less) =
        other_depth old new d e (take (at + h.valid - at) (drop at symbols)) (symbols_of h symbols e) was is t (omega (arith, less, low, deep)) (λ same. absurd (omega (arith, same, less))) (before e less)
    which (inr more) =
        let same : e ≡ d = omega (arith, more, below) in
        let here : take (at + h.valid - at) (drop at symbols) ≡ symbols_of h symbols d =
        ap (λ n. take n (drop at symbols)) (let s : at + h.valid - at ≡ h.valid = omega arith in s) ∙ ap (λ n. take h.valid (drop n symbols)) at_is in
        subst (λ k. AreDeltas new k (symbols_of h symbols k)) (sym same) (subst (AreDeltas new d) here t.taken)

-- ---- depths that come one after the other

-- the symbols of a depth that is there are left when the ones below it have come
pub depth_room : (d depth valid left all : ℕ) → d < depth → left + d * valid ≡ all → valid * depth ≤ all → valid ≤ left
depth_room d depth valid left all below now fits =
    let more : (d + 1) * valid ≤ depth * valid = mul-le-mul_right valid (omega arith) in
    let next : (d + 1) * valid ≡ d * valid + valid = omega arith in
    omega (arith, more, next, now, fits)

-- the symbols of a depth that came stay when more come
pub first_symbols : (h : Header) (symbols more : List ℕ) (d e : ℕ) → length symbols ≡ d * h.valid → e < d → symbols_of h (symbols ++ more) e ≡ symbols_of h symbols e
first_symbols h symbols more d e long below =
    let up : (e + 1) * h.valid ≤ d * h.valid = mul-le-mul_right h.valid (omega arith) in
    let next : (e + 1) * h.valid ≡ e * h.valid + h.valid = omega arith in
    ap (take h.valid) (drop-append-le (e * h.valid) symbols more (omega (arith, up, next, long)))
    ∙ take-append-le h.valid (drop (e * h.valid) symbols) more (omega (arith, up, next, long, length-drop (e * h.valid) symbols))

-- those that come are the next depth's
pub last_symbols : (symbols more : List ℕ) (at n : ℕ) → length symbols ≡ at → length more ≡ n → more ≡ take (at + n - at) (drop at (symbols ++ more))
last_symbols symbols more at n long count =
    sym (ap (take (at + n - at)) (drop_at symbols more at long) ∙ take_all (at + n - at) more (omega (arith, count)))
