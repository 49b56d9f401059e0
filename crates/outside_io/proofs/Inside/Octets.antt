-- Lists of bytes.
use Rattle.std.proofs.Common.{◌≡◌, inl, inr, refl, ℕ, suc, ◌+◌, ◌-◌, ◌<◌, min, List, [], ◌∷◌, ◌++◌, length, get_or, take, drop, map, Option, Some, None, sym, ◌∙◌, ap, arith}
use Rattle.std.proofs.lemmas.List.{places, get_or_default, get_or_past}
use Rattle.std.proofs.lemmas.Bool.{cases_lt}
use Rattle.outside_io.specs.declared.volume.VolFile.{VolFile}
use Rattle.outside_io.specs.declared.volume.call_log.Call.{Call}
use Rattle.outside_io.specs.volume.Disk.{AreBytes}
use Rattle.outside_io.specs.volume.Recorded.{clean, Effect}
use Rattle.outside_io.specs.volume.Sparse.{as_byte, byte_at, byte_over}
use Rattle.outside_io.specs.inside.Effects.{place_in, effect, effects, with_piece, written_pieces}
use Rattle.outside_io.proofs.Inside.Pieces.{over_at, over_before}

pub octets-append : (a b : List ℕ) → AreBytes a → AreBytes b → AreBytes (a ++ b)
octets-append a b firsts seconds i less = elim (cases_lt i (length a)) [
  | inl first ↦
      let same : get_or (a ++ b) i 0 ≡ get_or a i 0 = grind (arith, places) in
      omega (arith, same, firsts i first)
  | inr second ↦
      let same : get_or (a ++ b) i 0 ≡ get_or b (i - length a) 0 = grind (arith, places) in
      let within : i - length a < length b = grind (arith, places) in
      omega (arith, same, seconds (i - length a) within)
]

pub octets-part : (l : List ℕ) (n m : ℕ) → AreBytes l → AreBytes (take n (drop m l))
octets-part l n m octets i less =
    let same : get_or (take n (drop m l)) i 0 ≡ get_or l (m + i) 0 = grind (arith, places) in
    let within : m + i < length l = grind (arith, places) in
    omega (arith, same, octets (m + i) within)

byte_is : (b : ℕ) → b < 256 → min b 255 ≡ b
byte_is b small = omega arith

pub map-as_byte : (l : List ℕ) → AreBytes l → map as_byte l ≡ l
map-as_byte [] octets = refl
map-as_byte (x ∷ l) octets =
    ap (λ (b : ℕ). b ∷ map as_byte l) (byte_is x (octets 0 (omega arith)))
    ∙ ap (λ (m : List ℕ). x ∷ m) (map-as_byte l (λ i less. octets (suc i) (omega arith)))

-- the record of a volume whose written bytes are bytes
pub clean_effects : (written : List ℕ) (cs : List Call) → AreBytes written → map clean (effects written cs) ≡ effects written cs
clean_effects written [] octets = refl
clean_effects written (c ∷ cs) octets =
    ap (λ (b : List ℕ). (let s : Effect = record { ask = c.ask; bytes = b } in s) ∷ map clean (effects written cs)) (map-as_byte (take c.count (drop c.from written)) (octets-part written c.count c.from octets))
    ∙ ap (λ (ss : List Effect). effect written c ∷ ss) (clean_effects written cs octets)

as_byte-over : (at : ℕ) (bytes : List ℕ) (i below : ℕ) → AreBytes bytes → as_byte (byte_over at bytes i below) ≡ byte_over at bytes i (as_byte below)
as_byte-over at bytes i below octets = elim (cases_lt i at) [
  | inl before ↦ ap as_byte (over_before at i below bytes before) ∙ sym (over_before at i (as_byte below) bytes before)
  | inr from ↦ ap as_byte (over_at at i below bytes from) ∙ inner ∙ sym (over_at at i (as_byte below) bytes from)
]
  where
    inner : as_byte (get_or bytes (i - at) below) ≡ get_or bytes (i - at) (as_byte below)
    inner = elim (cases_lt (i - at) (length bytes)) [
      | inl inside ↦
          ap as_byte (get_or_default bytes (i - at) below 0 inside)
          ∙ byte_is (get_or bytes (i - at) 0) (octets (i - at) inside)
          ∙ get_or_default bytes (i - at) 0 (as_byte below) inside
      | inr past ↦ ap as_byte (get_or_past bytes (i - at) below past) ∙ sym (get_or_past bytes (i - at) (as_byte below) past)
    ]

as_byte-with_piece : (o : Option ℕ) (part : List ℕ) (rest : List (ℕ × List ℕ)) → AreBytes part → ((i below : ℕ) → as_byte (byte_at rest i below) ≡ byte_at rest i (as_byte below))
    → (i below : ℕ) → as_byte (byte_at (with_piece o part rest) i below) ≡ byte_at (with_piece o part rest) i (as_byte below)
as_byte-with_piece None part rest octets each i below = each i below
as_byte-with_piece (Some at) part rest octets each i below = each i (byte_over at part i below) ∙ ap (byte_at rest i) (as_byte-over at part i below octets)

-- what was written lies over a byte as over the number
pub as_byte-written : (file : VolFile) (written : List ℕ) (cs : List Call) (i below : ℕ) → AreBytes written
    → as_byte (byte_at (written_pieces file (effects written cs)) i below) ≡ byte_at (written_pieces file (effects written cs)) i (as_byte below)
as_byte-written file written [] i below octets = refl
as_byte-written file written (c ∷ cs) i below octets =
    as_byte-with_piece (place_in c.ask file) (take c.count (drop c.from written)) (written_pieces file (effects written cs)) (octets-part written c.count c.from octets)
    (λ j b. as_byte-written file written cs j b octets) i below
