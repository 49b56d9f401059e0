-- The fields of an `LGA1`, taken one behind the other.
use Rattle.std.proofs.Common.{◌≡◌, ℕ, ℤ, suc, ◌+◌, ◌<◌, ◌≤◌, w64, List, [], ◌∷◌, ◌++◌, length, take, drop, All, Option, None, Some, refl, sym, ap, ◌∙◌, subst, arith, inl, inr, append_assoc, length-append}
use Rattle.std.specs.Prelude.{unsigned_abs}
use Rattle.std.specs.Int.{cast_signed}
use Rattle.std.proofs.lemmas.List.{length-drop, length-take-le, take_at}
use Rattle.std.proofs.lemmas.Int.{ints}
use Rattle.byteorder.specs.Endian.{little_number, twos_complement}
use Rattle.first_fault.specs.Faults.{Faults, ends, in_order, moved, none, wrong}
use Rattle.outside_io.specs.streams.Source.{IsAtEnd, TakesFront}
use Rattle.raster_grids.specs.Taken.{TookBytes}
use Rattle.ascii_grid.specs.declared.fault.AsciiFault.{AsciiFault}
use Rattle.ascii_grid.specs.declared.fault.AsciiReason.{AsciiReason}
use Rattle.ascii_grid.specs.declared.fault.AsciiReason.TheVariants.{BadNumber, BadText, Leftover, Truncated}
use Rattle.ascii_grid.specs.declared.fault.AsciiStop.{AsciiStop}
use Rattle.ascii_grid.specs.declared.fault.AsciiStop.TheVariants.{Fault, Source, OutOfMemory}
use Rattle.ascii_grid.specs.Head.{IsText, IsTextByte}
use Rattle.ascii_grid.specs.Lga.{IsNodataField, IsTextField, IsTextLength, cut, field_faults, nodata_faults, nodata_in, text_field_faults}
use Rattle.ascii_grid.specs.inside.Fields.{Tells, TookField, TookPart, short_faults}

-- ---- what is told

pub tells_source : (faults : List ℕ → Faults AsciiReason) (old : Option (List ℕ)) (at : ℕ) → Tells faults old at Source
tells_source faults None at = tt
tells_source faults (Some left) at = tt

pub tells_memory : (faults : List ℕ → Faults AsciiReason) (old : Option (List ℕ)) (at : ℕ) → Tells faults old at OutOfMemory
tells_memory faults None at = tt
tells_memory faults (Some left) at = tt

-- where bytes were taken, what is wrong first is said of these and of what is left
pub tells : (faults : List ℕ → Faults AsciiReason) (old new : Option (List ℕ)) (at p : ℕ) (f : AsciiFault) (bytes : List ℕ) → TookBytes old new bytes → f.place ≡ at + p
    → ((rest : List ℕ) → new ≡ Some rest → faults (bytes ++ rest) p f.reason) → Tells faults old at (Fault f)
tells faults None new at p f bytes took is go = tt
tells faults (Some left) new at p f bytes (rest, (joined, then)) is go = (p, (is, subst (λ (xs : List ℕ). faults xs p f.reason) (sym joined) (go rest then)))

-- other faults, where these are among them
pub tells_as : (faults others : List ℕ → Faults AsciiReason) (old : Option (List ℕ)) (at : ℕ) (stop : AsciiStop) → ((bytes : List ℕ) (p : ℕ) (r : AsciiReason) → faults bytes p r → others bytes p r)
    → Tells faults old at stop → Tells others old at stop
tells_as faults others None at stop go h = tt
tells_as faults others (Some left) at Source go h = tt
tells_as faults others (Some left) at OutOfMemory go h = tt
tells_as faults others (Some left) at (Fault f) go h = (h.0, (h.1.0, go left h.0 f.reason h.1.1))

-- faults behind bytes that were taken
pub tells_behind : (behind faults : List ℕ → Faults AsciiReason) (old mid : Option (List ℕ)) (at next : ℕ) (front : List ℕ) (stop : AsciiStop) → TookBytes old mid front → next ≡ at + length front
    → ((rest : List ℕ) (p : ℕ) (r : AsciiReason) → behind rest p r → faults (front ++ rest) (length front + p) r) → Tells behind mid next stop → Tells faults old at stop
tells_behind behind faults None mid at next front stop took is go h = tt
tells_behind behind faults (Some left) mid at next front Source took is go h = tt
tells_behind behind faults (Some left) mid at next front OutOfMemory took is go h = tt
tells_behind behind faults (Some left) mid at next front (Fault f) (rest, (joined, then)) is go h = at_fault (subst (λ (o : Option (List ℕ)). Tells behind o next (Fault f)) then h)
  where
    at_fault : moved next (behind rest) f.place f.reason → moved at (faults left) f.place f.reason
    at_fault (p, (there, wrong_)) =
        (length front + p, (there ∙ (let e : next + p ≡ at + (length front + p) = omega (arith, is) in e), subst (λ (xs : List ℕ). faults xs (length front + p) f.reason) (sym joined) (go rest p f.reason wrong_)))

-- a fault of a part, and one behind it
pub tells_own : {X : Type 0} (part : List ℕ → X → Type 0) (own : List ℕ → Faults AsciiReason) (behind : X → List ℕ → Faults AsciiReason) (old : Option (List ℕ)) (at : ℕ) (stop : AsciiStop)
    → Tells own old at stop → Tells (in_order part own behind) old at stop
tells_own part own behind old at stop h = tells_as own (in_order part own behind) old at stop (λ bytes p r w. inl w) h

pub tells_later : {X : Type 0} (part : List ℕ → X → Type 0) (own : List ℕ → Faults AsciiReason) (behind : X → List ℕ → Faults AsciiReason) (old mid : Option (List ℕ)) (at next : ℕ) (x : X) (front : List ℕ) (stop : AsciiStop)
    → part front x → TookBytes old mid front → next ≡ at + length front → Tells (behind x) mid next stop → Tells (in_order part own behind) old at stop
tells_later part own behind old mid at next x front stop stands took is h =
    tells_behind (behind x) (in_order part own behind) old mid at next front stop took is
    (λ rest p r w. inr (record { front = front; rest = rest; value = x; joined = refl; stands = stands; later = (p, (refl, w)) })) h

-- ---- a field

-- the bytes end within it
pub field_cut : (old new : Option (List ℕ)) (n m at : ℕ) (buf : List ℕ) (f : AsciiFault) → TakesFront old new m buf → m ≤ length buf → m < n → IsAtEnd new → f.reason ≡ Truncated → f.place ≡ at + m
    → Tells (short_faults n) old at (Fault f)
field_cut None new n m at buf f took within short end why place = tt
field_cut (Some left) new n m at buf f took within short end why place =
    let rest : drop m left ≡ [] = subst IsAtEnd took.0 end in
    let size : length left ≡ m = omega (arith, took.1.0, length-drop m left, ap length rest) in
    (m, (place, inr ((λ long. let no : ⊥ = omega (arith, long, size, short) in no), (sym size, why))))

pub short_field : (n : ℕ) (P : List ℕ → Type 0) (why : AsciiReason) (old : Option (List ℕ)) (at : ℕ) (stop : AsciiStop) → Tells (short_faults n) old at stop → Tells (field_faults n P why) old at stop
short_field n P why old at stop h = tells_as (short_faults n) (field_faults n P why) old at stop widen h
  where
    widen : (bytes : List ℕ) (p : ℕ) (r : AsciiReason) → short_faults n bytes p r → field_faults n P why bytes p r
    widen bytes p r (inl w) = absurd w.1
    widen bytes p r (inr w) = inr w

front_is : (n : ℕ) (P : List ℕ → Type 0) (bytes rest : List ℕ) → length bytes ≡ n → P (take n (bytes ++ rest)) → P bytes
front_is n P bytes rest size h = subst P (take_at bytes rest n size) h

pub bad_field : (n : ℕ) (P : List ℕ → Type 0) (why : AsciiReason) (old new : Option (List ℕ)) (at : ℕ) (bytes : List ℕ) (f : AsciiFault) → TookField n old new bytes → (P bytes → ⊥) → f.reason ≡ why → f.place ≡ at
    → Tells (field_faults n P why) old at (Fault f)
bad_field n P why old new at bytes f (size, took) bad reason place =
    tells (field_faults n P why) old new at 0 f bytes took (omega (arith, place))
    (λ rest is. inl ((let long : n ≤ length (bytes ++ rest) = omega (arith, size, length-append bytes rest) in long), inr ((λ h. bad (front_is n P bytes rest size h)), (refl, reason))))

-- ---- a text

pub short_text : (old : Option (List ℕ)) (at : ℕ) (stop : AsciiStop) → Tells (short_faults 1) old at stop → Tells text_field_faults old at stop
short_text old at stop h = tells_as (short_faults 1) text_field_faults old at stop widen h
  where
    widen : (bytes : List ℕ) (p : ℕ) (r : AsciiReason) → short_faults 1 bytes p r → text_field_faults bytes p r
    widen bytes p r (inl w) = absurd w.1
    widen bytes p r (inr w) = inr w

some_there : (n : ℕ) (rest : List ℕ) → 1 ≤ length (n ∷ rest)
some_there n rest = omega arith

pub bad_length : (old new : Option (List ℕ)) (at n : ℕ) (f : AsciiFault) → TookBytes old new (n ∷ []) → (IsTextLength n → ⊥) → f.reason ≡ BadText → f.place ≡ at → Tells text_field_faults old at (Fault f)
bad_length old new at n f took bad reason place =
    tells text_field_faults old new at 0 f (n ∷ []) took (omega (arith, place)) (λ rest is. inl (some_there n rest, inr (bad, (refl, reason))))

pub cut_text : (old mid : Option (List ℕ)) (at next n : ℕ) (stop : AsciiStop) → TookBytes old mid (n ∷ []) → IsTextLength n → next ≡ at + 1 → Tells (short_faults n) mid next stop → Tells text_field_faults old at stop
cut_text old mid at next n stop took fair is h =
    tells_behind (short_faults n) text_field_faults old mid at next (n ∷ []) stop took (omega (arith, is)) widen h
  where
    widen : (rest : List ℕ) (p : ℕ) (r : AsciiReason) → short_faults n rest p r → text_field_faults ((n ∷ []) ++ rest) (length (n ∷ []) + p) r
    widen rest p r (inl w) = absurd w.1
    widen rest p r (inr w) =
        inl (some_there n rest, inl (fair, inr ((λ long. w.0 (let e : n ≤ length rest = omega (arith, long) in e)), ((let e : length (n ∷ []) + p ≡ length (n ∷ rest) = omega (arith, w.1.0) in e), w.1.1))))

pub took_both : (a b c : Option (List ℕ)) (x y : List ℕ) → TookBytes a b x → TookBytes b c y → TookBytes a c (x ++ y)
took_both None b c x y first second = at_none b c y first second
  where
    at_none : (b c : Option (List ℕ)) (y : List ℕ) → b ≡ None → TookBytes b c y → c ≡ None
    at_none None c y e h = h
    at_none (Some l) c y e h = absurd (let no : ⊥ = cc in no)
took_both (Some left) b c x y (rest, (joined, is)) second = at_some (subst (λ (o : Option (List ℕ)). TookBytes o c y) is second)
  where
    at_some : TookBytes (Some rest) c y → TookBytes (Some left) c (x ++ y)
    at_some (more, (then, now)) = (more, (joined ∙ ap (λ (xs : List ℕ). x ++ xs) then ∙ sym (append_assoc x y more), now))

-- the bytes behind the length
behind_length : (n : ℕ) (text rest : List ℕ) → length text ≡ n → drop 1 (take (suc n) (n ∷ (text ++ rest))) ≡ text
behind_length n text rest size = take_at text rest n size

pub bad_text : (old mid new : Option (List ℕ)) (at n : ℕ) (text : List ℕ) (f : AsciiFault) → TookBytes old mid (n ∷ []) → IsTextLength n → TookField n mid new text → (All IsTextByte text → ⊥) → f.reason ≡ BadText → f.place ≡ at
    → Tells text_field_faults old at (Fault f)
bad_text old mid new at n text f took fair (size, more) bad reason place =
    tells text_field_faults old new at 0 f (n ∷ text) (took_both old mid new (n ∷ []) text took more) (omega (arith, place))
    (λ rest is. inl (
      some_there n (text ++ rest),
      inl (
        fair,
        inl (
          (let long : suc n ≤ length (n ∷ (text ++ rest)) = omega (arith, size, length-append text rest) in long),
          inr ((λ h. bad (subst (λ (u : List ℕ). All IsTextByte u) (behind_length n text rest size) h)), (refl, reason)),
        ),
      ),
    ))

pub text_taken : (old mid new : Option (List ℕ)) (n : ℕ) (text copy : List ℕ) → TookBytes old mid (n ∷ []) → IsTextLength n → TookField n mid new text → All IsTextByte text → copy ≡ text → TookPart IsTextField old new copy
text_taken old mid new n text copy took fair (size, more) all same = (
  n ∷ text,
  (
    record {
      spelled = (λ i. n_is (sym size) i ∷ sym same i);
      text_is = subst IsText (sym same) (record { some = omega (arith, size, fair.0); few = omega (arith, size, fair.1); each = all });
    },
    took_both old mid new (n ∷ []) text took more,
  ),
)
  where
    n_is : n ≡ length text → n ≡ length copy
    n_is e = e ∙ ap length (sym same)

-- ---- nodata

pub signed_is : (x : ℕ) → x < 18446744073709551616 → cast_signed w64 x ≡ twos_complement 8 x
signed_is x h = grind (arith, ints)

said : (bytes : List ℕ) (n : ℕ) (z : ℤ) → n ≡ little_number 8 bytes → n < 18446744073709551616 → z ≡ cast_signed w64 n → z ≡ nodata_in bytes
said bytes n z is below reads = reads ∙ signed_is n below ∙ ap (twos_complement 8) is

pub nodata_taken : (old new : Option (List ℕ)) (bytes : List ℕ) (n : ℕ) (z : ℤ) → TookField 8 old new bytes → n ≡ little_number 8 bytes → n < 18446744073709551616 → z ≡ cast_signed w64 n → unsigned_abs z < 10000000000 → TookPart IsNodataField old new z
nodata_taken old new bytes n z took is below reads few = (bytes, (record { size = took.0; value = said bytes n z is below reads; few = few }, took.1))

pub nodata_bad : (old new : Option (List ℕ)) (at : ℕ) (bytes : List ℕ) (n : ℕ) (z : ℤ) (f : AsciiFault) → TookField 8 old new bytes → n ≡ little_number 8 bytes → n < 18446744073709551616 → z ≡ cast_signed w64 n → 10000000000 ≤ unsigned_abs z
    → f.reason ≡ BadNumber → f.place ≡ at → Tells nodata_faults old at (Fault f)
nodata_bad old new at bytes n z f took is below reads many reason place =
    bad_field 8 (λ (field : List ℕ). unsigned_abs (nodata_in field) < 10000000000) BadNumber old new at bytes f took
    (λ few. let same : unsigned_abs z ≡ unsigned_abs (nodata_in bytes) = ap unsigned_abs (said bytes n z is below reads) in let no : ⊥ = omega (arith, same, few, many) in no) reason place

-- a field by the length of the buffer
pub cut_sized : (n : ℕ) (xs : List ℕ) (old : Option (List ℕ)) (at : ℕ) (stop : AsciiStop) → length xs ≡ 32 → n ≤ 32 → Tells (short_faults (length (take n xs))) old at stop → Tells (short_faults n) old at stop
cut_sized n xs old at stop size few h = subst (λ (m : ℕ). Tells (short_faults m) old at stop) (length-take-le n xs (omega (arith, size, few))) h

pub field_sized : (n : ℕ) (xs : List ℕ) (old new : Option (List ℕ)) (bytes : List ℕ) → length xs ≡ 32 → n ≤ 32 → TookField (length (take n xs)) old new bytes → TookField n old new bytes
field_sized n xs old new bytes size few h = subst (λ (m : ℕ). TookField m old new bytes) (length-take-le n xs (omega (arith, size, few))) h

-- ---- the end

pub end_over : (old new : Option (List ℕ)) (m at : ℕ) (buf : List ℕ) (f : AsciiFault) → TakesFront old new m buf → 0 < m → f.reason ≡ Leftover → f.place ≡ at → Tells (ends Leftover) old at (Fault f)
end_over None new m at buf f took some why place = tt
end_over (Some left) new m at buf f took some why place =
    (0, ((let e : f.place ≡ at + 0 = omega (arith, place) in e), inr ((λ none_. let no : ⊥ = omega (arith, took.1.0, some, ap length none_) in no), (refl, why))))

pub end_is : (old new : Option (List ℕ)) (m : ℕ) (buf : List ℕ) → TakesFront old new m buf → m ≤ 0 → IsAtEnd new → IsAtEnd old
end_is None new m buf took none_ end = tt
end_is (Some left) new m buf took none_ end =
    let rest : drop m left ≡ [] = subst IsAtEnd took.0 end in
    ap (λ (k : ℕ). drop k left) (let e : 0 ≡ m = omega (arith, none_) in e) ∙ rest
