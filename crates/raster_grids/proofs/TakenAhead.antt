-- Bytes taken from a source before they are asked for.
use Rattle.std.proofs.Common.{[], ◌≡◌, ℕ, List, Option, Some, None, refl, ◌∷◌, length, arith, ◌≤◌, ◌++◌, length-append, take, drop, sym, ap, ◌∙◌, ◌+◌, subst, ◌-◌, ◌<◌}
use Rattle.std.proofs.lemmas.List.{take-append-le, length-take-le, take_at, drop-append-le, length-drop, drop-drop, drop-take}
use Rattle.std.proofs.Math.Seq.{take-add, take-append-add}
use Rattle.std.specs.Prelude.{Ok, min}
use Rattle.outside_io.specs.streams.Source.{TakesFront, IsAtEnd}
use Rattle.raster_grids.specs.inside.TakenRun.{behind, TakesRun}
use Rattle.raster_grids.specs.Taken.{TookBytes, TookSome}
use Rattle.raster_grids.proofs.TakenBytes.{took_more}

-- where none waits, what is left is what the source has left
pub behind_none : (left : Option (List ℕ)) → behind [] left ≡ left
behind_none None = refl
behind_none (Some left) = refl

pub none_waits : (w : List ℕ) (left : Option (List ℕ)) → length w ≡ 0 → behind w left ≡ left
none_waits [] left h = behind_none left
none_waits (x ∷ w) left h = absurd (let no : ⊥ = omega (arith, h) in no)

-- the bytes that wait are the first of those left
pub took_waiting : (w : List ℕ) (left : Option (List ℕ)) → TookBytes (behind w left) left w
took_waiting w None = refl
took_waiting w (Some left) = (left, (refl, refl))

pub some_behind : (w : List ℕ) (left new : Option (List ℕ)) → TookSome left new → TookSome (behind w left) new
some_behind w left new h = took_more (behind w left) left new w (took_waiting w left) h

-- the first n of those that wait were laid over the front
pub front_waiting : (w : List ℕ) (left : Option (List ℕ)) (n : ℕ) (out old : List ℕ) → n ≤ length w → out ≡ take n w ++ drop n old → TakesFront (behind w left) (behind (drop n w) left) n out
front_waiting w None n out old few is = refl
front_waiting w (Some left) n out old few is =
    let long : length (take n w) ≡ n = length-take-le n w few in
    let cut : drop n (w ++ left) ≡ drop n w ++ left = drop-append-le n w left few in
    let front : take n out ≡ take n w = ap (take n) is ∙ take_at (take n w) (drop n old) n long in
    (ap Some (sym cut), (omega (arith, few, length-append w left), front ∙ sym (take-append-le n w left few)))

-- bytes taken behind those
pub front_join : (a b c : Option (List ℕ)) (n m : ℕ) (x y z : List ℕ) → TakesFront a b n x → TakesFront b c m y → length (take n x) ≡ n → z ≡ take n x ++ y → TakesFront a c (n + m) z
front_join None b c n m x y z first second long is = at_none b c m y first second
  where
    at_none : (b c : Option (List ℕ)) (m : ℕ) (y : List ℕ) → b ≡ None → TakesFront b c m y → c ≡ None
    at_none None c m y e h = h
    at_none (Some l) c m y e h = absurd (cc)
front_join (Some left) b c n m x y z (then, (few, same)) second long is = at_some left c n m x y z few same (subst (λ (o : Option (List ℕ)). TakesFront o c m y) then second) long is
  where
    at_some : (left : List ℕ) (c : Option (List ℕ)) (n m : ℕ) (x y z : List ℕ) → n ≤ length left → take n x ≡ take n left → TakesFront (Some (drop n left)) c m y → length (take n x) ≡ n → z ≡ take n x ++ y
        → TakesFront (Some left) c (n + m) z
    at_some left c n m x y z few same (then, (more, rest)) long is =
        let front : take (n + m) z ≡ take n x ++ take m y =
        ap (take (n + m)) is ∙ ap (λ k. take (k + m) (take n x ++ y)) (sym long) ∙ take-append-add (take n x) y m in (
          then ∙ ap Some (drop-drop m n left),
          (omega (arith, few, more, length-drop n left), front ∙ ap (λ u. u ++ take m y) same ∙ ap (λ u. take n left ++ u) rest ∙ sym (take-add n m left)),
        )

-- at the end of both
pub both_ended : (w : List ℕ) (left : Option (List ℕ)) → length w ≡ 0 → IsAtEnd left → IsAtEnd (behind w left)
both_ended w left none h = subst IsAtEnd (sym (none_waits w left none)) h

-- the bytes of a piece behind some of them
pub piece_rest : (b : List ℕ) (from end n : ℕ) → from + n ≤ end → take (end - (from + n)) (drop (from + n) b) ≡ drop n (take (end - from) (drop from b))
piece_rest b from end n within =
    let split : end - from ≡ n + (end - (from + n)) = omega arith in
    sym (ap (λ m. drop n (take m (drop from b))) split ∙ drop-take n (end - (from + n)) (drop from b) ∙ ap (take (end - (from + n))) (drop-drop n from b))

-- ---- what a taking leaves

-- all that waited, and then what the source gave
pub taken_straight : (w w2 old mid buf out : List ℕ) (left new : Option (List ℕ)) (n got : ℕ) → length w ≡ n → n ≤ length old → length w2 ≡ 0 → mid ≡ take n w ++ drop n old → out ≡ take n mid ++ buf → got ≤ length buf
    → TakesFront left new got buf → (got < length buf → IsAtEnd new) → TakesRun (Ok (n + got)) (behind w left) (behind w2 new) out
taken_straight w w2 old mid buf out left new n got all few none laid joined within takes ends =
    let front : length (take n w) ≡ n = length-take-le n w (omega (arith, all)) in
    let first : take n mid ≡ take n w = ap (take n) laid ∙ take_at (take n w) (drop n old) n front in
    let long : length (take n mid) ≡ n = ap length first ∙ front in
    let size : length out ≡ n + length buf = ap length joined ∙ length-append (take n mid) buf ∙ ap (λ m. m + length buf) long in
    let empty : length (drop n w) ≡ 0 = length-drop n w ∙ (let e : length w - n ≡ 0 = omega (arith, all) in e) in
    let second : TakesFront (behind (drop n w) left) (behind w2 new) got buf =
    subst (λ (o : Option (List ℕ)). TakesFront o (behind w2 new) got buf) (sym (none_waits (drop n w) left empty))
    (subst (λ (o : Option (List ℕ)). TakesFront left o got buf) (sym (none_waits w2 new none)) takes) in (
      omega (arith, size, within),
      (
        front_join (behind w left) (behind (drop n w) left) (behind w2 new) n got mid buf out (front_waiting w left n mid old (omega (arith, all)) laid) second long joined,
        λ short. both_ended w2 new none (ends (omega (arith, short, size))),
      ),
    )

-- all that waited, and then the first bytes of a piece
pub taken_piece : (w w2 w3 old mid before rest out : List ℕ) (left new : Option (List ℕ)) (n m : ℕ) → length w ≡ n → n ≤ length old → mid ≡ take n w ++ drop n old → behind w2 new ≡ left
    → m ≡ min (length w2) (length before) → rest ≡ take m w2 ++ drop m before → w3 ≡ drop m w2 → out ≡ take n mid ++ rest → length rest ≡ length before → (length w2 < length before → IsAtEnd new)
    → TakesRun (Ok (n + m)) (behind w left) (behind w3 new) out
taken_piece w w2 w3 old mid before rest out left new n m all few laid same count put is joined long_rest ends =
    let front : length (take n w) ≡ n = length-take-le n w (omega (arith, all)) in
    let first : take n mid ≡ take n w = ap (take n) laid ∙ take_at (take n w) (drop n old) n front in
    let long : length (take n mid) ≡ n = ap length first ∙ front in
    let size : length out ≡ n + length rest = ap length joined ∙ length-append (take n mid) rest ∙ ap (λ k. k + length rest) long in
    let empty : length (drop n w) ≡ 0 = length-drop n w ∙ (let e : length w - n ≡ 0 = omega (arith, all) in e) in
    let there : m ≤ length w2 = omega (arith, count) in
    let taken : TakesFront (behind w2 new) (behind w3 new) m rest = subst (λ xs. TakesFront (behind w2 new) (behind xs new) m rest) (sym is) (front_waiting w2 new m rest before there put) in
    let second : TakesFront (behind (drop n w) left) (behind w3 new) m rest =
    subst (λ (o : Option (List ℕ)). TakesFront o (behind w3 new) m rest) (same ∙ sym (none_waits (drop n w) left empty)) taken in
    let gone : m < length before → length w3 ≡ 0 = λ short. ap length is ∙ length-drop m w2 ∙ (let e : length w2 - m ≡ 0 = omega (arith, count, short) in e) in (
      omega (arith, size, count, long_rest),
      (
        front_join (behind w left) (behind (drop n w) left) (behind w3 new) n m mid rest out (front_waiting w left n mid old (omega (arith, all)) laid) second long joined,
        λ short.
            let less : m < length before = omega (arith, short, size, long_rest) in
            both_ended w3 new (gone less) (ends (omega (arith, count, less))),
      ),
    )
