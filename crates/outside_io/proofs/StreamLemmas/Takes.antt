-- Bytes taken from a source in several calls, for whoever takes them.
use Rattle.std.proofs.Common.{◌≡◌, ℕ, ◌+◌, ◌-◌, ◌≤◌, List, [], ◌++◌, length, take, drop, Option, unwrap_or, Some, None, Ok, refl, sym, ap, ◌∙◌, subst, arith, rules}
use Rattle.std.proofs.lemmas.List.{drop-drop, length-drop, places, same_lists, take_all}
use borrow.Rule.Slice.PartMut.{put_mid}
use Rattle.outside_io.specs.streams.Source.{Takes, TakesFront, TakesUpTo}
use Rattle.outside_io.proofs.StreamLemmas.Gives.{take-add}

-- nothing was taken
pub TakesFront_none : (left : Option (List ℕ)) (buf : List ℕ) → TakesFront left left 0 buf
TakesFront_none None buf = refl
TakesFront_none (Some left) buf = (ap Some (search rules), (omega arith, search rules))

-- two fronts make one
front_of_two : (xs ys left : List ℕ) (n m : ℕ) → take n xs ≡ take n left → take m ys ≡ take m (drop n left)
    → take (n + m) (take n xs ++ take m ys) ≡ take (n + m) left
front_of_two xs ys left n m first second =
    ap (λ zs. take (n + m) (zs ++ take m ys)) first ∙ ap (λ zs. take (n + m) (take n left ++ zs)) second
    ∙ ap (λ zs. take (n + m) zs) (sym (take-add n m left)) ∙ take_all (n + m) (take (n + m) left) (grind (arith, places))

-- bytes taken behind bytes, into two buffers
pub TakesFront_join : (old mid new : Option (List ℕ)) (n m : ℕ) (xs ys : List ℕ) → TakesFront old mid n xs → TakesFront mid new m ys
    → TakesFront old new (n + m) (take n xs ++ take m ys)
TakesFront_join None mid new n m xs ys first second = subst (λ z. TakesFront z new m ys) first second
TakesFront_join (Some left) mid new n m xs ys first second =
    let behind : TakesFront (Some (drop n left)) new m ys = subst (λ z. TakesFront z new m ys) first.0 second in (
      behind.0 ∙ ap Some (drop-drop m n left),
      (
        omega (arith, behind.1.0, length-drop n left, first.1.0),
        front_of_two xs ys left n m first.1.1 behind.1.1,
      ),
    )

-- which bytes are left
pub TakesFront_rest : (left rest : List ℕ) (n : ℕ) (buf : List ℕ) → TakesFront (Some left) (Some rest) n buf → rest ≡ drop n left
TakesFront_rest left rest n buf taken = ap (λ o. unwrap_or o []) taken.0

-- how many bytes are left
pub TakesFront_length : (left rest : List ℕ) (n : ℕ) (buf : List ℕ) → TakesFront (Some left) (Some rest) n buf → length rest + n ≡ length left
TakesFront_length left rest n buf taken =
    let same : length rest ≡ length (drop n left) = ap length (TakesFront_rest left rest n buf taken) in
    omega (arith, same, length-drop n left, taken.1.0)

-- bytes taken to a buffer are bytes taken
pub TakesUpTo_front : (old new : Option (List ℕ)) (n : ℕ) (buf : List ℕ) → TakesFront old new n buf → TakesUpTo n old new
TakesUpTo_front None new n buf taken = taken
TakesUpTo_front (Some left) new n buf taken = (n, (omega arith, (taken.1.0, taken.0)))

-- a greater bound
pub TakesUpTo_wider : (old new : Option (List ℕ)) (n m : ℕ) → n ≤ m → TakesUpTo n old new → TakesUpTo m old new
TakesUpTo_wider None new n m wider taken = taken
TakesUpTo_wider (Some left) new n m wider taken = (taken.0, (omega (arith, taken.1.0), taken.1.1))

-- bytes taken behind bytes
pub TakesUpTo_join : (old mid new : Option (List ℕ)) (n m : ℕ) → TakesUpTo n old mid → TakesUpTo m mid new → TakesUpTo (n + m) old new
TakesUpTo_join None mid new n m first second = subst (λ z. TakesUpTo m z new) first second
TakesUpTo_join (Some left) mid new n m first second =
    let behind : TakesUpTo m (Some (drop first.0 left)) new = subst (λ z. TakesUpTo m z new) first.1.1.1 second in
    (first.0 + behind.0, (omega (arith, first.1.0, behind.1.0), (omega (arith, first.1.1.0, behind.1.1.0, length-drop first.0 left), behind.1.1.1 ∙ ap Some (drop-drop behind.0 first.0 left))))

-- a piece laid into the buffer behind the bytes taken
front : (buf piece : List ℕ) (at n : ℕ) → at ≤ length buf → n ≤ length piece → take (at + n) (put_mid at (length buf - at) buf piece) ≡ take at buf ++ take n piece
front buf piece at n within long = same_lists _ _ (search (rules, places)) (λ k d h. grind (arith, places))

-- one more call of `take`, into the buffer behind the bytes taken
pub TakesFront_more : (old mid new : Option (List ℕ)) (buf piece : List ℕ) (at n : ℕ) → at ≤ length buf → n ≤ length piece → TakesFront old mid at buf → Takes mid new (Ok n) piece
    → TakesFront old new (at + n) (put_mid at (length buf - at) buf piece)
TakesFront_more None mid new buf piece at n within long e g = subst (λ m. Takes m new (Ok n) piece) e g
TakesFront_more (Some left) mid new buf piece at n within long e g =
    let h : Takes (Some (drop at left)) new (Ok n) piece = subst (λ m. Takes m new (Ok n) piece) e.0 g in (
      h.0.0 ∙ ap Some (drop-drop n at left),
      (
        omega (arith, h.0.1.0, length-drop at left, e.1.0),
        front buf piece at n within long ∙ ap (λ ys. ys ++ take n piece) e.1.1 ∙ ap (λ ys. take at left ++ ys) h.0.1.1 ∙ sym (take-add at n left),
      ),
    )

-- a call of `take` that takes nothing
pub TakesFront_stop : (old mid new : Option (List ℕ)) (buf piece : List ℕ) (at n : ℕ) → at ≤ length buf → n ≤ length piece → n ≡ 0 → TakesFront old mid at buf → Takes mid new (Ok n) piece
    → TakesFront old new at (put_mid at (length buf - at) buf piece)
TakesFront_stop old mid new buf piece at n within long none e g =
    let stays : at + n ≡ at = omega arith in
    subst (λ k. TakesFront old new k (put_mid at (length buf - at) buf piece)) stays (TakesFront_more old mid new buf piece at n within long e g)
