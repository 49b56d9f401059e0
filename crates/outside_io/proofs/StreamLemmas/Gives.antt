-- Bytes given to a sink in several calls, for whoever gives them.
use Rattle.std.proofs.Common.{◌≡◌, ℕ, ◌+◌, List, [], ◌++◌, length, take, drop, Option, unwrap_or, Some, None, Ok, refl, sym, ap, ◌∙◌, subst, arith, rules, append_assoc}
use Rattle.std.proofs.lemmas.List.{places, same_lists}
use Rattle.outside_io.specs.streams.Sink.{Holds, HoldsPrefix, Gives}

-- a longer front is a front and the front of the rest
pub take-add : (at n : ℕ) (xs : List ℕ) → take (at + n) xs ≡ take at xs ++ take n (drop at xs)
take-add at n xs = same_lists _ _ (search (rules, places)) (λ k d h. grind (arith, places))

-- nothing was given
pub Holds_none : (held : Option (List ℕ)) → Holds held held []
Holds_none None = refl
Holds_none (Some held) = ap Some (search rules)

-- which bytes are held
pub Holds_told : (held now : List ℕ) (bytes : List ℕ) → Holds (Some held) (Some now) bytes → now ≡ held ++ bytes
Holds_told held now bytes holds = ap (λ o. unwrap_or o []) holds

-- bytes behind bytes
pub Holds_join : (old mid new : Option (List ℕ)) (xs ys : List ℕ) → Holds old mid xs → Holds mid new ys → Holds old new (xs ++ ys)
Holds_join None mid new xs ys first second = subst (λ m. Holds m new ys) first second
Holds_join (Some held) mid new xs ys first second =
    let behind : new ≡ Some ((held ++ xs) ++ ys) = subst (λ m. Holds m new ys) first second in
    behind ∙ ap Some (append_assoc held xs ys)

-- all the bytes are a prefix of them
pub HoldsPrefix_whole : (old new : Option (List ℕ)) (xs : List ℕ) → Holds old new xs → HoldsPrefix old new xs
HoldsPrefix_whole old new xs whole =
    (length xs, (omega arith, subst (λ ys. Holds old new ys) (search (rules, places)) whole))

-- a prefix of the first bytes is a prefix of all
pub HoldsPrefix_front : (old new : Option (List ℕ)) (xs ys : List ℕ) → HoldsPrefix old new xs → HoldsPrefix old new (xs ++ ys)
HoldsPrefix_front old new xs ys front =
    (front.0, (grind (arith, places), subst (λ zs. Holds old new zs) (same_lists _ _ (grind (arith, places)) (λ k d h. grind (arith, places))) front.1.1))

-- a prefix behind bytes
pub HoldsPrefix_join : (old mid new : Option (List ℕ)) (xs ys : List ℕ) → Holds old mid xs → HoldsPrefix mid new ys → HoldsPrefix old new (xs ++ ys)
HoldsPrefix_join old mid new xs ys first behind =
    (length xs + behind.0, (grind (arith, places), subst (λ zs. Holds old new zs) (same_lists _ _ (grind (arith, places)) (λ k d h. grind (arith, places))) (Holds_join old mid new xs (take behind.0 ys) first behind.1.1)))

-- what a call of `give` leaves
pub Gives_holds : (old new : Option (List ℕ)) (bytes : List ℕ) (n : ℕ) → Gives old new (Ok n) bytes → Holds old new (take n bytes)
Gives_holds None new bytes n gives = gives
Gives_holds (Some held) new bytes n gives = gives

-- one more call of `give`
pub Holds_more : (old mid new : Option (List ℕ)) (bytes : List ℕ) (at n : ℕ) → Holds old mid (take at bytes) → Gives mid new (Ok n) (drop at bytes) → Holds old new (take (at + n) bytes)
Holds_more old mid new bytes at n before gives =
    subst (λ ys. Holds old new ys) (sym (take-add at n bytes)) (Holds_join old mid new (take at bytes) (take n (drop at bytes)) before (Gives_holds mid new (drop at bytes) n gives))
