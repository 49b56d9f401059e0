-- Bytes taken from a source.
use Rattle.std.proofs.Common.{[], ◌≡◌, ℕ, List, ◌++◌, Option, Some, None, sym, ap, ◌∙◌, subst, append_assoc, take, drop}
use Rattle.std.proofs.lemmas.List.{take-append-drop}
use Rattle.std.specs.Prelude.{Result, Ok, Err, OnErr}
use Rattle.outside_io.specs.streams.Source.{TakesUpTo}
use Rattle.raster_grids.specs.Taken.{TookBytes, TookSome}

pub took_join : (a b c : Option (List ℕ)) (x y : List ℕ) → TookBytes a b x → TookBytes b c y → TookBytes a c (x ++ y)
took_join None b c x y first second = at_none b c y first second
  where
    at_none : (b c : Option (List ℕ)) (y : List ℕ) → b ≡ None → TookBytes b c y → c ≡ None
    at_none None c y e h = h
    at_none (Some l) c y e h = absurd (cc)
took_join (Some left) b c x y (rest, (joined, is)) second = at_some left b c x y rest joined (subst (λ (o : Option (List ℕ)). TookBytes o c y) is second)
  where
    at_some : (left : List ℕ) (b c : Option (List ℕ)) (x y rest : List ℕ) → left ≡ x ++ rest → TookBytes (Some rest) c y → TookBytes (Some left) c (x ++ y)
    at_some left b c x y rest joined (more, (then, is)) = (more, (joined ∙ ap (λ xs. x ++ xs) then ∙ sym (append_assoc x y more), is))

pub took_some : (left new : Option (List ℕ)) (limit : ℕ) → TakesUpTo limit left new → TookSome left new
took_some None new limit h = ([], h)
took_some (Some left) new limit h = (take h.0 left, (drop h.0 left, (sym (take-append-drop h.0 left), h.1.1.1)))

pub took_more : (a b c : Option (List ℕ)) (x : List ℕ) → TookBytes a b x → TookSome b c → TookSome a c
took_more a b c x first (y, second) = (x ++ y, took_join a b c x y first second)

pub on_err_some : {X E : Type 0} (result : Result X E) (old new : Option (List ℕ)) (limit : ℕ) → TakesUpTo limit old new → OnErr result (TookSome old new)
on_err_some (Ok x) old new limit h = tt
on_err_some (Err e) old new limit h = took_some old new limit h
