-- The lines of things that are given one after the other, where the output fails.
use Rattle.std.proofs.Common.{◌≡◌, ℕ, ◌+◌, ◌<◌, List, [], ◌∷◌, ◌++◌, length, get_or, take, drop, Option, sym, ap, subst, ◌∙◌, add-one, take-suc}
use Rattle.std.specs.List.{flat_map}
use Rattle.std.proofs.lemmas.Grind.{flat_map-append}
use Rattle.std.proofs.lemmas.List.{append-nil, take-append-drop}
use Rattle.outside_io.specs.streams.Sink.{Holds, HoldsPrefix}
use Rattle.outside_io.proofs.StreamLemmas.Gives.{HoldsPrefix_front, HoldsPrefix_join}

-- the lines of the first k are there, and those of the next one are cut
pub each_cut : {X : Type 0} (f : X → List ℕ) (xs : List X) (k : ℕ) (x : X) (old mid new : Option (List ℕ)) → k < length xs
    → Holds old mid (flat_map f (take k xs)) → HoldsPrefix mid new (f (get_or xs k x)) → HoldsPrefix old new (flat_map f xs)
each_cut f xs k x old mid new below so cut =
    let u = get_or xs k x in
    let one : take (k + 1) xs ≡ take k xs ++ u ∷ [] = rw add-one (take-suc xs k x below) in
    let line : flat_map f (take (k + 1) xs) ≡ flat_map f (take k xs) ++ f u =
    ap (flat_map f) one ∙ flat_map-append f (take k xs) (u ∷ []) ∙ ap (λ y. flat_map f (take k xs) ++ y) (append-nil (f u)) in
    let all : flat_map f (take (k + 1) xs) ++ flat_map f (drop (k + 1) xs) ≡ flat_map f xs =
    sym (flat_map-append f (take (k + 1) xs) (drop (k + 1) xs)) ∙ ap (flat_map f) (take-append-drop (k + 1) xs) in
    subst (HoldsPrefix old new) all
    (HoldsPrefix_front old new (flat_map f (take (k + 1) xs)) (flat_map f (drop (k + 1) xs))
    (subst (HoldsPrefix old new) (sym line) (HoldsPrefix_join old mid new (flat_map f (take k xs)) (f u) so cut)))
