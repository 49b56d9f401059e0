-- The words that a command line asks with.
use Rattle.std.proofs.Common.{◌≡◌, ℕ, List, [], ◌∷◌, Option, Some, None, IfSome, refl, subst}
use Rattle.std.specs.List.{slice_get}
use Rattle.std.specs.Prelude.{codes}
use Rattle.bundle_pack.specs.Run.{asked_by}

pub some_path : (texts : List (List ℕ)) (word : List ℕ) → Some word ≡ slice_get texts 1 → codes "pack" ∷ [] ≡ asked_by texts
some_path [] word is = absurd cc
some_path (name ∷ []) word is = absurd cc
some_path (name ∷ (target ∷ sources)) word is = refl

pub no_path : (texts : List (List ℕ)) → None ≡ slice_get texts 1 → [] ≡ asked_by texts
no_path [] is = refl
no_path (name ∷ []) is = refl
no_path (name ∷ (target ∷ sources)) is = absurd cc

-- where the texts are told
pub asks_some : (told : Option (List (List ℕ))) (word : List ℕ) → IfSome told (λ texts. Some word ≡ slice_get texts 1) → IfSome told (λ texts. codes "pack" ∷ [] ≡ asked_by texts)
asks_some None word is = tt
asks_some (Some texts) word is = some_path texts word is

pub asks_none : (told : Option (List (List ℕ))) → IfSome told (λ texts. None ≡ slice_get texts 1) → IfSome told (λ texts. [] ≡ asked_by texts)
asks_none None is = tt
asks_none (Some texts) is = no_path texts is

pub told_asking : (told : Option (List (List ℕ))) (texts words : List (List ℕ)) → told ≡ Some texts → IfSome told (λ texts. words ≡ asked_by texts) → words ≡ asked_by texts
told_asking told texts words is all =
    let here : IfSome (Some texts) (λ texts. words ≡ asked_by texts) =
    subst (λ (x : Option (List (List ℕ))). IfSome x (λ texts. words ≡ asked_by texts)) is all in here
