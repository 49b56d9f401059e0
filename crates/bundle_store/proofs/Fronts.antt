-- A file that only grows: a crash keeps what it held when it was last synced.
use Rattle.std.proofs.Common.{◌≡◌, ℕ, ◌<◌, ◌≤◌, List, ◌++◌, length, take, drop, sym, ◌∙◌, ap, arith, take-append-drop}
use Rattle.std.proofs.lemmas.List.{length-take-le, places, same_lists}
use Rattle.outside_io.specs.volume.Disk.{Disk}
use Rattle.outside_io.specs.declared.volume.VolFile.TheVariants.{Bundle}
use Rattle.outside_io.proofs.VolumeLemmas.Limits.{Allowed, Keeps}
use Rattle.bundle_store.specs.inside.Parts.{BeginsWith, KeepsFront}

-- no shorter than a list, and its places fixed
abbrev pub AsLong : List ℕ → ℕ → Type 0
AsLong front n = length front ≤ n

abbrev pub Within : List ℕ → ℕ → Type 0
Within front i = i < length front

pub begins : (front c : List ℕ) → Allowed front (AsLong front) (Within front) c → BeginsWith front c
begins front c allowed =
    let front_is : take (length front) c ≡ front =
    same_lists _ _ (length-take-le (length front) c allowed.size) (λ k d lt. grind (arith, places, allowed.size, allowed.bytes k)) in
    record { rest = drop (length front) c; is = sym (take-append-drop (length front) c) ∙ ap (λ (l : List ℕ). l ++ drop (length front) c) front_is }

pub keeps_front : (old d : Disk) → Keeps Bundle old (AsLong old.bundle.now) (Within old.bundle.now) d → KeepsFront old d
keeps_front old d keeps = record { journal = keeps.other; bundle = λ c image. begins old.bundle.now c (keeps.images c image) }
