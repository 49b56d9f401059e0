-- The bundle of no tiles.
use Rattle.std.proofs.Common.{◌≡◌, refl, ℕ, zero, suc, ◌+◌, ◌*◌, List, [], ◌++◌, length, None, ◌∙◌, ap, arith}
use Rattle.std.specs.Prelude.{max, replicate}
use Rattle.std.proofs.lemmas.List.{append-nil, replicate-append-replicate}
use Rattle.bundle_index.specs.Entry.{entry_bytes}
use Rattle.bundle_index.specs.Header.{fresh_header}
use Rattle.bundle_store.specs.Layout.{entries, entry_behind, greatest_size, layout, records}
use Rattle.bundle_store.specs.Tiles.{no_tiles}

nothing_kept : (n : ℕ) → records no_tiles n ≡ []
unfolding records
nothing_kept zero = refl
nothing_kept (suc n) = append-nil (records no_tiles n) ∙ nothing_kept n

nothing_great : (n : ℕ) → greatest_size no_tiles n ≡ 0
unfolding greatest_size
nothing_great zero = refl
nothing_great (suc n) = ap (λ (m : ℕ). max m 0) (nothing_great n)

no_entry : (before : ℕ) → entry_bytes (entry_behind before None) ≡ replicate 8 0
unfolding entry_bytes
no_entry before = refl

nothing_listed : (n : ℕ) → entries no_tiles n ≡ replicate (8 * n) 0
unfolding entries
nothing_listed zero = refl
nothing_listed (suc n) =
    (λ i. nothing_listed n i ++ no_entry (length (records no_tiles n)) i) ∙ replicate-append-replicate (8 * n) 8 0 ∙ ap (λ (m : ℕ). replicate m 0) (let e : 8 * n + 8 ≡ 8 * suc n = omega arith in e)

laid_nothing : (n : ℕ) → fresh_header (greatest_size no_tiles n) (131136 + length (records no_tiles n)) ++ (entries no_tiles n ++ records no_tiles n) ≡ fresh_header 0 131136 ++ replicate (8 * n) 0
laid_nothing n =
    let none = nothing_kept n in
    (λ i. fresh_header (nothing_great n i) (131136 + length (none i)) ++ (nothing_listed n i ++ none i)) ∙ ap (λ (l : List ℕ). fresh_header 0 131136 ++ l) (append-nil (replicate (8 * n) 0))

pub layout_nothing : layout no_tiles ≡ fresh_header 0 131136 ++ replicate 131072 0
unfolding layout
layout_nothing = laid_nothing 16384
