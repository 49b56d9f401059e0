-- What holds of the tiles holds of their blobs.
use Rattle.std.proofs.Common.{◌≡◌, ◌∙◌, ℕ, ◌+◌, ◌≤◌, ◌<◌, List, [], ◌∷◌, ◌++◌, All, None, drop, get_or, length, map, take, sym, subst}
use Rattle.std.proofs.lemmas.List.{map_more, take-append-drop}
use Rattle.std.proofs.lemmas.List.Elements.{All-append, All-map, All-more}
use Rattle.raster_values.specs.Raster.{Pixels}
use Rattle.lerc_header.specs.declared.header.Version.{Version}
use Rattle.lerc_encode.specs.Choice.{chosen_bands}
use Rattle.lerc_encode.specs.Encoded.{AreEncodedOnce, DeclareEach}
use Rattle.tile_workers.specs.inside.Encoded.{IsEncodedSo}

pub encoded_so : (v : Version) (step : ℕ) (bands : List Pixels) (bytes : List ℕ) → bytes ≡ chosen_bands None bands v step → length bytes ≤ 134217728 → AreEncodedOnce bytes bands step → DeclareEach bytes bands v step → IsEncodedSo v step bands
encoded_so v step bands bytes is few once declares = record {
  few = subst (λ (u : List ℕ). length u ≤ 134217728) is few;
  once = subst (λ (u : List ℕ). AreEncodedOnce u bands step) is once;
  declares = subst (λ (u : List ℕ). DeclareEach u bands v step) is declares;
}

pub few_all : (v : Version) (step : ℕ) (tiles : List (List Pixels)) (blobs : List (List ℕ)) → blobs ≡ map (λ t. chosen_bands None t v step) tiles → All (IsEncodedSo v step) tiles → All (λ b. length b ≤ 134217728) blobs
few_all v step tiles blobs is so = subst (All (λ b. length b ≤ 134217728)) (sym is) (All-map (λ b. length b ≤ 134217728) (λ t. chosen_bands None t v step) tiles (λ k d less. (so k d less).few))

-- one tile more was encoded
pub run_more : (v : Version) (step : ℕ) (tiles : List (List Pixels)) (i : ℕ) (tile : List Pixels) (blobs out : List (List ℕ)) → i < length tiles → tile ≡ get_or tiles i tile → out ≡ blobs ++ chosen_bands None tile v step ∷ []
    → IsEncodedSo v step tile → (blobs ≡ map (λ t. chosen_bands None t v step) (take i tiles)) × All (IsEncodedSo v step) (take i tiles)
    → (out ≡ map (λ t. chosen_bands None t v step) (take (i + 1) tiles)) × All (IsEncodedSo v step) (take (i + 1) tiles)
run_more v step tiles i tile blobs out below is pushed so before = (
  pushed ∙ (λ k. before.0 k ++ chosen_bands None (is k) v step ∷ []) ∙ sym (map_more (λ t. chosen_bands None t v step) tiles i tile below),
  All-more (IsEncodedSo v step) tiles i tile below before.1 (subst (IsEncodedSo v step) is so),
)

pub halves_encoded : (v : Version) (step : ℕ) (tiles front back : List (List Pixels)) (n : ℕ) → front ≡ take n tiles → back ≡ drop n tiles → All (IsEncodedSo v step) front → All (IsEncodedSo v step) back → All (IsEncodedSo v step) tiles
halves_encoded v step tiles front back n f b one two =
    let joined : front ++ back ≡ tiles = (λ k. f k ++ b k) ∙ take-append-drop n tiles in
    subst (All (IsEncodedSo v step)) joined (All-append (IsEncodedSo v step) front back one two)
