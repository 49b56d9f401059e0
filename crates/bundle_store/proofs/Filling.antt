-- How many slots have a tile, slot by slot.
use Rattle.std.proofs.Common.{◌≡◌, refl, ℕ, suc, ◌+◌, ◌<◌, List, length, Option, Some, None, IfSome, ◌∙◌, ap, arith}
use Rattle.bundle_store.specs.Layout.{size_of}
use Rattle.bundle_store.specs.Built.{filled, one_of}
use Rattle.bundle_store.specs.Tiles.{AreTiles, TileMap}

one_some : (o : Option (List ℕ)) → 0 < size_of o → one_of o ≡ 1
one_some None some = absurd (omega arith)
one_some (Some t) some = refl

one_none : (o : Option (List ℕ)) → IfSome o (λ t. (0 < length t) × (length t < 16777216)) → size_of o ≡ 0 → one_of o ≡ 0
one_none None is zero_ = refl
one_none (Some t) is zero_ = absurd (omega (arith, is.0, zero_))

filled_step : (map : TileMap) (n : ℕ) → filled map (n + 1) ≡ filled map n + one_of (map n)
unfolding filled
filled_step map n = ap (filled map) (let e : n + 1 ≡ suc n = omega arith in e)

pub filled_none : (map : TileMap) → filled map 0 ≡ 0
unfolding filled
filled_none map = refl

pub filled_more : (map : TileMap) (n : ℕ) → 0 < size_of (map n) → filled map (n + 1) ≡ filled map n + 1
filled_more map n some = filled_step map n ∙ ap (λ (k : ℕ). filled map n + k) (one_some (map n) some)

pub filled_same : (map : TileMap) (n : ℕ) → AreTiles map → size_of (map n) ≡ 0 → filled map (n + 1) ≡ filled map n
filled_same map n are none = filled_step map n ∙ omega (arith, one_none (map n) (are.sizes n) none)
