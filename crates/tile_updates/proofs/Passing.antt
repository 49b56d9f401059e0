-- Tiles that pass, and one more.
use Rattle.std.proofs.Common.{◌≡◌, ℕ, ◌+◌, ◌^◌, ◌<◌, ◌≤◌, List, [], ◌∷◌, ◌++◌, length, map, sum, ap, ◌∙◌, arith, length-append}
use Rattle.std.specs.Prelude.{All}
use Rattle.std.proofs.lemmas.List.{map-append}
use Rattle.std.proofs.lemmas.List.Sums.{sum_by-append}
use Rattle.std.proofs.lemmas.List.Elements.{All-nil, All-head, All-tail, All-push}
use Rattle.lerc_header.specs.declared.header.Version.{Version}
use Rattle.bundle_store.specs.declared.tile_rec.TileRec.{TileRec}
use Rattle.tile_stream.specs.declared.tile.Tile.{Tile}
use Rattle.tile_updates.specs.Updates.{AllPass, Passes, kept_bytes, update_of, updates_of, tile_bytes}

pub all_behind : {X : Type 0} (P : X → Type 0) (xs ys : List X) → All P (xs ++ ys) → All P ys
all_behind P [] ys h = h
all_behind P (x ∷ xs) ys h = all_behind P xs ys (All-tail P x (xs ++ ys) h)

-- ---- bytes kept

pub kept_both : (us ws : List TileRec) → kept_bytes (us ++ ws) ≡ kept_bytes us + kept_bytes ws
kept_both us ws =
    ap sum (map-append (λ (u : TileRec). length u.bytes) us ws) ∙ sum_by-append (λ x. x) (map (λ (u : TileRec). length u.bytes) us) (map (λ (u : TileRec). length u.bytes) ws)

pub kept_join : (v : Version) (step : ℕ) (xs ys : List Tile) → kept_bytes (updates_of v step (xs ++ ys)) ≡ kept_bytes (updates_of v step xs) + kept_bytes (updates_of v step ys)
kept_join v step xs ys = ap kept_bytes (map-append (update_of v step) xs ys) ∙ kept_both (updates_of v step xs) (updates_of v step ys)

pub kept_push : (v : Version) (step : ℕ) (xs : List Tile) (t : Tile) → kept_bytes (updates_of v step (xs ++ t ∷ [])) ≡ kept_bytes (updates_of v step xs) + length (tile_bytes v step t)
kept_push v step xs t =
    let one : kept_bytes (updates_of v step (t ∷ [])) ≡ length (tile_bytes v step t) = omega arith in
    kept_join v step xs (t ∷ []) ∙ ap (λ n. kept_bytes (updates_of v step xs) + n) one

pub updates_push : (v : Version) (step : ℕ) (xs : List Tile) (t : Tile) → updates_of v step (xs ++ t ∷ []) ≡ updates_of v step xs ++ update_of v step t ∷ []
updates_push v step xs t = map-append (update_of v step) xs (t ∷ [])

-- ---- one tile more

pub none_pass : (v : Version) (step : ℕ) → AllPass v step []
none_pass v step = record {
  few = omega arith;
  each = All-nil (Passes v step);
  kept = omega arith;
}

-- the tile may be added to those before it
pub record MayFollow (v : Version) (step : ℕ) (before : List Tile) (t : Tile) : Type 0 where
  pub few : length before < 1048576
  pub passes : Passes v step t
  pub kept : kept_bytes (updates_of v step (before ++ t ∷ [])) ≤ 2 ^ 30

pub pass_push : (v : Version) (step : ℕ) (tiles : List Tile) (t : Tile) → AllPass v step tiles → MayFollow v step tiles t → AllPass v step (tiles ++ t ∷ [])
pass_push v step tiles t all may = record {
  few = omega (arith, length-append tiles (t ∷ []), may.few);
  each = All-push (Passes v step) tiles t all.each may.passes;
  kept = may.kept;
}

-- of tiles that pass each may follow those before it
pub pass_next : (v : Version) (step : ℕ) (before later : List Tile) (t : Tile) → AllPass v step (before ++ t ∷ later) → MayFollow v step before t
pass_next v step before later t all = record {
  few = omega (arith, all.few, length-append before (t ∷ later));
  passes = All-head (Passes v step) t later (all_behind (Passes v step) before (t ∷ later) all.each);
  kept =
      let whole = kept_join v step before (t ∷ later) in
      let rest = kept_join v step (t ∷ []) later in
      let front = kept_join v step before (t ∷ []) in
      omega (arith, whole, rest, front, all.kept);
}
