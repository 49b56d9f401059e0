-- Tiles that are drawn and encoded at once.
use Rattle.std.proofs.Common.{◌≡◌, ℕ, ◌+◌, ◌*◌, ◌<◌, ◌≤◌, List, [], ◌∷◌, ◌++◌, length, get_or, map, None, refl, sym, ap, subst, ◌∙◌, arith, ⊎_elim}
use Rattle.std.specs.Prelude.{All}
use Rattle.std.proofs.lemmas.Bool.{cases_lt}
use Rattle.std.proofs.lemmas.List.{get_or-map, get_or_append_left, get_or_at, length-append, length-map}
use Rattle.std.proofs.lemmas.List.Elements.{All-get_or}
use Rattle.raster_values.specs.Raster.{Pixels}
use Rattle.lerc_header.specs.declared.header.Version.TheVariants.{V4}
use Rattle.lerc_header.specs.Written.{step_of}
use Rattle.lerc_encode.specs.Choice.{chosen_bands}
use Rattle.lerc_encode.specs.Encoded.{AreEncodedOnce}
use Rattle.sample_tiles.specs.Drawn.{drawn, sample_tile}
use Rattle.sample_tiles.specs.Sums.{sample_blob}
use Rattle.sample_tiles.specs.inside.Batches.{AreTheirs, AreTiles}

-- ---- drawn

pub none_more : (start first : ℕ) → AreTiles start first 0 []
none_more start first = record { many = refl; each = λ i below. absurd (omega (arith, below)) }

pub one_more : (start first n : ℕ) (tiles : List (List Pixels)) (tile : Pixels) → AreTiles start first n tiles → tile ≡ sample_tile start (first + n) → AreTiles start first (n + 1) (tiles ++ (tile ∷ []) ∷ [])
one_more start first n tiles tile are is = record {
  many = length-append tiles ((tile ∷ []) ∷ []) ∙ ap (λ (k : ℕ). k + 1) are.many;
  each = λ i below. ⊎_elim
      (λ before. get_or_append_left tiles ((tile ∷ []) ∷ []) [] i (omega (arith, before, are.many)) ∙ are.each i before)
      (λ not. let same : i ≡ n = omega (arith, below, not) in
      ap (λ (k : ℕ). get_or (tiles ++ (tile ∷ []) ∷ []) k []) same ∙ get_or_at tiles (tile ∷ []) [] [] n are.many ∙ ap (λ (r : Pixels). r ∷ []) (is ∙ ap (λ (k : ℕ). sample_tile start (first + k)) (sym same)))
      (cases_lt i n);
}

-- any number is the start of what follows it
pub starts : (x : ℕ) → x ≡ drawn x (4096 * 0)
unfolding drawn
starts x = refl

-- ---- encoded

abbrev chosen : List Pixels → List ℕ
chosen t = chosen_bands None t V4 (step_of 1)

pub their_blobs : (tiles : List (List Pixels)) (blobs : List (List ℕ)) → blobs ≡ map chosen tiles → All (λ b. length b ≤ 134217728) blobs → All (λ t. AreEncodedOnce (chosen t) t (step_of 1)) tiles → AreTheirs tiles blobs
unfolding sample_blob
their_blobs tiles blobs are few once =
    let many : length blobs ≡ length tiles = ap length are ∙ length-map tiles chosen in
    let at = λ (i : ℕ) (below : i < length tiles). ap (λ (bs : List (List ℕ)). get_or bs i []) are ∙ get_or-map chosen tiles i [] [] below in
    record {
      many = many;
      fitting = λ i below. record {
        once = subst (λ (b : List ℕ). AreEncodedOnce b (get_or tiles i []) (step_of 1)) (sym (at i below)) (All-get_or (λ (t : List Pixels). AreEncodedOnce (chosen t) t (step_of 1)) tiles i [] below once);
        small = All-get_or (λ (b : List ℕ). length b ≤ 134217728) blobs i [] (omega (arith, below, many)) few;
      };
      named = λ start first drawn i below. at i below ∙ ap chosen (drawn.each i below);
    }
