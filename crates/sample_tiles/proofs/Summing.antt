-- One tile more in the sums.
use Rattle.std.proofs.Common.{◌≡◌, ℕ, ◌+◌, ◌*◌, ◌%◌, ◌^◌, ◌<◌, ◌≤◌, max, List, [], ◌∷◌, length, map, refl, sym, ap, subst, ◌∙◌, arith, ⊎_elim}
use Rattle.std.specs.Prelude.{All, Bool, IsTrue, ℤ, pos, ◌/◌, ◌-ℤ◌, is_some, unsigned_abs, unwrap_or, slice_get, None, Option, Some, false, get_or, true}
use Rattle.std.proofs.lemmas.List.{get_or-map}
use Rattle.std.specs.List.{range_with_len, sum_by}
use Rattle.std.proofs.lemmas.Bool.{cases_lt}
use Rattle.std.proofs.lemmas.List.Elements.{All-head}
use Rattle.std.proofs.lemmas.List.FromFn.{sum_by-map-range_with_len_more}
use Rattle.raster_values.specs.Raster.{Pixels, IsRaster, valid_at, value_at}
use Rattle.raster_values.specs.Bands.{AreBands}
use Rattle.lerc_header.specs.Head.{u32_at}
use Rattle.lerc_header.specs.Written.{step_of}
use Rattle.lerc_grammar.specs.Bands.{BandsBlob}
use Rattle.lerc_grammar.specs.Near.{Near, NearEach}
use Rattle.sample_tiles.specs.Drawn.{sample_tile}
use Rattle.sample_tiles.specs.Sums.{AreSums, IsOff, IsWorst, off_by, sample_blob, sample_blobs}
use Rattle.sample_tiles.specs.declared.adding.Sums.{Sums}
use Rattle.sample_tiles.specs.inside.Batches.{IsFitting, IsTileLike}

-- ---- what a blob decodes to

near_one : (tile : Pixels) (rs : List Pixels) (step : ℕ) → NearEach (tile ∷ []) rs step → (s : Pixels) × ((rs ≡ s ∷ []) × Near tile s step)
near_one tile [] step n = absurd n
near_one tile (s ∷ []) step n = (s, (refl, n.0))
near_one tile (s ∷ u ∷ us) step n = absurd n.1

pub one_decoded : (tile : Pixels) (blob : List ℕ) (bands : List Pixels) → IsFitting (tile ∷ []) blob → BandsBlob blob bands → (s : Pixels) × ((bands ≡ s ∷ []) × Near tile s (step_of 1))
one_decoded tile blob bands f is =
    let one = near_one tile f.once.rasters (step_of 1) f.once.near in
    (one.0, (f.once.only bands is ∙ one.1.0, one.1.1))

sound_one : (s : Pixels) → AreBands (s ∷ []) → IsRaster s
sound_one s are = All-head IsRaster s [] are.1.sound

pub like_decoded : (tile s : Pixels) (blob : List ℕ) → IsTileLike tile → Near tile s (step_of 1) → BandsBlob blob (s ∷ []) → IsTileLike s
like_decoded tile s blob like near is = record {
  raster = sound_one s is.0;
  kind = sym near.kind ∙ like.kind;
  rows = sym near.rows ∙ like.rows;
  cols = sym near.cols ∙ like.cols;
  depth = sym near.depth ∙ like.depth;
}

pub like_sample : (start t : ℕ) (bands : List Pixels) → AreBands bands → bands ≡ sample_tile start t ∷ [] → IsTileLike (sample_tile start t)
unfolding sample_tile
like_sample start t bands are is = record {
  raster = sound_one (sample_tile start t) (subst AreBands is are);
  kind = refl;
  rows = refl;
  cols = refl;
  depth = refl;
}

-- the one band that is decoded is any that the blob decodes to
pub same_one : (tile x r : Pixels) (blob : List ℕ) (bands : List Pixels) → IsFitting (tile ∷ []) blob → BandsBlob blob bands → slice_get bands 0 ≡ Some x → BandsBlob blob (r ∷ []) → r ≡ x
same_one tile x r blob bands f is at other =
    let e : r ∷ [] ≡ bands = f.once.only (r ∷ []) other ∙ sym (f.once.only bands is) in
    let there : Some r ≡ Some x = ap (λ (l : List Pixels). slice_get l 0) e ∙ at in
    let same : r ≡ x = cc in same

pub like_at : (tile x : Pixels) (blob : List ℕ) (bands : List Pixels) → IsTileLike tile → IsFitting (tile ∷ []) blob → BandsBlob blob bands → slice_get bands 0 ≡ Some x → IsTileLike x
like_at tile x blob bands like f is at =
    let one = one_decoded tile blob bands f is in
    let s = one.0 in
    let here : BandsBlob blob (s ∷ []) = subst (BandsBlob blob) one.1.0 is in
    subst IsTileLike (same_one tile x s blob bands f is at here) (like_decoded tile s blob like one.1.1 here)

-- ---- how near it is

abbrev first_of : Option (List ℤ) → ℤ
first_of p = get_or (unwrap_or p []) 0 (pos 0)

-- pixels that are both valid, and then near, or both not
near_pixel : (p q : Option (List ℤ)) → is_some p ≡ is_some q → (is_some p ≡ true → 2 * unsigned_abs (first_of p -ℤ first_of q) ≤ 2) → unsigned_abs (first_of p -ℤ first_of q) ≤ 1
near_pixel None None same near = omega arith
near_pixel None (Some v) same near = absurd (let bad : ⊥ = cc in bad)
near_pixel (Some u) None same near = absurd (let bad : ⊥ = cc in bad)
near_pixel (Some u) (Some v) same near = let e = near refl in omega (arith, e)

at_place : (r : Pixels) (k : ℕ) → r.cols ≡ 64 → k / 64 * r.cols + k % 64 ≡ k
at_place r k cols = ap (λ (n : ℕ). k / 64 * n + k % 64) cols ∙ (let same : k / 64 * 64 + k % 64 ≡ k = omega arith in same)

places_of : (r : Pixels) → IsTileLike r → length r.pixels ≡ 4096
places_of r like = like.raster.places ∙ (λ i. like.rows i * like.cols i)

near_off : (tile s : Pixels) → IsTileLike tile → IsTileLike s → Near tile s (step_of 1) → (k : ℕ) → k < 4096 → off_by tile s k ≤ 1
near_off tile s like also near k within =
    let one = get_or tile.pixels k None in
    let two = get_or s.pixels k None in
    let there : k < length tile.pixels = omega (arith, within, places_of tile like) in
    let here : k < length s.pixels = omega (arith, within, places_of s also) in
    let same : is_some one ≡ is_some two =
    sym (get_or-map is_some tile.pixels k None false there) ∙ ap (λ (ms : List Bool). get_or ms k false) near.marks ∙ get_or-map is_some s.pixels k None false here in
    let row : k / 64 < tile.rows = omega (arith, within, like.rows) in
    let col : k % 64 < tile.cols = omega (arith, like.cols) in
    let deep : 0 < tile.depth = omega (arith, like.depth) in
    near_pixel one two same (λ valid.
    let is : IsTrue (valid_at tile (k / 64) (k % 64)) = ap (λ (n : ℕ). is_some (get_or tile.pixels n None)) (at_place tile k like.cols) ∙ valid in
    let e = near.values (k / 64) (k % 64) 0 (row, col) is deep in
    let left : value_at tile (k / 64) (k % 64) 0 ≡ first_of one = ap (λ (n : ℕ). first_of (get_or tile.pixels n None)) (at_place tile k like.cols) in
    let right : value_at s (k / 64) (k % 64) 0 ≡ first_of two = ap (λ (n : ℕ). first_of (get_or s.pixels n None)) (at_place s k also.cols) in
    subst (λ (v : ℤ). 2 * unsigned_abs (v -ℤ first_of two) ≤ 2) left (subst (λ (w : ℤ). 2 * unsigned_abs (value_at tile (k / 64) (k % 64) 0 -ℤ w) ≤ 2) right e))

pub near_at : (tile x : Pixels) (blob : List ℕ) (bands : List Pixels) → IsTileLike tile → IsFitting (tile ∷ []) blob → BandsBlob blob bands → slice_get bands 0 ≡ Some x → (k : ℕ) → k < 4096 → off_by tile x k ≤ 1
near_at tile x blob bands like f is at k within =
    let one = one_decoded tile blob bands f is in
    let here : BandsBlob blob (one.0 ∷ []) = subst (BandsBlob blob) one.1.0 is in
    let same = same_one tile x one.0 blob bands f is at here in
    near_off tile x like (like_at tile x blob bands like f is at) (subst (λ (s : Pixels). Near tile s (step_of 1)) same one.1.1) k within

-- the tile of one band
pub tile_at : (bands : List Pixels) (x tile : Pixels) → bands ≡ tile ∷ [] → slice_get bands 0 ≡ Some x → x ≡ tile
tile_at bands x tile is at =
    let there : Some x ≡ Some tile = sym at ∙ ap (λ (l : List Pixels). slice_get l 0) is in
    let same : x ≡ tile = cc in same

-- ---- the greatest of differences

abbrev pub off_at : List ℤ → List ℤ → ℕ → ℕ
off_at given found k = unsigned_abs (get_or given k (pos 0) -ℤ get_or found k (pos 0))

module _ (given found : List ℤ) (i greatest more : ℕ) (is : more ≡ max greatest (off_at given found i)) where
  pub bound_more : ((k : ℕ) → k < i → off_at given found k ≤ greatest) → (k : ℕ) → k < i + 1 → off_at given found k ≤ more
  bound_more bound k within = ⊎_elim
      (λ before. let below = bound k before in omega (arith, is, below))
      (λ not. let same : k ≡ i = omega (arith, within, not) in let e : off_at given found k ≡ off_at given found i = ap (off_at given found) same in omega (arith, is, e))
      (cases_lt k i)

  pub met_more : (0 < greatest → (k : ℕ) × ((k < i) × (off_at given found k ≡ greatest))) → 0 < more → (k : ℕ) × ((k < i + 1) × (off_at given found k ≡ more))
  met_more met above = ⊎_elim
      (λ less. (i, (omega arith, omega (arith, is, less))))
      (λ not. let old = met (omega (arith, is, not, above)) in (old.0, (omega (arith, old.1.0), omega (arith, is, not, old.1.1))))
      (cases_lt greatest (off_at given found i))

-- ---- the worst pixel

more_off : (start t n : ℕ) → IsOff start t n → IsOff start (t + 1) n
more_off start t n (u, k, (r, (before, is, within, off))) = (u, k, (r, (omega (arith, before), is, within, off)))

module _ (start t worst error : ℕ) (blob : List ℕ) (named : blob ≡ sample_blob start t) where
  abbrev pub Bounds : Type 0
  Bounds = (r : Pixels) (k : ℕ) → BandsBlob blob (r ∷ []) → k < 4096 → off_by (sample_tile start t) r k ≤ error

  abbrev pub Meets : Type 0
  Meets = 0 < error → (r : Pixels) × ((k : ℕ) × (BandsBlob blob (r ∷ []) × (k < 4096) × (off_by (sample_tile start t) r k ≡ error)))

  last_off : Bounds → (u k n : ℕ) (r : Pixels) → u ≡ t → BandsBlob (sample_blob start u) (r ∷ []) → k < 4096 → off_by (sample_tile start u) r k ≡ n → n ≤ error
  last_off bounds u k n r same is within off =
      let here : BandsBlob blob (r ∷ []) = subst (λ (b : List ℕ). BandsBlob b (r ∷ [])) (ap (sample_blob start) same ∙ sym named) is in
      let below = bounds r k here within in
      let moved : off_by (sample_tile start u) r k ≡ off_by (sample_tile start t) r k = ap (λ (v : ℕ). off_by (sample_tile start v) r k) same in
      omega (arith, below, moved, off)

  either_off : Bounds → IsWorst start t worst → (n : ℕ) → IsOff start (t + 1) n → n ≤ max worst error
  either_off bounds w n (u, k, (r, (before, is, within, off))) = ⊎_elim
      (λ less. let old = w.bound n (u, k, (r, (less, is, within, off))) in omega (arith, old))
      (λ not. let same : u ≡ t = omega (arith, before, not) in let new = last_off bounds u k n r same is within off in omega (arith, new))
      (cases_lt u t)

  met_off : Meets → 0 < error → IsOff start (t + 1) error
  met_off meets above =
      let m = meets above in
      let is : BandsBlob (sample_blob start t) (m.0 ∷ []) = subst (λ (b : List ℕ). BandsBlob b (m.0 ∷ [])) named m.1.1.0 in
      (t, m.1.0, (m.0, (omega arith, is, m.1.1.1, m.1.1.2)))

  pub worst_more : Bounds → Meets → IsWorst start t worst → IsWorst start (t + 1) (max worst error)
  worst_more bounds meets w = record {
    bound = either_off bounds w;
    met = λ above. ⊎_elim
        (λ less. let is : max worst error ≡ error = omega (arith, less) in subst (IsOff start (t + 1)) (sym is) (met_off meets (omega (arith, less))))
        (λ not. let is : max worst error ≡ worst = omega (arith, not) in subst (IsOff start (t + 1)) (sym is) (more_off start t worst (w.met (omega (arith, above, is)))))
        (cases_lt worst error);
  }

-- ---- the sums

pub sums_more : (start : ℕ) (s u : Sums) (blob : List ℕ) (error : ℕ) (named : blob ≡ sample_blob start s.tiles) → AreSums start s.tiles s
    → u.tiles ≡ s.tiles + 1 → u.bytes ≡ s.bytes + length blob → u.worst ≡ max s.worst error → u.checksums ≡ (s.checksums + u32_at blob 10) % 2 ^ 32
    → Bounds start s.tiles s.worst error blob named → Meets start s.tiles s.worst error blob named → AreSums start u.tiles u
sums_more start s u blob error named a tiles bytes worst checksums bounds meets =
    let t = s.tiles in
    let count = λ (g : List ℕ → ℕ). sum_by-map-range_with_len_more g (sample_blob start) 0 t t (omega arith) in
    let long : length blob ≡ length (sample_blob start t) = ap length named in
    let check : u32_at blob 10 ≡ u32_at (sample_blob start t) 10 = ap (λ (b : List ℕ). u32_at b 10) named in
    let all : u.bytes ≡ sum_by length (sample_blobs start (t + 1)) = omega (arith, bytes, a.bytes, count length, long) in
    let summed : u.checksums ≡ sum_by (λ b. u32_at b 10) (sample_blobs start (t + 1)) % 2 ^ 32 =
    omega (arith, checksums, a.checksums, count (λ b. u32_at b 10), check) in
    record {
      tiles = refl;
      bytes = all ∙ ap (λ (n : ℕ). sum_by length (sample_blobs start n)) (sym tiles);
      worst = subst (λ (n : ℕ). IsWorst start n u.worst) (sym tiles) (subst (IsWorst start (t + 1)) (sym worst) (worst_more start t s.worst error blob named bounds meets a.worst));
      checksums = summed ∙ ap (λ (n : ℕ). sum_by (λ b. u32_at b 10) (sample_blobs start n) % 2 ^ 32) (sym tiles);
    }

pub none_summed : (start : ℕ) → AreSums start 0 (record { tiles = 0; bytes = 0; worst = 0; checksums = 0 })
none_summed start = record {
  tiles = refl;
  bytes = refl;
  worst = record { bound = λ n off. absurd (omega (arith, off.2.1.0)); met = λ above. absurd (omega (arith, above)) };
  checksums = refl;
}
