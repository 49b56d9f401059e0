-- The numbers of several bands, and the types of their values.
use Rattle.std.proofs.Common.{◌≡◌, ℕ, zero, suc, ◌∷◌, ◌<◌, List, length, get_or, map, Some, refl, sym, ap, ◌∙◌, arith}
use Rattle.std.specs.Prelude.{replicate, slice_get}
use Rattle.std.proofs.lemmas.List.{get_or-map, get_or-replicate, length-map, length-replicate}
use Rattle.std.proofs.lemmas.Option.{get_or_from_slice_get, slice_get-get_or}
use Rattle.raster_cells.specs.declared.kind.PixelType.{PixelType}
use Rattle.overview_tiles.specs.Sums.{no_sums, zero_sums}
use Rattle.overview_tiles.specs.inside.Numbers.{Numbers, kinds_of, sums_of, zero_numbers}

map_replicate : {X Y : Type 0} (f : X → Y) (n : ℕ) (x : X) → map f (replicate n x) ≡ replicate n (f x)
map_replicate f zero x = refl
map_replicate f (suc n) x = ap (λ ys. f x ∷ ys) (map_replicate f n x)

-- ---- of a band among them

pub sums_at : (bands : List Numbers) (b : ℕ) (d : Numbers) → b < length bands → get_or (sums_of bands) b no_sums ≡ (get_or bands b d).sums
sums_at bands b d inside = get_or-map (λ (n : Numbers). n.sums) bands b d no_sums inside

pub kind_there : (bands : List Numbers) (b : ℕ) (d : Numbers) (kind : PixelType) → b < length bands → slice_get (kinds_of bands) b ≡ Some kind → (get_or bands b d).kind ≡ kind
kind_there bands b d kind inside e = sym (get_or-map (λ (n : Numbers). n.kind) bands b d kind inside) ∙ get_or_from_slice_get (kinds_of bands) b kind kind e

-- ---- bands of one type

pub kinds_at : (bands : List Numbers) (kind : PixelType) (b : ℕ) → kinds_of bands ≡ replicate (length bands) kind → b < length bands → slice_get (kinds_of bands) b ≡ Some kind
kinds_at bands kind b all inside =
    let size : length (kinds_of bands) ≡ length bands = length-map bands (λ (n : Numbers). n.kind) in
    slice_get-get_or (kinds_of bands) b kind (omega (arith, inside, size)) ∙ ap Some (ap (λ (ks : List PixelType). get_or ks b kind) all ∙ get_or-replicate (length bands) b kind kind inside)

pub kind_at : (bands : List Numbers) (kind : PixelType) (b : ℕ) (d : Numbers) → kinds_of bands ≡ replicate (length bands) kind → b < length bands → (get_or bands b d).kind ≡ kind
kind_at bands kind b d all inside = kind_there bands b d kind inside (kinds_at bands kind b all inside)

-- ---- bands of which nothing was laid

pub zero_sums_of : (bands : List Numbers) (n : ℕ) (kind : PixelType) (places depth : ℕ) → bands ≡ replicate n (zero_numbers kind places depth) → sums_of bands ≡ replicate n (zero_sums places depth)
zero_sums_of bands n kind places depth is = ap sums_of is ∙ map_replicate (λ (m : Numbers). m.sums) n (zero_numbers kind places depth)

pub zero_kinds_of : (bands : List Numbers) (n : ℕ) (kind : PixelType) (places depth : ℕ) → bands ≡ replicate n (zero_numbers kind places depth) → kinds_of bands ≡ replicate (length bands) kind
zero_kinds_of bands n kind places depth is =
    let z = zero_numbers kind places depth in
    let count : length bands ≡ n = ap length is ∙ length-replicate n z in
    ap kinds_of is ∙ map_replicate (λ (m : Numbers). m.kind) n z ∙ ap (λ k. replicate k kind) (sym count)
