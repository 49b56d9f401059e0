-- The values of the valid pixels, one pixel behind the other.
use Rattle.std.proofs.Common.{[], ◌≡◌, ℕ, ℤ, ◌<◌, List, length, get_or, Option, None, Some, suc, ◌∷◌, arith, ◌++◌, ◌+◌, ◌*◌, cond, sym, ap, ◌∙◌, length-append, take, drop, map, refl}
use Rattle.std.specs.Prelude.{IfSome, unwrap_or, is_some, count_by, All}
use Rattle.std.proofs.lemmas.List.Concat.{flat_map-cons}
use Rattle.std.proofs.lemmas.List.Sums.{sum_by-cons}
use Rattle.std.proofs.lemmas.List.Elements.{All-append, All-nil}
use Rattle.std.proofs.lemmas.List.{take_at, drop_at}
use Rattle.raster_cells.specs.declared.kind.PixelType.{PixelType}
use Rattle.raster_cells.specs.PixelType.{InRange}
use Rattle.raster_values.specs.Raster.{IsPixel, Pixels, IsRaster, values_of}

-- each valid pixel has so many values
abbrev pub AreDeep : ℕ → List (Option (List ℤ)) → Type 0
AreDeep depth ps = (k : ℕ) → k < length ps → IfSome (get_or ps k None) (λ values. length values ≡ depth)

deep : (kind : PixelType) (depth : ℕ) (p : Option (List ℤ)) → IsPixel kind depth p → IfSome p (λ values. length values ≡ depth)
deep kind depth None h = h
deep kind depth (Some values) h = h.0

pub raster_deep : (r : Pixels) → IsRaster r → AreDeep r.depth r.pixels
raster_deep r h k below = deep r.kind r.depth (get_or r.pixels k None) (h.each k below)

behind : (depth : ℕ) (p : Option (List ℤ)) (ps : List (Option (List ℤ))) → AreDeep depth (p ∷ ps) → AreDeep depth ps
behind depth p ps h k below = h (suc k) (omega (arith, below))

front : (depth : ℕ) (values : List ℤ) (ps : List (Option (List ℤ))) → AreDeep depth (Some values ∷ ps) → length values ≡ depth
front depth values ps h = h 0 (omega arith)

pub values_next : (p : Option (List ℤ)) (ps : List (Option (List ℤ))) → values_of (p ∷ ps) ≡ unwrap_or p [] ++ values_of ps
values_next p ps = flat_map-cons (λ (p : Option (List ℤ)). unwrap_or p []) p ps

-- as many values as valid pixels, times the depth
pub length-values_of : (depth : ℕ) (ps : List (Option (List ℤ))) → AreDeep depth ps → length (values_of ps) ≡ count_by is_some ps * depth
length-values_of depth [] h = omega arith
length-values_of depth (None ∷ ps) h =
    let rest = length-values_of depth ps (behind depth None ps h) in
    ap length (values_next None ps) ∙ rest ∙ ap (λ n. n * depth) (sym (sum_by-cons (λ p. cond (is_some p) 1 0) None ps ∙ (let e : 0 + count_by is_some ps ≡ count_by is_some ps = omega arith in e)))
length-values_of depth (Some values ∷ ps) h =
    let rest = length-values_of depth ps (behind depth (Some values) ps h) in
    let long = front depth values ps h in
    ap length (values_next (Some values) ps) ∙ length-append values (values_of ps)
    ∙ (let e : length values + length (values_of ps) ≡ (1 + count_by is_some ps) * depth = omega arith in e)
    ∙ ap (λ n. n * depth) (sym (sum_by-cons (λ p. cond (is_some p) 1 0) (Some values) ps))

pub values_in_range : (kind : PixelType) (depth : ℕ) (ps : List (Option (List ℤ))) → ((k : ℕ) → k < length ps → IsPixel kind depth (get_or ps k None)) → All (InRange kind) (values_of ps)
values_in_range kind depth [] h = All-nil (InRange kind)
values_in_range kind depth (None ∷ ps) h = values_in_range kind depth ps (λ k below. h (suc k) (omega arith))
values_in_range kind depth (Some values ∷ ps) h = All-append (InRange kind) values (values_of ps) (h 0 (omega arith)).1 (values_in_range kind depth ps (λ k below. h (suc k) (omega arith)))

-- the valid pixels and their values in order are the pixels
pub pixels_once : (depth : ℕ) (ps qs : List (Option (List ℤ))) → AreDeep depth ps → AreDeep depth qs → map is_some ps ≡ map is_some qs → values_of ps ≡ values_of qs → ps ≡ qs
pixels_once depth [] [] hp hq m e = refl
pixels_once depth [] (q ∷ qs) hp hq m e = absurd (let no : ⊥ = omega (arith, ap length m) in no)
pixels_once depth (p ∷ ps) [] hp hq m e = absurd (let no : ⊥ = omega (arith, ap length m) in no)
pixels_once depth (None ∷ ps) (None ∷ qs) hp hq m e =
    ap (λ xs. None ∷ xs) (pixels_once depth ps qs (behind depth None ps hp) (behind depth None qs hq) (ap (drop 1) m) (sym (values_next None ps) ∙ e ∙ values_next None qs))
pixels_once depth (None ∷ ps) (Some ys ∷ qs) hp hq m e = absurd (cc)
pixels_once depth (Some xs ∷ ps) (None ∷ qs) hp hq m e = absurd (cc)
pixels_once depth (Some xs ∷ ps) (Some ys ∷ qs) hp hq m e =
    let lx = front depth xs ps hp in
    let ly = front depth ys qs hq in
    let joins : xs ++ values_of ps ≡ ys ++ values_of qs = sym (values_next (Some xs) ps) ∙ e ∙ values_next (Some ys) qs in
    let first : xs ≡ ys = sym (take_at xs (values_of ps) depth lx) ∙ ap (take depth) joins ∙ take_at ys (values_of qs) depth ly in
    let rest : ps ≡ qs = pixels_once depth ps qs (behind depth (Some xs) ps hp) (behind depth (Some ys) qs hq) (ap (drop 1) m)
    (sym (drop_at xs (values_of ps) depth lx) ∙ ap (drop depth) joins ∙ drop_at ys (values_of qs) depth ly) in
    λ i. Some (first i) ∷ rest i
