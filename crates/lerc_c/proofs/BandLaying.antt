-- Bands laid into arrays, one behind the other.
use Rattle.std.proofs.Common.{◌≡◌, ℕ, ◌+◌, ◌*◌, zero, suc, List, [], ◌∷◌, ◌++◌, length, take, drop, Option, Some, refl, sym, ap, ◌∙◌, subst, arith, append_assoc}
use Rattle.std.specs.Prelude.{IfSome, slice_get}
use Rattle.std.specs.List.{flat_map}
use Rattle.std.proofs.lemmas.List.{append-nil, take_at, drop_at, drop-drop, take_more}
use Rattle.std.proofs.lemmas.List.Concat.{flat_map-cons}
use Rattle.std.proofs.lemmas.Grind.{flat_map-append}
use Rattle.std.proofs.lemmas.Option.{get_or_from_slice_get, slice_get_within}
use Rattle.std.proofs.Math.Nat.{add-mul}
use Rattle.raster_values.specs.Raster.{Pixels}
use Rattle.raster_values.specs.Places.{SameShape}
use Rattle.raster_values.specs.Order.{IsMaskOf}
use Rattle.raster_values.specs.Bands.{AreBands}
use Rattle.lerc_c.specs.Arrays.{values_size, mask_array_size}
use Rattle.lerc_c.specs.BandArrays.{AreMasks, HaveBandSizes, cells_of}

-- one run more behind those that were laid
pub laid_more : (start old new front run : List ℕ) (i size : ℕ) → old ≡ front ++ drop (i * size) start → length front ≡ i * size → new ≡ take (i * size) old ++ (run ++ drop (i * size + size) old) → new ≡ (front ++ run) ++ drop ((i + 1) * size) start
laid_more start old new front run i size is long laid =
    let t : take (i * size) old ≡ front = ap (take (i * size)) is ∙ take_at front (drop (i * size) start) (i * size) long in
    let d : drop (i * size) old ≡ drop (i * size) start = ap (drop (i * size)) is ∙ drop_at front (drop (i * size) start) (i * size) long in
    let rest : drop (i * size + size) old ≡ drop ((i + 1) * size) start =
    sym (drop-drop size (i * size) old) ∙ ap (drop size) d ∙ drop-drop size (i * size) start ∙ ap (λ n. drop n start) (let e : i * size + size ≡ (i + 1) * size = omega (arith, add-mul i 1 size) in e) in
    laid ∙ (λ j. t j ++ (run ++ rest j)) ∙ sym (append_assoc front run (drop ((i + 1) * size) start))

pub masks_more : (front run : List ℕ) (bands : List Pixels) (r : Pixels) → AreMasks front bands → IsMaskOf r run → AreMasks (front ++ run) (bands ++ r ∷ [])
masks_more front run [] r are one = (run, ([], (ap (λ u. u ++ run) are ∙ sym (append-nil run), (one, refl))))
masks_more front run (s ∷ more) r (head, (rest, (joined, (stands, later)))) one = (head, (rest ++ run, (ap (λ u. u ++ run) joined ∙ append_assoc head rest run, (stands, masks_more rest run more r later one))))

pub one_more : (bands : List Pixels) (i : ℕ) (r : Pixels) → slice_get bands i ≡ Some r → take (i + 1) bands ≡ take i bands ++ r ∷ []
one_more bands i r is = take_more bands i r (slice_get_within bands i r is) ∙ ap (λ (s : Pixels). take i bands ++ s ∷ []) (get_or_from_slice_get bands i r r is)

pub cells_more : (bands : List Pixels) (i : ℕ) (r : Pixels) → slice_get bands i ≡ Some r → flat_map cells_of (take (i + 1) bands) ≡ flat_map cells_of (take i bands) ++ cells_of r
cells_more bands i r is =
    let one : flat_map cells_of (r ∷ []) ≡ cells_of r ++ [] = flat_map-cons cells_of r [] in
    ap (flat_map cells_of) (one_more bands i r is) ∙ flat_map-append cells_of (take i bands) (r ∷ []) ∙ ap (λ u. flat_map cells_of (take i bands) ++ u) (one ∙ append-nil (cells_of r))

-- all bands have the shape of the first
pub same_shape : (bands : List Pixels) (first r : Pixels) (i : ℕ) → AreBands bands → slice_get bands 0 ≡ Some first → slice_get bands i ≡ Some r → SameShape r first
same_shape [] first r i are start is = absurd (let some = are.0 in let no : ⊥ = omega (arith, some) in no)
same_shape (s ∷ more) first r i are start is = subst (λ (o : Option Pixels). IfSome o (λ f. SameShape r f)) start (by i is)
  where
    by : (i : ℕ) → slice_get (s ∷ more) i ≡ Some r → SameShape r s
    by zero e = subst (λ (o : Option Pixels). IfSome o (λ q. SameShape q s)) e (record { kind = refl; rows = refl; cols = refl; depth = refl })
    by (suc k) e = subst (λ (q : Pixels). SameShape q s) (get_or_from_slice_get more k r r e) (are.1.like.0 k r (slice_get_within more k r e))

pub sizes_of : (bands : List Pixels) (first : Pixels) (n values masks : ℕ) → slice_get bands 0 ≡ Some first → HaveBandSizes bands n values masks → (values ≡ n * values_size first.kind first.rows first.cols first.depth) × (masks ≡ n * mask_array_size first.rows first.cols)
sizes_of [] first n values masks start h = absurd h
sizes_of (s ∷ more) first n values masks start h =
    subst (λ (o : Option Pixels). IfSome o (λ f. (values ≡ n * values_size f.kind f.rows f.cols f.depth) × (masks ≡ n * mask_array_size f.rows f.cols))) start (h.1.0, h.1.1)

pub same_count : (bands : List Pixels) (n values masks : ℕ) → HaveBandSizes bands n values masks → n ≡ length bands
same_count [] n values masks h = absurd h
same_count (s ∷ more) n values masks h = h.0

-- arrays of masks that bands ask for have one length
pub masks_once : (bands : List Pixels) (first : Pixels) (n values masks other : ℕ) → slice_get bands 0 ≡ Some first → other ≡ length bands * mask_array_size first.rows first.cols → HaveBandSizes bands n values masks → HaveBandSizes bands n values other
masks_once bands first n values masks other start is h =
    let same : masks ≡ other = (sizes_of bands first n values masks start h).1 ∙ ap (λ k. k * mask_array_size first.rows first.cols) (same_count bands n values masks h) ∙ sym is in
    subst (λ k. HaveBandSizes bands n values k) same h

pub same_values_size : (r s : Pixels) → SameShape r s → values_size r.kind r.rows r.cols r.depth ≡ values_size s.kind s.rows s.cols s.depth
same_values_size r s e = λ i. values_size (e.kind i) (e.rows i) (e.cols i) (e.depth i)

pub same_mask_size : (r s : Pixels) → SameShape r s → mask_array_size r.rows r.cols ≡ mask_array_size s.rows s.cols
same_mask_size r s e = λ i. mask_array_size (e.rows i) (e.cols i)
