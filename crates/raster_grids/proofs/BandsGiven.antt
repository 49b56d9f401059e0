-- The grid of bands, given part by part.
use Rattle.std.proofs.Common.{[], ◌≡◌, ℕ, List, ◌∷◌, length, Option, None, Some, ap, arith, ◌++◌, ◌≤◌, sym, append_assoc, ◌+◌, take, ◌∙◌, drop, subst}
use Rattle.std.specs.Prelude.{slice_get, codes}
use Rattle.std.specs.List.{flat_map}
use Rattle.std.proofs.lemmas.List.{append-nil, take_more, take-append-drop, take_all}
use Rattle.std.proofs.lemmas.Option.{get_or_from_slice_get, slice_get_within}
use Rattle.std.proofs.lemmas.Grind.{flat_map-append}
use Rattle.std.proofs.lemmas.List.Concat.{flat_map-cons}
use Rattle.raster_values.specs.Raster.{Pixels}
use Rattle.byteorder.specs.Endian.{little_bytes}
use Rattle.outside_io.specs.streams.Sink.{Holds, HoldsPrefix}
use Rattle.outside_io.proofs.StreamLemmas.Gives.{Holds_join, HoldsPrefix_front, HoldsPrefix_join}
use Rattle.raster_grids.specs.Grid.{grid_of, bands_grid_of, head_of, band_of}

-- one band has its own grid
pub single_grid : (bands : List Pixels) (r : Pixels) → length bands ≡ 1 → slice_get bands 0 ≡ Some r → bands_grid_of bands ≡ grid_of r
unfolding bands_grid_of
single_grid [] r long is = absurd (let no : ⊥ = omega (arith, long) in no)
single_grid (s ∷ []) r long is = ap (λ (o : Option Pixels). of_option o) is
  where
    of_option : Option Pixels → List ℕ
    of_option None = []
    of_option (Some r) = grid_of r
single_grid (s ∷ (t ∷ more)) r long is = absurd (let no : ⊥ = omega (arith, long) in no)

-- the head and the number of more bands
abbrev pub front_with : List Pixels → Option Pixels → List ℕ
front_with bands None = []
front_with bands (Some r) = head_of (codes "LGR2") r.kind r.rows r.cols r.depth ++ little_bytes 4 (length bands)

abbrev pub front_of : List Pixels → List ℕ
front_of bands = front_with bands (slice_get bands 0)

more_grid : (bands : List Pixels) → 2 ≤ length bands → bands_grid_of bands ≡ front_of bands ++ flat_map band_of bands
unfolding bands_grid_of
more_grid [] long = absurd (let no : ⊥ = omega (arith, long) in no)
more_grid (s ∷ []) long = absurd (let no : ⊥ = omega (arith, long) in no)
more_grid (s ∷ (t ∷ more)) long =
    let bands = s ∷ (t ∷ more) in
    sym (append_assoc (head_of (codes "LGR2") s.kind s.rows s.cols s.depth) (little_bytes 4 (length bands)) (flat_map band_of bands))

-- the same with the first band
front_is : (bands : List Pixels) (first : Pixels) → slice_get bands 0 ≡ Some first → front_of bands ≡ head_of (codes "LGR2") first.kind first.rows first.cols first.depth ++ little_bytes 4 (length bands)
front_is bands first is = ap (front_with bands) is

-- ---- the bands

-- the bands before number i, this one and those behind it
pub band_next : (bands : List Pixels) (i : ℕ) (r : Pixels) → slice_get bands i ≡ Some r → flat_map band_of (take (i + 1) bands) ≡ flat_map band_of (take i bands) ++ band_of r
band_next bands i r is =
    let one : flat_map band_of (r ∷ []) ≡ band_of r ++ [] = flat_map-cons band_of r [] in
    ap (flat_map band_of) (take_more bands i r (slice_get_within bands i r is) ∙ ap (λ (s : Pixels). take i bands ++ s ∷ []) (get_or_from_slice_get bands i r r is))
    ∙ flat_map-append band_of (take i bands) (r ∷ [])
    ∙ ap (λ u. flat_map band_of (take i bands) ++ u) (one ∙ append-nil (band_of r))

bands_split : (bands : List Pixels) (i : ℕ) (r : Pixels) → slice_get bands i ≡ Some r → flat_map band_of bands ≡ flat_map band_of (take i bands) ++ (band_of r ++ flat_map band_of (drop (i + 1) bands))
bands_split bands i r is =
    ap (flat_map band_of) (sym (take-append-drop (i + 1) bands))
    ∙ flat_map-append band_of (take (i + 1) bands) (drop (i + 1) bands)
    ∙ ap (λ u. u ++ flat_map band_of (drop (i + 1) bands)) (band_next bands i r is)
    ∙ append_assoc (flat_map band_of (take i bands)) (band_of r) (flat_map band_of (drop (i + 1) bands))

pub gave_more : (old mid new : Option (List ℕ)) (front : List ℕ) (bands : List Pixels) (i : ℕ) (r : Pixels) → slice_get bands i ≡ Some r → Holds old mid (front ++ flat_map band_of (take i bands)) → Holds mid new (band_of r)
    → Holds old new (front ++ flat_map band_of (take (i + 1) bands))
gave_more old mid new front bands i r is before one =
    subst (Holds old new) (append_assoc front (flat_map band_of (take i bands)) (band_of r) ∙ ap (λ u. front ++ u) (sym (band_next bands i r is)))
    (Holds_join old mid new (front ++ flat_map band_of (take i bands)) (band_of r) before one)

pub gave_part : (old mid new : Option (List ℕ)) (bands : List Pixels) (i : ℕ) (r : Pixels) → 2 ≤ length bands → slice_get bands i ≡ Some r → Holds old mid (front_of bands ++ flat_map band_of (take i bands)) → HoldsPrefix mid new (band_of r)
    → HoldsPrefix old new (bands_grid_of bands)
gave_part old mid new bands i r long is before one =
    let front = front_of bands in
    let rest = flat_map band_of (drop (i + 1) bands) in
    let all : (front ++ flat_map band_of (take i bands)) ++ (band_of r ++ rest) ≡ bands_grid_of bands =
    append_assoc front (flat_map band_of (take i bands)) (band_of r ++ rest) ∙ ap (λ u. front ++ u) (sym (bands_split bands i r is)) ∙ sym (more_grid bands long) in
    subst (HoldsPrefix old new) all (HoldsPrefix_join old mid new (front ++ flat_map band_of (take i bands)) (band_of r ++ rest) before (HoldsPrefix_front mid new (band_of r) rest one))

pub gave_all : (old new : Option (List ℕ)) (bands : List Pixels) (i : ℕ) → 2 ≤ length bands → length bands ≤ i → Holds old new (front_of bands ++ flat_map band_of (take i bands)) → Holds old new (bands_grid_of bands)
gave_all old new bands i long past held = subst (Holds old new) (ap (λ u. front_of bands ++ flat_map band_of u) (take_all i bands past) ∙ sym (more_grid bands long)) held

-- the head, and the number behind it, are a first part
split_grid : (bands : List Pixels) (first : Pixels) → 2 ≤ length bands → slice_get bands 0 ≡ Some first
    → head_of (codes "LGR2") first.kind first.rows first.cols first.depth ++ (little_bytes 4 (length bands) ++ flat_map band_of bands) ≡ bands_grid_of bands
split_grid bands first long is =
    sym (append_assoc (head_of (codes "LGR2") first.kind first.rows first.cols first.depth) (little_bytes 4 (length bands)) (flat_map band_of bands))
    ∙ ap (λ u. u ++ flat_map band_of bands) (sym (front_is bands first is)) ∙ sym (more_grid bands long)

pub head_given : (old new : Option (List ℕ)) (bands : List Pixels) (first : Pixels) → 2 ≤ length bands → slice_get bands 0 ≡ Some first → HoldsPrefix old new (head_of (codes "LGR2") first.kind first.rows first.cols first.depth)
    → HoldsPrefix old new (bands_grid_of bands)
head_given old new bands first long is held =
    subst (HoldsPrefix old new) (split_grid bands first long is) (HoldsPrefix_front old new (head_of (codes "LGR2") first.kind first.rows first.cols first.depth) (little_bytes 4 (length bands) ++ flat_map band_of bands) held)

pub number_given : (old mid new : Option (List ℕ)) (bands : List Pixels) (first : Pixels) → 2 ≤ length bands → slice_get bands 0 ≡ Some first → Holds old mid (head_of (codes "LGR2") first.kind first.rows first.cols first.depth)
    → HoldsPrefix mid new (little_bytes 4 (length bands)) → HoldsPrefix old new (bands_grid_of bands)
number_given old mid new bands first long is before held =
    subst (HoldsPrefix old new) (split_grid bands first long is)
    (HoldsPrefix_join old mid new (head_of (codes "LGR2") first.kind first.rows first.cols first.depth) (little_bytes 4 (length bands) ++ flat_map band_of bands) before (HoldsPrefix_front mid new (little_bytes 4 (length bands)) (flat_map band_of bands) held))

-- both
pub front_given : (old mid new : Option (List ℕ)) (bands : List Pixels) (first : Pixels) → slice_get bands 0 ≡ Some first → Holds old mid (head_of (codes "LGR2") first.kind first.rows first.cols first.depth) → Holds mid new (little_bytes 4 (length bands))
    → Holds old new (front_of bands ++ flat_map band_of (take 0 bands))
front_given old mid new bands first is before held =
    subst (Holds old new) (sym (front_is bands first is) ∙ sym (append-nil (front_of bands)))
    (Holds_join old mid new (head_of (codes "LGR2") first.kind first.rows first.cols first.depth) (little_bytes 4 (length bands)) before held)
