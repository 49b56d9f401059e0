-- A grid of bands is a part: it is read in one way, and stands or has one first fault. What is
-- written of bands is their grid.
use Rattle.std.proofs.Common.{[], ◌≡◌, ℕ, List, ◌++◌, take, ◌∙◌, arith, get_or, ap, ◌∷◌, length, refl, sym, ◌*◌, ◌≤◌, subst, length-append, append_assoc, suc, ◌+◌}
use Rattle.std.proofs.lemmas.List.{take-append-le}
use Rattle.std.specs.Prelude.{codes, All}
use Rattle.std.specs.List.{flat_map}
use Rattle.std.proofs.lemmas.List.Concat.{flat_map-cons}
use Rattle.std.proofs.lemmas.List.Elements.{All-head, All-tail, All-cons}
use Rattle.raster_values.proofs.OneGrid.{split_front}
use Rattle.first_fault.specs.Faults.{none, wrong, unless, AllNumbered, InNumbered, Numbered}
use Rattle.first_fault.proofs.Parts.{passed, single-none, single-unless, numbered_part, single-in_order, single-choice, same_rest, failed, behind_it}
use Rattle.first_fault.specs.Parts.{IsSingle, IsPart}
use Rattle.raster_values.specs.Raster.{Pixels, IsRaster}
use Rattle.raster_values.specs.Bands.{AreBands, IsLike}
use Rattle.byteorder.specs.Endian.{little_bytes}
use Rattle.byteorder.specs.Numbers.{little_number-reads_back}
use Rattle.raster_grids.specs.declared.reading.Head.{Head}
use Rattle.raster_grids.specs.ReadGrid.{IsHead, number_at, cut, behind_head, head_faults, grid_faults, IsGrid}
use Rattle.raster_grids.specs.BandsGrid.{IsBandCount, count_faults, IsBandGrid, behind_more, more_faults, bands_faults, IsBandsGrid, of_one, of_more, BandsGridsAreParts, GridsAreOfBands, WrittenBandsStand}
use Rattle.raster_grids.specs.declared.reading.GridReason.{GridReason}
use Rattle.raster_grids.specs.declared.reading.GridReason.TheVariants.{BadSize, TooLarge, Truncated}
use Rattle.raster_grids.proofs.GridLaws.{band_part, head_part, one_grid_fault, grids_are_parts, no_grid_fault, written_band, written_head_stands, written_grid}
use Rattle.raster_grids.proofs.GridParts.{head_in}
use Rattle.raster_grids.proofs.BandLists.{may_be, one_is_bands}
use Rattle.raster_grids.specs.Grid.{band_of, bands_grid_of, head_of as written_head}

-- ---- letters

-- what bytes begin with a head begin with its letters
pub front_letters : (magic a s : List ℕ) (h : Head) → IsHead magic a h → take 4 (a ++ s) ≡ magic
front_letters magic a s h stands = take-append-le 4 a s (omega (arith, stands.size)) ∙ stands.letters

pub other_letters : codes "LGR1" ≡ codes "LGR2" → ⊥
other_letters e = let last : ◌≡◌ {A = ℕ} 49 50 = ap (λ u. get_or u 3 0) e in let no : ⊥ = omega (arith, last) in no

-- ---- the number of bands

pub four_front : (a s : List ℕ) → length a ≡ 4 → number_at (a ++ s) 0 ≡ number_at a 0
four_front [] s long = absurd (let no : ⊥ = omega (arith, long) in no)
four_front (b ∷ []) s long = absurd (let no : ⊥ = omega (arith, long) in no)
four_front (b ∷ (c ∷ [])) s long = absurd (let no : ⊥ = omega (arith, long) in no)
four_front (b ∷ (c ∷ (d ∷ []))) s long = absurd (let no : ⊥ = omega (arith, long) in no)
four_front (b ∷ (c ∷ (d ∷ (e ∷ [])))) s long = refl
four_front (b ∷ (c ∷ (d ∷ (e ∷ (f ∷ a))))) s long = absurd (let no : ⊥ = omega (arith, long) in no)

count_once : (h : Head) (a b s t : List ℕ) (m n : ℕ) → IsBandCount h a m → IsBandCount h b n → a ++ s ≡ b ++ t → (a ≡ b) × (m ≡ n)
count_once h a b s t m n ha hb e =
    let same : a ≡ b = split_front a b s t 4 ha.size hb.size e in
    (same, sym ha.number ∙ ap (λ u. number_at u 0) same ∙ hb.number)

no_count_fault : (h : Head) (a s : List ℕ) (n p : ℕ) (r : GridReason) → IsBandCount h a n → count_faults h (a ++ s) p r → ⊥
no_count_fault h a s n p r b w =
    let long : 4 ≤ length (a ++ s) = omega (arith, length-append a s, b.size) in
    let number : number_at (a ++ s) 0 ≡ n = four_front a s b.size ∙ b.number in
    let small : number_at (a ++ s) 0 * (h.rows * h.cols * h.depth) ≤ 16777216 = subst (λ m. m * (h.rows * h.cols * h.depth) ≤ 16777216) (sym number) b.small in
    let t1 = passed (4 ≤ length (a ++ s)) (unless ((2 ≤ number_at (a ++ s) 0) × (number_at (a ++ s) 0 ≤ 16)) (wrong BadSize 0) (unless (number_at (a ++ s) 0 * (h.rows * h.cols * h.depth) ≤ 16777216) (wrong TooLarge 0) none)) (cut (a ++ s)) long p r w in
    let t2 = passed ((2 ≤ number_at (a ++ s) 0) × (number_at (a ++ s) 0 ≤ 16)) (unless (number_at (a ++ s) 0 * (h.rows * h.cols * h.depth) ≤ 16777216) (wrong TooLarge 0) none) (wrong BadSize 0)
    (omega (arith, number, b.least), omega (arith, number, b.most)) p r t1 in
    passed (number_at (a ++ s) 0 * (h.rows * h.cols * h.depth) ≤ 16777216) none (wrong TooLarge 0) small p r t2

one_count_fault : (h : Head) (rest : List ℕ) → IsSingle (count_faults h rest)
one_count_fault h rest =
    let large : IsSingle (unless (number_at rest 0 * (h.rows * h.cols * h.depth) ≤ 16777216) (wrong TooLarge 0) none) = single-unless (number_at rest 0 * (h.rows * h.cols * h.depth) ≤ 16777216) TooLarge 0 none single-none in
    single-unless (4 ≤ length rest) Truncated (length rest) (unless ((2 ≤ number_at rest 0) × (number_at rest 0 ≤ 16)) (wrong BadSize 0) (unless (number_at rest 0 * (h.rows * h.cols * h.depth) ≤ 16777216) (wrong TooLarge 0) none))
    (single-unless ((2 ≤ number_at rest 0) × (number_at rest 0 ≤ 16)) BadSize 0 (unless (number_at rest 0 * (h.rows * h.cols * h.depth) ≤ 16777216) (wrong TooLarge 0) none) large)

count_part : (h : Head) → IsPart (IsBandCount h) (count_faults h)
count_part h = record { once = count_once h; either = no_count_fault h; single = one_count_fault h }

-- ---- the bands

bands_part : (h : Head) (n : ℕ) → IsPart (AllNumbered (λ k. IsBandGrid h) n) (InNumbered (λ k. IsBandGrid h) (λ k. behind_head h) n)
bands_part h n = numbered_part (λ k. IsBandGrid h) (λ k. behind_head h) (λ k. band_part h) n

one_behind_more : (h : Head) (rest : List ℕ) → IsSingle (behind_more h rest)
one_behind_more h rest = single-in_order (IsBandCount h) (count_faults h) (λ n. InNumbered (λ k. IsBandGrid h) (λ k. behind_head h) n) (count_part h) (λ n. let part = bands_part h n in part.single) rest

one_more_fault : (bytes : List ℕ) → IsSingle (more_faults bytes)
one_more_fault bytes = single-in_order (IsHead (codes "LGR2")) (head_faults (codes "LGR2")) behind_more (head_part (codes "LGR2")) one_behind_more bytes

pub one_bands_fault : (bytes : List ℕ) → IsSingle (bands_faults bytes)
one_bands_fault bytes = single-choice (take 4 bytes ≡ codes "LGR2") (more_faults bytes) (grid_faults bytes) (one_more_fault bytes) (one_grid_fault bytes)

-- a head, a number and what follows them
joined_more : (bytes a b c s : List ℕ) → bytes ≡ a ++ (b ++ c) → bytes ++ s ≡ a ++ (b ++ (c ++ s))
joined_more bytes a b c s e = ap (λ u. u ++ s) e ∙ append_assoc a (b ++ c) s ∙ ap (λ u. a ++ u) (append_assoc b c s)

grid_letters : (bytes s : List ℕ) (r : Pixels) → IsGrid bytes r → take 4 (bytes ++ s) ≡ codes "LGR1"
grid_letters bytes s r g =
    let all : bytes ++ s ≡ g.head ++ ((g.marks ++ g.values) ++ s) = ap (λ u. u ++ s) g.joined ∙ append_assoc g.head (g.marks ++ g.values) s in
    ap (take 4) all ∙ front_letters (codes "LGR1") g.head ((g.marks ++ g.values) ++ s) (head_in r) g.head_of

more_letters : (bytes a b c s : List ℕ) (h : Head) → bytes ≡ a ++ (b ++ c) → IsHead (codes "LGR2") a h → take 4 (bytes ++ s) ≡ codes "LGR2"
more_letters bytes a b c s h e stands = ap (take 4) (joined_more bytes a b c s e) ∙ front_letters (codes "LGR2") a (b ++ (c ++ s)) h stands

bands_once : (a b s t : List ℕ) (xs ys : List Pixels) → IsBandsGrid a xs → IsBandsGrid b ys → a ++ s ≡ b ++ t → (a ≡ b) × (xs ≡ ys)
bands_once a b s t xs ys (of_one x isx ga) (of_one y isy gb) e =
    let same = grids_are_parts.once a b s t x y ga gb e in
    (same.0, isx ∙ ap (λ r. r ∷ []) same.1 ∙ sym isy)
bands_once a b s t xs ys (of_one x isx ga) (of_more h n head count behind joined stands number all) e =
    absurd (other_letters (sym (grid_letters a s x ga) ∙ ap (take 4) e ∙ more_letters b head count behind t h joined stands))
bands_once a b s t xs ys (of_more h n head count behind joined stands number all) (of_one y isy gb) e =
    absurd (other_letters (sym (grid_letters b t y gb) ∙ ap (take 4) (sym e) ∙ more_letters a head count behind s h joined stands))
bands_once a b s t xs ys (of_more h n head count behind joined stands number all) (of_more h' n' head' count' behind' joined' stands' number' all') e =
    let joins : head ++ (count ++ (behind ++ s)) ≡ head' ++ (count' ++ (behind' ++ t)) = sym (joined_more a head count behind s joined) ∙ e ∙ joined_more b head' count' behind' t joined' in
    let heads = (head_part (codes "LGR2")).once head head' (count ++ (behind ++ s)) (count' ++ (behind' ++ t)) h h' stands stands' joins in
    let after = same_rest head head' (count ++ (behind ++ s)) (count' ++ (behind' ++ t)) heads.0 joins in
    let counts = count_once h count count' (behind ++ s) (behind' ++ t) n n' number (subst (λ (g : Head). IsBandCount g count' n') (sym heads.1) number') after in
    let last = same_rest count count' (behind ++ s) (behind' ++ t) counts.0 after in
    let there : AllNumbered (λ k. IsBandGrid h) n behind' ys = subst (λ m. AllNumbered (λ k. IsBandGrid h) m behind' ys) (sym counts.1) (subst (λ (g : Head). AllNumbered (λ k. IsBandGrid g) n' behind' ys) (sym heads.1) all') in
    let bands = (bands_part h n).once behind behind' s t xs ys all there last in
    let bytes : head ++ (count ++ behind) ≡ head' ++ (count' ++ behind') = λ i. heads.0 i ++ (counts.0 i ++ bands.0 i) in
    (joined ∙ bytes ∙ sym joined', bands.1)

no_bands_fault : (a s : List ℕ) (xs : List Pixels) (p : ℕ) (r : GridReason) → IsBandsGrid a xs → bands_faults (a ++ s) p r → ⊥
no_bands_fault a s xs p r (of_one x is g) w =
    no_grid_fault a s x p r g (failed (take 4 (a ++ s) ≡ codes "LGR2") (more_faults (a ++ s)) (grid_faults (a ++ s)) (λ m. other_letters (sym (grid_letters a s x g) ∙ m)) p r w)
no_bands_fault a s xs p r (of_more h n head count behind joined stands number all) w =
    let own = passed (take 4 (a ++ s) ≡ codes "LGR2") (more_faults (a ++ s)) (grid_faults (a ++ s)) (more_letters a head count behind s h joined stands) p r w in
    let whole : more_faults (head ++ (count ++ (behind ++ s))) p r = subst (λ u. more_faults u p r) (joined_more a head count behind s joined) own in
    let after = behind_it (IsHead (codes "LGR2")) (head_faults (codes "LGR2")) behind_more (head_part (codes "LGR2")) head (count ++ (behind ++ s)) h stands p r whole in
    let last = behind_it (IsBandCount h) (count_faults h) (λ n. InNumbered (λ k. IsBandGrid h) (λ k. behind_head h) n) (count_part h) count (behind ++ s) n number after.0 r after.1.1 in
    (bands_part h n).either behind s xs last.0 r all last.1.1

pub bands_grids_are_parts : BandsGridsAreParts
bands_grids_are_parts = record { once = bands_once; either = no_bands_fault; single = one_bands_fault }

-- ---- what has a grid are bands

pub grids_are_of_bands : GridsAreOfBands
grids_are_of_bands bytes bands (of_one r is g) = subst AreBands (sym is) (one_is_bands r g.raster)
grids_are_of_bands bytes bands (of_more h n head count behind joined stands number all) =
    (omega (arith, all.0, number.least), may_be h behind bands n all.1 (omega (arith, all.0)) number.most number.small)

-- ---- what is written

written_bands_behind : (r : Pixels) (k : ℕ) (bands : List Pixels) → All IsRaster bands → All (IsLike r) bands → Numbered (λ k. IsBandGrid (head_in r)) k (flat_map band_of bands) bands
written_bands_behind r k [] sound like = refl
written_bands_behind r k (s ∷ more) sound like =
    let shape = All-head (IsLike r) s more like in
    let same : head_in s ≡ head_in r = λ i. record { kind = shape.kind i; rows = shape.rows i; cols = shape.cols i; depth = shape.depth i } in (
      band_of s,
      (
        flat_map band_of more,
        (
          flat_map-cons band_of s more,
          (
            subst (λ (h : Head). IsBandGrid h (band_of s) s) same (written_band s (All-head IsRaster s more sound)),
            written_bands_behind r (suc k) more (All-tail IsRaster s more sound) (All-tail (IsLike r) s more like),
          ),
        ),
      ),
    )

pub written_bands : WrittenBandsStand
unfolding bands_grid_of
written_bands [] h = absurd (let no : ⊥ = omega (arith, h.0) in no)
written_bands (r ∷ []) h = of_one r refl (written_grid r (All-head IsRaster r [] h.1.sound))
written_bands (r ∷ (s ∷ rest)) h =
    let bands = r ∷ (s ∷ rest) in
    let n = length bands in
    let sound = All-head IsRaster r (s ∷ rest) h.1.sound in
    let few = h.1.few in
    let small = subst (λ m. m * (r.rows * r.cols * r.depth) ≤ 16777216) (let e : 1 + length (s ∷ rest) ≡ n = omega arith in e) h.1.like.1 in
    of_more (head_in r) n (written_head (codes "LGR2") r.kind r.rows r.cols r.depth) (little_bytes 4 n) (flat_map band_of bands) refl (written_head_stands 50 r sound)
    (record {
      size = refl;
      number = little_number-reads_back 4 n [] (omega (arith, few));
      least = omega arith;
      most = few;
      small = small;
    })
    (refl, written_bands_behind r 0 bands h.1.sound (All-cons (IsLike r) r (s ∷ rest) (record { kind = refl; rows = refl; cols = refl; depth = refl }) h.1.like.0))
