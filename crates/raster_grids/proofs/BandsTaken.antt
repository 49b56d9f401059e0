-- The grid of bands, taken part by part.
use Rattle.std.proofs.Common.{[], ◌≡◌, ℕ, ◌<◌, ◌≤◌, Bool, true, false, List, ◌++◌, length, take, refl, sym, ap, ◌∙◌, arith, ⊎_elim, inl, inr, subst, ◌+◌, Option, ◌∷◌}
use Rattle.std.specs.Prelude.{codes, IsTrue}
use Rattle.std.proofs.lemmas.List.{append-nil, take-append-le}
use Rattle.std.proofs.lemmas.Bool.{cases_lt, false≢true}
use Rattle.raster_grids.specs.Taken.{TookBytes}
use Rattle.raster_values.specs.Raster.{Pixels}
use Rattle.raster_grids.proofs.TakenBytes.{took_join}
use Rattle.first_fault.specs.Faults.{InNumbered, AllNumbered, Numbered}
use Rattle.raster_grids.specs.declared.reading.GridReason.{GridReason}
use Rattle.raster_grids.specs.ReadGrid.{magic_faults, IsHead, IsToldFault, behind_head}
use Rattle.raster_grids.specs.inside.Heads.{front_faults, letters_of}
use Rattle.raster_grids.proofs.Taken.{head_fault, told_behind}
use Rattle.raster_grids.specs.BandsGrid.{bands_faults, count_faults, IsBandGrid, of_one, TookBands, behind_more, IsBandCount, of_more}
use Rattle.raster_grids.specs.declared.reading.Head.{Head}
use Rattle.raster_grids.specs.declared.reading.GridReason.TheVariants.{Truncated}
use Rattle.raster_grids.specs.declared.reading.GridStop.{GridStop}
use Rattle.raster_grids.proofs.BandsGridLaws.{front_letters, other_letters}
use Rattle.raster_grids.proofs.GridParts.{grid_with, told_own, told_later}

-- ---- the head

-- a fault of the bytes that there are of a head is one of all
pub front_told : (bytes rest : List ℕ) (more : Bool) (p : ℕ) (r : GridReason) → length bytes ≤ 17 → (length bytes < 17 → rest ≡ []) → (IsTrue more → take 4 bytes ≡ codes "LGR2") → (take 4 bytes ≡ codes "LGR2" → IsTrue more)
    → magic_faults (letters_of more) bytes p r → front_faults (bytes ++ rest) p r
front_told bytes rest more p r few end told back w = by_more more told back w
  where
    same : take 4 (bytes ++ rest) ≡ take 4 bytes
    same =
        ⊎_elim
        (λ (less : length bytes < 17). ap (λ u. take 4 (bytes ++ u)) (end less) ∙ ap (take 4) (append-nil bytes))
        (λ (all : 17 ≤ length bytes). take-append-le 4 bytes rest (omega (arith, all)))
        (cases_lt (length bytes) 17)

    by_more : (more : Bool) → (IsTrue more → take 4 bytes ≡ codes "LGR2") → (take 4 bytes ≡ codes "LGR2" → IsTrue more) → magic_faults (letters_of more) bytes p r → front_faults (bytes ++ rest) p r
    by_more true told back w = inl (same ∙ told refl, head_fault (codes "LGR2") bytes rest p r few end w)
    by_more false told back w = inr ((λ e. absurd (false≢true (back (sym same ∙ e)))), head_fault (codes "LGR1") bytes rest p r few end w)

-- a fault of the head is one of the grid
pub front_is_fault : (bytes : List ℕ) (p : ℕ) (r : GridReason) → front_faults bytes p r → bands_faults bytes p r
front_is_fault bytes p r (inl (letters, w)) = inl (letters, inl w)
front_is_fault bytes p r (inr (other, w)) = inr (other, inl w)

-- fewer bytes than the number of bands has
pub count_cut : (h : Head) (bytes rest : List ℕ) → length bytes < 4 → rest ≡ [] → count_faults h (bytes ++ rest) (length bytes) Truncated
count_cut h bytes rest fewer end =
    let all : bytes ++ rest ≡ bytes = ap (λ u. bytes ++ u) end ∙ append-nil bytes in
    subst (λ u. count_faults h u (length bytes) Truncated) (sym all) (inr ((λ long. let no : ⊥ = omega (arith, long, fewer) in no), (refl, refl)))

-- ---- one band

pub one_told : (old mid : Option (List ℕ)) (head : List ℕ) (h : Head) (at : ℕ) (stop : GridStop) → IsHead (codes "LGR1") head h → TookBytes old mid head → IsToldFault (behind_head h) mid (at + 17) stop → IsToldFault bands_faults old at stop
one_told old mid head h at stop stands took told =
    told_behind bands_faults (behind_head h) old mid head at (at + 17) stop took (omega (arith, stands.size))
    (λ rest p r w. inr ((λ e. other_letters (sym (front_letters (codes "LGR1") head rest h stands) ∙ e)), inr (record { front = head; rest = rest; value = h; joined = refl; stands = stands; later = (p, (refl, w)) }))) told

pub one_taken : (old mid new : Option (List ℕ)) (head bytes : List ℕ) (h : Head) (r : Pixels) → IsHead (codes "LGR1") head h → TookBytes old mid head → IsBandGrid h bytes r → TookBytes mid new bytes → TookBands old new (r ∷ [])
one_taken old mid new head bytes h r stands took band then = (head ++ bytes, (of_one r refl (grid_with head bytes h r stands band), took_join old mid new head bytes took then))

-- ---- more bands

-- what is wrong behind the head is wrong with the grid
pub more_told : (old mid : Option (List ℕ)) (head : List ℕ) (h : Head) (at : ℕ) (stop : GridStop) → IsHead (codes "LGR2") head h → TookBytes old mid head → IsToldFault (behind_more h) mid (at + 17) stop → IsToldFault bands_faults old at stop
more_told old mid head h at stop stands took told =
    told_behind bands_faults (behind_more h) old mid head at (at + 17) stop took (omega (arith, stands.size))
    (λ rest p r w. inl (front_letters (codes "LGR2") head rest h stands, inr (record { front = head; rest = rest; value = h; joined = refl; stands = stands; later = (p, (refl, w)) }))) told

pub count_told : (old : Option (List ℕ)) (h : Head) (at : ℕ) (stop : GridStop) → IsToldFault (count_faults h) old at stop → IsToldFault (behind_more h) old at stop
count_told old h at stop told = told_own (IsBandCount h) (count_faults h) (λ n. InNumbered (λ k. IsBandGrid h) (λ k. behind_head h) n) old at stop told

pub bands_told : (old mid : Option (List ℕ)) (count : List ℕ) (h : Head) (n at next : ℕ) (stop : GridStop) → IsBandCount h count n → TookBytes old mid count → next ≡ at + 4
    → IsToldFault (InNumbered (λ k. IsBandGrid h) (λ k. behind_head h) n) mid next stop → IsToldFault (behind_more h) old at stop
bands_told old mid count h n at next stop number took is told =
    told_later (IsBandCount h) (count_faults h) (λ n. InNumbered (λ k. IsBandGrid h) (λ k. behind_head h) n) old mid count n at next stop number took (omega (arith, is, number.size)) told

pub more_taken : (old mid later new : Option (List ℕ)) (head count bytes : List ℕ) (h : Head) (n : ℕ) (bands : List Pixels) → IsHead (codes "LGR2") head h → TookBytes old mid head → IsBandCount h count n → TookBytes mid later count
    → AllNumbered (λ k. IsBandGrid h) n bytes bands → TookBytes later new bytes → TookBands old new bands
more_taken old mid later new head count bytes h n bands stands took number then all last =
    (head ++ (count ++ bytes), (of_more h n head count bytes refl stands number all, took_join old mid new head (count ++ bytes) took (took_join mid later new count bytes then last)))

-- a fault of the next band is the first of all
pub next_told : (old mid : Option (List ℕ)) (read : List ℕ) (h : Head) (n at next : ℕ) (bands : List Pixels) (stop : GridStop) → Numbered (λ k. IsBandGrid h) 0 read bands → length bands < n → TookBytes old mid read → next ≡ at + length read
    → IsToldFault (behind_head h) mid next stop → IsToldFault (InNumbered (λ k. IsBandGrid h) (λ k. behind_head h) n) old at stop
next_told old mid read h n at next bands stop stand fewer took is told =
    told_behind (InNumbered (λ k. IsBandGrid h) (λ k. behind_head h) n) (behind_head h) old mid read at next stop took is
    (λ rest p r w. record { before = bands; front = read; rest = rest; fewer = fewer; joined = refl; stand = stand; next = (p, (refl, w)) }) told
