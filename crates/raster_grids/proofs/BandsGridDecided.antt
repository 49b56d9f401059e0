-- Bytes begin with a grid of bands, or have a first fault.
use Rattle.std.proofs.Common.{[], ℕ, ◌≤◌, ◌⊎◌, inl, inr, ◌≡◌, ◌*◌, length, take, drop, sym, ap, ◌∙◌, List, ◌+◌, ◌∷◌, ◌++◌, refl, subst, append_assoc}
use Rattle.std.proofs.lemmas.List.{length-take-le, take-append-drop, drop_at}
use Rattle.std.specs.Prelude.{codes}
use Rattle.first_fault.specs.Faults.{none, wrong, unless, AllNumbered, InNumbered}
use Rattle.first_fault.specs.Parts.{IsDecided, HasFault, AreBytes, InFront}
use Rattle.first_fault.proofs.Decided.{decided_unless, decided_numbered}
use Rattle.raster_grids.specs.declared.reading.Head.{Head}
use Rattle.raster_grids.specs.declared.reading.GridReason.TheVariants.{Truncated, BadSize, TooLarge}
use Rattle.raster_grids.specs.ReadGrid.{number_at, cut, IsHead, IsGrid, magic_faults, behind_head, grid_faults}
use Rattle.raster_grids.specs.BandsGrid.{IsBandCount, count_faults, more_faults, bands_faults, IsBandGrid, IsBandsGrid, of_one, of_more, behind_more, BandsGridsAreDecided}
use Rattle.raster_grids.proofs.GridDecided.{at_least, wrong_there, same_lists, behind_are, decided_head, band_decided, front_short, fault_after_head, grids_are_decided}
use Rattle.raster_grids.proofs.BandsGridLaws.{four_front}

both : (a b c d : ℕ) → (a ≤ b) ⊎ (¬ (a ≤ b)) → (c ≤ d) ⊎ (¬ (c ≤ d)) → ((a ≤ b) × (c ≤ d)) ⊎ (¬ ((a ≤ b) × (c ≤ d)))
both a b c d (inl x) (inl y) = inl (x, y)
both a b c d (inl x) (inr y) = inr (λ h. y h.1)
both a b c d (inr x) other = inr (λ h. x h.0)

count_decided : (h : Head) → IsDecided (IsBandCount h) (count_faults h)
count_decided h bytes are =
    let n = number_at bytes 0 in
    let size = h.rows * h.cols * h.depth in
    decided_unless (4 ≤ length bytes) (cut bytes) (unless ((2 ≤ n) × (n ≤ 16)) (wrong BadSize 0) (unless (n * size ≤ 16777216) (wrong TooLarge 0) none)) (at_least 4 (length bytes)) (wrong_there Truncated (length bytes)) (λ long.
    decided_unless ((2 ≤ n) × (n ≤ 16)) (wrong BadSize 0) (unless (n * size ≤ 16777216) (wrong TooLarge 0) none) (both 2 n n 16 (at_least 2 n) (at_least n 16)) (wrong_there BadSize 0) (λ range.
    decided_unless (n * size ≤ 16777216) (wrong TooLarge 0) none (at_least (n * size) 16777216) (wrong_there TooLarge 0) (λ small.
    let four : length (take 4 bytes) ≡ 4 = length-take-le 4 bytes long in
    inl (record {
      front = take 4 bytes;
      rest = drop 4 bytes;
      value = n;
      joined = sym (take-append-drop 4 bytes);
      stands = record {
        size = four;
        number = sym (four_front (take 4 bytes) (drop 4 bytes) four) ∙ ap (λ u. number_at u 0) (take-append-drop 4 bytes);
        least = range.0;
        most = range.1;
        small = small;
      };
    }))))

-- a fault of a grid with the letters of more bands
fault_of_more : (bytes : List ℕ) → take 4 bytes ≡ codes "LGR2" → HasFault (more_faults bytes) → HasFault (bands_faults bytes)
fault_of_more bytes letters w = record { place = w.place; reason = w.reason; fault = inl (letters, w.fault) }

pub bands_grids_are_decided : BandsGridsAreDecided
bands_grids_are_decided bytes are = letters (same_lists (take 4 bytes) (codes "LGR2"))
  where
    single : ¬ (take 4 bytes ≡ codes "LGR2") → InFront IsGrid bytes ⊎ HasFault (grid_faults bytes) → InFront IsBandsGrid bytes ⊎ HasFault (bands_faults bytes)
    single other (inl f) = inl (record { front = f.front; rest = f.rest; value = f.value ∷ []; joined = f.joined; stands = of_one f.value refl f.stands })
    single other (inr w) = inr (record { place = w.place; reason = w.reason; fault = inr (other, w.fault) })

    bands : take 4 bytes ≡ codes "LGR2" → (h : Head) → IsHead (codes "LGR2") (take 17 bytes) h → (f : InFront (IsBandCount h) (drop 17 bytes))
        → InFront (AllNumbered (λ k. IsBandGrid h) f.value) f.rest ⊎ HasFault (InNumbered (λ k. IsBandGrid h) (λ k. behind_head h) f.value f.rest) → InFront IsBandsGrid bytes ⊎ HasFault (bands_faults bytes)
    bands letters h stands f (inl g) = inl (record {
      front = take 17 bytes ++ (f.front ++ g.front);
      rest = g.rest;
      value = g.value;
      joined = sym (take-append-drop 17 bytes) ∙ ap (λ u. take 17 bytes ++ u) (f.joined ∙ ap (λ u. f.front ++ u) g.joined ∙ sym (append_assoc f.front g.front g.rest)) ∙ sym (append_assoc (take 17 bytes) (f.front ++ g.front) g.rest);
      stands = of_more h f.value (take 17 bytes) f.front g.front refl stands f.stands g.stands;
    })
    bands letters h stands f (inr w) = inr (fault_of_more bytes letters (fault_after_head (codes "LGR2") behind_more h bytes stands (record {
      place = length f.front + w.place;
      reason = w.reason;
      fault = inr (record { front = f.front; rest = f.rest; value = f.value; joined = f.joined; stands = f.stands; later = (w.place, (refl, w.fault)) });
    })))

    counted : take 4 bytes ≡ codes "LGR2" → (h : Head) → IsHead (codes "LGR2") (take 17 bytes) h → InFront (IsBandCount h) (drop 17 bytes) ⊎ HasFault (count_faults h (drop 17 bytes)) → InFront IsBandsGrid bytes ⊎ HasFault (bands_faults bytes)
    counted letters h stands (inl f) =
        let from_rest : drop (length f.front) (drop 17 bytes) ≡ f.rest = ap (drop (length f.front)) f.joined ∙ drop_at f.front f.rest (length f.front) refl in
        let are_behind : AreBytes f.rest = subst AreBytes from_rest (behind_are (length f.front) (drop 17 bytes) (behind_are 17 bytes are)) in
        bands letters h stands f (decided_numbered (λ k. IsBandGrid h) (λ k. behind_head h) (λ k. band_decided h stands.shape) f.value f.rest are_behind)
    counted letters h stands (inr w) = inr (fault_of_more bytes letters (fault_after_head (codes "LGR2") behind_more h bytes stands (record { place = w.place; reason = w.reason; fault = inl w.fault })))

    head : take 4 bytes ≡ codes "LGR2" → ((h : Head) × IsHead (codes "LGR2") (take 17 bytes) h) ⊎ HasFault (magic_faults (codes "LGR2") (take 17 bytes)) → InFront IsBandsGrid bytes ⊎ HasFault (bands_faults bytes)
    head letters (inl (h, stands)) = counted letters h stands (count_decided h (drop 17 bytes) (behind_are 17 bytes are))
    head letters (inr w) = inr (fault_of_more bytes letters (record { place = w.place; reason = w.reason; fault = inl w.fault }))

    letters : (take 4 bytes ≡ codes "LGR2") ⊎ (¬ (take 4 bytes ≡ codes "LGR2")) → InFront IsBandsGrid bytes ⊎ HasFault (bands_faults bytes)
    letters (inl is) = head is (decided_head (codes "LGR2") (take 17 bytes) (front_short bytes))
    letters (inr other) = single other (grids_are_decided bytes are)
