-- A walk over the blobs of a tile, whose bands are laid into arrays.
use Rattle.std.proofs.Common.{◌≡◌, ℕ, ◌+◌, ◌-◌, ◌*◌, ◌<◌, ◌≤◌, ◌&&◌, ◌⊎◌, cond, eq-eqb, List, [], ◌∷◌, ◌++◌, length, take, drop, Option, None, Some, Ok, Err, refl, sym, ap, ◌∙◌, subst, arith, inl, inr, append_assoc, length-append}
use Rattle.std.proofs.lemmas.List.{append-nil, drop_at, drop-drop, length-drop, length-take-le, take_all, take_at, take-append-drop}
use Rattle.std.specs.Prelude.{IfErr, OnOk, Result}
use Rattle.std.proofs.Math.Nat.{add-mul, mul-le-mul_right}
use Rattle.std.proofs.Math.Seq.{take-add}
use Rattle.raster_values.specs.Raster.{Pixels}
use Rattle.raster_values.specs.Flat.{marks_of}
use Rattle.raster_values.specs.Order.{IsMaskOf}
use Rattle.lerc_header.specs.declared.header.Header.{Header}
use Rattle.lerc_header.specs.declared.fault.BlobFault.{BlobFault}
use Rattle.lerc_header.specs.declared.fault.BlobReason.TheVariants.{Leftover}
use Rattle.lerc_header.specs.Head.{HeadAt}
use Rattle.lerc_header.specs.HeadFaults.{HasKey}
use Rattle.lerc_header.proofs.HeadLemmas.{one_head}
use Rattle.lerc_header.proofs.Prefixes.{head_of_take}
use Rattle.lerc_grammar.specs.declared.bands.BandsFault.{BandsFault}
use Rattle.lerc_grammar.specs.declared.bands.BandReason.TheVariants.{Blob as OfBlob}
use Rattle.lerc_grammar.specs.Mask.{Previous, marks_before, previous_of}
use Rattle.lerc_grammar.specs.Verdict.{IsDone}
use Rattle.lerc_grammar.specs.Bands.{BandsFaultAt, BlobsAfter, IsBegun, last_after}
use Rattle.lerc_grammar.proofs.BandsDecided.{IsHeaderFor, last_next, next_may_be, no_unlike}
use Rattle.lerc_grammar.proofs.BandsReader.{begin}
use Rattle.lerc_grammar.proofs.BlobPlaces.{bands_fault_within}
use Rattle.lerc_decode.specs.Over.{HoldRaster, IsDecodedOver, IsFaultOf}
use Rattle.lerc_decode.specs.OverBands.{AreDecodedOver, AreOtherBands, AskOtherBandsRoom, HaveBandsRoom, HoldBands, IsBandsOverStop, band_bytes, mask_bytes}
use Rattle.lerc_decode.specs.declared.over_bands.BandsOverFault.{BandsOverFault}
use Rattle.lerc_decode.specs.declared.over_bands.BandsOverFault.TheVariants.{Tile, Sizes, Count}
use Rattle.lerc_decode.specs.inside.Body.{HasHeadShape}
use Rattle.lerc_decode.specs.inside.OverNext.{IsNextFault, MayFollow}
use Rattle.lerc_decode.specs.inside.OverWalk.{HaveFront, IsBandLaid, IsEndAt, last_part}
use Rattle.lerc_decode.proofs.FirstBlobs.{first_cut, first_stays}
use Rattle.lerc_decode.proofs.OverBands.{may_come, tiled}
use Rattle.lerc_decode.proofs.PreviousMasks.{said}

-- ---- arrays

-- one band more
hold_more : (bands : List Pixels) (r : Pixels) (values masks own mask : List ℕ) → HoldBands bands values masks → HoldRaster r own mask → HoldBands (bands ++ r ∷ []) (values ++ own) (masks ++ mask)
hold_more [] r values masks own mask (v, m) h = (own, ([], (mask, ([], (ap (λ u. u ++ own) v ∙ sym (append-nil own), (ap (λ u. u ++ mask) m ∙ sym (append-nil mask), (h, (refl, refl))))))))
hold_more (s ∷ more) r values masks own mask (o, (vs, (k, (ms, (ve, (me, (h, rest))))))) one =
    (o, (vs ++ own, (k, (ms ++ mask, (ap (λ u. u ++ own) ve ∙ append_assoc o vs own, (ap (λ u. u ++ mask) me ∙ append_assoc k ms mask, (h, hold_more more r vs ms own mask rest one)))))))

-- an array behind whose first n parts a run is laid
laid_take : (old new run : List ℕ) (n k : ℕ) → length run ≡ k → n * k ≤ length old → new ≡ take (n * k) old ++ (run ++ drop (n * k + k) old) → take ((n + 1) * k) new ≡ take (n * k) old ++ run
laid_take old new run n k size there laid =
    let front = take (n * k) old in
    let tail = drop (n * k + k) old in
    let long : length (front ++ run) ≡ (n + 1) * k = length-append front run ∙ omega (arith, size, length-take-le (n * k) old there, add-mul n 1 k) in
    ap (take ((n + 1) * k)) (laid ∙ sym (append_assoc front run tail)) ∙ take_at (front ++ run) tail ((n + 1) * k) long

laid_last : (old new run : List ℕ) (n k : ℕ) → length run ≡ k → n * k ≤ length old → new ≡ take (n * k) old ++ (run ++ drop (n * k + k) old) → last_part k ((n + 1) * k) new ≡ run
laid_last old new run n k size there laid =
    let front = take (n * k) old in
    let tail = drop (n * k + k) old in
    let at : (n + 1) * k - k ≡ n * k = omega (arith, add-mul n 1 k) in
    ap (λ m. take k (drop m new)) at ∙ ap (λ u. take k (drop (n * k) u)) laid ∙ ap (take k) (drop_at front (run ++ tail) (n * k) (length-take-le (n * k) old there)) ∙ take_at run tail k size

-- what a run was laid over, as the code has it
pub laid_is : (old run : List ℕ) (at size : ℕ) → take at old ++ (run ++ drop (at + size - at) (drop at old)) ≡ take at old ++ (run ++ drop (at + size) old)
laid_is old run at size =
    ap (λ n. take at old ++ (run ++ drop n (drop at old))) (let e : at + size - at ≡ size = omega arith in e) ∙ ap (λ u. take at old ++ (run ++ u)) (drop-drop size at old)

-- bytes that are laid once more: their copy, and what stays
pub repeated : (old new : List ℕ) (to k : ℕ) → k ≤ to → to + k ≤ length old → new ≡ take to old ++ (last_part k to old ++ drop (to + k) old) → take k (drop to new) ≡ last_part k to old
repeated old new to k there within is =
    let run = last_part k to old in
    let size : length run ≡ k = length-take-le k (drop (to - k) old) (omega (arith, length-drop (to - k) old, there, within)) in
    ap (λ u. take k (drop to u)) is ∙ ap (take k) (drop_at (take to old) (run ++ drop (to + k) old) to (length-take-le to old (omega (arith, within)))) ∙ take_at run (drop (to + k) old) k size

pub repeated_front : (old new run : List ℕ) (to k : ℕ) → to ≤ length old → new ≡ take to old ++ run → take to new ≡ take to old
repeated_front old new run to k within is = ap (take to) is ∙ take_at (take to old) run to (length-take-le to old within)

pub repeated_rest : (old new : List ℕ) (to k : ℕ) → k ≤ to → to + k ≤ length old → new ≡ take to old ++ (last_part k to old ++ drop (to + k) old) → drop (to + k) new ≡ drop (to + k) old
repeated_rest old new to k there within is =
    let run = last_part k to old in
    let size : length run ≡ k = length-take-le k (drop (to - k) old) (omega (arith, length-drop (to - k) old, there, within)) in
    let long : length (take to old ++ run) ≡ to + k = length-append (take to old) run ∙ omega (arith, size, length-take-le to old (omega (arith, within))) in
    ap (drop (to + k)) (is ∙ sym (append_assoc (take to old) run (drop (to + k) old))) ∙ drop_at (take to old ++ run) (drop (to + k) old) (to + k) long

-- ---- bands

last_push : (before : Option Previous) (bands : List Pixels) (r : Pixels) → last_after before (bands ++ r ∷ []) ≡ Some (previous_of r)
last_push before [] r = refl
last_push before (x ∷ more) r = last_push (Some (previous_of x)) more r

-- behind one band more a header may come, where there is room for one more
header_more : (bands : List Pixels) (r : Pixels) (h : Header) (n : ℕ) → 1 ≤ n → length bands ≡ n → IsHeaderFor bands h → (n + 1 + 1) * (h.rows * h.cols * h.depth) ≤ 16777216 → IsHeaderFor (bands ++ r ∷ []) h
header_more [] r h n some long is room = absurd (let no : ⊥ = omega (arith, some, long) in no)
header_more (x ∷ more) r h n some long (rows, (cols, (depth, (kind, size)))) room =
    let count : n + 1 + 1 ≡ 2 + length (more ++ r ∷ []) = omega (arith, long, length-append more (r ∷ [])) in
    (rows, (cols, (depth, (kind, subst (λ (k : ℕ). k * (h.rows * h.cols * h.depth) ≤ 16777216) count room))))

-- ---- the first blob

first_shape : (tile : List ℕ) (first : Header) (size : ℕ) (r : Pixels) → HeadAt tile first → IsDone tile r size → HasHeadShape first r
first_shape tile first size r head (long, (sound, (g, (p, j)))) =
    let same : first ≡ g = one_head tile first g head (head_of_take size tile g j.head_stands) in
    record {
      kind = ap (λ (k : Header). k.kind) same ∙ j.head_of.kind;
      rows = ap (λ (k : Header). k.rows) same ∙ j.head_of.rows;
      cols = ap (λ (k : Header). k.cols) same ∙ j.head_of.cols;
      depth = ap (λ (k : Header). k.depth) same ∙ j.head_of.depth;
    }

pub front_first : (tile : List ℕ) (first : Header) (size : ℕ) (values masks own mask : List ℕ) → HeadAt tile first → take (band_bytes first) values ≡ own → take (mask_bytes first) masks ≡ mask → IsDecodedOver tile size own mask → HaveFront tile size first 1 values masks
front_first tile first size values masks own mask head v m (r, (done, hold)) =
    let shape = first_shape tile first size r head done in
    let one_band : 1 * band_bytes first ≡ band_bytes first = omega arith in
    let one_mask : 1 * mask_bytes first ≡ mask_bytes first = omega arith in
    let none_before : 1 * mask_bytes first - mask_bytes first ≡ 0 = omega arith in
    let last : last_part (mask_bytes first) (1 * mask_bytes first) masks ≡ mask = ap (λ k. take (mask_bytes first) (drop k masks)) none_before ∙ m in
    record {
      bands = r ∷ [];
      count = omega arith;
      some = omega arith;
      within = done.0;
      may_be = next_may_be [] tile r size begin.behind.may_be (omega arith) done (λ h there. tt);
      stand = (take size tile, ([], (sym (append-nil (take size tile)), (done.1, refl))));
      like = λ room. no_unlike (r ∷ []) first (shape.rows, (shape.cols, (shape.depth, (shape.kind, room))));
      held = (own, ([], (mask, ([], (ap (λ k. take k values) one_band ∙ v ∙ sym (append-nil own), (ap (λ k. take k masks) one_mask ∙ m ∙ sym (append-nil mask), (hold, (refl, refl))))))));
      last = record { raster = r; sound = done.1.0; last = refl; shape = shape; mask = subst (IsMaskOf r) (sym last) hold.mask_is };
    }

pub first_stop : (tile : List ℕ) (f : BlobFault) (g : BandsFault) → IsFaultOf tile f → g ≡ tiled f → BandsFaultAt tile g.place g.reason
first_stop tile f g w is = subst (λ (x : BandsFault). BandsFaultAt tile x.place x.reason) (sym is) (which w)
  where
    which : IsFaultOf tile f → BandsFaultAt tile f.place (OfBlob f.reason)
    which (inl first) = subst (λ (u : List ℕ). BandsFaultAt u f.place (OfBlob f.reason)) (append-nil tile) (first_stays tile [] f.place f.reason first)
    which (inr (more, cut)) = subst (λ (x : BlobFault). BandsFaultAt tile x.place (OfBlob x.reason)) (sym cut) (first_cut tile more)

-- ---- a further one

pub may_follow : (tile : List ℕ) (at : ℕ) (first : Header) (n : ℕ) (values masks : List ℕ) (f : HaveFront tile at first n values masks) → n < 16 → (n + 1) * (first.rows * first.cols * first.depth) ≤ 16777216
    → MayFollow f.bands first (last_part (mask_bytes first) (n * mask_bytes first) masks)
may_follow tile at first n values masks f below room =
    let r = f.last.raster in
    let shape = f.last.shape in
    let taken : marks_before (Some (previous_of r)) first.rows first.cols ≡ Some (marks_of r) =
    λ i. cond (eq-eqb r.rows first.rows (sym shape.rows) i && eq-eqb r.cols first.cols (sym shape.cols) i) (Some (marks_of r)) None in
    record {
      some = omega (arith, f.count, f.some);
      few = omega (arith, f.count, below);
      like = f.like room;
      before = ap (λ (p : Option Previous). marks_before p first.rows first.cols) f.last.last ∙ taken ∙ ap Some (sym (said r first.rows first.cols (last_part (mask_bytes first) (n * mask_bytes first) masks) f.last.sound shape.rows shape.cols f.last.mask));
    }

pub laid_within : (tile : List ℕ) (at : ℕ) (first : Header) (n size : ℕ) (values masks new_values new_masks : List ℕ) (f : HaveFront tile at first n values masks) → IsBandLaid f.bands first (drop at tile) size n values masks new_values new_masks → at + size ≤ length tile
laid_within tile at first n size values masks new_values new_masks f laid = omega (arith, laid.next.done.0, length-drop at tile, f.within)

pub front_more : (tile : List ℕ) (at : ℕ) (first : Header) (n size : ℕ) (values masks new_values new_masks : List ℕ) (f : HaveFront tile at first n values masks) → n < 16 → (n + 1) * (first.rows * first.cols * first.depth) ≤ 16777216
    → n * band_bytes first ≤ length values → n * mask_bytes first ≤ length masks → IsBandLaid f.bands first (drop at tile) size n values masks new_values new_masks → HaveFront tile (at + size) first (n + 1) new_values new_masks
front_more tile at first n size values masks new_values new_masks f below fits wide deep laid =
    let next = laid.next in
    let r = next.raster in
    let bands = f.bands in
    let rest = drop at tile in
    let few : length bands < 16 = omega (arith, f.count, below) in
    let values_is = laid_take values new_values laid.own n (band_bytes first) laid.own_size wide laid.values in
    let masks_is = laid_take masks new_masks laid.mask n (mask_bytes first) laid.mask_size deep laid.masks in
    let last = laid_last masks new_masks laid.mask n (mask_bytes first) laid.mask_size deep laid.masks in
    record {
      bands = bands ++ r ∷ [];
      count = length-append bands (r ∷ []) ∙ ap (λ k. k + 1) f.count;
      some = omega (arith, f.some);
      within = laid_within tile at first n size values masks new_values new_masks f laid;
      may_be = next_may_be bands rest r size f.may_be few next.done (λ h head. may_come bands h (next.like h head));
      stand = subst (λ (u : List ℕ). BlobsAfter None u (bands ++ r ∷ [])) (sym (take-add at size tile)) (last_next None bands (take at tile) (take size rest) r f.stand next.done.1);
      like = λ room. no_unlike (bands ++ r ∷ []) first (header_more bands r first n f.some f.count (may_come bands first (f.like fits)) room);
      held = subst (λ (u : List ℕ). HoldBands (bands ++ r ∷ []) u (take ((n + 1) * mask_bytes first) new_masks)) (sym values_is)
          (subst (λ (u : List ℕ). HoldBands (bands ++ r ∷ []) (take (n * band_bytes first) values ++ laid.own) u) (sym masks_is)
          (hold_more bands r (take (n * band_bytes first) values) (take (n * mask_bytes first) masks) laid.own laid.mask f.held next.held));
      last = record { raster = r; sound = next.done.1.0; last = last_push None bands r; shape = next.shape; mask = subst (IsMaskOf r) (sym last) next.held.mask_is };
    }

-- ---- the end

pub all_decoded : (tile : List ℕ) (at : ℕ) (first : Header) (n : ℕ) (values masks : List ℕ) → HaveFront tile at first n values masks → at ≡ length tile → length values ≡ n * band_bytes first → length masks ≡ n * mask_bytes first → AreDecodedOver tile n values masks
all_decoded tile at first n values masks f ends wide deep = record {
  bands = f.bands;
  blobs = ((omega (arith, f.count, f.some), f.may_be), subst (λ (u : List ℕ). BlobsAfter None u f.bands) (take_all at tile (omega (arith, ends))) f.stand);
  count = f.count;
  held = subst (λ (u : List ℕ). HoldBands f.bands u masks) (take_all (n * band_bytes first) values (omega (arith, wide)))
      (subst (λ (u : List ℕ). HoldBands f.bands (take (n * band_bytes first) values) u) (take_all (n * mask_bytes first) masks (omega (arith, deep))) f.held);
}

no_bytes : (xs : List ℕ) → length xs ≡ 0 → xs ≡ []
no_bytes [] e = refl
no_bytes (x ∷ xs) e = absurd (let no : ⊥ = omega (arith, e) in no)

pub other_bands : (tile : List ℕ) (at : ℕ) (first : Header) (n m : ℕ) (values masks : List ℕ) → HaveFront tile at first m values masks → ((m ≡ n) × ((n < 16) × HasKey (drop at tile))) ⊎ ((m < n) × (at ≡ length tile)) → AreOtherBands tile n
other_bands tile at first n m values masks f why = record {
  bands = f.bands;
  front = take at tile;
  rest = drop at tile;
  joined = sym (take-append-drop at tile);
  some = omega (arith, f.count, f.some);
  may_be = f.may_be;
  stand = f.stand;
  other = which why;
}
  where
    which : ((m ≡ n) × ((n < 16) × HasKey (drop at tile))) ⊎ ((m < n) × (at ≡ length tile)) → ((length f.bands ≡ n) × ((n < 16) × HasKey (drop at tile))) ⊎ ((length f.bands < n) × (drop at tile ≡ []))
    which (inl (same, w)) = inl (f.count ∙ same, w)
    which (inr (less, ends)) = inr (omega (arith, f.count, less), no_bytes (drop at tile) (omega (arith, length-drop at tile, ends)))

-- bytes that are no further blob
pub left_behind : (tile : List ℕ) (at : ℕ) (first : Header) (n : ℕ) (values masks : List ℕ) → HaveFront tile at first n values masks → at < length tile → (n < 16 → ¬ HasKey (drop at tile)) → BandsFaultAt tile at (OfBlob Leftover)
left_behind tile at first n values masks f more no_key =
    subst (λ (k : ℕ). BandsFaultAt tile k (OfBlob Leftover)) (length-take-le at tile f.within)
    (record {
      bands = f.bands;
      front = take at tile;
      rest = drop at tile;
      joined = sym (take-append-drop at tile);
      may_be = f.may_be;
      stand = f.stand;
      next = (0, (omega arith, inr (not_begun, inr ((λ e. let no : ⊥ = omega (arith, ap length e, length-drop at tile, more) in no), (refl, refl)))));
    })
  where
    not_begun : IsBegun f.bands (drop at tile) → ⊥
    not_begun (inl none_) = omega (arith, f.count, f.some, ap length none_)
    not_begun (inr (few, key)) = no_key (omega (arith, f.count, few)) key

-- a further blob that is wrong
pub wrong_behind : (tile : List ℕ) (at : ℕ) (first : Header) (n : ℕ) (values masks : List ℕ) (g : BandsFault) (f : HaveFront tile at first n values masks) → n < 16 → HasKey (drop at tile) → IsNextFault f.bands (drop at tile) g → BandsFaultAt tile (at + g.place) g.reason
wrong_behind tile at first n values masks g f below key w = record {
  bands = f.bands;
  front = take at tile;
  rest = drop at tile;
  joined = sym (take-append-drop at tile);
  may_be = f.may_be;
  stand = f.stand;
  next = (g.place, (ap (λ k. k + g.place) (sym (length-take-le at tile f.within)), inl (inr (omega (arith, f.count, below), key), w)));
}

-- its place lies within the bytes
pub wrong_within : (tile : List ℕ) (at : ℕ) (first : Header) (n : ℕ) (values masks : List ℕ) (g : BandsFault) (f : HaveFront tile at first n values masks) → n < 16 → HasKey (drop at tile) → IsNextFault f.bands (drop at tile) g → at + g.place ≤ length tile
wrong_within tile at first n values masks g f below key (inr (like, (more, (place, reason)))) = omega (arith, place, length-drop at tile, f.within)
wrong_within tile at first n values masks g f below key (inl w) =
    (bands_fault_within tile (at + g.place) g.reason
    (record {
      bands = f.bands;
      front = take at tile;
      rest = drop at tile;
      joined = sym (take-append-drop at tile);
      may_be = f.may_be;
      stand = f.stand;
      next = (g.place, (ap (λ k. k + g.place) (sym (length-take-le at tile f.within)), inl (inr (omega (arith, f.count, below), key), w)));
    })).0

-- ---- room

-- the header asks for these lengths, so it asks for no others
pub no_other_bands_room : (tile : List ℕ) (h : Header) (n values masks : ℕ) → HeadAt tile h → HaveBandsRoom h n values masks → ¬ AskOtherBandsRoom tile n values masks
no_other_bands_room tile h n values masks head room a = a.other (subst (λ (k : Header). HaveBandsRoom k n values masks) (one_head tile h a.header head a.stands) room)

-- behind fewer bands than there is room for there is room for one more
pub fits_one : (h : Header) (n m values masks : ℕ) → HaveBandsRoom h n values masks → m < n → (m + 1) * (h.rows * h.cols * h.depth) ≤ 16777216
fits_one h n m values masks room less =
    let below : (m + 1) * (h.rows * h.cols * h.depth) ≤ n * (h.rows * h.cols * h.depth) = mul-le-mul_right (h.rows * h.cols * h.depth) (omega (arith, less)) in
    omega (arith, below, room.together)

-- n parts of a size reach behind any m of them
pub part_within : (n m k total : ℕ) → m < n → total ≡ n * k → m * k + k ≤ total
part_within n m k total less is =
    let below : (m + 1) * k ≤ n * k = mul-le-mul_right k (omega (arith, less)) in
    omega (arith, below, add-mul m 1 k, is)

-- ---- behind so many blobs as are asked for

pub end_ok : (tile : List ℕ) (at : ℕ) (first : Header) (n : ℕ) (values masks : List ℕ) (result : Result (Unit {0}) BandsOverFault) → HaveFront tile at first n values masks → length values ≡ n * band_bytes first → length masks ≡ n * mask_bytes first → IsEndAt tile at n result
    → OnOk result (AreDecodedOver tile n values masks)
end_ok tile at first n values masks (Ok u) f wide deep e = all_decoded tile at first n values masks f e wide deep
end_ok tile at first n values masks (Err stop) f wide deep e = tt

pub end_stop : (tile : List ℕ) (at : ℕ) (first : Header) (n wide deep : ℕ) (values masks : List ℕ) (result : Result (Unit {0}) BandsOverFault) → HaveFront tile at first n values masks → IsEndAt tile at n result
    → IfErr result (λ stop. IsBandsOverStop tile n wide deep stop)
end_stop tile at first n wide deep values masks (Ok u) f e = tt
end_stop tile at first n wide deep values masks (Err Count) f e = other_bands tile at first n n values masks f (inl (refl, e))
end_stop tile at first n wide deep values masks (Err Sizes) f e = absurd e
end_stop tile at first n wide deep values masks (Err (Tile g)) f (is, (more, no_key)) =
    subst (λ (x : BandsFault). BandsFaultAt tile x.place x.reason) (sym is) (left_behind tile at first n values masks f more no_key)
