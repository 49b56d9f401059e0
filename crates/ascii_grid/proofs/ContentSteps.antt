-- The grid of an `LGA1`, and what its raster may not have.
use Rattle.std.proofs.Common.{◌≡◌, ℕ, ℤ, pos, ◌+◌, ◌*◌, ◌/◌, ◌%◌, ◌<◌, ◌≤◌, Bool, true, false, List, [], ◌∷◌, ◌++◌, length, get_or, take, drop, All, Option, None, Some, IfSome, refl, sym, ap, ◌∙◌, subst, inl, inr}
use Rattle.std.specs.Prelude.{is_some, unwrap_or}
use Rattle.std.specs.List.{count_by}
use Rattle.std.proofs.Math.Nat.{div-add-mod'}
use Rattle.std.proofs.lemmas.List.{append-nil, take_all, take_more, drop_more, take-append-drop}
use Rattle.std.proofs.lemmas.List.Elements.{All-append, All-cons, All-head, All-nil, All-tail}
use Rattle.std.proofs.lemmas.List.Sums.{count_by_more_no, count_by_more_yes}
use Rattle.first_fault.specs.Faults.{ends, in_order, moved}
use Rattle.outside_io.specs.streams.Source.{IsAtEnd}
use Rattle.raster_grids.specs.declared.reading.GridStop.{GridStop}
use Rattle.raster_grids.specs.declared.reading.GridStop.TheVariants.{Fault as GridFaultOf, Source as GridSource, OutOfMemory as GridMemory}
use Rattle.raster_cells.specs.PixelType.{bytes_of}
use Rattle.raster_values.specs.Raster.{Pixels, pixel_at, valid_at, value_at}
use Rattle.raster_grids.specs.ReadGrid.{IsGrid, IsToldFault, TookGrid, grid_faults}
use Rattle.ascii_grid.specs.declared.fault.AsciiFault.{AsciiFault}
use Rattle.ascii_grid.specs.declared.fault.AsciiReason.TheVariants.{Collision, DepthNot1, Leftover}
use Rattle.ascii_grid.specs.declared.fault.AsciiStop.{AsciiStop}
use Rattle.ascii_grid.specs.declared.fault.AsciiStop.TheVariants.{Fault, Source}
use Rattle.ascii_grid.specs.Canon.{IsApart}
use Rattle.ascii_grid.specs.Lga.{FirstSame, content_faults, grid_and_end_faults, raster_faults}
use Rattle.ascii_grid.specs.inside.Fields.{Tells, grid_stop_of}
use Rattle.ascii_grid.proofs.FieldSteps.{tells_as, tells_later}

-- ---- pixels looked at so far

-- the pixel number k
at_number : (r : Pixels) (cols k : ℕ) → cols ≡ r.cols → pixel_at r (k / cols) (k % cols) ≡ get_or r.pixels k None
at_number r cols k is = ap (λ (n : ℕ). get_or r.pixels n None) (ap (λ (c : ℕ). k / cols * c + k % cols) (sym is) ∙ div-add-mod' k cols)

pub valid_here : (r : Pixels) (cols k : ℕ) (found said : Bool) → cols ≡ r.cols → found ≡ valid_at r (k / cols) (k % cols) → found ≡ said → is_some (get_or r.pixels k None) ≡ said
valid_here r cols k found said is tells test = ap (λ (p : Option (List ℤ)). is_some p) (sym (at_number r cols k is)) ∙ sym tells ∙ test

pub value_here : (r : Pixels) (cols k : ℕ) (value : ℤ) → cols ≡ r.cols → value ≡ value_at r (k / cols) (k % cols) 0 → value ≡ get_or (unwrap_or (get_or r.pixels k None) []) 0 (pos 0)
value_here r cols k value is tells = tells ∙ ap (λ (p : Option (List ℤ)). get_or (unwrap_or p []) 0 (pos 0)) (at_number r cols k is)

-- so many of the first pixels are valid, and no value of these is nodata
pub record NoneSame (nodata : ℤ) (pixels : List (Option (List ℤ))) (valid done : ℕ) : Type 0 where
  pub apart : All (IsApart nodata) (take done pixels)
  pub count : valid ≡ count_by is_some (take done pixels)

abbrev Cell : Type 0
Cell = Option (List ℤ)

pub none_yet : (nodata : ℤ) (pixels : List Cell) → NoneSame nodata pixels 0 0
none_yet nodata pixels = record { apart = All-nil (IsApart nodata); count = refl }

one_more : (nodata : ℤ) (pixels : List Cell) (done : ℕ) → done < length pixels → IsApart nodata (get_or pixels done None) → All (IsApart nodata) (take done pixels) → All (IsApart nodata) (take (done + 1) pixels)
one_more nodata pixels done below apart before =
    subst (All (IsApart nodata)) (sym (take_more pixels done None below))
    (All-append (IsApart nodata) (take done pixels) (get_or pixels done None ∷ []) before (All-cons (IsApart nodata) (get_or pixels done None) [] apart (All-nil (IsApart nodata))))

not_valid : (nodata : ℤ) (p : Cell) → is_some p ≡ false → IsApart nodata p
not_valid nodata None is = tt
not_valid nodata (Some values) is = absurd (let no : ⊥ = cc in no)

is_apart : (nodata value : ℤ) (p : Cell) → value ≡ get_or (unwrap_or p []) 0 (pos 0) → (value ≡ nodata → ⊥) → IsApart nodata p
is_apart nodata value None is other = tt
is_apart nodata value (Some values) is other = λ same. other (is ∙ same)

pub past_invalid : (nodata : ℤ) (pixels : List Cell) (valid done : ℕ) → done < length pixels → is_some (get_or pixels done None) ≡ false → NoneSame nodata pixels valid done → NoneSame nodata pixels valid (done + 1)
past_invalid nodata pixels valid done below is h = record {
  apart = one_more nodata pixels done below (not_valid nodata (get_or pixels done None) is) h.apart;
  count = h.count ∙ sym (count_by_more_no is_some pixels done None below is);
}

pub past_valid : (nodata value : ℤ) (pixels : List Cell) (valid done : ℕ) → done < length pixels → is_some (get_or pixels done None) ≡ true → value ≡ get_or (unwrap_or (get_or pixels done None) []) 0 (pos 0) → (value ≡ nodata → ⊥)
    → NoneSame nodata pixels valid done → NoneSame nodata pixels (valid + 1) (done + 1)
past_valid nodata value pixels valid done below is reads other h = record {
  apart = one_more nodata pixels done below (is_apart nodata value (get_or pixels done None) reads other) h.apart;
  count = ap (λ (n : ℕ). n + 1) h.count ∙ sym (count_by_more_yes is_some pixels done None below is);
}

-- the pixel that is looked at is the first such
pub same_here : (nodata value : ℤ) (pixels : List Cell) (valid done : ℕ) → done < length pixels → is_some (get_or pixels done None) ≡ true → value ≡ get_or (unwrap_or (get_or pixels done None) []) 0 (pos 0) → value ≡ nodata
    → NoneSame nodata pixels valid done → FirstSame nodata pixels valid
same_here nodata value pixels valid done below is reads same h = by (get_or pixels done None) refl
  where
    by : (p : Cell) → get_or pixels done None ≡ p → FirstSame nodata pixels valid
    by None e = absurd (let no : ⊥ = cc in no)
    by (Some values) e = record {
      before = take done pixels;
      values = values;
      behind = drop (done + 1) pixels;
      joined = sym (take-append-drop done pixels) ∙ ap (λ (xs : List Cell). take done pixels ++ xs) (drop_more pixels done None below ∙ ap (λ (p : Cell). p ∷ drop (done + 1) pixels) e);
      apart = h.apart;
      same = sym (reads ∙ ap (λ (p : Cell). get_or (unwrap_or p []) 0 (pos 0)) e) ∙ same;
      count = h.count;
    }

pub none_same : (nodata : ℤ) (pixels : List Cell) (valid done : ℕ) → length pixels ≤ done → NoneSame nodata pixels valid done → All (IsApart nodata) pixels
none_same nodata pixels valid done over h = subst (All (IsApart nodata)) (take_all done pixels over) h.apart

pub same_not_apart : (nodata : ℤ) (pixels : List Cell) (n : ℕ) → FirstSame nodata pixels n → All (IsApart nodata) pixels → ⊥
same_not_apart nodata pixels n f all = not_here f.before (subst (All (IsApart nodata)) f.joined all)
  where
    not_here : (before : List Cell) → All (IsApart nodata) (before ++ Some f.values ∷ f.behind) → ⊥
    not_here [] h = All-head (IsApart nodata) (Some f.values) f.behind h f.same
    not_here (q ∷ before) h = not_here before (All-tail (IsApart nodata) q (before ++ Some f.values ∷ f.behind) h)

pub collides : (nodata : ℤ) (r : Pixels) (n at : ℕ) (f : AsciiFault) → r.depth ≡ 1 → FirstSame nodata r.pixels n → f.reason ≡ Collision → f.place ≡ at + (17 + r.rows * r.cols + n * bytes_of r.kind)
    → moved at (content_faults nodata r) f.place f.reason
collides nodata r n at f depth first why place =
    (17 + r.rows * r.cols + n * bytes_of r.kind, (place, inl (depth, inr (same_not_apart nodata r.pixels n first, (n, (first, (refl, why)))))))

pub too_deep : (nodata : ℤ) (r : Pixels) (at : ℕ) (f : AsciiFault) → (r.depth ≡ 1 → ⊥) → f.reason ≡ DepthNot1 → f.place ≡ at + 13 → moved at (content_faults nodata r) f.place f.reason
too_deep nodata r at f deep why place = (13, (place, inr (deep, (refl, why))))

-- ---- the grid, taken

pub grid_refused : (nodata : ℤ) (old : Option (List ℕ)) (at : ℕ) (stop : GridStop) → IsToldFault grid_faults old at stop → Tells (grid_and_end_faults nodata) old at (grid_stop_of stop)
grid_refused nodata None at stop h = tt
grid_refused nodata (Some left) at (GridFaultOf f) h = (h.0, (h.1.0, inl (inl (f.reason, (h.1.1, refl)))))
grid_refused nodata (Some left) at GridSource h = tt
grid_refused nodata (Some left) at GridMemory h = tt

pub end_refused : (nodata : ℤ) (old mid : Option (List ℕ)) (at next : ℕ) (r : Pixels) (stop : AsciiStop) → TookGrid old mid r → ((grid : List ℕ) → IsGrid grid r → next ≡ at + length grid) → Tells (ends Leftover) mid next stop
    → Tells (grid_and_end_faults nodata) old at stop
end_refused nodata old mid at next r stop took size h =
    tells_as (in_order IsGrid raster_faults (λ (x : Pixels). ends Leftover)) (grid_and_end_faults nodata) old at stop (λ bytes p why w. inl w)
    (tells_later IsGrid raster_faults (λ (x : Pixels). ends Leftover) old mid at next r took.0 stop took.1.0 took.1.1 (size took.0 took.1.0) h)

all_taken : (left rest bytes : List ℕ) → left ≡ bytes ++ rest → rest ≡ [] → bytes ≡ left
all_taken left rest bytes joined none_ = sym (joined ∙ ap (λ (xs : List ℕ). bytes ++ xs) none_ ∙ append-nil bytes)

pub whole_grid : (old mid : Option (List ℕ)) (r : Pixels) → TookGrid old mid r → IsAtEnd mid → IfSome old (λ bytes. IsGrid bytes r)
whole_grid None mid r took end = tt
whole_grid (Some left) mid r (bytes, (is, (rest, (joined, then)))) end = subst (λ (xs : List ℕ). IsGrid xs r) (all_taken left rest bytes joined (subst IsAtEnd then end)) is

pub content_refused : (nodata : ℤ) (old mid : Option (List ℕ)) (at : ℕ) (r : Pixels) (f : AsciiFault) → TookGrid old mid r → IsAtEnd mid → moved at (content_faults nodata r) f.place f.reason → Tells (grid_and_end_faults nodata) old at (Fault f)
content_refused nodata None mid at r f took end h = tt
content_refused nodata (Some left) mid at r f (bytes, (is, (rest, (joined, then)))) end h =
    (h.0, (h.1.0, inr (r, (subst (λ (xs : List ℕ). IsGrid xs r) (all_taken left rest bytes joined (subst IsAtEnd then end)) is, h.1.1))))
