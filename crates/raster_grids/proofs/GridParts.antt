-- The parts of a grid, read one behind the other.
use Rattle.std.proofs.Common.{[], ◌≡◌, ℕ, ◌+◌, cond, List, ◌∷◌, map, Option, refl, ◌*◌, Bool, length, get_or, replicate, sym, ap, ◌∙◌, subst, arith, ◌++◌, Some, None, inl, inr, ◌≤◌}
use Rattle.std.specs.Prelude.{ℤ, is_some, fold, pos, All, codes}
use Rattle.std.proofs.lemmas.List.{length-replicate, get_or-replicate, length-map}
use Rattle.std.proofs.lemmas.List.Elements.{All-replicate}
use Rattle.std.proofs.lemmas.Nat.{mul-add-lt}
use Rattle.std.proofs.Math.Nat.{mul-le-mul_left}
use Rattle.raster_values.specs.Raster.{Pixels, valid_count, values_of}
use Rattle.raster_values.specs.Flat.{marks_of}
use Rattle.raster_cells.specs.Masks.{count_of}
use Rattle.raster_cells.specs.Shapes.{IsShape}
use Rattle.raster_cells.specs.declared.kind.PixelType.{PixelType}
use Rattle.raster_cells.specs.PixelType.{InRange}
use Rattle.raster_cells.specs.CellList.{CellList}
use Rattle.raster_values.specs.Ordered.{ChangesMarked}
use Rattle.raster_values.specs.View.{AreVectors, pixels_of, raster_of, IsInside}
use Rattle.raster_cells.proofs.ValueBits.{zero_in_range}
use Rattle.raster_cells.specs.Values.{AreValues, values_bytes}
use Rattle.raster_values.specs.declared.rasters.raster.Raster.TheInside.{Inside}
use Rattle.raster_values.proofs.Views.{sound}
use Rattle.raster_values.proofs.FlatViews.{inside_vectors, keeps_itself, marks_of-pixels_of, values_stand}
use Rattle.first_fault.specs.Faults.{Faults, in_order}
use Rattle.raster_grids.specs.Taken.{TookBytes}
use Rattle.raster_grids.specs.declared.reading.Head.{Head}
use Rattle.raster_grids.specs.ReadGrid.{AreMarks, IsHead, IsGrid, IsToldFault}
use Rattle.raster_grids.specs.BandsGrid.{IsBandGrid}
use Rattle.raster_grids.specs.declared.reading.GridReason.{GridReason}
use Rattle.raster_grids.specs.declared.reading.GridStop.{GridStop}
use Rattle.raster_grids.specs.declared.reading.GridStop.TheVariants.{Fault, Source, OutOfMemory}
use Rattle.raster_grids.proofs.Taken.{told_behind}

-- the number of valid pixels is that of the marks
counted : (a : ℕ) (ps : List (Option (List ℤ))) → fold (λ b p. b + cond (is_some p) 1 0) a ps ≡ fold (λ b mark. b + cond mark 1 0) a (map is_some ps)
counted a [] = refl
counted a (p ∷ ps) = counted (a + cond (is_some p) 1 0) ps

pub count_marks : (r : Pixels) → valid_count r ≡ count_of (marks_of r)
count_marks r = counted 0 r.pixels

-- what a head of a raster's grid says
abbrev pub head_in : Pixels → Head
head_in r = record { kind = r.kind; rows = r.rows; cols = r.cols; depth = r.depth }

-- zeros that were changed at marked pixels alone are the values of a raster
pub zeros_changed : (kind : PixelType) (rows cols depth : ℕ) (ms : List Bool) (old new : CellList) → IsShape rows cols depth → length ms ≡ rows * cols → old ≡ record { kind = kind; values = replicate (rows * cols * depth) (pos 0) } → new.kind ≡ old.kind
    → ChangesMarked old.kind depth ms old.values new.values → AreVectors rows cols depth ms new
zeros_changed kind rows cols depth ms old new shape count is same changed =
    let zeros : old.values ≡ replicate (rows * cols * depth) (pos 0) = ap (λ (l : CellList). l.values) is in
    record {
      shape = shape;
      marks = count;
      values = changed.size ∙ ap length zeros ∙ length-replicate (rows * cols * depth) (pos 0);
      in_range = subst (λ t. All (InRange t) new.values) (sym same)
          (changed.in_range (subst (λ (l : CellList). All (InRange l.kind) l.values) (sym is) (All-replicate (InRange kind) (rows * cols * depth) (pos 0) (zero_in_range kind))));
      zeros = λ k d here less off.
          changed.rest.rest k d less off
          ∙ ap (λ vs. get_or vs (k * depth + d) (pos 0)) zeros ∙ get_or-replicate (rows * cols * depth) (k * depth + d) (pos 0) (pos 0) (omega (arith, mul-add-lt k depth d (rows * cols) (omega (arith, here, count)) less));
    }

-- the marks and the values of a raster are its band
pub band_of_parts : (h : Head) (kind : PixelType) (ms : List Bool) (cells : CellList) (marks : List ℕ) → cells.kind ≡ kind → kind ≡ h.kind → AreMarks (h.rows * h.cols) marks ms → AreVectors h.rows h.cols h.depth ms cells
    → IsBandGrid h (marks ++ values_bytes kind (values_of (pixels_of h.depth ms cells.values))) (raster_of h.rows h.cols h.depth ms cells)
band_of_parts h kind ms cells marks same is stands vectors =
    let a : Inside = record { rows = h.rows; cols = h.cols; depth = h.depth; marks = ms; values = cells } in
    let inside : IsInside a = inside_vectors h.rows h.cols h.depth ms cells vectors in
    let vs = values_of (pixels_of h.depth ms cells.values) in
    record {
      raster = sound a inside;
      shape = λ i. record { kind = (same ∙ is) i; rows = h.rows; cols = h.cols; depth = h.depth };
      marks = marks;
      values = values_bytes kind vs;
      joined = refl;
      marks_are = subst (λ (bs : List Bool). AreMarks (h.rows * h.cols) marks bs) (sym (marks_of-pixels_of h.depth ms cells.values)) stands;
      values_are = subst (λ t. AreValues cells.kind (values_bytes t vs) vs) same (values_stand a cells.values inside (keeps_itself a inside));
    }

-- a head, and the marks and values behind it
pub grid_with : (head behind : List ℕ) (h : Head) (r : Pixels) → IsHead (codes "LGR1") head h → IsBandGrid h behind r → IsGrid (head ++ behind) r
grid_with head behind h r stands b = record {
  raster = b.raster;
  head = head;
  marks = b.marks;
  values = b.values;
  joined = ap (λ u. head ++ u) b.joined;
  head_of = subst (IsHead (codes "LGR1") head) (sym b.shape) stands;
  marks_are = b.marks_are;
  values_are = b.values_are;
}

-- ---- faults of a part are faults of the whole

-- what is wrong for one reason is wrong for another
pub told_so : (faults others : List ℕ → Faults GridReason) → ((bytes : List ℕ) (p : ℕ) (r : GridReason) → faults bytes p r → others bytes p r) → (old : Option (List ℕ)) (at : ℕ) (stop : GridStop)
    → IsToldFault faults old at stop → IsToldFault others old at stop
told_so faults others so None at stop h = tt
told_so faults others so (Some left) at (Fault f) h = (h.0, (h.1.0, so left h.0 f.reason h.1.1))
told_so faults others so (Some left) at Source h = tt
told_so faults others so (Some left) at OutOfMemory h = tt

-- a fault of the first part
pub told_own : {X : Type 0} (part : List ℕ → X → Type 0) (own : List ℕ → Faults GridReason) (behind : X → List ℕ → Faults GridReason) (old : Option (List ℕ)) (at : ℕ) (stop : GridStop) → IsToldFault own old at stop
    → IsToldFault (in_order part own behind) old at stop
told_own part own behind old at stop h = told_so own (in_order part own behind) (λ bytes p r w. inl w) old at stop h

-- a fault behind it, where it was taken
pub told_later : {X : Type 0} (part : List ℕ → X → Type 0) (own : List ℕ → Faults GridReason) (behind : X → List ℕ → Faults GridReason) (old mid : Option (List ℕ)) (front : List ℕ) (x : X) (at next : ℕ) (stop : GridStop)
    → part front x → TookBytes old mid front → next ≡ at + length front → IsToldFault (behind x) mid next stop → IsToldFault (in_order part own behind) old at stop
told_later part own behind old mid front x at next stop stands took is h =
    told_behind (in_order part own behind) (behind x) old mid front at next stop took is
    (λ rest p r w. inr (record { front = front; rest = rest; value = x; joined = refl; stands = stands; later = (p, (refl, w)) })) h

pub marks_long : (n : ℕ) (bytes : List ℕ) (marks : List Bool) → AreMarks n bytes marks → length bytes ≡ n
marks_long n bytes marks h = ap length h.spelled ∙ length-map marks (λ m. cond m 1 0) ∙ h.count

-- the pixels of a shape are few
pub area_few : (rows cols depth : ℕ) → IsShape rows cols depth → rows * cols ≤ 16777216
area_few rows cols depth shape =
    let up : rows * cols * 1 ≤ rows * cols * depth = mul-le-mul_left (rows * cols) (omega (arith, shape.depth_above)) in
    omega (arith, up, shape.size)
