-- Bytes begin with a grid, or have a first fault.
use Rattle.std.proofs.Common.{[], ℕ, ◌<◌, ◌≤◌, arith, ⊎_elim, ◌⊎◌, inl, inr, suc, ◌≡◌, List, ◌∷◌, length, get_or, drop, refl, ap, ◌*◌, zero, take, sym, subst, Bool, ◌++◌, ◌∙◌, ◌+◌, append_assoc}
use Rattle.std.proofs.lemmas.Bool.{cases_lt, cases_eq}
use Rattle.std.specs.Prelude.{nat_eq, codes}
use Rattle.std.proofs.lemmas.List.{length-map, length-take-le, take-append-drop, get_or-take, get_or-drop, get_or_past, length-take, drop_at}
use Rattle.raster_cells.specs.Shapes.{IsTooLarge, IsShape}
use Rattle.raster_cells.specs.declared.kind.PixelType.{PixelType}
use Rattle.raster_cells.specs.declared.kind.PixelType.TheVariants.{I8, U8, I16, U16, I32, U32}
use Rattle.raster_cells.specs.PixelType.{code_of, bytes_of}
use Rattle.first_fault.specs.Faults.{wrong, none, unless, Faults, in_order}
use Rattle.first_fault.specs.Parts.{HasFault, AreBytes, InFront, IsDecided}
use Rattle.first_fault.proofs.Decided.{decided_unless}
use Rattle.raster_values.specs.Raster.{Pixels}
use Rattle.raster_cells.specs.Values.{AreValues}
use Rattle.raster_values.specs.Flat.{pixels_with}
use Rattle.raster_cells.specs.Masks.{count_of}
use Rattle.raster_cells.proofs.Spelled.{values_there}
use Rattle.raster_values.proofs.Revalued.{in_order_there}
use Rattle.raster_grids.specs.declared.reading.GridReason.{GridReason}
use Rattle.raster_grids.specs.declared.reading.Head.{Head}
use Rattle.raster_grids.specs.declared.reading.GridReason.TheVariants.{TooLarge, Truncated, BadMagic, BadType, BadSize, BadMark}
use Rattle.raster_grids.specs.ReadGrid.{number_at, IsHead, shape_faults, cut, magic_faults, type_faults, rows_faults, cols_faults, depth_faults, IsFirstWrong, AreLawful, AreMarks, mark_faults, behind_head, head_faults, IsGrid, grid_faults, GridsAreDecided}
use Rattle.raster_grids.proofs.Taken.{OnlyMarks, marks_said, said_back, only_lawful}
use Rattle.raster_grids.specs.BandsGrid.{IsBandGrid}
use Rattle.raster_grids.proofs.GridParts.{grid_with}

-- ---- tests

pub at_least : (n m : ℕ) → (n ≤ m) ⊎ (¬ (n ≤ m))
at_least n m = ⊎_elim (λ (less : m < n). inr (λ h. let no : ⊥ = omega arith in no)) (λ (enough : n ≤ m). inl enough) (cases_lt m n)

more_than : (n m : ℕ) → (n < m) ⊎ (¬ (n < m))
more_than n m = at_least (suc n) m

pub same_lists : (a b : List ℕ) → (a ≡ b) ⊎ (¬ (a ≡ b))
same_lists [] [] = inl refl
same_lists [] (y ∷ b) = inr (λ e. let no : ⊥ = omega (arith, ap length e) in no)
same_lists (x ∷ a) [] = inr (λ e. let no : ⊥ = omega (arith, ap length e) in no)
same_lists (x ∷ a) (y ∷ b) = both (cases_eq x y) (same_lists a b)
  where
    both : (x ≡ y) ⊎ (¬ (x ≡ y)) → (a ≡ b) ⊎ (¬ (a ≡ b)) → (x ∷ a ≡ y ∷ b) ⊎ (¬ (x ∷ a ≡ y ∷ b))
    both (inl e) (inl f) = inl (λ i. e i ∷ f i)
    both (inl e) (inr f) = inr (λ h. f (ap (drop 1) h))
    both (inr e) other = inr (λ h. e (ap (λ u. get_or u 0 0) h))

not_too_large : (rows cols depth : ℕ) → (¬ IsTooLarge rows cols depth) ⊎ (¬ (¬ IsTooLarge rows cols depth))
not_too_large rows cols depth =
    ⊎_elim
    (λ (deep : 65536 < depth). inr (λ h. h (inl deep)))
    (λ (few : depth ≤ 65536).
    ⊎_elim
    (λ (wide : 16777216 < rows * cols * depth). inr (λ h. h (inr wide)))
    (λ (small : rows * cols * depth ≤ 16777216). inl (λ h. ⊎_elim (λ (a : 65536 < depth). let no : ⊥ = omega arith in no) (λ (b : 16777216 < rows * cols * depth). let no : ⊥ = omega arith in no) h))
    (cases_lt 16777216 (rows * cols * depth)))
    (cases_lt 65536 depth)

-- ---- the head

kind_there : (n : ℕ) → n ≤ 5 → (kind : PixelType) × (n ≡ code_of kind)
kind_there zero h = (I8, refl)
kind_there (suc zero) h = (U8, refl)
kind_there (suc (suc zero)) h = (I16, refl)
kind_there (suc (suc (suc zero))) h = (U16, refl)
kind_there (suc (suc (suc (suc zero)))) h = (I32, refl)
kind_there (suc (suc (suc (suc (suc zero))))) h = (U32, refl)
kind_there (suc (suc (suc (suc (suc (suc n)))))) h = absurd (let no : ⊥ = omega arith in no)

pub wrong_there : (why : GridReason) (at : ℕ) → HasFault (wrong why at)
wrong_there why at = record { place = at; reason = why; fault = (refl, refl) }

decided_shape : (magic a : List ℕ) (kind : PixelType) → length a ≡ 17 → take 4 a ≡ magic → get_or a 4 0 ≡ code_of kind → 0 < number_at a 5 → 0 < number_at a 9 → 0 < number_at a 13
    → ((h : Head) × IsHead magic a h) ⊎ HasFault (shape_faults a)
decided_shape magic a kind long letters code rows cols depth =
    decided_unless (¬ IsTooLarge (number_at a 5) (number_at a 9) (number_at a 13)) (wrong TooLarge 13) none (not_too_large (number_at a 5) (number_at a 9) (number_at a 13)) (wrong_there TooLarge 13)
    (λ small. inl (
      record { kind = kind; rows = number_at a 5; cols = number_at a 9; depth = number_at a 13 },
      record {
        size = long;
        letters = letters;
        kind = code;
        rows = refl;
        cols = refl;
        depth = refl;
        shape = record {
          rows_above = rows;
          cols_above = cols;
          depth_above = depth;
          depth_below = ⊎_elim (λ (deep : 65536 < number_at a 13). absurd (small (inl deep))) (λ (few : number_at a 13 ≤ 65536). few) (cases_lt 65536 (number_at a 13));
          size = ⊎_elim (λ (wide : 16777216 < number_at a 5 * number_at a 9 * number_at a 13). absurd (small (inr wide))) (λ (few : number_at a 5 * number_at a 9 * number_at a 13 ≤ 16777216). few)
              (cases_lt 16777216 (number_at a 5 * number_at a 9 * number_at a 13));
        };
      },
    ))

pub decided_head : (magic a : List ℕ) → length a ≤ 17 → ((h : Head) × IsHead magic a h) ⊎ HasFault (magic_faults magic a)
decided_head magic a few =
    decided_unless (4 ≤ length a) (cut a) (unless (take 4 a ≡ magic) (wrong BadMagic 0) (type_faults a)) (at_least 4 (length a)) (wrong_there Truncated (length a)) (λ _.
    decided_unless (take 4 a ≡ magic) (wrong BadMagic 0) (type_faults a) (same_lists (take 4 a) magic) (wrong_there BadMagic 0) (λ letters.
    decided_unless (5 ≤ length a) (cut a) (unless (get_or a 4 0 ≤ 5) (wrong BadType 4) (rows_faults a)) (at_least 5 (length a)) (wrong_there Truncated (length a)) (λ _.
    decided_unless (get_or a 4 0 ≤ 5) (wrong BadType 4) (rows_faults a) (at_least (get_or a 4 0) 5) (wrong_there BadType 4) (λ code.
    decided_unless (9 ≤ length a) (cut a) (unless (0 < number_at a 5) (wrong BadSize 5) (cols_faults a)) (at_least 9 (length a)) (wrong_there Truncated (length a)) (λ _.
    decided_unless (0 < number_at a 5) (wrong BadSize 5) (cols_faults a) (more_than 0 (number_at a 5)) (wrong_there BadSize 5) (λ rows.
    decided_unless (13 ≤ length a) (cut a) (unless (0 < number_at a 9) (wrong BadSize 9) (depth_faults a)) (at_least 13 (length a)) (wrong_there Truncated (length a)) (λ _.
    decided_unless (0 < number_at a 9) (wrong BadSize 9) (depth_faults a) (more_than 0 (number_at a 9)) (wrong_there BadSize 9) (λ cols.
    decided_unless (17 ≤ length a) (cut a) (unless (0 < number_at a 13) (wrong BadSize 13) (shape_faults a)) (at_least 17 (length a)) (wrong_there Truncated (length a)) (λ all.
    decided_unless (0 < number_at a 13) (wrong BadSize 13) (shape_faults a) (more_than 0 (number_at a 13)) (wrong_there BadSize 13) (λ depth.
    decided_shape magic a (kind_there (get_or a 4 0) code).0 (omega (arith, few, all)) letters (kind_there (get_or a 4 0) code).1 rows cols depth))))))))))

-- ---- marks

found : (n m : ℕ) (rest : List ℕ) → ((k : ℕ) → k < m → k < n → k < length rest → get_or rest k 0 ≤ 1) ⊎ ((k : ℕ) × IsFirstWrong n rest k)
found n zero rest = inl (λ k below _ _. absurd (let no : ⊥ = omega arith in no))
found n (suc m) rest = next (found n m rest) (more_than m n) (more_than m (length rest)) (at_least (get_or rest m 0) 1)
  where
    next : ((k : ℕ) → k < m → k < n → k < length rest → get_or rest k 0 ≤ 1) ⊎ ((k : ℕ) × IsFirstWrong n rest k) → (m < n) ⊎ (¬ (m < n)) → (m < length rest) ⊎ (¬ (m < length rest)) → (get_or rest m 0 ≤ 1) ⊎ (¬ (get_or rest m 0 ≤ 1))
        → ((k : ℕ) → k < suc m → k < n → k < length rest → get_or rest k 0 ≤ 1) ⊎ ((k : ℕ) × IsFirstWrong n rest k)
    next (inr w) one there mark = inr w
    next (inl ok) one there (inl mark) = inl (λ k below a b. ⊎_elim (λ (is : k ≡ m). subst (λ j. get_or rest j 0 ≤ 1) (sym is) mark) (λ (ne : k ≡ m → ⊥). ok k (omega arith) a b) (cases_eq k m))
    next (inl ok) (inl one) (inl there) (inr mark) = inr (m, record { one = one; there = there; wrong = (let high : 1 < get_or rest m 0 = grind arith in high); before = λ k less. ok k less (omega arith) (omega arith) })
    next (inl ok) (inr out) there (inr mark) = inl (λ k below a b. ⊎_elim (λ (is : k ≡ m). absurd (out (omega arith))) (λ (ne : k ≡ m → ⊥). ok k (omega arith) a b) (cases_eq k m))
    next (inl ok) (inl one) (inr past) (inr mark) = inl (λ k below a b. ⊎_elim (λ (is : k ≡ m). absurd (past (omega arith))) (λ (ne : k ≡ m → ⊥). ok k (omega arith) a b) (cases_eq k m))

lawful_or_not : (n : ℕ) (rest : List ℕ) → AreLawful n rest ⊎ ((k : ℕ) × IsFirstWrong n rest k)
lawful_or_not n rest = all (found n n rest)
  where
    all : ((k : ℕ) → k < n → k < n → k < length rest → get_or rest k 0 ≤ 1) ⊎ ((k : ℕ) × IsFirstWrong n rest k) → AreLawful n rest ⊎ ((k : ℕ) × IsFirstWrong n rest k)
    all (inl ok) = inl (λ k below there. ok k below below there)
    all (inr w) = inr w

-- so many marks are in front
record MarksThere (n : ℕ) (rest : List ℕ) : Type 0 where
  bytes : List ℕ
  behind : List ℕ
  marks : List Bool
  joined : rest ≡ bytes ++ behind
  stand : AreMarks n bytes marks

marks_there : (n : ℕ) (rest : List ℕ) → AreLawful n rest → n ≤ length rest → MarksThere n rest
marks_there n rest lawful enough =
    let long : length (take n rest) ≡ n = length-take-le n rest enough in
    let only : OnlyMarks (take n rest) = only_lawful (take n rest) (λ k below _. let same : get_or (take n rest) k 0 ≡ get_or rest k 0 = get_or-take n rest k 0 (omega arith) in omega (arith, lawful k (omega arith) (omega arith))) in
    record {
      bytes = take n rest;
      behind = drop n rest;
      marks = marks_said (take n rest);
      joined = sym (take-append-drop n rest);
      stand = record { count = length-map (take n rest) (λ b. nat_eq b 1) ∙ long; spelled = said_back (take n rest) only };
    }

marks_or_cut : (n : ℕ) (rest : List ℕ) → AreLawful n rest → (n ≤ length rest) ⊎ (¬ (n ≤ length rest)) → MarksThere n rest ⊎ HasFault (mark_faults n rest)
marks_or_cut n rest lawful (inl enough) = inl (marks_there n rest lawful enough)
marks_or_cut n rest lawful (inr short) = inr (record { place = length rest; reason = Truncated; fault = inl (lawful, inr (short, (refl, refl))) })

marks_or_wrong : (n : ℕ) (rest : List ℕ) → AreLawful n rest ⊎ ((k : ℕ) × IsFirstWrong n rest k) → MarksThere n rest ⊎ HasFault (mark_faults n rest)
marks_or_wrong n rest (inr (k, w)) =
    let high = w.wrong in
    inr (record { place = k; reason = BadMark; fault = inr ((λ lawful. let no : ⊥ = omega (arith, lawful k w.one w.there) in no), (w, refl)) })
marks_or_wrong n rest (inl lawful) = marks_or_cut n rest lawful (at_least n (length rest))

decided_marks : (n : ℕ) (rest : List ℕ) → MarksThere n rest ⊎ HasFault (mark_faults n rest)
decided_marks n rest = marks_or_wrong n rest (lawful_or_not n rest)

-- ---- marks and values

pub behind_are : (n : ℕ) (bytes : List ℕ) → AreBytes bytes → AreBytes (drop n bytes)
behind_are n bytes are i = let same = get_or-drop n bytes i 0 in omega (arith, same, are (n + i))

front_are : (n : ℕ) (bytes : List ℕ) → AreBytes bytes → AreBytes (take n bytes)
front_are n bytes are i =
    ⊎_elim
    (λ (less : i < n). let same : get_or (take n bytes) i 0 ≡ get_or bytes i 0 = get_or-take n bytes i 0 less in omega (arith, are i))
    (λ (past : n ≤ i). let none_ : get_or (take n bytes) i 0 ≡ 0 = get_or_past (take n bytes) i 0 (omega (arith, length-take n bytes)) in omega arith)
    (cases_lt i n)

band_there : (h : Head) (marks values : List ℕ) (said : List Bool) → IsShape h.rows h.cols h.depth → AreMarks (h.rows * h.cols) marks said → AreBytes values → length values ≡ count_of said * h.depth * bytes_of h.kind
    → (r : Pixels) × IsBandGrid h (marks ++ values) r
band_there h marks values said shape marks_are are long =
    let vs = values_there h.kind values (count_of said * h.depth) are long in
    let made = in_order_there h.kind h.rows h.cols h.depth said vs.0 shape marks_are.count vs.1.1.1.0 vs.1.1.0 in (
      record { kind = h.kind; rows = h.rows; cols = h.cols; depth = h.depth; pixels = pixels_with h.depth said vs.0 },
      record {
        raster = made.raster;
        shape = refl;
        marks = marks;
        values = values;
        joined = refl;
        marks_are = subst (λ (ms : List Bool). AreMarks (h.rows * h.cols) marks ms) (sym made.has_marks) marks_are;
        values_are = subst (AreValues h.kind values) (sym made.has_values) vs.1.0;
      },
    )

-- behind a head, the marks and values of a raster stand or have a fault
pub band_decided : (h : Head) → IsShape h.rows h.cols h.depth → IsDecided (IsBandGrid h) (behind_head h)
band_decided h shape bytes are = marks (decided_marks (h.rows * h.cols) bytes)
  where
    values : (m : MarksThere (h.rows * h.cols) bytes) → (count_of m.marks * h.depth * bytes_of h.kind ≤ length m.behind) ⊎ (¬ (count_of m.marks * h.depth * bytes_of h.kind ≤ length m.behind))
        → InFront (IsBandGrid h) bytes ⊎ HasFault (behind_head h bytes)
    values m (inl enough) =
        let size = count_of m.marks * h.depth * bytes_of h.kind in
        let from_rest : drop (length m.bytes) bytes ≡ m.behind = ap (drop (length m.bytes)) m.joined ∙ drop_at m.bytes m.behind (length m.bytes) refl in
        let are_behind : AreBytes m.behind = subst AreBytes from_rest (behind_are (length m.bytes) bytes are) in
        let b = band_there h m.bytes (take size m.behind) m.marks shape m.stand (front_are size m.behind are_behind) (length-take-le size m.behind enough) in
        inl (record {
          front = m.bytes ++ take size m.behind;
          rest = drop size m.behind;
          value = b.0;
          joined = m.joined ∙ ap (λ u. m.bytes ++ u) (sym (take-append-drop size m.behind)) ∙ sym (append_assoc m.bytes (take size m.behind) (drop size m.behind));
          stands = b.1;
        })
    values m (inr short) =
        inr (record {
          place = length m.bytes + length m.behind;
          reason = Truncated;
          fault = inr (record { front = m.bytes; rest = m.behind; value = m.marks; joined = m.joined; stands = m.stand; later = (length m.behind, (refl, inr (short, (refl, refl)))) });
        })

    marks : MarksThere (h.rows * h.cols) bytes ⊎ HasFault (mark_faults (h.rows * h.cols) bytes) → InFront (IsBandGrid h) bytes ⊎ HasFault (behind_head h bytes)
    marks (inl m) = values m (at_least (count_of m.marks * h.depth * bytes_of h.kind) (length m.behind))
    marks (inr w) = inr (record { place = w.place; reason = w.reason; fault = inl w.fault })

-- ---- whole grids

pub front_short : (bytes : List ℕ) → length (take 17 bytes) ≤ 17
front_short bytes = omega (arith, length-take 17 bytes)

-- a fault behind the head
pub fault_after_head : (magic : List ℕ) (faults : Head → List ℕ → Faults GridReason) (h : Head) (bytes : List ℕ) → IsHead magic (take 17 bytes) h → HasFault (faults h (drop 17 bytes))
    → HasFault (in_order (IsHead magic) (head_faults magic) faults bytes)
fault_after_head magic faults h bytes stands w = record {
  place = length (take 17 bytes) + w.place;
  reason = w.reason;
  fault = inr (record { front = take 17 bytes; rest = drop 17 bytes; value = h; joined = sym (take-append-drop 17 bytes); stands = stands; later = (w.place, (refl, w.fault)) });
}

pub grids_are_decided : GridsAreDecided
grids_are_decided bytes are = head (decided_head (codes "LGR1") (take 17 bytes) (front_short bytes))
  where
    band : (h : Head) → IsHead (codes "LGR1") (take 17 bytes) h → InFront (IsBandGrid h) (drop 17 bytes) ⊎ HasFault (behind_head h (drop 17 bytes)) → InFront IsGrid bytes ⊎ HasFault (grid_faults bytes)
    band h stands (inl f) = inl (record {
      front = take 17 bytes ++ f.front;
      rest = f.rest;
      value = f.value;
      joined = sym (take-append-drop 17 bytes) ∙ ap (λ u. take 17 bytes ++ u) f.joined ∙ sym (append_assoc (take 17 bytes) f.front f.rest);
      stands = grid_with (take 17 bytes) f.front h f.value stands f.stands;
    })
    band h stands (inr w) = inr (fault_after_head (codes "LGR1") behind_head h bytes stands w)

    head : ((h : Head) × IsHead (codes "LGR1") (take 17 bytes) h) ⊎ HasFault (magic_faults (codes "LGR1") (take 17 bytes)) → InFront IsGrid bytes ⊎ HasFault (grid_faults bytes)
    head (inl (h, stands)) = band h stands (band_decided h stands.shape (drop 17 bytes) (behind_are 17 bytes are))
    head (inr w) = inr (record { place = w.place; reason = w.reason; fault = inl w.fault })
