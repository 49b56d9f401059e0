-- A grid is a part: it is read in one way, and stands or has one first fault.
use Rattle.std.proofs.Common.{[], ◌≡◌, ℕ, List, ◌++◌, get_or, sym, ap, ◌∙◌, ◌≤◌, arith, ◌*◌, inl, inr, ◌<◌, length, take, subst, Bool, true, false, cond, ◌∷◌, map, refl, zero, suc, length-append, ◌⊎◌, append_assoc}
use Rattle.std.proofs.lemmas.List.{get_or_append_left, length-map}
use Rattle.std.proofs.lemmas.Bool.{cases_order}
use Rattle.std.specs.Prelude.{codes, ℤ, Option, None, Some, is_some}
use Rattle.raster_values.proofs.OneGrid.{split_front}
use Rattle.raster_cells.specs.declared.kind.PixelType.{PixelType}
use Rattle.raster_cells.specs.declared.kind.PixelType.TheVariants.{I8, U8, I16, U16, I32, U32}
use Rattle.raster_cells.specs.PixelType.{code_of, bytes_of}
use Rattle.raster_cells.specs.Shapes.{IsTooLarge}
use Rattle.first_fault.specs.Faults.{none, wrong, unless}
use Rattle.first_fault.proofs.Parts.{passed, single-none, single-unless, single-choice, single-in_order, same_rest, behind_it}
use Rattle.first_fault.specs.Parts.{IsSingle, IsPart}
use Rattle.raster_cells.specs.Masks.{count_of}
use Rattle.raster_values.specs.Raster.{Pixels, values_of, mark_of, IsRaster}
use Rattle.raster_values.specs.Flat.{marks_of}
use Rattle.raster_values.proofs.FlatViews.{count_values}
use Rattle.raster_cells.specs.Values.{AreValues, values_bytes}
use Rattle.raster_values.proofs.Deep.{pixels_once, raster_deep, AreDeep, values_in_range}
use Rattle.raster_cells.proofs.Spelled.{values_once, written_values}
use Rattle.byteorder.specs.Endian.{little_bytes}
use Rattle.byteorder.specs.Numbers.{little_number-reads_back}
use Rattle.raster_grids.specs.declared.reading.Head.{Head}
use Rattle.raster_grids.specs.ReadGrid.{number_at, IsHead, cut, magic_faults, type_faults, rows_faults, cols_faults, depth_faults, shape_faults, head_faults, AreMarks, mark_faults, wrong_mark, AreLawful, value_faults, behind_head, grid_faults, IsGrid, GridsAreParts, WrittenGridStands}
use Rattle.raster_grids.proofs.OneGrid.{kind_of, kind_of-code, rows_below, cols_below, depth_below}
use Rattle.raster_grids.specs.declared.reading.GridReason.{GridReason}
use Rattle.raster_grids.specs.declared.reading.GridReason.TheVariants.{BadMagic, BadType, BadSize, TooLarge, Truncated}
use Rattle.raster_grids.proofs.Taken.{head_of_all, marks_said, OnlyMarks}
use Rattle.raster_grids.proofs.GridParts.{marks_long, count_marks, head_in}
use Rattle.raster_grids.specs.BandsGrid.{IsBandGrid}
use Rattle.raster_grids.specs.Grid.{head_of as written_head, band_of, grid_marks, grid_of}
use Rattle.raster_grids.specs.inside.Heads.{letters_with}

-- ---- the head

head_once : (magic a b s t : List ℕ) (x y : Head) → IsHead magic a x → IsHead magic b y → a ++ s ≡ b ++ t → (a ≡ b) × (x ≡ y)
head_once magic a b s t x y ha hb e =
    let same : a ≡ b = split_front a b s t 17 ha.size hb.size e in
    let kind : x.kind ≡ y.kind = sym (kind_of-code x.kind) ∙ ap kind_of (sym ha.kind ∙ ap (λ u. get_or u 4 0) same ∙ hb.kind) ∙ kind_of-code y.kind in
    let rows : x.rows ≡ y.rows = sym ha.rows ∙ ap (λ u. number_at u 5) same ∙ hb.rows in
    let cols : x.cols ≡ y.cols = sym ha.cols ∙ ap (λ u. number_at u 9) same ∙ hb.cols in
    let depth : x.depth ≡ y.depth = sym ha.depth ∙ ap (λ u. number_at u 13) same ∙ hb.depth in
    (same, λ i. record { kind = kind i; rows = rows i; cols = cols i; depth = depth i })

code_few : (kind : PixelType) → code_of kind ≤ 5
code_few I8 = omega arith
code_few U8 = omega arith
code_few I16 = omega arith
code_few U16 = omega arith
code_few I32 = omega arith
code_few U32 = omega arith

small_enough : (magic a : List ℕ) (x : Head) → IsHead magic a x → IsTooLarge (number_at a 5) (number_at a 9) (number_at a 13) → ⊥
small_enough magic a x h (inl deep) = let no : ⊥ = omega (arith, deep, h.depth, h.shape.depth_below) in no
small_enough magic a x h (inr wide) =
    let size : number_at a 5 * number_at a 9 * number_at a 13 ≡ x.rows * x.cols * x.depth =
    ap (λ n. n * number_at a 9 * number_at a 13) h.rows ∙ ap (λ n. x.rows * n * number_at a 13) h.cols ∙ ap (λ n. x.rows * x.cols * n) h.depth in
    let no : ⊥ = omega (arith, wide, size, h.shape.size) in no

no_head_fault : (magic a : List ℕ) (x : Head) (p : ℕ) (r : GridReason) → IsHead magic a x → magic_faults magic a p r → ⊥
no_head_fault magic a x p r h m =
    let long : length a ≡ 17 = h.size in
    let t1 = passed (4 ≤ length a) (unless (take 4 a ≡ magic) (wrong BadMagic 0) (type_faults a)) (cut a) (omega arith) p r m in
    let t2 = passed (take 4 a ≡ magic) (type_faults a) (wrong BadMagic 0) h.letters p r t1 in
    let t3 = passed (5 ≤ length a) (unless (get_or a 4 0 ≤ 5) (wrong BadType 4) (rows_faults a)) (cut a) (omega arith) p r t2 in
    let t4 = passed (get_or a 4 0 ≤ 5) (rows_faults a) (wrong BadType 4) (omega (arith, h.kind, code_few x.kind)) p r t3 in
    let t5 = passed (9 ≤ length a) (unless (0 < number_at a 5) (wrong BadSize 5) (cols_faults a)) (cut a) (omega arith) p r t4 in
    let t6 = passed (0 < number_at a 5) (cols_faults a) (wrong BadSize 5) (omega (arith, h.rows, h.shape.rows_above)) p r t5 in
    let t7 = passed (13 ≤ length a) (unless (0 < number_at a 9) (wrong BadSize 9) (depth_faults a)) (cut a) (omega arith) p r t6 in
    let t8 = passed (0 < number_at a 9) (depth_faults a) (wrong BadSize 9) (omega (arith, h.cols, h.shape.cols_above)) p r t7 in
    let t9 = passed (17 ≤ length a) (unless (0 < number_at a 13) (wrong BadSize 13) (shape_faults a)) (cut a) (omega arith) p r t8 in
    let t10 = passed (0 < number_at a 13) (shape_faults a) (wrong BadSize 13) (omega (arith, h.depth, h.shape.depth_above)) p r t9 in
    passed (¬ IsTooLarge (number_at a 5) (number_at a 9) (number_at a 13)) none (wrong TooLarge 13) (small_enough magic a x h) p r t10

one_magic : (magic a : List ℕ) → IsSingle (magic_faults magic a)
one_magic magic a =
    let shape : IsSingle (shape_faults a) = single-unless (¬ IsTooLarge (number_at a 5) (number_at a 9) (number_at a 13)) TooLarge 13 none single-none in
    let depth : IsSingle (depth_faults a) = single-unless (17 ≤ length a) Truncated (length a) (unless (0 < number_at a 13) (wrong BadSize 13) (shape_faults a)) (single-unless (0 < number_at a 13) BadSize 13 (shape_faults a) shape) in
    let cols : IsSingle (cols_faults a) = single-unless (13 ≤ length a) Truncated (length a) (unless (0 < number_at a 9) (wrong BadSize 9) (depth_faults a)) (single-unless (0 < number_at a 9) BadSize 9 (depth_faults a) depth) in
    let rows : IsSingle (rows_faults a) = single-unless (9 ≤ length a) Truncated (length a) (unless (0 < number_at a 5) (wrong BadSize 5) (cols_faults a)) (single-unless (0 < number_at a 5) BadSize 5 (cols_faults a) cols) in
    let kind : IsSingle (type_faults a) = single-unless (5 ≤ length a) Truncated (length a) (unless (get_or a 4 0 ≤ 5) (wrong BadType 4) (rows_faults a)) (single-unless (get_or a 4 0 ≤ 5) BadType 4 (rows_faults a) rows) in
    single-unless (4 ≤ length a) Truncated (length a) (unless (take 4 a ≡ magic) (wrong BadMagic 0) (type_faults a)) (single-unless (take 4 a ≡ magic) BadMagic 0 (type_faults a) kind)

pub head_part : (magic : List ℕ) → IsPart (IsHead magic) (head_faults magic)
head_part magic = record {
  once = head_once magic;
  either = λ a s x p r h w. no_head_fault magic a x p r h (subst (λ u. magic_faults magic u p r) (head_of_all a s (let few : length a ≤ 17 = omega (arith, h.size) in few) (λ fewer. absurd (let no : ⊥ = omega (arith, h.size) in no))) w);
  single = λ bytes. one_magic magic (take 17 bytes);
}

-- ---- marks

said_of : (marks : List Bool) → marks_said (map (λ m. cond m 1 0) marks) ≡ marks
said_of [] = refl
said_of (true ∷ marks) = ap (λ ms. true ∷ ms) (said_of marks)
said_of (false ∷ marks) = ap (λ ms. false ∷ ms) (said_of marks)

only_of : (marks : List Bool) (k : ℕ) → get_or (map (λ m. cond m 1 0) marks) k 0 ≤ 1
only_of [] k = omega arith
only_of (true ∷ marks) zero = omega arith
only_of (false ∷ marks) zero = omega arith
only_of (true ∷ marks) (suc k) = only_of marks k
only_of (false ∷ marks) (suc k) = only_of marks k

marks_only : (n : ℕ) (bytes : List ℕ) (marks : List Bool) → AreMarks n bytes marks → OnlyMarks bytes
marks_only n bytes marks h k = let e : get_or bytes k 0 ≡ get_or (map (λ m. cond m 1 0) marks) k 0 = ap (λ u. get_or u k 0) h.spelled in omega (arith, only_of marks k)

no_mark_fault : (n : ℕ) (a s : List ℕ) (x : List Bool) (p : ℕ) (r : GridReason) → AreMarks n a x → mark_faults n (a ++ s) p r → ⊥
no_mark_fault n a s x p r h (inr (bad, first)) =
    let long = marks_long n a x h in
    bad (λ k below _. let e : get_or (a ++ s) k 0 ≡ get_or a k 0 = get_or_append_left a s 0 k (omega arith) in omega (arith, marks_only n a x h k))
no_mark_fault n a s x p r h (inl (lawful, inr (short, is))) = short (let long = marks_long n a x h in omega (arith, length-append a s))
no_mark_fault n a s x p r h (inl (lawful, inl (long, none_))) = none_

one_wrong : (n : ℕ) (rest : List ℕ) → IsSingle (wrong_mark n rest)
one_wrong n rest p q a b x y = (same (cases_order p q), x.1 ∙ sym y.1)
  where
    same : (p ≡ q) ⊎ ((p < q) ⊎ (q < p)) → p ≡ q
    same (inl e) = e
    same (inr (inl less)) = let high = x.0.wrong in absurd (let no : ⊥ = omega (arith, y.0.before p less) in no)
    same (inr (inr less)) = let high = y.0.wrong in absurd (let no : ⊥ = omega (arith, x.0.before q less) in no)

pub marks_part : (n : ℕ) → IsPart (AreMarks n) (mark_faults n)
marks_part n = record {
  once = λ a b s t x y ha hb e.
      let same : a ≡ b = split_front a b s t n (marks_long n a x ha) (marks_long n b y hb) e in
      (same, sym (said_of x) ∙ ap marks_said (sym ha.spelled ∙ same ∙ hb.spelled) ∙ said_of y);
  either = λ a s x p r h w. no_mark_fault n a s x p r h w;
  single = λ rest. single-choice (AreLawful n rest) (unless (n ≤ length rest) (cut rest) none) (wrong_mark n rest)
      (single-unless (n ≤ length rest) Truncated (length rest) none single-none) (one_wrong n rest);
}

-- ---- marks and values

one_value_fault : (size : ℕ) (rest : List ℕ) → IsSingle (value_faults size rest)
one_value_fault size rest = single-unless (size ≤ length rest) Truncated (length rest) none single-none

one_behind_head : (h : Head) (rest : List ℕ) → IsSingle (behind_head h rest)
one_behind_head h rest =
    single-in_order (AreMarks (h.rows * h.cols)) (mark_faults (h.rows * h.cols)) (λ marks. value_faults (count_of marks * h.depth * bytes_of h.kind)) (marks_part (h.rows * h.cols))
    (λ marks left. one_value_fault (count_of marks * h.depth * bytes_of h.kind) left) rest

pub one_grid_fault : (bytes : List ℕ) → IsSingle (grid_faults bytes)
one_grid_fault bytes = single-in_order (IsHead (codes "LGR1")) (head_faults (codes "LGR1")) behind_head (head_part (codes "LGR1")) one_behind_head bytes

values_long : (h : Head) (bytes : List ℕ) (r : Pixels) (b : IsBandGrid h bytes r) → length b.values ≡ count_of (marks_of r) * r.depth * bytes_of r.kind
values_long h bytes r b = b.values_are.size ∙ ap (λ n. n * bytes_of r.kind) (count_values r b.raster ∙ ap (λ n. n * r.depth) (count_marks r))

band_once : (h : Head) (a b s t : List ℕ) (x y : Pixels) → IsBandGrid h a x → IsBandGrid h b y → a ++ s ≡ b ++ t → (a ≡ b) × (x ≡ y)
band_once h a b s t x y ha hb e =
    let behind : ha.marks ++ (ha.values ++ s) ≡ hb.marks ++ (hb.values ++ t) =
    sym (ap (λ u. u ++ s) ha.joined ∙ append_assoc ha.marks ha.values s) ∙ e ∙ ap (λ u. u ++ t) hb.joined ∙ append_assoc hb.marks hb.values t in
    let same : head_in x ≡ head_in y = ha.shape ∙ sym hb.shape in
    let area : x.rows * x.cols ≡ y.rows * y.cols = ap (λ (h : Head). h.rows * h.cols) same in
    let kind : x.kind ≡ y.kind = ap (λ (h : Head). h.kind) same in
    let rows : x.rows ≡ y.rows = ap (λ (h : Head). h.rows) same in
    let cols : x.cols ≡ y.cols = ap (λ (h : Head). h.cols) same in
    let depth : x.depth ≡ y.depth = ap (λ (h : Head). h.depth) same in
    let there : AreMarks (x.rows * x.cols) hb.marks (marks_of y) = subst (λ n. AreMarks n hb.marks (marks_of y)) (sym area) hb.marks_are in
    let part : IsPart (AreMarks (x.rows * x.cols)) (mark_faults (x.rows * x.cols)) = marks_part (x.rows * x.cols) in
    let marks = part.once ha.marks hb.marks (ha.values ++ s) (hb.values ++ t) (marks_of x) (marks_of y) ha.marks_are there behind in
    let last = same_rest ha.marks hb.marks (ha.values ++ s) (hb.values ++ t) marks.0 behind in
    let count : count_of (marks_of y) * y.depth * bytes_of y.kind ≡ count_of (marks_of x) * x.depth * bytes_of x.kind =
    ap (λ ms. count_of ms * y.depth * bytes_of y.kind) (sym marks.1) ∙ ap (λ n. count_of (marks_of x) * n * bytes_of y.kind) (sym depth) ∙ ap (λ k. count_of (marks_of x) * x.depth * bytes_of k) (sym kind) in
    let values : ha.values ≡ hb.values = split_front ha.values hb.values s t (count_of (marks_of x) * x.depth * bytes_of x.kind) (values_long h a x ha) (values_long h b y hb ∙ count) last in
    let same_values : values_of x.pixels ≡ values_of y.pixels =
    values_once x.kind ha.values (values_of x.pixels) (values_of y.pixels) ha.values_are
    (subst (λ k. AreValues k ha.values (values_of y.pixels)) (sym kind) (subst (λ u. AreValues y.kind u (values_of y.pixels)) (sym values) hb.values_are)) in
    let deep : AreDeep x.depth y.pixels = subst (λ d. AreDeep d y.pixels) (sym depth) (raster_deep y hb.raster) in
    let pixels : x.pixels ≡ y.pixels = pixels_once x.depth x.pixels y.pixels (raster_deep x ha.raster) deep marks.1 same_values in
    let bytes : ha.marks ++ ha.values ≡ hb.marks ++ hb.values = λ i. marks.0 i ++ values i in
    (ha.joined ∙ bytes ∙ sym hb.joined, λ i. record { kind = kind i; rows = rows i; cols = cols i; depth = depth i; pixels = pixels i })

no_band_fault : (h : Head) (a s : List ℕ) (x : Pixels) (p : ℕ) (r : GridReason) → IsBandGrid h a x → behind_head h (a ++ s) p r → ⊥
no_band_fault h a s x p r b w =
    let n = x.rows * x.cols in
    let size = count_of (marks_of x) * x.depth * bytes_of x.kind in
    let whole : behind_head (head_in x) (b.marks ++ (b.values ++ s)) p r =
    subst (λ u. behind_head (head_in x) u p r) (ap (λ u. u ++ s) b.joined ∙ append_assoc b.marks b.values s) (subst (λ (g : Head). behind_head g (a ++ s) p r) (sym b.shape) w) in
    let last = behind_it (AreMarks n) (mark_faults n) (λ marks. value_faults (count_of marks * x.depth * bytes_of x.kind)) (marks_part n) b.marks (b.values ++ s) (marks_of x) b.marks_are p r whole in
    passed (size ≤ length (b.values ++ s)) none (cut (b.values ++ s)) (omega (arith, length-append b.values s, values_long h a x b)) last.0 r last.1.1

pub band_part : (h : Head) → IsPart (IsBandGrid h) (behind_head h)
band_part h = record { once = band_once h; either = no_band_fault h; single = one_behind_head h }

-- ---- whole grids

band_in : (bytes : List ℕ) (r : Pixels) (g : IsGrid bytes r) → IsBandGrid (head_in r) (g.marks ++ g.values) r
band_in bytes r g = record { raster = g.raster; shape = refl; marks = g.marks; values = g.values; joined = refl; marks_are = g.marks_are; values_are = g.values_are }

-- what follows a grid
behind_grid : (a s : List ℕ) (x : Pixels) (g : IsGrid a x) → a ++ s ≡ g.head ++ ((g.marks ++ g.values) ++ s)
behind_grid a s x g = ap (λ u. u ++ s) g.joined ∙ append_assoc g.head (g.marks ++ g.values) s

grid_once : (a b s t : List ℕ) (x y : Pixels) → IsGrid a x → IsGrid b y → a ++ s ≡ b ++ t → (a ≡ b) × (x ≡ y)
grid_once a b s t x y ha hb e =
    let joins : ha.head ++ ((ha.marks ++ ha.values) ++ s) ≡ hb.head ++ ((hb.marks ++ hb.values) ++ t) = sym (behind_grid a s x ha) ∙ e ∙ behind_grid b t y hb in
    let heads = head_once (codes "LGR1") ha.head hb.head ((ha.marks ++ ha.values) ++ s) ((hb.marks ++ hb.values) ++ t) (head_in x) (head_in y) ha.head_of hb.head_of joins in
    let behind = same_rest ha.head hb.head ((ha.marks ++ ha.values) ++ s) ((hb.marks ++ hb.values) ++ t) heads.0 joins in
    let there : IsBandGrid (head_in x) (hb.marks ++ hb.values) y = subst (λ (h : Head). IsBandGrid h (hb.marks ++ hb.values) y) (sym heads.1) (band_in b y hb) in
    let band = band_once (head_in x) (ha.marks ++ ha.values) (hb.marks ++ hb.values) s t x y (band_in a x ha) there behind in
    let bytes : ha.head ++ (ha.marks ++ ha.values) ≡ hb.head ++ (hb.marks ++ hb.values) = λ i. heads.0 i ++ band.0 i in
    (ha.joined ∙ bytes ∙ sym hb.joined, band.1)

pub no_grid_fault : (a s : List ℕ) (x : Pixels) (p : ℕ) (r : GridReason) → IsGrid a x → grid_faults (a ++ s) p r → ⊥
no_grid_fault a s x p r g w =
    let whole : grid_faults (g.head ++ ((g.marks ++ g.values) ++ s)) p r = subst (λ u. grid_faults u p r) (behind_grid a s x g) w in
    let behind = behind_it (IsHead (codes "LGR1")) (head_faults (codes "LGR1")) behind_head (head_part (codes "LGR1")) g.head ((g.marks ++ g.values) ++ s) (head_in x) g.head_of p r whole in
    no_band_fault (head_in x) (g.marks ++ g.values) s x behind.0 r (band_in a x g) behind.1.1

pub grids_are_parts : GridsAreParts
grids_are_parts = record { once = grid_once; either = no_grid_fault; single = one_grid_fault }

-- ---- what is written

mark_spelled : (ps : List (Option (List ℤ))) → map mark_of ps ≡ map (λ m. cond m 1 0) (map is_some ps)
mark_spelled [] = refl
mark_spelled (None ∷ ps) = ap (λ ns. 0 ∷ ns) (mark_spelled ps)
mark_spelled (Some values ∷ ps) = ap (λ ns. 1 ∷ ns) (mark_spelled ps)

pub written_head_stands : (last : ℕ) (r : Pixels) → IsRaster r → IsHead (letters_with last) (written_head (letters_with last) r.kind r.rows r.cols r.depth) (head_in r)
written_head_stands last r h = record {
  size = refl;
  letters = refl;
  kind = refl;
  rows = little_number-reads_back 4 r.rows (little_bytes 4 r.cols ++ little_bytes 4 r.depth) (rows_below r.rows r.cols r.depth h.shape);
  cols = little_number-reads_back 4 r.cols (little_bytes 4 r.depth) (cols_below r.rows r.cols r.depth h.shape);
  depth = little_number-reads_back 4 r.depth [] (depth_below r.rows r.cols r.depth h.shape);
  shape = h.shape;
}

pub written_band : (r : Pixels) → IsRaster r → IsBandGrid (head_in r) (band_of r) r
written_band r h = record {
  raster = h;
  shape = refl;
  marks = grid_marks r;
  values = values_bytes r.kind (values_of r.pixels);
  joined = refl;
  marks_are = record { count = length-map r.pixels is_some ∙ h.places; spelled = mark_spelled r.pixels };
  values_are = written_values r.kind (values_of r.pixels) (values_in_range r.kind r.depth r.pixels h.each);
}

pub written_grid : WrittenGridStands
unfolding grid_of written_band
written_grid r h =
    let band = written_band r h in
    record {
      raster = h;
      head = written_head (codes "LGR1") r.kind r.rows r.cols r.depth;
      marks = band.marks;
      values = band.values;
      joined = refl;
      head_of = written_head_stands 49 r h;
      marks_are = band.marks_are;
      values_are = band.values_are;
    }
