-- Bytes are an `LGA1` of one grid, or they have one first fault.
use Rattle.std.proofs.Common.{◌≡◌, ℕ, ℤ, suc, ◌+◌, ◌*◌, ◌^◌, ◌<◌, List, [], ◌∷◌, ◌++◌, length, get_or, All, Option, None, Some, refl, sym, ap, ◌∙◌, subst, arith, ◌⊎◌, inl, inr}
use Rattle.std.specs.Prelude.{codes, pos, negsuc, unsigned_abs, is_some}
use Rattle.std.specs.List.{count_by}
use Rattle.std.proofs.lemmas.Int.{ints}
use Rattle.std.proofs.lemmas.List.{append-nil}
use Rattle.std.proofs.lemmas.List.Elements.{All-cons, All-head, All-nil, All-tail}
use Rattle.byteorder.specs.Endian.{little_bytes, little_number, twos_complement}
use Rattle.byteorder.specs.Numbers.{length-bytes_low_first, little_number-reads_back}
use Rattle.first_fault.specs.Faults.{ends, in_order, none, unless, wrong}
use Rattle.first_fault.specs.Parts.{AreBytes, HasFault, IsEmpty, IsSingle}
use Rattle.first_fault.proofs.Parts.{empty-ends, empty-in_order, passed, same_rest, single-choice, single-ends, single-in_order, single-none, single-unless}
use Rattle.first_fault.proofs.Decided.{Joined, decided_in_order, decided_unless}
use Rattle.raster_cells.specs.PixelType.{bytes_of, complement_of}
use Rattle.raster_values.specs.Raster.{Pixels}
use Rattle.raster_grids.specs.Grid.{grid_of}
use Rattle.raster_grids.specs.ReadGrid.{IsGrid}
use Rattle.raster_grids.proofs.GridLaws.{grids_are_parts, written_grid}
use Rattle.ascii_grid.specs.declared.fault.AsciiReason.TheVariants.{Collision, DepthNot1, Leftover}
use Rattle.ascii_grid.specs.declared.grid.AsciiGrid.{AsciiGrid}
use Rattle.ascii_grid.specs.declared.grid.Georef.{Georef}
use Rattle.ascii_grid.specs.declared.lga.fields.Centres.{Centres}
use Rattle.ascii_grid.specs.Canon.{IsApart, IsLawful}
use Rattle.ascii_grid.specs.Laws.{IsEitherLga, LgaHasNoFault, LgaIsLawful, LgaStands, OneLga, OneLgaFault}
use Rattle.ascii_grid.specs.Lga.{FirstSame, IsFlags, IsLga, IsMagic, IsNodataField, IsTextField, behind_cell, behind_flags, behind_magic, behind_x, behind_y, collision, content_faults, flag_faults, flags_of, grid_and_end_faults, lga_faults, magic_faults, nodata_faults, raster_faults, text_field, text_field_faults}
use Rattle.ascii_grid.proofs.Tests.{Tested, same_int, same_nat, this_wrong}
use Rattle.ascii_grid.proofs.ContentSteps.{same_not_apart}
use Rattle.ascii_grid.proofs.LgaParts.{flags_decided, flags_part, magic_decided, magic_part, nodata_decided, nodata_part, raster_decided, raster_part, text_decided, text_part}

abbrev Cell : Type 0
Cell = Option (List ℤ)

-- ---- what a raster may not have

front_is : (x y : Cell) (xs ys : List Cell) → ◌≡◌ {A = List Cell} (x ∷ xs) (y ∷ ys) → (x ≡ y) × (xs ≡ ys)
front_is x y xs ys e = (cc, cc)

-- a pixel that has the value is not apart from it
met : (nodata : ℤ) (q : Cell) (values : List ℤ) → Some values ≡ q → get_or values 0 (pos 0) ≡ nodata → IsApart nodata q → ⊥
met nodata q values is same apart = subst (IsApart nodata) (sym is) apart same

one_front : (nodata : ℤ) (a b c d : List Cell) (x y : List ℤ) → All (IsApart nodata) a → All (IsApart nodata) b → get_or x 0 (pos 0) ≡ nodata → get_or y 0 (pos 0) ≡ nodata
    → a ++ Some x ∷ c ≡ b ++ Some y ∷ d → a ≡ b
one_front nodata [] [] c d x y fa fb sx sy e = refl
one_front nodata [] (q ∷ b) c d x y fa fb sx sy e = absurd (met nodata q x (front_is (Some x) q c (b ++ Some y ∷ d) e).0 sx (All-head (IsApart nodata) q b fb))
one_front nodata (q ∷ a) [] c d x y fa fb sx sy e = absurd (met nodata q y (sym (front_is q (Some y) (a ++ Some x ∷ c) d e).0) sy (All-head (IsApart nodata) q a fa))
one_front nodata (p ∷ a) (q ∷ b) c d x y fa fb sx sy e =
    let both = front_is p q (a ++ Some x ∷ c) (b ++ Some y ∷ d) e in
    let rest = one_front nodata a b c d x y (All-tail (IsApart nodata) p a fa) (All-tail (IsApart nodata) q b fb) sx sy both.1 in
    λ i. both.0 i ∷ rest i

collision_single : (nodata : ℤ) (r : Pixels) → IsSingle (collision nodata r)
collision_single nodata r p q a b (n, (f, w)) (m, (g, v)) =
    let same = one_front nodata f.before g.before f.behind g.behind f.values g.values f.apart g.apart f.same g.same (sym f.joined ∙ g.joined) in
    let count : n ≡ m = f.count ∙ ap (λ (ps : List Cell). count_by is_some ps) same ∙ sym g.count in
    (w.0 ∙ ap (λ (k : ℕ). 17 + r.rows * r.cols + k * bytes_of r.kind) count ∙ sym v.0, w.1 ∙ sym v.1)

content_single : (nodata : ℤ) (r : Pixels) → IsSingle (content_faults nodata r)
content_single nodata r =
    single-unless (r.depth ≡ 1) DepthNot1 13 (unless (All (IsApart nodata) r.pixels) (collision nodata r) none)
    (single-choice (All (IsApart nodata) r.pixels) none (collision nodata r) single-none (collision_single nodata r))

content_empty : (nodata : ℤ) (r : Pixels) → r.depth ≡ 1 → All (IsApart nodata) r.pixels → IsEmpty (content_faults nodata r)
content_empty nodata r depth apart p a w =
    passed (All (IsApart nodata) r.pixels) none (collision nodata r) apart p a (passed (r.depth ≡ 1) (unless (All (IsApart nodata) r.pixels) (collision nodata r) none) (wrong DepthNot1 13) depth p a w)

-- ---- the grid at the end

nothing_behind : (bytes : List ℕ) (r : Pixels) → IsGrid bytes r → IsEmpty (in_order IsGrid raster_faults (λ (x : Pixels). ends Leftover) bytes)
nothing_behind bytes r is = subst (λ (u : List ℕ). IsEmpty (in_order IsGrid raster_faults (λ (x : Pixels). ends Leftover) u)) (append-nil bytes)
    (empty-in_order IsGrid raster_faults (λ (x : Pixels). ends Leftover) raster_part bytes [] r is (empty-ends Leftover))

one_raster : (bytes : List ℕ) (r s : Pixels) → IsGrid bytes r → IsGrid bytes s → r ≡ s
one_raster bytes r s x y = (grids_are_parts.once bytes bytes [] [] r s x y refl).1

last_single : (nodata : ℤ) (bytes : List ℕ) → IsSingle (grid_and_end_faults nodata bytes)
last_single nodata bytes p q a b (inl w) (inl v) = single-in_order IsGrid raster_faults (λ (x : Pixels). ends Leftover) raster_part (λ x rest. single-ends Leftover rest) bytes p q a b w v
last_single nodata bytes p q a b (inl w) (inr v) = absurd (nothing_behind bytes v.0 v.1.0 p a w)
last_single nodata bytes p q a b (inr w) (inl v) = absurd (nothing_behind bytes w.0 w.1.0 q b v)
last_single nodata bytes p q a b (inr (r, (x, w))) (inr (s, (y, v))) =
    content_single nodata s p q a b (subst (λ (u : Pixels). content_faults nodata u p a) (one_raster bytes r s x y) w) v

last_empty : (nodata : ℤ) (bytes : List ℕ) (r : Pixels) → IsGrid bytes r → r.depth ≡ 1 → All (IsApart nodata) r.pixels → IsEmpty (grid_and_end_faults nodata bytes)
last_empty nodata bytes r is depth apart p a (inl w) = nothing_behind bytes r is p a w
last_empty nodata bytes r is depth apart p a (inr (s, (x, w))) = content_empty nodata r depth apart p a (subst (λ (u : Pixels). content_faults nodata u p a) (one_raster bytes s r x is) w)

-- ---- one first fault

cell_single : (bytes : List ℕ) → IsSingle (behind_cell bytes)
cell_single bytes = single-in_order IsNodataField nodata_faults grid_and_end_faults nodata_part last_single bytes

y_single : (bytes : List ℕ) → IsSingle (behind_y bytes)
y_single bytes = single-in_order IsTextField text_field_faults (λ cell. behind_cell) text_part (λ cell rest. cell_single rest) bytes

x_single : (bytes : List ℕ) → IsSingle (behind_x bytes)
x_single bytes = single-in_order IsTextField text_field_faults (λ y. behind_y) text_part (λ y rest. y_single rest) bytes

flags_single : (bytes : List ℕ) → IsSingle (behind_flags bytes)
flags_single bytes = single-in_order IsTextField text_field_faults (λ x. behind_x) text_part (λ x rest. x_single rest) bytes

magic_single : (bytes : List ℕ) → IsSingle (behind_magic bytes)
magic_single bytes = single-in_order IsFlags flag_faults (λ c. behind_flags) flags_part (λ c rest. flags_single rest) bytes

pub one_lga_fault : OneLgaFault
one_lga_fault bytes = single-in_order IsMagic magic_faults (λ u. behind_magic) magic_part (λ u rest. magic_single rest) bytes

-- ---- an `LGA1` has none

pub lga_has_no_fault : LgaHasNoFault
lga_has_no_fault bytes g place reason is w =
    let centres : Centres = record { x = g.geo.x_centre; y = g.geo.y_centre } in
    let in_nodata = empty-in_order IsNodataField nodata_faults grid_and_end_faults nodata_part is.nodata is.grid g.geo.nodata is.nodata_is (last_empty g.geo.nodata is.grid g.raster is.grid_is is.depth is.apart) in
    let in_cell = empty-in_order IsTextField text_field_faults (λ cell. behind_cell) text_part is.cell (is.nodata ++ is.grid) g.geo.cell is.cell_is in_nodata in
    let in_y = empty-in_order IsTextField text_field_faults (λ y. behind_y) text_part is.y (is.cell ++ (is.nodata ++ is.grid)) g.geo.y is.y_is in_cell in
    let in_x = empty-in_order IsTextField text_field_faults (λ x. behind_x) text_part is.x (is.y ++ (is.cell ++ (is.nodata ++ is.grid))) g.geo.x is.x_is in_y in
    let in_flags = empty-in_order IsFlags flag_faults (λ c. behind_flags) flags_part is.flags (is.x ++ (is.y ++ (is.cell ++ (is.nodata ++ is.grid)))) centres is.flags_are in_x in
    let in_magic = empty-in_order IsMagic magic_faults (λ u. behind_magic) magic_part (codes "LGA1") (is.flags ++ (is.x ++ (is.y ++ (is.cell ++ (is.nodata ++ is.grid))))) tt refl in_flags in
    in_magic place reason (subst (λ (u : List ℕ). lga_faults u place reason) is.joined w)

-- ---- one grid

pub one_lga : OneLga
one_lga bytes g h x y =
    let joined = sym x.joined ∙ y.joined in
    let e1 = same_rest (codes "LGA1") (codes "LGA1") (x.flags ++ (x.x ++ (x.y ++ (x.cell ++ (x.nodata ++ x.grid))))) (y.flags ++ (y.x ++ (y.y ++ (y.cell ++ (y.nodata ++ y.grid))))) refl joined in
    let p1 = flags_part.once x.flags y.flags (x.x ++ (x.y ++ (x.cell ++ (x.nodata ++ x.grid)))) (y.x ++ (y.y ++ (y.cell ++ (y.nodata ++ y.grid)))) (record { x = g.geo.x_centre; y = g.geo.y_centre }) (record { x = h.geo.x_centre; y = h.geo.y_centre }) x.flags_are y.flags_are e1 in
    let e2 = same_rest x.flags y.flags (x.x ++ (x.y ++ (x.cell ++ (x.nodata ++ x.grid)))) (y.x ++ (y.y ++ (y.cell ++ (y.nodata ++ y.grid)))) p1.0 e1 in
    let p2 = text_part.once x.x y.x (x.y ++ (x.cell ++ (x.nodata ++ x.grid))) (y.y ++ (y.cell ++ (y.nodata ++ y.grid))) g.geo.x h.geo.x x.x_is y.x_is e2 in
    let e3 = same_rest x.x y.x (x.y ++ (x.cell ++ (x.nodata ++ x.grid))) (y.y ++ (y.cell ++ (y.nodata ++ y.grid))) p2.0 e2 in
    let p3 = text_part.once x.y y.y (x.cell ++ (x.nodata ++ x.grid)) (y.cell ++ (y.nodata ++ y.grid)) g.geo.y h.geo.y x.y_is y.y_is e3 in
    let e4 = same_rest x.y y.y (x.cell ++ (x.nodata ++ x.grid)) (y.cell ++ (y.nodata ++ y.grid)) p3.0 e3 in
    let p4 = text_part.once x.cell y.cell (x.nodata ++ x.grid) (y.nodata ++ y.grid) g.geo.cell h.geo.cell x.cell_is y.cell_is e4 in
    let e5 = same_rest x.cell y.cell (x.nodata ++ x.grid) (y.nodata ++ y.grid) p4.0 e4 in
    let p5 = nodata_part.once x.nodata y.nodata x.grid y.grid g.geo.nodata h.geo.nodata x.nodata_is y.nodata_is e5 in
    let e6 = same_rest x.nodata y.nodata x.grid y.grid p5.0 e5 in
    let raster = one_raster y.grid g.raster h.raster (subst (λ (u : List ℕ). IsGrid u g.raster) e6 x.grid_is) y.grid_is in
    let centres : ◌≡◌ {A = Centres} (record { x = g.geo.x_centre; y = g.geo.y_centre }) (record { x = h.geo.x_centre; y = h.geo.y_centre }) = p1.1 in
    let geo : g.geo ≡ h.geo = λ i. record { x = p2.1 i; x_centre = (centres i).x; y = p3.1 i; y_centre = (centres i).y; cell = p4.1 i; nodata = p5.1 i } in
    λ i. record { geo = geo i; raster = raster i }

pub lga_is_lawful : LgaIsLawful
lga_is_lawful bytes g is = record {
  depth = is.depth;
  geo = record { x = is.x_is.text_is; y = is.y_is.text_is; cell = is.cell_is.text_is; nodata = is.nodata_is.few };
  apart = is.apart;
}

-- ---- what is written

small : (z : ℤ) → unsigned_abs z < 10000000000 → twos_complement 8 (complement_of 8 z) ≡ z
small (pos n) few = grind (arith, ints)
small (negsuc n) few = grind (arith, ints)

complement_below : (z : ℤ) → unsigned_abs z < 10000000000 → complement_of 8 z < 256 ^ 8
complement_below (pos n) few = let e : n < 10000000000 = few in omega (arith, e)
complement_below (negsuc n) few = omega arith

nodata_written : (z : ℤ) → unsigned_abs z < 10000000000 → IsNodataField (little_bytes 8 (complement_of 8 z)) z
nodata_written z few =
    let bytes = little_bytes 8 (complement_of 8 z) in
    let number : little_number 8 bytes ≡ complement_of 8 z = ap (little_number 8) (sym (append-nil bytes)) ∙ little_number-reads_back 8 (complement_of 8 z) [] (complement_below z few) in
    record {
      size = length-bytes_low_first 0 8 (complement_of 8 z);
      value = sym (ap (twos_complement 8) number ∙ small z few);
      few = few;
    }

pub lga_stands : LgaStands
lga_stands g lawful raster = record {
  flags = flags_of (record { x = g.geo.x_centre; y = g.geo.y_centre }) ∷ [];
  x = text_field g.geo.x;
  y = text_field g.geo.y;
  cell = text_field g.geo.cell;
  nodata = little_bytes 8 (complement_of 8 g.geo.nodata);
  grid = grid_of g.raster;
  joined = refl;
  flags_are = refl;
  x_is = record { spelled = refl; text_is = lawful.geo.x };
  y_is = record { spelled = refl; text_is = lawful.geo.y };
  cell_is = record { spelled = refl; text_is = lawful.geo.cell };
  nodata_is = nodata_written g.geo.nodata lawful.geo.nodata;
  grid_is = written_grid g.raster raster;
  depth = lawful.depth;
  apart = lawful.apart;
}

-- ---- an `LGA1`, or a fault

-- all values are apart, or one is the first that is not
apart_or : (nodata : ℤ) (ps : List Cell) → All (IsApart nodata) ps ⊎ ((n : ℕ) × FirstSame nodata ps n)
apart_or nodata [] = inl (All-nil (IsApart nodata))
apart_or nodata (p ∷ ps) = by p (apart_or nodata ps)
  where
    behind : (q : Cell) → IsApart nodata q → (n : ℕ) → FirstSame nodata ps n → (m : ℕ) × FirstSame nodata (q ∷ ps) m
    behind q apart n f = (
      count_by is_some (q ∷ f.before),
      record {
        before = q ∷ f.before;
        values = f.values;
        behind = f.behind;
        joined = ap (λ (u : List Cell). q ∷ u) f.joined;
        apart = All-cons (IsApart nodata) q f.before apart f.apart;
        same = f.same;
        count = refl;
      },
    )

    far : (q : Cell) → IsApart nodata q → All (IsApart nodata) ps ⊎ ((n : ℕ) × FirstSame nodata ps n) → All (IsApart nodata) (q ∷ ps) ⊎ ((n : ℕ) × FirstSame nodata (q ∷ ps) n)
    far q apart (inl all) = inl (All-cons (IsApart nodata) q ps apart all)
    far q apart (inr f) = inr (behind q apart f.0 f.1)

    valued : (values : List ℤ) → Tested (get_or values 0 (pos 0) ≡ nodata) → All (IsApart nodata) ps ⊎ ((n : ℕ) × FirstSame nodata ps n) → All (IsApart nodata) (Some values ∷ ps) ⊎ ((n : ℕ) × FirstSame nodata (Some values ∷ ps) n)
    valued values (inl same) rest = inr (0, record { before = []; values = values; behind = ps; joined = refl; apart = All-nil (IsApart nodata); same = same; count = refl })
    valued values (inr other) rest = far (Some values) other rest

    by : (q : Cell) → All (IsApart nodata) ps ⊎ ((n : ℕ) × FirstSame nodata ps n) → All (IsApart nodata) (q ∷ ps) ⊎ ((n : ℕ) × FirstSame nodata (q ∷ ps) n)
    by None rest = far None tt rest
    by (Some values) rest = valued values (same_int (get_or values 0 (pos 0)) nodata) rest

-- the grid at the end, as it may be
pub record AtEnd (nodata : ℤ) (bytes : List ℕ) (r : Pixels) : Type 0 where
  pub is : IsGrid bytes r
  pub depth : r.depth ≡ 1
  pub apart : All (IsApart nodata) r.pixels

content_decided : (nodata : ℤ) (bytes : List ℕ) (r : Pixels) → IsGrid bytes r → AtEnd nodata bytes r ⊎ HasFault (content_faults nodata r)
content_decided nodata bytes r is =
    decided_unless (r.depth ≡ 1) (wrong DepthNot1 13) (unless (All (IsApart nodata) r.pixels) (collision nodata r) none) (same_nat r.depth 1) (this_wrong DepthNot1 13) (λ depth. by depth (apart_or nodata r.pixels))
  where
    by : r.depth ≡ 1 → All (IsApart nodata) r.pixels ⊎ ((n : ℕ) × FirstSame nodata r.pixels n) → AtEnd nodata bytes r ⊎ HasFault (unless (All (IsApart nodata) r.pixels) (collision nodata r) none)
    by depth (inl all) = inl (record { is = is; depth = depth; apart = all })
    by depth (inr f) = inr (record { place = 17 + r.rows * r.cols + f.0 * bytes_of r.kind; reason = Collision; fault = inr (same_not_apart nodata r.pixels f.0 f.1, (f.0, (f.1, (refl, refl)))) })

last_decided : (nodata : ℤ) (bytes : List ℕ) → AreBytes bytes → ((r : Pixels) × AtEnd nodata bytes r) ⊎ HasFault (grid_and_end_faults nodata bytes)
last_decided nodata bytes are = by (decided_in_order IsGrid raster_faults (λ r rest (u : Unit {0}). rest ≡ []) (λ (r : Pixels). ends Leftover) raster_decided (λ r rest more. ends_decided rest) bytes are)
  where
    ends_decided : (rest : List ℕ) → ((u : Unit {0}) × (rest ≡ [])) ⊎ HasFault (ends Leftover rest)
    ends_decided [] = inl (tt, refl)
    ends_decided (x ∷ rest) = inr (record { place = 0; reason = Leftover; fault = inr ((λ e. let no : ⊥ = omega (arith, ap length e) in no), (refl, refl)) })

    content : (r : Pixels) → IsGrid bytes r → AtEnd nodata bytes r ⊎ HasFault (content_faults nodata r) → ((s : Pixels) × AtEnd nodata bytes s) ⊎ HasFault (grid_and_end_faults nodata bytes)
    content r is (inl h) = inl (r, h)
    content r is (inr w) = inr (record { place = w.place; reason = w.reason; fault = inr (r, (is, w.fault)) })

    whole : (r : Pixels) → IsGrid bytes r → ((s : Pixels) × AtEnd nodata bytes s) ⊎ HasFault (grid_and_end_faults nodata bytes)
    whole r is = content r is (content_decided nodata bytes r is)

    by : Joined IsGrid (λ r rest (u : Unit {0}). rest ≡ []) bytes ⊎ HasFault (in_order IsGrid raster_faults (λ (r : Pixels). ends Leftover) bytes) → ((s : Pixels) × AtEnd nodata bytes s) ⊎ HasFault (grid_and_end_faults nodata bytes)
    by (inl j) =
        let all : j.first.front ≡ bytes = sym (j.first.joined ∙ ap (λ (u : List ℕ). j.first.front ++ u) j.stands ∙ append-nil j.first.front) in
        whole j.first.value (subst (λ (u : List ℕ). IsGrid u j.first.value) all j.first.stands)
    by (inr w) = inr (record { place = w.place; reason = w.reason; fault = inl w.fault })

abbrev InCell : List ℕ → Type 0
InCell bytes = Joined IsNodataField AtEnd bytes

abbrev InY : List ℕ → Type 0
InY bytes = Joined IsTextField (λ cell rest (u : Unit {0}). InCell rest) bytes

abbrev InX : List ℕ → Type 0
InX bytes = Joined IsTextField (λ y rest (u : Unit {0}). InY rest) bytes

abbrev InFlags : List ℕ → Type 0
InFlags bytes = Joined IsTextField (λ x rest (u : Unit {0}). InX rest) bytes

abbrev InMagic : List ℕ → Type 0
InMagic bytes = Joined IsFlags (λ c rest (u : Unit {0}). InFlags rest) bytes

abbrev InAll : List ℕ → Type 0
InAll bytes = Joined IsMagic (λ v rest (u : Unit {0}). InMagic rest) bytes

with_unit : {X Y : Type 0} → X ⊎ Y → ((u : Unit {0}) × X) ⊎ Y
with_unit (inl x) = inl (tt, x)
with_unit (inr y) = inr y

in_cell : (bytes : List ℕ) → AreBytes bytes → InCell bytes ⊎ HasFault (behind_cell bytes)
in_cell bytes are = decided_in_order IsNodataField nodata_faults AtEnd grid_and_end_faults nodata_decided last_decided bytes are

in_y : (bytes : List ℕ) → AreBytes bytes → InY bytes ⊎ HasFault (behind_y bytes)
in_y bytes are = decided_in_order IsTextField text_field_faults (λ cell rest (u : Unit {0}). InCell rest) (λ cell. behind_cell) text_decided (λ cell rest more. with_unit (in_cell rest more)) bytes are

in_x : (bytes : List ℕ) → AreBytes bytes → InX bytes ⊎ HasFault (behind_x bytes)
in_x bytes are = decided_in_order IsTextField text_field_faults (λ y rest (u : Unit {0}). InY rest) (λ y. behind_y) text_decided (λ y rest more. with_unit (in_y rest more)) bytes are

in_flags : (bytes : List ℕ) → AreBytes bytes → InFlags bytes ⊎ HasFault (behind_flags bytes)
in_flags bytes are = decided_in_order IsTextField text_field_faults (λ x rest (u : Unit {0}). InX rest) (λ x. behind_x) text_decided (λ x rest more. with_unit (in_x rest more)) bytes are

in_magic : (bytes : List ℕ) → AreBytes bytes → InMagic bytes ⊎ HasFault (behind_magic bytes)
in_magic bytes are = decided_in_order IsFlags flag_faults (λ c rest (u : Unit {0}). InFlags rest) (λ c. behind_flags) flags_decided (λ c rest more. with_unit (in_flags rest more)) bytes are

in_all : (bytes : List ℕ) → AreBytes bytes → InAll bytes ⊎ HasFault (lga_faults bytes)
in_all bytes are = decided_in_order IsMagic magic_faults (λ v rest (u : Unit {0}). InMagic rest) (λ v. behind_magic) magic_decided (λ v rest more. with_unit (in_magic rest more)) bytes are

grid_in : (bytes : List ℕ) → InAll bytes → (g : AsciiGrid) × IsLga bytes g
grid_in bytes m =
    let c = m.stands in
    let x = c.stands in
    let y = x.stands in
    let t = y.stands in
    let n = t.stands in
    let geo : Georef = record { x = x.first.value; x_centre = c.first.value.x; y = y.first.value; y_centre = c.first.value.y; cell = t.first.value; nodata = n.first.value } in
    let g : AsciiGrid = record { geo = geo; raster = n.last } in (
      g,
      record {
        flags = c.first.front;
        x = x.first.front;
        y = y.first.front;
        cell = t.first.front;
        nodata = n.first.front;
        grid = n.first.rest;
        joined = m.first.joined ∙ (λ i. m.first.stands i ++ (c.first.joined ∙ ap (λ (u : List ℕ). c.first.front ++ u) (x.first.joined ∙ ap (λ (u : List ℕ). x.first.front ++ u) (y.first.joined ∙ ap (λ (u : List ℕ). y.first.front ++ u) (t.first.joined ∙ ap (λ (u : List ℕ). t.first.front ++ u) n.first.joined)))) i);
        flags_are = c.first.stands;
        x_is = x.first.stands;
        y_is = y.first.stands;
        cell_is = t.first.stands;
        nodata_is = n.first.stands;
        grid_is = n.stands.is;
        depth = n.stands.depth;
        apart = n.stands.apart;
      },
    )

pub lga_is_either : IsEitherLga
lga_is_either bytes are = by (in_all bytes are)
  where
    by : InAll bytes ⊎ HasFault (lga_faults bytes) → ((g : AsciiGrid) × IsLga bytes g) ⊎ HasFault (lga_faults bytes)
    by (inl m) = inl (grid_in bytes m)
    by (inr w) = inr w
