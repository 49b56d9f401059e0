-- Windows of the pixels of a raster.
use Rattle.std.proofs.Common.{refl, sym, ◌∙◌, subst, ℕ, ◌≤◌, ◌*◌, ◌<◌, arith, ◌≡◌, Bool, List, ◌-◌, min, ◌+◌}
use Rattle.std.specs.Prelude.{All, ℤ}
use Rattle.std.proofs.Math.Nat.{mul-le-mul_left, mul-le-mul_right, mul-le-mul}
use Rattle.raster_cells.specs.CellList.{CellList, KeepsForm, AreOf}
use Rattle.raster_cells.specs.PixelType.{InRange}
use Rattle.raster_cells.specs.declared.kind.PixelType.{PixelType}
use Rattle.raster_cells.specs.Shapes.{IsShape}
use Rattle.raster_values.specs.declared.blocks.window.Window.{Window}
use Rattle.raster_values.specs.inside.Runs.{rows_places, rows_values, LeavesRows}
use Rattle.raster_values.specs.inside.Windows.{window_places, window_values, IsBlockOf, IsWithin, IsOneRowOf, ScattersRows}
use Rattle.raster_values.proofs.FullWidth.{full_places, full_values, full_leaves}

-- ---- one type, and as many values

pub same_form : (a : CellList) → KeepsForm a a
same_form a = record { kind = refl; in_range = λ before. before; size = refl }

pub forms_join : (a b c : CellList) → KeepsForm a b → KeepsForm b c → KeepsForm a c
forms_join a b c first more = record {
  kind = more.kind ∙ first.kind;
  in_range = λ before. subst (λ t. All (InRange t) c.values) first.kind (more.in_range (subst (λ t. All (InRange t) b.values) (sym first.kind) (first.in_range before)));
  size = more.size ∙ first.size;
}

-- what has the form of values of so many pixels still is
pub still_of : (kind : PixelType) (depth pixels : ℕ) (old new : CellList) → AreOf kind depth pixels old → KeepsForm old new → AreOf kind depth pixels new
still_of kind depth pixels old new are form = record {
  kind = are.kind ∙ sym form.kind;
  size = form.size ∙ are.size;
  few = subst (λ n. n ≤ 16777216) (sym form.size) are.few;
}

-- there are no more pixels than values
pub few_pixels : (kind : PixelType) (depth d pixels : ℕ) (cells : CellList) → AreOf kind depth pixels cells → d < depth → pixels ≤ 16777216
few_pixels kind depth d pixels cells are below =
    let up : pixels * 1 ≤ pixels * depth = mul-le-mul_left pixels (omega arith) in
    omega (arith, up, are.size, are.few)

-- ---- the numbers of a window

places_at : (w : Window) (marks : List Bool) (cols row col high wide : ℕ) → w.cols ≡ cols → w.row ≡ row → w.col ≡ col → w.high ≡ high → w.wide ≡ wide → window_places w marks ≡ rows_places marks cols row col high wide
places_at w marks cols row col high wide e1 e2 e3 e4 e5 = λ i. rows_places marks (e1 i) (e2 i) (e3 i) (e4 i) (e5 i)

values_at : (w : Window) (depth d : ℕ) (marks : List Bool) (vs : List ℤ) (cols row col high wide : ℕ) → w.cols ≡ cols → w.row ≡ row → w.col ≡ col → w.high ≡ high → w.wide ≡ wide → window_values w depth d marks vs ≡ rows_values depth d marks vs cols row col high wide
values_at w depth d marks vs cols row col high wide e1 e2 e3 e4 e5 = λ i. rows_values depth d marks vs (e1 i) (e2 i) (e3 i) (e4 i) (e5 i)

leaves_at : (w : Window) (depth d : ℕ) (marks : List Bool) (old new : List ℤ) (cols row col high wide : ℕ) → w.cols ≡ cols → w.row ≡ row → w.col ≡ col → w.high ≡ high → w.wide ≡ wide
    → LeavesRows depth d marks w.cols w.row w.col w.high w.wide old new ≡ LeavesRows depth d marks cols row col high wide old new
leaves_at w depth d marks old new cols row col high wide e1 e2 e3 e4 e5 = λ i. LeavesRows depth d marks (e1 i) (e2 i) (e3 i) (e4 i) (e5 i) old new

-- ---- blocks

module _ (rows cols row col side : ℕ) (w : Window) (is : IsBlockOf rows cols row col side w) where
  pub block_places_are : (marks : List Bool) → window_places w marks ≡ rows_places marks cols row col (min side (rows - row)) (min side (cols - col))
  block_places_are marks = places_at w marks cols row col (min side (rows - row)) (min side (cols - col)) is.across is.row is.col is.high is.wide

  pub block_values_are : (depth d : ℕ) (marks : List Bool) (vs : List ℤ) → window_values w depth d marks vs ≡ rows_values depth d marks vs cols row col (min side (rows - row)) (min side (cols - col))
  block_values_are depth d marks vs = values_at w depth d marks vs cols row col (min side (rows - row)) (min side (cols - col)) is.across is.row is.col is.high is.wide

  pub block_leaves : (depth d : ℕ) (marks : List Bool) (old new : List ℤ) → LeavesRows depth d marks w.cols w.row w.col w.high w.wide old new
      → LeavesRows depth d marks cols row col (min side (rows - row)) (min side (cols - col)) old new
  block_leaves depth d marks old new leaves = subst (λ (T : Type 0). T) (leaves_at w depth d marks old new cols row col (min side (rows - row)) (min side (cols - col)) is.across is.row is.col is.high is.wide) leaves

-- there are few pixels
pub few_places : (rows cols depth : ℕ) → IsShape rows cols depth → rows * cols ≤ 16777216
few_places rows cols depth h =
    let one : rows * cols * 1 ≤ rows * cols * depth = mul-le-mul_left (rows * cols) h.depth_above in
    omega (arith, one, h.size)

-- a block lies among the pixels, and has no more of them than a square
pub block_within : (rows cols row col side : ℕ) (w : Window) → IsBlockOf rows cols row col side w → row < rows → col < cols → rows * cols ≤ 16777216 → IsWithin w (rows * cols)
block_within rows cols row col side w is down across few =
    let low : w.row + w.high ≤ rows = omega (arith, is.row, is.high, down) in
    let up : (w.row + w.high) * cols ≤ rows * cols = mul-le-mul_right cols low in
    let one : rows * 1 ≤ rows * cols = mul-le-mul_left rows (omega arith) in
    record {
      rows = omega (arith, low, one, few);
      all = subst (λ n. (w.row + w.high) * n ≤ rows * cols) (sym is.across) up;
    }

pub block_area : (rows cols row col side : ℕ) (w : Window) → IsBlockOf rows cols row col side w → w.high * w.wide ≤ side * side
block_area rows cols row col side w is =
    let high : w.high ≤ side = omega (arith, is.high) in
    let wide : w.wide ≤ side = omega (arith, is.wide) in
    mul-le-mul high wide

-- ---- whole rows as one

module _ (v w : Window) (is : IsOneRowOf v w) (whole : v.wide ≡ v.cols) where
  pub one_row_places : (marks : List Bool) → window_places w marks ≡ window_places v marks
  one_row_places marks = places_at w marks ((v.row + v.high) * v.cols) 0 (v.row * v.cols) 1 (v.high * v.cols) is.cols is.row is.col is.high is.wide
      ∙ full_places marks v.cols v.row v.col v.high v.wide whole v.across

  pub one_row_values : (depth d : ℕ) (marks : List Bool) (vs : List ℤ) → window_values w depth d marks vs ≡ window_values v depth d marks vs
  one_row_values depth d marks vs = values_at w depth d marks vs ((v.row + v.high) * v.cols) 0 (v.row * v.cols) 1 (v.high * v.cols) is.cols is.row is.col is.high is.wide
      ∙ full_values depth d marks vs v.cols v.row v.col v.high v.wide whole v.across

  pub one_row_scatters : (depth d : ℕ) (marks : List Bool) (values : List ℤ) (old new : CellList) → ScattersRows depth d marks w values old new → ScattersRows depth d marks v values old new
  one_row_scatters depth d marks values old new scatters = record {
    scattered = sym (one_row_values depth d marks new.values) ∙ scatters.scattered;
    rest = full_leaves depth d marks v.cols v.row v.col v.high v.wide old.values new.values whole v.across
        (subst (λ (T : Type 0). T) (leaves_at w depth d marks old.values new.values ((v.row + v.high) * v.cols) 0 (v.row * v.cols) 1 (v.high * v.cols) is.cols is.row is.col is.high is.wide) scatters.rest);
    form = scatters.form;
  }
