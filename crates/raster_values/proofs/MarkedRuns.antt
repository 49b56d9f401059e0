-- Runs of marked pixels, one behind the other.
use Rattle.std.proofs.Common.{[], ℕ, Bool, List, take, ◌*◌, drop, ◌≡◌, refl, cond, Some, None, suc, ◌∷◌, ◌++◌, ◌+◌, ap, ◌∙◌, arith, ◌≤◌, zero, length, sym, append_assoc, ◌-◌, false, ◌<◌, ⊎_elim, length-append, true}
use Rattle.std.specs.Prelude.{ℤ, unwrap_or}
use Rattle.std.proofs.lemmas.List.{drop-drop, drop-take, take-take, drop_all, take_all, append-nil, length-take-le, get_or-take, take_at, drop_at, take-append-le, length-drop, take-append-drop}
use Rattle.std.proofs.Math.Nat.{mul-le-mul_right, add-mul}
use Rattle.std.proofs.lemmas.Bool.{cases_lt, false≢true}
use Rattle.raster_cells.specs.MarkRuns.{AreRuns}
use Rattle.raster_cells.proofs.CellRuns.{with_run}
use Rattle.raster_cells.proofs.WholeRuns.{with_run_before, with_run_after}
use Rattle.raster_cells.specs.declared.kind.PixelType.{PixelType}
use Rattle.raster_cells.specs.PixelType.{bytes_of}
use Rattle.raster_values.specs.Raster.{values_of}
use Rattle.raster_values.specs.View.{pixels_of}
use Rattle.raster_values.proofs.Pack.{next_values, two_runs, apart}
use Rattle.raster_values.specs.Ordered.{KeepsUnmarked}

-- the values of the marked ones among the first pixels
abbrev pub front_values : ℕ → ℕ → List Bool → List ℤ → List ℤ
front_values depth at marks vs = values_of (pixels_of depth (take at marks) vs)

-- those of the pixels behind them
abbrev pub back_values : ℕ → ℕ → List Bool → List ℤ → List ℤ
back_values depth at marks vs = values_of (pixels_of depth (drop at marks) (drop (at * depth) vs))

no_values : (depth : ℕ) (vs : List ℤ) → values_of (pixels_of depth [] vs) ≡ []
unfolding pixels_of
no_values depth vs = refl

pub none_before : (depth : ℕ) (marks : List Bool) (vs : List ℤ) → front_values depth 0 marks vs ≡ []
none_before depth marks vs = no_values depth vs

-- the values of one pixel
abbrev first_values : ℕ → Bool → List ℤ → List ℤ
first_values depth m vs = unwrap_or (cond m (Some (take depth vs)) None) []

next_front : (depth at : ℕ) (m : Bool) (marks : List Bool) (vs : List ℤ) → front_values depth (suc at) (m ∷ marks) vs ≡ first_values depth m vs ++ front_values depth at marks (drop depth vs)
next_front depth at m marks vs = next_values depth m (take at marks) vs

behind : (depth at : ℕ) (vs : List ℤ) → drop (at * depth) (drop depth vs) ≡ drop (suc at * depth) vs
behind depth at vs = drop-drop (at * depth) depth vs ∙ ap (λ n. drop n vs) (let e : depth + at * depth ≡ suc at * depth = omega arith in e)

-- a raster's values are those of the first pixels, and those of the others
pub values_split : (depth at : ℕ) (marks : List Bool) (vs : List ℤ) → at ≤ length marks → values_of (pixels_of depth marks vs) ≡ front_values depth at marks vs ++ back_values depth at marks vs
values_split depth zero marks vs h = ap (λ n. values_of (pixels_of depth marks (drop n vs))) (let e : 0 ≡ zero * depth = omega arith in e) ∙ ap (λ xs. xs ++ back_values depth zero marks vs) (sym (none_before depth marks vs))
values_split depth (suc at) [] vs h = absurd (let no : ⊥ = omega arith in no)
values_split depth (suc at) (m ∷ marks) vs h =
    let rest = drop depth vs in
    next_values depth m marks vs
    ∙ ap (λ xs. first_values depth m vs ++ xs) (values_split depth at marks rest (omega arith))
    ∙ sym (append_assoc (first_values depth m vs) (front_values depth at marks rest) (back_values depth at marks rest))
    ∙ ap (λ xs. xs ++ back_values depth at marks rest) (sym (next_front depth at m marks vs))
    ∙ ap (λ xs. front_values depth (suc at) (m ∷ marks) vs ++ values_of (pixels_of depth (drop at marks) xs)) (behind depth at vs)

-- they depend on the first values alone
pub front_same : (depth at : ℕ) (marks : List Bool) (vs ws : List ℤ) → take (at * depth) vs ≡ take (at * depth) ws → front_values depth at marks vs ≡ front_values depth at marks ws
front_same depth zero marks vs ws e = none_before depth marks vs ∙ sym (none_before depth marks ws)
front_same depth (suc at) [] vs ws e = no_values depth vs ∙ sym (no_values depth ws)
front_same depth (suc at) (m ∷ marks) vs ws e =
    let n : suc at * depth ≡ depth + at * depth = omega arith in
    let whole : take (depth + at * depth) vs ≡ take (depth + at * depth) ws = ap (λ k. take k vs) (sym n) ∙ e ∙ ap (λ k. take k ws) n in
    let one : take depth vs ≡ take depth ws = sym (take-take depth (depth + at * depth) vs (omega arith)) ∙ ap (take depth) whole ∙ take-take depth (depth + at * depth) ws (omega arith) in
    let others : take (at * depth) (drop depth vs) ≡ take (at * depth) (drop depth ws) = sym (drop-take depth (at * depth) vs) ∙ ap (drop depth) whole ∙ drop-take depth (at * depth) ws in
    next_front depth at m marks vs
    ∙ ap (λ xs. unwrap_or (cond m (Some xs) None) [] ++ front_values depth at marks (drop depth vs)) one
    ∙ ap (λ xs. first_values depth m ws ++ xs) (front_same depth at marks (drop depth vs) (drop depth ws) others)
    ∙ sym (next_front depth at m marks ws)

pub none_behind : (depth at : ℕ) (marks : List Bool) (vs : List ℤ) → length marks ≤ at → back_values depth at marks vs ≡ []
none_behind depth at marks vs past = ap (λ ms. values_of (pixels_of depth ms (drop (at * depth) vs))) (drop_all at marks past) ∙ no_values depth (drop (at * depth) vs)

pub all_before : (depth at : ℕ) (marks : List Bool) (vs : List ℤ) → length marks ≤ at → front_values depth at marks vs ≡ values_of (pixels_of depth marks vs)
all_before depth at marks vs past = ap (λ ms. values_of (pixels_of depth ms vs)) (take_all at marks past)

-- ---- from a place on a run of pixels that are not marked, and then one of pixels that are

pub back_more : (depth at start end : ℕ) (marks : List Bool) (vs : List ℤ) → AreRuns marks at start end
    → back_values depth at marks vs ≡ take ((end - start) * depth) (drop (start * depth) vs) ++ back_values depth end marks vs
back_more depth at start end marks vs h =
    two_runs depth at start end marks vs h.first h.second h.within h.off h.on
    ∙ ap (λ n. take n (drop (start * depth) vs) ++ back_values depth end marks vs) (sym (apart start end depth h.second))

pub front_more : (depth at start end : ℕ) (marks : List Bool) (vs : List ℤ) → AreRuns marks at start end
    → front_values depth end marks vs ≡ front_values depth at marks vs ++ take ((end - start) * depth) (drop (start * depth) vs)
front_more depth at start end marks vs h =
    let ms = take end marks in
    let long : length ms ≡ end = length-take-le end marks h.within in
    let first = h.first in
    let second = h.second in
    let runs : AreRuns ms at start end = record {
      first = first;
      second = second;
      within = omega (arith, long);
      off = λ k lo hi. get_or-take end marks k false (omega arith) ∙ h.off k lo hi;
      on = λ k lo hi. get_or-take end marks k false hi ∙ h.on k lo hi;
    } in
    values_split depth at ms vs (omega (arith, long))
    ∙ ap (λ xs. values_of (pixels_of depth xs vs) ++ back_values depth at ms vs) (take-take at end marks (omega arith))
    ∙ ap (λ xs. front_values depth at marks vs ++ xs) (back_more depth at start end ms vs runs
    ∙ ap (λ xs. take ((end - start) * depth) (drop (start * depth) vs) ++ xs) (none_behind depth end ms vs (omega (arith, long))) ∙ append-nil (take ((end - start) * depth) (drop (start * depth) vs)))

-- ---- a run put at the second of them

pub put_front : (depth at start end : ℕ) (marks : List Bool) (vs run : List ℤ) → AreRuns marks at start end → length vs ≡ length marks * depth → length run ≡ (end - start) * depth
    → front_values depth end marks (with_run vs (start * depth) run) ≡ front_values depth at marks vs ++ run
put_front depth at start end marks vs run h full long =
    let second = h.second in
    let new = with_run vs (start * depth) run in
    let whole : end * depth ≤ length marks * depth = mul-le-mul_right depth h.within in
    let cut : (end - start) * depth ≡ end * depth - start * depth = apart start end depth h.second in
    let up : start * depth ≤ end * depth = mul-le-mul_right depth h.second in
    let low : at * depth ≤ start * depth = mul-le-mul_right depth h.first in
    let front : length (take (start * depth) vs) ≡ start * depth = length-take-le (start * depth) vs (omega arith) in
    let before : take (at * depth) new ≡ take (at * depth) vs =
    take-append-le (at * depth) (take (start * depth) vs) (run ++ drop (start * depth + length run) vs) (omega arith) ∙ take-take (at * depth) (start * depth) vs low in
    let there : take ((end - start) * depth) (drop (start * depth) new) ≡ run =
    ap (take ((end - start) * depth)) (drop_at (take (start * depth) vs) (run ++ drop (start * depth + length run) vs) (start * depth) front)
    ∙ take_at run (drop (start * depth + length run) vs) ((end - start) * depth) long in
    front_more depth at start end marks new h
    ∙ ap (λ xs. xs ++ take ((end - start) * depth) (drop (start * depth) new)) (front_same depth at marks new vs before)
    ∙ ap (λ xs. front_values depth at marks vs ++ xs) there

pub put_rest : (depth at start end : ℕ) (marks : List Bool) (old vs run : List ℤ) → AreRuns marks at start end → length vs ≡ length marks * depth → length run ≡ (end - start) * depth
    → KeepsUnmarked depth marks old vs → KeepsUnmarked depth marks old (with_run vs (start * depth) run)
put_rest depth at start end marks old vs run h full long kept = record {
  rest = λ k d below off.
      let cut : (end - start) * depth ≡ end * depth - start * depth = apart start end depth h.second in
      let up : start * depth ≤ end * depth = mul-le-mul_right depth h.second in
      let whole : end * depth ≤ length marks * depth = mul-le-mul_right depth h.within in
      ⊎_elim
      (λ (lt : k < start).
      let some : suc k * depth ≤ start * depth = mul-le-mul_right depth (omega arith) in
      with_run_before vs run (start * depth) (k * depth + d) (omega arith) (omega arith))
      (λ (ge : start ≤ k).
      ⊎_elim
      (λ (in_ : k < end). absurd (false≢true (sym off ∙ h.on k ge in_)))
      (λ (past : end ≤ k).
      let some : end * depth ≤ k * depth = mul-le-mul_right depth past in
      with_run_after vs run (start * depth) (k * depth + d) (omega arith) (omega arith))
      (cases_lt k end))
      (cases_lt k start)
      ∙ kept.rest k d below off;
}

-- what is left to be filled, in bytes
pub fits_more : (kind : PixelType) (depth at start end from size : ℕ) (marks : List Bool) (vs : List ℤ) → AreRuns marks at start end → length vs ≡ length marks * depth
    → from + length (back_values depth at marks vs) * bytes_of kind ≡ size
    → from + (end - start) * depth * bytes_of kind + length (back_values depth end marks vs) * bytes_of kind ≡ size
fits_more kind depth at start end from size marks vs h full so =
    let cut : (end - start) * depth ≡ end * depth - start * depth = apart start end depth h.second in
    let up : start * depth ≤ end * depth = mul-le-mul_right depth h.second in
    let whole : end * depth ≤ length marks * depth = mul-le-mul_right depth h.within in
    let count : length (back_values depth at marks vs) ≡ (end - start) * depth + length (back_values depth end marks vs) =
    ap length (back_more depth at start end marks vs h) ∙ length-append (take ((end - start) * depth) (drop (start * depth) vs)) (back_values depth end marks vs)
    ∙ ap (λ n. n + length (back_values depth end marks vs)) (length-take-le ((end - start) * depth) (drop (start * depth) vs) (omega (arith, length-drop (start * depth) vs))) in
    omega (arith, ap (λ n. from + n * bytes_of kind) count, so, add-mul ((end - start) * depth) (length (back_values depth end marks vs)) (bytes_of kind))

-- no more values than the vector has
pub values_few : (depth : ℕ) (marks : List Bool) (vs : List ℤ) → length (values_of (pixels_of depth marks vs)) ≤ length vs
values_few depth [] vs = omega (arith, ap length (no_values depth vs))
values_few depth (m ∷ marks) vs =
    let first : length (first_values depth m vs) ≤ length (take depth vs) =
    elim m as (λ b. length (unwrap_or (cond b (Some (take depth vs)) None) []) ≤ length (take depth vs)) [ true ↦ omega arith | false ↦ omega arith ] in
    omega (
      arith,
      ap length (next_values depth m marks vs),
      length-append (first_values depth m vs) (values_of (pixels_of depth marks (drop depth vs))),
      values_few depth marks (drop depth vs),
      ap length (take-append-drop depth vs),
      length-append (take depth vs) (drop depth vs),
    )
