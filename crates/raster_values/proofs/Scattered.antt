-- The loops that take the bytes of marked pixels' values, or give them, run by run.
use Rattle.std.proofs.Common.{[], ◌≡◌, ℕ, ◌*◌, Bool, List, drop, ap, arith, ◌+◌, ◌-◌, ◌≤◌, length, ◌<◌, get_or, take, ◌∙◌, ⊎_elim, refl, sym, subst, ◌++◌}
use Rattle.std.specs.Prelude.{ℤ}
use Rattle.std.proofs.Math.Nat.{mul-le-mul_right}
use Rattle.std.proofs.lemmas.List.{length-take, get_or-take, get_or-drop, get_or_past, length-append, length-take-le, length-drop, take_all}
use Rattle.std.proofs.lemmas.Bool.{cases_lt}
use Rattle.std.proofs.lemmas.Grind.{flat_map-append}
use Rattle.std.proofs.Math.Seq.{take-add}
use Rattle.std.proofs.lemmas.Slice.{take-put_mid}
use borrow.Rule.Slice.PartMut.{put_mid}
use Rattle.raster_cells.specs.MarkRuns.{AreRuns}
use Rattle.raster_cells.proofs.Spelled.{AreBytes, bytes_put, put_as_run, length-bytes_put, bytes_put_in_range, bytes_of_values}
use Rattle.raster_cells.specs.declared.kind.PixelType.{PixelType}
use Rattle.raster_cells.specs.CellList.{values_in}
use Rattle.raster_cells.proofs.CellRuns.{length-values_in}
use Rattle.raster_cells.specs.PixelType.{bytes_of, value_bytes}
use Rattle.raster_cells.specs.Values.{values_bytes}
use Rattle.raster_cells.proofs.Pack.{length-values_bytes}
use Rattle.raster_values.specs.Raster.{values_of}
use Rattle.raster_values.specs.View.{pixels_of}
use Rattle.raster_values.proofs.MarkedRuns.{back_values, put_rest, front_values, none_before, fits_more, put_front, all_before, none_behind, front_more}
use Rattle.raster_values.proofs.Pack.{apart}
use Rattle.raster_values.specs.Ordered.{ChangesMarked, KeepsUnmarked}

-- all of the values stand behind the first 0
pub back_all : (depth : ℕ) (marks : List Bool) (vs : List ℤ) → back_values depth 0 marks vs ≡ values_of (pixels_of depth marks vs)
back_all depth marks vs = ap (λ n. values_of (pixels_of depth marks (drop n vs))) (let e : 0 * depth ≡ 0 = omega arith in e)

-- a run of pixels lies within the vector
pub run_within : {at start end size : ℕ} {marks : List Bool} (depth : ℕ) → AreRuns marks at start end → size ≡ length marks * depth → start * depth + (end - start) * depth ≤ size
run_within {start} {end} {size} {marks} depth h full =
    let cut : (end - start) * depth ≡ end * depth - start * depth = apart start end depth h.second in
    let up : start * depth ≤ end * depth = mul-le-mul_right depth h.second in
    let whole : end * depth ≤ length marks * depth = mul-le-mul_right depth h.within in
    omega arith

pub piece_are : (n k : ℕ) (bytes : List ℕ) → AreBytes bytes → AreBytes (take n (drop k bytes))
piece_are n k bytes are i =
    ⊎_elim
    (λ (lt : i < n). let same : get_or (take n (drop k bytes)) i 0 ≡ get_or bytes (k + i) 0 = get_or-take n (drop k bytes) i 0 lt ∙ get_or-drop k bytes i 0 in omega (arith, are (k + i)))
    (λ (ge : n ≤ i). let none : get_or (take n (drop k bytes)) i 0 ≡ 0 = get_or_past (take n (drop k bytes)) i 0 (omega (arith, length-take n (drop k bytes))) in omega arith)
    (cases_lt i n)

-- ---- runs put one behind the other

pub kept_itself : (kind : PixelType) (depth : ℕ) (marks : List Bool) (old : List ℤ) → ChangesMarked kind depth marks old old
kept_itself kind depth marks old = record { size = refl; in_range = λ h. h; rest = record { rest = λ k d below off. refl } }

pub kept_run : (kind : PixelType) (depth at start end : ℕ) (marks : List Bool) (old vs : List ℤ) (run : List ℕ) → length old ≡ length marks * depth → AreRuns marks at start end → AreBytes run
    → ChangesMarked kind depth marks old vs → ChangesMarked kind depth marks old (bytes_put kind vs (start * depth) ((end - start) * depth) run)
kept_run kind depth at start end marks old vs run full runs are h =
    let count = (end - start) * depth in
    let full_now : length vs ≡ length marks * depth = h.size ∙ full in
    let in_ : start * depth + count ≤ length vs = run_within depth runs full_now in
    record {
      size = length-bytes_put kind vs (start * depth) count run in_ ∙ h.size;
      in_range = λ before. bytes_put_in_range kind vs (start * depth) count run (h.in_range before) are;
      rest = subst (KeepsUnmarked depth marks old) (sym (put_as_run kind vs (start * depth) count run)) (put_rest depth at start end marks old vs (values_in kind count run) runs full_now (length-values_in kind count run) h.rest);
    }

-- the first runs have the values that were read
pub record Fills (kind : PixelType) (depth : ℕ) (marks : List Bool) (size : ℕ) (read : List ℕ) (old vs : List ℤ) (at : ℕ) : Type 0 where
  pub within : at ≤ length marks
  pub kept : ChangesMarked kind depth marks old vs
  pub fits : length read + length (back_values depth at marks old) * bytes_of kind ≡ size
  pub front : values_bytes kind (front_values depth at marks vs) ≡ read

pub fills_start : (kind : PixelType) (depth : ℕ) (marks : List Bool) (old : List ℤ) → Fills kind depth marks (length (values_of (pixels_of depth marks old)) * bytes_of kind) [] old old 0
fills_start kind depth marks old = record {
  within = omega arith;
  kept = kept_itself kind depth marks old;
  fits = let e : length (back_values depth 0 marks old) * bytes_of kind ≡ length (values_of (pixels_of depth marks old)) * bytes_of kind = ap (λ vs. length vs * bytes_of kind) (back_all depth marks old) in omega arith;
  front = ap (values_bytes kind) (none_before depth marks old);
}

pub fills_next : (kind : PixelType) (depth : ℕ) (marks : List Bool) (size : ℕ) (read : List ℕ) (old vs : List ℤ) (at start end : ℕ) (run : List ℕ) → length old ≡ length marks * depth → AreRuns marks at start end → AreBytes run
    → length run ≡ (end - start) * depth * bytes_of kind → Fills kind depth marks size read old vs at
    → Fills kind depth marks size (read ++ run) old (bytes_put kind vs (start * depth) ((end - start) * depth) run) end
fills_next kind depth marks size read old vs at start end run full runs are long h =
    let count = (end - start) * depth in
    let full_now : length vs ≡ length marks * depth = h.kept.size ∙ full in
    record {
      within = runs.within;
      kept = kept_run kind depth at start end marks old vs run full runs are h.kept;
      fits = ap (λ n. n + length (back_values depth end marks old) * bytes_of kind) (length-append read run ∙ ap (λ n. length read + n) long) ∙ fits_more kind depth at start end (length read) size marks old runs full h.fits;
      front = ap (λ ws. values_bytes kind (front_values depth end marks ws)) (put_as_run kind vs (start * depth) count run)
          ∙ ap (values_bytes kind) (put_front depth at start end marks vs (values_in kind count run) runs full_now (length-values_in kind count run))
          ∙ flat_map-append (value_bytes kind) (front_values depth at marks vs) (values_in kind count run)
          ∙ ap (λ xs. xs ++ values_bytes kind (values_in kind count run)) h.front
          ∙ ap (λ xs. read ++ xs) (bytes_of_values kind count run are long);
    }

pub filled_all : (kind : PixelType) (depth : ℕ) (marks : List Bool) (size : ℕ) (read : List ℕ) (old vs : List ℤ) (at : ℕ) → length marks ≤ at → Fills kind depth marks size read old vs at
    → values_bytes kind (values_of (pixels_of depth marks vs)) ≡ read
filled_all kind depth marks size read old vs at past h = ap (values_bytes kind) (sym (all_before depth at marks vs past)) ∙ h.front

pub filled_size : (kind : PixelType) (depth : ℕ) (marks : List Bool) (size : ℕ) (read : List ℕ) (old vs : List ℤ) (at : ℕ) → length marks ≤ at → Fills kind depth marks size read old vs at → length read ≡ size
filled_size kind depth marks size read old vs at past h =
    let none : length (back_values depth at marks old) ≡ 0 = ap length (none_behind depth at marks old past) in
    omega (arith, h.fits, ap (λ n. n * bytes_of kind) none)

-- ---- bytes scattered

-- the first `from` of the bytes are the values of the first runs
pub record Scatters (kind : PixelType) (depth : ℕ) (marks : List Bool) (bytes : List ℕ) (old vs : List ℤ) (at from : ℕ) : Type 0 where
  pub there : from ≤ length bytes
  pub fills : Fills kind depth marks (length bytes) (take from bytes) old vs at

pub scatters_none : (kind : PixelType) (depth : ℕ) (marks : List Bool) (bytes : List ℕ) (old : List ℤ) → length bytes ≡ length (values_of (pixels_of depth marks old)) * bytes_of kind → Scatters kind depth marks bytes old old 0 0
scatters_none kind depth marks bytes old size = record {
  there = omega arith;
  fills = subst (λ n. Fills kind depth marks n [] old old 0) (sym size) (fills_start kind depth marks old);
}

scatters_fit : (kind : PixelType) (depth : ℕ) (marks : List Bool) (bytes : List ℕ) (old vs : List ℤ) (at from start end : ℕ) → length old ≡ length marks * depth → AreRuns marks at start end
    → Scatters kind depth marks bytes old vs at from → from + (end - start) * depth * bytes_of kind ≤ length bytes
scatters_fit kind depth marks bytes old vs at from start end full runs h =
    omega (arith, fits_more kind depth at start end (length (take from bytes)) (length bytes) marks old runs full h.fills.fits, length-take-le from bytes h.there)

-- the bytes of the next run are there
pub scatters_within : {kind : PixelType} {depth at from start end s : ℕ} {marks : List Bool} {bytes : List ℕ} {old vs : List ℤ} → AreRuns marks at start end → Scatters kind depth marks bytes old vs at from
    → length old ≡ length marks * depth → s ≡ bytes_of kind → from + (end - start) * depth * s ≤ length bytes
scatters_within {kind} {depth} {at} {from} {start} {end} {marks} {bytes} {old} {vs} runs h full is =
    omega (arith, scatters_fit kind depth marks bytes old vs at from start end full runs h, ap (λ n. (end - start) * depth * n) is)

pub scatters_more : {kind : PixelType} {depth at from start end next : ℕ} {marks : List Bool} {bytes : List ℕ} {old vs new : List ℤ} → AreRuns marks at start end → Scatters kind depth marks bytes old vs at from
    → length old ≡ length marks * depth → AreBytes bytes → next ≡ from + (end - start) * depth * bytes_of kind
    → new ≡ bytes_put kind vs (start * depth) ((end - start) * depth) (take (next - from) (drop from bytes))
    → Scatters kind depth marks bytes old new end next
scatters_more {kind} {depth} {at} {from} {start} {end} {next} {marks} {bytes} {old} {vs} {new} runs h full are is put =
    let piece = take (next - from) (drop from bytes) in
    let room = scatters_fit kind depth marks bytes old vs at from start end full runs h in
    let long : length piece ≡ (end - start) * depth * bytes_of kind = length-take-le (next - from) (drop from bytes) (omega (arith, length-drop from bytes)) ∙ omega arith in
    let joined : take from bytes ++ piece ≡ take next bytes = sym (take-add from (next - from) bytes) ∙ ap (λ n. take n bytes) (omega arith) in
    let filled = fills_next kind depth marks (length bytes) (take from bytes) old vs at start end piece full runs (piece_are (next - from) from bytes are) long h.fills in
    record {
      there = omega arith;
      fills = subst (λ ws. Fills kind depth marks (length bytes) (take next bytes) old ws end) (sym put)
          (subst (λ xs. Fills kind depth marks (length bytes) xs old (bytes_put kind vs (start * depth) ((end - start) * depth) piece) end) joined filled);
    }

pub scattered_all : {kind : PixelType} {depth at from : ℕ} {marks : List Bool} {bytes : List ℕ} {old vs : List ℤ} → length marks ≤ at → Scatters kind depth marks bytes old vs at from
    → values_bytes kind (values_of (pixels_of depth marks vs)) ≡ bytes
scattered_all {kind} {depth} {at} {from} {marks} {bytes} {old} {vs} past h =
    let none : length (back_values depth at marks old) ≡ 0 = ap length (none_behind depth at marks old past) in
    let end : from ≡ length bytes = omega (arith, h.fills.fits, length-take-le from bytes h.there, ap (λ n. n * bytes_of kind) none) in
    filled_all kind depth marks (length bytes) (take from bytes) old vs at past h.fills ∙ take_all from bytes (omega arith)

-- ---- bytes given

pub record Writes (kind : PixelType) (depth : ℕ) (marks : List Bool) (vs : List ℤ) (size : ℕ) (out : List ℕ) (at from : ℕ) : Type 0 where
  pub within : at ≤ length marks
  pub fits : from + length (back_values depth at marks vs) * bytes_of kind ≡ size
  pub front : take from out ≡ values_bytes kind (front_values depth at marks vs)

pub writes_none : (kind : PixelType) (depth : ℕ) (marks : List Bool) (vs : List ℤ) (size : ℕ) (out : List ℕ) → size ≡ length (values_of (pixels_of depth marks vs)) * bytes_of kind → Writes kind depth marks vs size out 0 0
writes_none kind depth marks vs size out room = record {
  within = omega arith;
  fits = let e : length (back_values depth 0 marks vs) * bytes_of kind ≡ size = ap (λ ws. length ws * bytes_of kind) (back_all depth marks vs) ∙ sym room in omega arith;
  front = sym (ap (values_bytes kind) (none_before depth marks vs));
}

-- there is room for the bytes of the next run
pub writes_within : {kind : PixelType} {depth size at from start end s : ℕ} {marks : List Bool} {vs : List ℤ} {out : List ℕ} → AreRuns marks at start end → Writes kind depth marks vs size out at from
    → length vs ≡ length marks * depth → s ≡ bytes_of kind → from + (end - start) * depth * s ≤ size
writes_within {kind} {depth} {size} {at} {from} {start} {end} {marks} {vs} runs h full is =
    omega (arith, fits_more kind depth at start end from size marks vs runs full h.fits, ap (λ n. (end - start) * depth * n) is)

pub run_bytes : {at start end : ℕ} {marks : List Bool} (kind : PixelType) (depth : ℕ) (vs : List ℤ) → AreRuns marks at start end → length vs ≡ length marks * depth
    → length (values_bytes kind (take ((end - start) * depth) (drop (start * depth) vs))) ≡ (end - start) * depth * bytes_of kind
run_bytes {start} {end} kind depth vs runs full =
    let count = (end - start) * depth in
    let run = take count (drop (start * depth) vs) in
    let in_ : start * depth + count ≤ length vs = run_within depth runs full in
    length-values_bytes kind run ∙ ap (λ n. n * bytes_of kind) (length-take-le count (drop (start * depth) vs) (omega (arith, length-drop (start * depth) vs)))

pub writes_more : {kind : PixelType} {depth size at from start end next : ℕ} {marks : List Bool} {vs : List ℤ} {out piece : List ℕ} → AreRuns marks at start end → Writes kind depth marks vs size out at from
    → length vs ≡ length marks * depth → length out ≡ size → next ≡ from + (end - start) * depth * bytes_of kind
    → piece ≡ values_bytes kind (take ((end - start) * depth) (drop (start * depth) vs)) → Writes kind depth marks vs size (put_mid from (next - from) out piece) end next
writes_more {kind} {depth} {size} {at} {from} {start} {end} {next} {marks} {vs} {out} {piece} runs h full all is laid =
    let count = (end - start) * depth in
    let s = bytes_of kind in
    let room : from + count * s ≤ size = writes_within runs h full refl in
    let run = take count (drop (start * depth) vs) in
    let long : length piece ≡ count * s = ap length laid ∙ run_bytes kind depth vs runs full in
    record {
      within = runs.within;
      fits = ap (λ n. n + length (back_values depth end marks vs) * s) is ∙ fits_more kind depth at start end from size marks vs runs full h.fits;
      front = take-put_mid from (next - from) out piece next (omega arith) (omega arith)
          ∙ ap (λ xs. xs ++ piece) h.front ∙ ap (λ xs. values_bytes kind (front_values depth at marks vs) ++ xs) laid
          ∙ sym (flat_map-append (value_bytes kind) (front_values depth at marks vs) run)
          ∙ ap (values_bytes kind) (sym (front_more depth at start end marks vs runs));
    }

pub written_all : {kind : PixelType} {depth size at from : ℕ} {marks : List Bool} {vs : List ℤ} {out : List ℕ} → length marks ≤ at → length out ≡ size → Writes kind depth marks vs size out at from
    → out ≡ values_bytes kind (values_of (pixels_of depth marks vs))
written_all {kind} {depth} {size} {at} {from} {marks} {vs} {out} past all h =
    let none : length (back_values depth at marks vs) ≡ 0 = ap length (none_behind depth at marks vs past) in
    let end : from ≡ size = omega (arith, h.fits, ap (λ n. n * bytes_of kind) none) in
    sym (take_all from out (omega arith)) ∙ h.front ∙ ap (values_bytes kind) (all_before depth at marks vs past)

-- a piece is as long as it says
pub piece_long : {X : Type 0} (from m : ℕ) (xs : List X) → from + m ≤ length xs → length (take (from + m - from) (drop from xs)) ≡ m
piece_long from m xs within =
    length-take-le (from + m - from) (drop from xs) (omega (arith, length-drop from xs, within)) ∙ (let e : from + m - from ≡ m = omega arith in e)
