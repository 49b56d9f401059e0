-- Runs of which every pixel is marked.
use Rattle.std.proofs.Common.{◌≡◌, ℕ, ◌+◌, ◌-◌, ◌<◌, ◌≤◌, List, ◌++◌, length, get_or, take, drop, ap, ◌∙◌, arith, refl, sym, append_assoc}
use Rattle.std.specs.Prelude.{ℤ, pos}
use Rattle.std.proofs.lemmas.List.{length-take-le, get_or_append_left, get_or-append_right, get_or-take, get_or-drop, take-append-drop}
use Rattle.std.proofs.lemmas.Slice.{take-put_mid, drop-put_mid}
use borrow.Rule.Slice.PartMut.{put_mid}
use Rattle.raster_cells.proofs.CellRuns.{with_run}

pub with_run_at : (vs run : List ℤ) (at k : ℕ) → at + length run ≤ length vs → k < length run → get_or (with_run vs at run) (at + k) (pos 0) ≡ get_or run k (pos 0)
with_run_at vs run at k within below =
    get_or-append_right (take at vs) (run ++ drop (at + length run) vs) at (at + k) (pos 0) (length-take-le at vs (omega arith)) (omega arith)
    ∙ ap (λ n. get_or (run ++ drop (at + length run) vs) n (pos 0)) (let e : at + k - at ≡ k = omega arith in e)
    ∙ get_or_append_left run (drop (at + length run) vs) (pos 0) k below

pub with_run_before : (vs run : List ℤ) (at k : ℕ) → at + length run ≤ length vs → k < at → get_or (with_run vs at run) k (pos 0) ≡ get_or vs k (pos 0)
with_run_before vs run at k within below =
    get_or_append_left (take at vs) (run ++ drop (at + length run) vs) (pos 0) k (omega (arith, length-take-le at vs (omega arith))) ∙ get_or-take at vs k (pos 0) below

pub with_run_after : (vs run : List ℤ) (at k : ℕ) → at + length run ≤ length vs → at + length run ≤ k → get_or (with_run vs at run) k (pos 0) ≡ get_or vs k (pos 0)
with_run_after vs run at k within past =
    get_or-append_right (take at vs) (run ++ drop (at + length run) vs) at k (pos 0) (length-take-le at vs (omega arith)) (omega arith)
    ∙ get_or-append_right run (drop (at + length run) vs) (length run) (k - at) (pos 0) refl (omega arith)
    ∙ get_or-drop (at + length run) vs (k - at - length run) (pos 0)
    ∙ ap (λ n. get_or vs n (pos 0)) (let e : at + length run + (k - at - length run) ≡ k = omega arith in e)

-- a vector's bytes with some of them replaced
pub put_whole : {X : Type 0} (a e : ℕ) (xs ys : List X) → a ≤ e → e ≤ length xs → length ys ≡ e - a → put_mid a (e - a) xs ys ≡ take a xs ++ (ys ++ drop e xs)
put_whole a e xs ys order within long =
    let n : a + length ys ≡ e = omega arith in
    sym (take-append-drop (a + length ys) (put_mid a (e - a) xs ys))
    ∙ ap (λ zs. zs ++ drop (a + length ys) (put_mid a (e - a) xs ys)) (take-put_mid a (e - a) xs ys (a + length ys) refl (omega arith))
    ∙ ap (λ zs. (take a xs ++ ys) ++ zs) (drop-put_mid a (e - a) xs ys (a + length ys) (omega arith) (omega arith) long)
    ∙ ap (λ m. (take a xs ++ ys) ++ drop m xs) n ∙ append_assoc (take a xs) ys (drop e xs)
