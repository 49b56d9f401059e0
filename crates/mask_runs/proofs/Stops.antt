-- Where whole runs stop: bytes stop in one way at most, as runs of a mask or at a first fault.
use Rattle.std.proofs.Common.{◌≡◌, ℕ, ◌+◌, ◌-◌, ◌≤◌, List, [], ◌∷◌, ◌++◌, length, take, drop, flat_map, refl, sym, ap, ◌∙◌, arith, All}
use Rattle.std.proofs.lemmas.List.{append_assoc, length-append, length-drop, length-take-le, take-append-drop}
use Rattle.std.proofs.lemmas.List.Elements.{All-head, All-tail}
use Rattle.mask_runs.specs.Runs.{MaskRun, IsRun, spelling, run_content, end_mark, AreJoinedRuns, Runs}
use Rattle.mask_runs.specs.Fault.{IsWrongRun, FirstRunFault, in_run, after_end}
use Rattle.mask_runs.proofs.Pieces.{same_run, run_not_faulty, run_not_end, end_not_faulty}

-- no run comes first that fits in a mask of n bytes, k of which are there
abbrev pub NoRun : ℕ → ℕ → List ℕ → Type 0
NoRun n k bytes = (run : MaskRun) (rest : List ℕ) → IsRun run → bytes ≡ spelling run ++ rest → k + length (run_content run) ≤ n → ⊥

same_runs : (rs ss : List MaskRun) (n before k l : ℕ) (x y : List ℕ) → k ≡ before + length (flat_map run_content rs) → l ≡ before + length (flat_map run_content ss) → k ≤ n → l ≤ n
    → All IsRun rs → All IsRun ss → NoRun n k x → NoRun n l y → flat_map spelling rs ++ x ≡ flat_map spelling ss ++ y → (rs ≡ ss) × (x ≡ y)
same_runs [] [] n before k l x y k_is l_is k_le l_le each_r each_s no_x no_y e = (refl, e)
same_runs [] (s ∷ ss) n before k l x y k_is l_is k_le l_le each_r each_s no_x no_y e =
    absurd (no_x s (flat_map spelling ss ++ y) (All-head IsRun s ss each_s) (e ∙ append_assoc (spelling s) (flat_map spelling ss) y) (omega (arith, length-append (run_content s) (flat_map run_content ss))))
same_runs (r ∷ rs) [] n before k l x y k_is l_is k_le l_le each_r each_s no_x no_y e =
    absurd (no_y r (flat_map spelling rs ++ x) (All-head IsRun r rs each_r) (sym e ∙ append_assoc (spelling r) (flat_map spelling rs) x) (omega (arith, length-append (run_content r) (flat_map run_content rs))))
same_runs (r ∷ rs) (s ∷ ss) n before k l x y k_is l_is k_le l_le each_r each_s no_x no_y e =
    let first = same_run r s (flat_map spelling rs ++ x) (flat_map spelling ss ++ y) (All-head IsRun r rs each_r) (All-head IsRun s ss each_s)
    (sym (append_assoc (spelling r) (flat_map spelling rs) x) ∙ e ∙ append_assoc (spelling s) (flat_map spelling ss) y) in
    let size : length (run_content r) ≡ length (run_content s) = ap (λ (run : MaskRun). length (run_content run)) first.0 in
    let rest = same_runs rs ss n (before + length (run_content r)) k l x y (omega (arith, length-append (run_content r) (flat_map run_content rs))) (omega (arith, length-append (run_content s) (flat_map run_content ss)))
    k_le l_le (All-tail IsRun r rs each_r) (All-tail IsRun s ss each_s) no_x no_y first.1 in
    (ap (λ run. run ∷ rs) first.0 ∙ ap (λ runs. s ∷ runs) rest.0, rest.1)

-- The bytes begin with whole runs that fit in a mask of n bytes, and with no more of them.
pub record Stop (bytes : List ℕ) (n : ℕ) : Type 0 where
  pub runs : List MaskRun
  pub back : List ℕ
  pub each : All IsRun runs
  pub split : bytes ≡ flat_map spelling runs ++ back
  pub short : length (flat_map run_content runs) ≤ n
  pub stops : NoRun n (length (flat_map run_content runs)) back

pub same_stop : (bytes : List ℕ) (n : ℕ) (s t : Stop bytes n) → (s.runs ≡ t.runs) × (s.back ≡ t.back)
same_stop bytes n s t =
    same_runs s.runs t.runs n 0 (length (flat_map run_content s.runs)) (length (flat_map run_content t.runs)) s.back t.back (omega arith) (omega arith) s.short t.short s.each t.each s.stops t.stops (sym s.split ∙ t.split)

-- runs of a mask stop before the end mark
abbrev runs_stop : (bytes joined mask rest : List ℕ) (n : ℕ) → length mask ≤ n → bytes ≡ joined ++ (end_mark ++ rest) → AreJoinedRuns joined mask → Stop bytes n
runs_stop bytes joined mask rest n short e j = record {
  runs = j.runs;
  back = end_mark ++ rest;
  each = j.each;
  split = e ∙ ap (λ xs. xs ++ (end_mark ++ rest)) j.spelled;
  short = omega (arith, ap length j.contents);
  stops = λ run others is spelled fits. run_not_end run others rest (end_mark ++ rest) is spelled refl;
}

-- runs stop at a fault
abbrev fault_stop : (bytes mask : List ℕ) (n place : ℕ) → AreJoinedRuns (take place bytes) mask → length mask ≤ n → IsWrongRun (drop place bytes) (n - length mask) → Stop bytes n
fault_stop bytes mask n place j short faulty =
    let size : length mask ≡ length (flat_map run_content j.runs) = ap length j.contents in
    record {
      runs = j.runs;
      back = drop place bytes;
      each = j.each;
      split = sym (take-append-drop place bytes) ∙ ap (λ xs. xs ++ drop place bytes) j.spelled;
      short = omega arith;
      stops = λ run rest is spelled fits. run_not_faulty run rest (drop place bytes) (n - length mask) is spelled (omega arith) faulty;
    }

-- bytes that end with an end mark, and have more bytes after it
end_in_front : (bytes joined : List ℕ) (place : ℕ) → take place bytes ≡ joined ++ end_mark → bytes ≡ joined ++ (end_mark ++ drop place bytes)
end_in_front bytes joined place e = sym (take-append-drop place bytes) ∙ ap (λ xs. xs ++ drop place bytes) e ∙ append_assoc joined end_mark (drop place bytes)

-- bytes are runs of at most one mask
pub one_mask : (bytes mask other : List ℕ) → Runs bytes mask → Runs bytes other → mask ≡ other
one_mask bytes mask other (joined, (e, j)) (joined', (e', j')) =
    let n = length mask + length other in
    let s = runs_stop bytes joined mask [] n (omega arith) e j in
    let t = runs_stop bytes joined' other [] n (omega arith) e' j' in
    j.contents ∙ ap (flat_map run_content) (same_stop bytes n s t).0 ∙ sym j'.contents

-- the place of a fault is as far as the runs before it are long
length_before : (bytes mask : List ℕ) (place : ℕ) (j : AreJoinedRuns (take place bytes) mask) → place ≤ length bytes → place ≡ length (flat_map spelling j.runs)
length_before bytes mask place j within = sym (length-take-le place bytes within) ∙ ap length j.spelled

length_before_end : (bytes joined mask : List ℕ) (place : ℕ) (j : AreJoinedRuns joined mask) → place ≤ length bytes → take place bytes ≡ joined ++ end_mark → place ≡ length (flat_map spelling j.runs) + 2
length_before_end bytes joined mask place j within e =
    sym (length-take-le place bytes within) ∙ ap length e ∙ length-append joined end_mark ∙ ap (λ (xs : List ℕ). length xs + 2) j.spelled

-- the end mark of a full mask is no fault
full_not_faulty : (bytes joined mask other rest : List ℕ) (n place : ℕ) → bytes ≡ joined ++ (end_mark ++ rest) → AreJoinedRuns joined mask → length mask ≡ n
    → AreJoinedRuns (take place bytes) other → length other ≤ n → IsWrongRun (drop place bytes) (n - length other) → ⊥
full_not_faulty bytes joined mask other rest n place e j full j' short faulty =
    let s = runs_stop bytes joined mask rest n (omega arith) e j in
    let t = fault_stop bytes other n place j' short faulty in
    let same = same_stop bytes n s t in
    let size : length mask ≡ length other = ap length (j.contents ∙ ap (flat_map run_content) same.0 ∙ sym j'.contents) in
    end_not_faulty (drop place bytes) rest (n - length other) (sym same.1) (omega arith) faulty

-- bytes that are runs of such a mask have no fault
pub runs_or_fault : (bytes mask : List ℕ) (n place : ℕ) → Runs bytes mask → length mask ≡ n → FirstRunFault bytes n place → ⊥
runs_or_fault bytes mask n place (joined, (e, j)) full (in_run other within j' short faulty) =
    full_not_faulty bytes joined mask other [] n place e j full j' short faulty
runs_or_fault bytes mask n place (joined, (e, j)) full (after_end other within (joined', (e', j')) full') =
    let s = runs_stop bytes joined mask [] n (omega arith) e j in
    let t = runs_stop bytes joined' other (drop place bytes) n (omega arith) (end_in_front bytes joined' place e') j' in
    let long : length end_mark ≡ length (end_mark ++ drop place bytes) = ap length (same_stop bytes n s t).1 in
    omega (arith, length-append end_mark (drop place bytes), length-drop place bytes)

-- bytes have one first fault
pub one_fault : (bytes : List ℕ) (n p q : ℕ) → FirstRunFault bytes n p → FirstRunFault bytes n q → p ≡ q
one_fault bytes n p q (in_run mask within j short faulty) (in_run other within' j' short' faulty') =
    let s = fault_stop bytes mask n p j short faulty in
    let t = fault_stop bytes other n q j' short' faulty' in
    length_before bytes mask p j within ∙ ap (λ runs. length (flat_map spelling runs)) (same_stop bytes n s t).0 ∙ sym (length_before bytes other q j' within')
one_fault bytes n p q (in_run mask within j short faulty) (after_end other within' (joined, (e, j')) full) =
    absurd (full_not_faulty bytes joined other mask (drop q bytes) n p (end_in_front bytes joined q e) j' full j short faulty)
one_fault bytes n p q (after_end mask within (joined, (e, j)) full) (in_run other within' j' short faulty) =
    absurd (full_not_faulty bytes joined mask other (drop p bytes) n q (end_in_front bytes joined p e) j full j' short faulty)
one_fault bytes n p q (after_end mask within (joined, (e, j)) full) (after_end other within' (joined', (e', j')) full') =
    let s = runs_stop bytes joined mask (drop p bytes) n (omega arith) (end_in_front bytes joined p e) j in
    let t = runs_stop bytes joined' other (drop q bytes) n (omega arith) (end_in_front bytes joined' q e') j' in
    length_before_end bytes joined mask p j (omega arith) e ∙ ap (λ runs. length (flat_map spelling runs) + 2) (same_stop bytes n s t).0
    ∙ sym (length_before_end bytes joined' other q j' (omega arith) e')
