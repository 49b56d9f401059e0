-- Bytes are runs of a mask of a given length, or have a first fault.
use Rattle.std.proofs.Common.{◌≡◌, ◌≢◌, ℕ, ◌+◌, ◌-◌, ◌<◌, ◌≤◌, zero, suc, ℤ, pos, negsuc, unsigned_abs, List, [], ◌∷◌, ◌++◌, length, take, drop, refl, sym, ap, ◌∙◌, subst, arith, All, ◌⊎◌, inl, inr}
use Rattle.std.proofs.lemmas.Int.{ints}
use Rattle.std.proofs.lemmas.Bool.{cases_lt, cases_order}
use Rattle.std.proofs.lemmas.List.{append_assoc, append-nil, length-append, length-drop, take_at, drop_at}
use Rattle.std.proofs.lemmas.List.Elements.{All-head, All-tail, All-drop}
use Rattle.mask_runs.specs.Runs.{number_in, spelling, run_content, end_mark, AreJoinedRuns, Runs}
use Rattle.mask_runs.specs.Fault.{HasRunCount, IsWrongRun, count_cut, count_zero, run_cut, past_end, early_end, end_count, FirstRunFault, in_run, after_end}
use Rattle.mask_runs.specs.inside.Steps.{TakesRun}
use Rattle.mask_runs.proofs.Reading.{literal_first, repeat_first, end_first}
use Rattle.mask_runs.proofs.Steps.{joined_none, joined_more}

abbrev pub AreRunBytes : List ℕ → Type 0
AreRunBytes bytes = All (λ byte. byte < 256) bytes

-- runs of a mask of n bytes, or a first fault
abbrev pub RunsOrFault : List ℕ → ℕ → Type 0
RunsOrFault bytes n = ((mask : List ℕ) × (Runs bytes mask × (length mask ≡ n))) ⊎ ((place : ℕ) × FirstRunFault bytes n place)

-- whole runs stand in front of the bytes that are left
pub record RunsSoFar (bytes : List ℕ) (n : ℕ) (rest : List ℕ) : Type 0 where
  pub front : List ℕ
  pub mask : List ℕ
  pub joined : bytes ≡ front ++ rest
  pub runs : AreJoinedRuns front mask
  pub short : length mask ≤ n

-- what comes next is wrong
wrong_here : (bytes : List ℕ) (n : ℕ) (rest : List ℕ) (s : RunsSoFar bytes n rest) → IsWrongRun rest (n - length s.mask) → RunsOrFault bytes n
wrong_here bytes n rest s w =
    let back : drop (length s.front) bytes ≡ rest = ap (drop (length s.front)) s.joined ∙ drop_at s.front rest (length s.front) refl in
    let there : take (length s.front) bytes ≡ s.front = ap (take (length s.front)) s.joined ∙ take_at s.front rest (length s.front) refl in
    inr (
      length s.front,
      in_run s.mask (omega (arith, ap length s.joined, length-append s.front rest))
          (subst (λ (u : List ℕ). AreJoinedRuns u s.mask) (sym there) s.runs) s.short (subst (λ (u : List ℕ). IsWrongRun u (n - length s.mask)) (sym back) w),
    )

-- a run comes next
run_next : (bytes : List ℕ) (n : ℕ) (rest part : List ℕ) (taken filled : ℕ) (s : RunsSoFar bytes n rest) → TakesRun rest part taken filled → filled ≤ n - length s.mask → RunsSoFar bytes n (drop taken rest)
run_next bytes n rest part taken filled s t fits = record {
  front = s.front ++ spelling t.run;
  mask = s.mask ++ run_content t.run;
  joined = s.joined ∙ ap (λ (u : List ℕ). s.front ++ u) t.spelled ∙ sym (append_assoc s.front (spelling t.run) (drop taken rest));
  runs = joined_more s.front s.mask t.run s.runs t.is_run;
  short = omega (arith, length-append s.mask (run_content t.run), t.filled_is, fits, s.short);
}

-- the end mark comes next, and the mask is full
at_end : (bytes : List ℕ) (n : ℕ) (rest : List ℕ) (s : RunsSoFar bytes n (end_mark ++ rest)) → length s.mask ≡ n → RunsOrFault bytes n
at_end bytes n [] s full =
    inl (s.mask, ((s.front, (s.joined ∙ ap (λ (u : List ℕ). s.front ++ u) (append-nil end_mark), s.runs)), full))
at_end bytes n (byte ∷ rest) s full =
    let whole : bytes ≡ (s.front ++ end_mark) ++ (byte ∷ rest) = s.joined ∙ sym (append_assoc s.front end_mark (byte ∷ rest)) in
    let size : length (s.front ++ end_mark) ≡ length s.front + 2 = length-append s.front end_mark in
    let there : take (length s.front + 2) bytes ≡ s.front ++ end_mark = ap (take (length s.front + 2)) whole ∙ take_at (s.front ++ end_mark) (byte ∷ rest) (length s.front + 2) size in
    inr (length s.front + 2, after_end s.mask (omega (arith, ap length whole, length-append (s.front ++ end_mark) (byte ∷ rest), size)) (s.front, (there, s.runs)) full)

-- ---- which step comes next

pub data NextStep (bytes : List ℕ) (n : ℕ) (rest : List ℕ) : Type 0 where
  decided : RunsOrFault bytes n → NextStep bytes n rest
  goes_on : (taken : ℕ) → 0 < taken → 0 < length rest → RunsSoFar bytes n (drop taken rest) → NextStep bytes n rest

-- the numbers of two bytes
number_range : (low high : ℕ) → low < 256 → high < 256 → (m : ℕ) → number_in low high ≡ pos m → m ≤ 32767
number_range low high l h m e = grind (arith, ints)

number_low : (low high : ℕ) → low < 256 → high < 256 → (m : ℕ) → number_in low high ≡ negsuc m → m ≤ 32767
number_low low high l h m e = grind (arith, ints)

not_the_end : (m : ℕ) → m < 32767 → negsuc m ≢ end_count
not_the_end m less e = let same : suc m ≡ 32768 = ap unsigned_abs e in omega (arith, same, less)

pos_not_end : (m : ℕ) → pos m ≢ end_count
pos_not_end m e = cc

literal_next : (bytes : List ℕ) (n : ℕ) (rest : List ℕ) (m : ℕ) → AreRunBytes rest → (s : RunsSoFar bytes n rest) → HasRunCount (pos (suc m)) rest → suc m ≤ 32767 → NextStep bytes n rest
literal_next bytes n rest m are s has most = room (cases_lt (n - length s.mask) (suc m))
  where
    long : suc m ≤ n - length s.mask → (length (drop 2 rest) < suc m) ⊎ (suc m ≤ length (drop 2 rest)) → NextStep bytes n rest
    long fits (inl short) = decided (wrong_here bytes n rest s (run_cut (pos (suc m)) (pos_not_end (suc m)) has (omega (arith, short, length-drop 2 rest, has.0))))
    long fits (inr enough) = goes_on (2 + suc m) (omega arith) (omega (arith, has.0)) (run_next bytes n rest (take (suc m) (drop 2 rest)) (2 + suc m) (suc m) s (literal_first rest (pos (suc m)) (suc m) are has (omega (arith, ints)) refl (omega arith) most enough) fits)

    room : (n - length s.mask < suc m) ⊎ (suc m ≤ n - length s.mask) → NextStep bytes n rest
    room (inl past) = decided (wrong_here bytes n rest s (past_end (pos (suc m)) (pos_not_end (suc m)) has past))
    room (inr fits) = long fits (cases_lt (length (drop 2 rest)) (suc m))

repeat_next : (bytes : List ℕ) (n : ℕ) (rest : List ℕ) (m : ℕ) → AreRunBytes rest → (s : RunsSoFar bytes n rest) → HasRunCount (negsuc m) rest → m < 32767 → NextStep bytes n rest
repeat_next bytes n rest m are s has most = room (cases_lt (n - length s.mask) (suc m))
  where
    long : suc m ≤ n - length s.mask → (length (drop 2 rest) < 1) ⊎ (1 ≤ length (drop 2 rest)) → NextStep bytes n rest
    long fits (inl short) = decided (wrong_here bytes n rest s (run_cut (negsuc m) (not_the_end m most) has (omega (arith, short, length-drop 2 rest, has.0))))
    long fits (inr enough) = goes_on 3 (omega arith) (omega (arith, has.0)) (run_next bytes n rest _ 3 (suc m) s (repeat_first rest (negsuc m) (suc m) are has (omega (arith, ints)) refl (omega arith) (omega (arith, most)) (omega (arith, enough))) fits)

    room : (n - length s.mask < suc m) ⊎ (suc m ≤ n - length s.mask) → NextStep bytes n rest
    room (inl past) = decided (wrong_here bytes n rest s (past_end (negsuc m) (not_the_end m most) has past))
    room (inr fits) = long fits (cases_lt (length (drop 2 rest)) 1)

end_next : (bytes : List ℕ) (n : ℕ) (rest : List ℕ) → AreRunBytes rest → (s : RunsSoFar bytes n rest) → HasRunCount end_count rest → NextStep bytes n rest
end_next bytes n rest are s has = room (cases_lt (length s.mask) n)
  where
    room : (length s.mask < n) ⊎ (n ≤ length s.mask) → NextStep bytes n rest
    room (inl more) = decided (wrong_here bytes n rest s (early_end has (omega (arith, more))))
    room (inr full) =
        let same : rest ≡ end_mark ++ drop 2 rest = end_first rest are has in
        let t : RunsSoFar bytes n (end_mark ++ drop 2 rest) = record { front = s.front; mask = s.mask; joined = s.joined ∙ ap (λ (u : List ℕ). s.front ++ u) same; runs = s.runs; short = s.short } in
        decided (at_end bytes n (drop 2 rest) t (omega (arith, full, s.short)))

count_next : (bytes : List ℕ) (n : ℕ) (rest : List ℕ) (count : ℤ) → AreRunBytes rest → (s : RunsSoFar bytes n rest) → HasRunCount count rest
    → ((m : ℕ) → count ≡ pos m → m ≤ 32767) → ((m : ℕ) → count ≡ negsuc m → m ≤ 32767) → NextStep bytes n rest
count_next bytes n rest (pos zero) are s has up down = decided (wrong_here bytes n rest s (count_zero has))
count_next bytes n rest (pos (suc m)) are s has up down = literal_next bytes n rest m are s has (up (suc m) refl)
count_next bytes n rest (negsuc m) are s has up down = which (cases_order m 32767)
  where
    which : (m ≡ 32767) ⊎ ((m < 32767) ⊎ (32767 < m)) → NextStep bytes n rest
    which (inl e) = end_next bytes n rest are s (subst (λ (k : ℕ). HasRunCount (negsuc k) rest) e has)
    which (inr (inl less)) = repeat_next bytes n rest m are s has less
    which (inr (inr more)) = absurd (omega (arith, more, down m refl))

next_step : (bytes : List ℕ) (n : ℕ) (rest : List ℕ) → AreRunBytes rest → RunsSoFar bytes n rest → NextStep bytes n rest
next_step bytes n [] are s = decided (wrong_here bytes n [] s (count_cut (omega arith)))
next_step bytes n (low ∷ []) are s = decided (wrong_here bytes n (low ∷ []) s (count_cut (omega arith)))
next_step bytes n (low ∷ high ∷ rest) are s =
    let low_below = All-head (λ byte. byte < 256) low (high ∷ rest) are in
    let high_below = All-head (λ byte. byte < 256) high rest (All-tail (λ byte. byte < 256) low (high ∷ rest) are) in
    count_next bytes n (low ∷ high ∷ rest) (number_in low high) are s (omega arith, refl)
    (number_range low high low_below high_below) (number_low low high low_below high_below)

decided_from : (fuel : ℕ) (bytes : List ℕ) (n : ℕ) (rest : List ℕ) → length rest ≤ fuel → AreRunBytes rest → RunsSoFar bytes n rest → RunsOrFault bytes n
decided_from fuel bytes n rest short are s = go fuel bytes n rest short are (next_step bytes n rest are s)
  where
    go : (fuel : ℕ) (bytes : List ℕ) (n : ℕ) (rest : List ℕ) → length rest ≤ fuel → AreRunBytes rest → NextStep bytes n rest → RunsOrFault bytes n
    go fuel bytes n rest short are (decided d) = d
    go zero bytes n rest short are (goes_on taken some there more) = absurd (omega (arith, there, short))
    go (suc fuel) bytes n rest short are (goes_on taken some there more) =
        go fuel bytes n (drop taken rest) (omega (arith, short, some, there, length-drop taken rest)) (All-drop (λ byte. byte < 256) taken rest are)
        (next_step bytes n (drop taken rest) (All-drop (λ byte. byte < 256) taken rest are) more)

pub runs_decided : (bytes : List ℕ) (n : ℕ) → AreRunBytes bytes → RunsOrFault bytes n
runs_decided bytes n are =
    decided_from (length bytes) bytes n bytes (omega arith) are (record { front = []; mask = []; joined = refl; runs = joined_none; short = omega arith })
