-- What a step of the reader makes of the runs that stand so far.
use Rattle.std.proofs.Common.{◌≡◌, ℕ, ◌+◌, ◌-◌, ◌≤◌, List, [], ◌∷◌, ◌++◌, length, take, drop, flat_map, refl, sym, ap, ◌∙◌, subst, arith}
use Rattle.std.proofs.lemmas.List.{append_assoc, append-nil, length-append, length-drop, length-take-le, take-append-drop, take_at, take_rest, take_all, drop_all}
use Rattle.std.proofs.lemmas.List.Concat.{flat_map-append}
use Rattle.std.proofs.lemmas.List.Elements.{All-append, All-cons, All-nil}
use borrow.Rule.Slice.PartMut.{put_mid, post_of}
use Rattle.mask_runs.specs.Runs.{MaskRun, IsRun, spelling, run_content, end_mark, AreJoinedRuns, Runs}
use Rattle.mask_runs.specs.Fault.{IsWrongRun, FirstRunFault, in_run, after_end}
use Rattle.mask_runs.specs.inside.Steps.{ReadsRun}
use Rattle.mask_runs.specs.declared.read.RunStep.TheVariants.{Taken, End}

-- no run stands in no bytes
pub joined_none : AreJoinedRuns [] []
joined_none = record { runs = []; each = All-nil IsRun; spelled = refl; contents = refl }

-- one run more
pub joined_more : (bytes mask : List ℕ) (run : MaskRun) → AreJoinedRuns bytes mask → IsRun run → AreJoinedRuns (bytes ++ spelling run) (mask ++ run_content run)
joined_more bytes mask run j is = record {
  runs = j.runs ++ run ∷ [];
  each = All-append IsRun j.runs (run ∷ []) j.each (All-cons IsRun run [] is (All-nil IsRun));
  spelled = ap (λ xs. xs ++ spelling run) j.spelled ∙ ap (λ xs. flat_map spelling j.runs ++ xs) (sym (append-nil (spelling run))) ∙ sym (flat_map-append spelling j.runs (run ∷ []));
  contents = ap (λ xs. xs ++ run_content run) j.contents ∙ ap (λ xs. flat_map run_content j.runs ++ xs) (sym (append-nil (run_content run))) ∙ sym (flat_map-append run_content j.runs (run ∷ []));
}

-- one run in front
pub joined_cons : (bytes mask : List ℕ) (run : MaskRun) → IsRun run → AreJoinedRuns bytes mask → AreJoinedRuns (spelling run ++ bytes) (run_content run ++ mask)
joined_cons bytes mask run is j = record {
  runs = run ∷ j.runs;
  each = All-cons IsRun run j.runs is j.each;
  spelled = ap (λ xs. spelling run ++ xs) j.spelled;
  contents = ap (λ xs. run_content run ++ xs) j.contents;
}

-- the bytes up to the place after a piece that comes first from a place on
pub take_piece : (xs piece rest : List ℕ) (at n : ℕ) → at ≤ length xs → take (length xs - at) (drop at xs) ≡ piece ++ rest → n ≡ length piece
    → (at + n ≤ length xs) × (take (at + n) xs ≡ take at xs ++ piece)
take_piece xs piece rest at n within e size =
    let front : length (take at xs) ≡ at = length-take-le at xs within in
    let whole : xs ≡ (take at xs ++ piece) ++ rest =
    sym (take-append-drop at xs) ∙ ap (λ ys. take at xs ++ ys) (sym (take_rest xs at) ∙ e) ∙ sym (append_assoc (take at xs) piece rest) in
    let both : length (take at xs ++ piece) ≡ at + n = omega (arith, length-append (take at xs) piece) in
    (omega (arith, ap length whole, length-append (take at xs ++ piece) rest), ap (take (at + n)) whole ∙ take_at (take at xs ++ piece) rest (at + n) both)

-- the mask up to the place after a piece that was put at a place
pub take_put : (xs ys piece rest : List ℕ) (at k n : ℕ) → at ≤ length xs → ys ≡ piece ++ rest → n ≡ length piece
    → (at + n ≤ length (put_mid at k xs ys)) × (take (at + n) (put_mid at k xs ys) ≡ take at xs ++ piece)
take_put xs ys piece rest at k n within e size =
    let front : length (take at xs) ≡ at = length-take-le at xs within in
    let tail = post_of at k xs in
    let whole : put_mid at k xs ys ≡ (take at xs ++ piece) ++ (rest ++ tail) =
    ap (λ zs. take at xs ++ (zs ++ tail)) e ∙ ap (λ zs. take at xs ++ zs) (append_assoc piece rest tail) ∙ sym (append_assoc (take at xs) piece (rest ++ tail)) in
    let both : length (take at xs ++ piece) ≡ at + n = omega (arith, length-append (take at xs) piece) in
    (omega (arith, ap length whole, length-append (take at xs ++ piece) (rest ++ tail)), ap (take (at + n)) whole ∙ take_at (take at xs ++ piece) (rest ++ tail) (at + n) both)

-- what stands after a step over a run
pub record StepsOver (bytes out now : List ℕ) (at filled taken n : ℕ) : Type 0 where
  pub within : at + taken ≤ length bytes
  pub room : filled + n ≤ length now
  pub joined : AreJoinedRuns (take (at + taken) bytes) (take (filled + n) now)
  pub some : 2 ≤ taken

pub steps_over : (bytes out new : List ℕ) (at filled taken n : ℕ) → at ≤ length bytes → filled ≤ length out → AreJoinedRuns (take at bytes) (take filled out)
    → ReadsRun (take (length bytes - at) (drop at bytes)) (take (length out - filled) (drop filled out)) new (Taken taken n)
    → StepsOver bytes out (put_mid filled (length out - filled) out new) at filled taken n
steps_over bytes out new at filled taken n within room j (part, (put, run)) =
    let left = take (length bytes - at) (drop at bytes) in
    let old = take (length out - filled) (drop filled out) in
    let now = put_mid filled (length out - filled) out new in
    let size : n ≡ length part = run.filled_is ∙ sym (ap length run.gives) in
    let read = take_piece bytes (spelling run.run) (drop taken left) at taken within run.spelled run.taken_is in
    let wrote = take_put out new part (drop n old) filled (length out - filled) n room put size in
    let more : AreJoinedRuns (take at bytes ++ spelling run.run) (take filled out ++ run_content run.run) = joined_more (take at bytes) (take filled out) run.run j run.is_run in
    let mask : take (filled + n) now ≡ take filled out ++ run_content run.run = wrote.1 ∙ ap (λ xs. take filled out ++ xs) run.gives in
    record {
      within = read.0;
      room = wrote.0;
      joined = subst (λ (xs : List ℕ). AreJoinedRuns xs (take (filled + n) now)) (sym read.1) (subst (λ (xs : List ℕ). AreJoinedRuns (take at bytes ++ spelling run.run) xs) (sym mask) more);
      some = omega (arith, run.taken_is);
    }

-- what stands after a step over the end mark
pub record Ends (bytes now : List ℕ) (n at : ℕ) : Type 0 where
  pub within : at + 2 ≤ length bytes
  pub full : length now ≡ n
  pub runs : Runs (take (at + 2) bytes) now

pub ends : (bytes out new : List ℕ) (at filled : ℕ) → at ≤ length bytes → filled ≤ length out → AreJoinedRuns (take at bytes) (take filled out)
    → ReadsRun (take (length bytes - at) (drop at bytes)) (take (length out - filled) (drop filled out)) new End
    → Ends bytes (put_mid filled (length out - filled) out new) (length out) at
ends bytes out new at filled within room j (end, (full, none)) =
    let left = take (length bytes - at) (drop at bytes) in
    let read = take_piece bytes end_mark (drop 2 left) at 2 within end refl in
    let all : length out - filled ≡ 0 = sym (length-drop filled out) ∙ sym (ap length (take_rest out filled)) ∙ ap length full in
    let tail : post_of filled (length out - filled) out ≡ [] = drop_all (length out - filled) (drop filled out) (omega (arith, length-drop filled out)) in
    let same : put_mid filled (length out - filled) out new ≡ take filled out =
    ap (λ xs. take filled out ++ (xs ++ post_of filled (length out - filled) out)) none ∙ ap (λ xs. take filled out ++ xs) tail ∙ append-nil (take filled out) in
    record {
      within = read.0;
      full = ap length same ∙ length-take-le filled out room ∙ omega arith;
      runs = (take at bytes, (read.1, subst (AreJoinedRuns (take at bytes)) (sym same) j));
    }

-- the end mark ends the bytes
pub ends_whole : (bytes now : List ℕ) (n at : ℕ) → Ends bytes now n at → at + 2 ≡ length bytes → Runs bytes now
ends_whole bytes now n at e whole = subst (λ (xs : List ℕ). Runs xs now) (take_all (at + 2) bytes (omega arith)) e.runs

-- a byte stands after the end mark
pub ends_before : (bytes now : List ℕ) (n at : ℕ) → Ends bytes now n at → (at + 2 ≡ length bytes → ⊥) → FirstRunFault bytes n (at + 2)
ends_before bytes now n at e more = let within = e.within in after_end now (omega arith) e.runs e.full

-- the step finds a fault
pub stops_here : (bytes out : List ℕ) (at filled : ℕ) → at ≤ length bytes → filled ≤ length out → AreJoinedRuns (take at bytes) (take filled out)
    → IsWrongRun (take (length bytes - at) (drop at bytes)) (length (take (length out - filled) (drop filled out)))
    → FirstRunFault bytes (length out) at
stops_here bytes out at filled within room j faulty =
    let size : length (take filled out) ≡ filled = length-take-le filled out room in
    let left : length (take (length out - filled) (drop filled out)) ≡ length out - length (take filled out) =
    ap length (take_rest out filled) ∙ length-drop filled out ∙ ap (λ n. length out - n) (sym size) in
    in_run (take filled out) within j (omega arith)
    (subst (λ n. IsWrongRun (drop at bytes) n) left (subst (λ (xs : List ℕ). IsWrongRun xs (length (take (length out - filled) (drop filled out)))) (take_rest bytes at) faulty))
