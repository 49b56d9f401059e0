-- Single runs: what the bytes of one determine.
use Rattle.std.proofs.Common.{◌≡◌, ℕ, ◌+◌, ◌≤◌, zero, suc, ℤ, pos, unsigned_abs, List, ◌++◌, length, take, drop, refl, sym, ap, ◌∙◌, subst, arith}
use Rattle.std.proofs.lemmas.List.{take_at, drop_at, length-append, length-replicate}
use Rattle.mask_runs.specs.Runs.{MaskPiece, Literal, Repeat, MaskRun, IsRun, spelling, run_content, piece_content, piece_body, piece_count, number_in, end_mark}
use Rattle.mask_runs.specs.Fault.{HasRunCount, IsWrongRun, count_cut, count_zero, run_cut, past_end, early_end, body_length, end_count}

-- a count tells how many bytes of the mask come
pub size_of_count : (piece : MaskPiece) → unsigned_abs (piece_count piece) ≡ length (piece_content piece)
size_of_count (Literal bytes) = refl
size_of_count (Repeat zero byte) = refl
size_of_count (Repeat (suc n) byte) = sym (length-replicate (suc n) byte)

-- a count tells how many bytes follow it
pub length-body : (piece : MaskPiece) → 1 ≤ length (piece_content piece) → body_length (piece_count piece) ≡ length (piece_body piece)
length-body (Literal bytes) some = refl
length-body (Repeat zero byte) some = absurd (omega arith)
length-body (Repeat (suc n) byte) some = refl

-- no piece has the count of the end mark
pub not_end_count : (piece : MaskPiece) → length (piece_content piece) ≤ 32767 → piece_count piece ≡ end_count → ⊥
not_end_count piece most e = let size : 32768 ≡ length (piece_content piece) = ap unsigned_abs (sym e) ∙ size_of_count piece in omega arith

-- of two bodies in front of the same bytes, under one count
same_piece : (p q : MaskPiece) (x y : List ℕ) → piece_count p ≡ piece_count q → 1 ≤ length (piece_content p) → 1 ≤ length (piece_content q) → piece_body p ++ x ≡ piece_body q ++ y → (p ≡ q) × (x ≡ y)
same_piece (Literal a) (Literal b) x y count some_p some_q e =
    let long : length a ≡ length b = ap unsigned_abs count in
    let front : a ≡ b = sym (take_at a x (length a) refl) ∙ ap (take (length a)) e ∙ take_at b y (length a) (sym long) in
    (ap Literal front, sym (drop_at a x (length a) refl) ∙ ap (drop (length a)) e ∙ drop_at b y (length a) (sym long))
same_piece (Literal a) (Repeat zero c) x y count some_p some_q e = absurd (omega arith)
same_piece (Literal a) (Repeat (suc m) c) x y count some_p some_q e = absurd cc
same_piece (Repeat zero b) q x y count some_p some_q e = absurd (omega arith)
same_piece (Repeat (suc n) b) (Literal c) x y count some_p some_q e = absurd cc
same_piece (Repeat (suc n) b) (Repeat zero c) x y count some_p some_q e = absurd (omega arith)
same_piece (Repeat (suc n) b) (Repeat (suc m) c) x y count some_p some_q e =
    let times : suc n ≡ suc m = ap unsigned_abs count in
    let byte : b ≡ c = cc in
    let rest : x ≡ y = cc in
    (ap (λ k. Repeat k b) times ∙ ap (Repeat (suc m)) byte, rest)

-- of two runs in front of the same bytes
pub same_run : (r s : MaskRun) (x y : List ℕ) → IsRun r → IsRun s → spelling r ++ x ≡ spelling s ++ y → (r ≡ s) × (x ≡ y)
same_run r s x y is_r is_s e =
    let low : r.low ≡ s.low = cc in
    let high : r.high ≡ s.high = cc in
    let rest : piece_body r.piece ++ x ≡ piece_body s.piece ++ y = cc in
    let number : number_in r.low r.high ≡ number_in s.low s.high = ap (λ n. number_in n r.high) low ∙ ap (number_in s.low) high in
    let count : piece_count r.piece ≡ piece_count s.piece = sym is_r.count ∙ number ∙ is_s.count in
    let both = same_piece r.piece s.piece x y count is_r.least is_s.least rest in
    ((λ i. record { low = low i; high = high i; piece = both.0 i }), both.1)

-- a run in front shows its count
pub has_count : (run : MaskRun) (rest bytes : List ℕ) → IsRun run → bytes ≡ spelling run ++ rest → HasRunCount (piece_count run.piece) bytes
has_count run rest bytes is e = subst (HasRunCount (piece_count run.piece)) (sym e) (omega arith, is.count)

-- two counts in front of the same bytes
same_count : (a b : ℤ) (bytes : List ℕ) → HasRunCount a bytes → HasRunCount b bytes → a ≡ b
same_count a b bytes h k = sym h.1 ∙ k.1

-- where a run comes first that fits, nothing is wrong
pub run_not_faulty : (run : MaskRun) (rest bytes : List ℕ) (room : ℕ) → IsRun run → bytes ≡ spelling run ++ rest → length (run_content run) ≤ room → IsWrongRun bytes room → ⊥
run_not_faulty run rest bytes room is e fits (count_cut short) = let has = has_count run rest bytes is e in omega (arith, has.0)
run_not_faulty run rest bytes room is e fits (count_zero zero_count) =
    let none : 0 ≡ length (run_content run) = ap unsigned_abs (same_count (pos 0) (piece_count run.piece) bytes zero_count (has_count run rest bytes is e)) ∙ size_of_count run.piece in
    omega (arith, is.least)
run_not_faulty run rest bytes room is e fits (run_cut count other has short) =
    let same = same_count count (piece_count run.piece) bytes has (has_count run rest bytes is e) in
    let follow : body_length count ≡ length (piece_body run.piece) = ap body_length same ∙ length-body run.piece is.least in
    let long : length bytes ≡ length (spelling run) + length rest = ap length e ∙ length-append (spelling run) rest in
    omega arith
run_not_faulty run rest bytes room is e fits (past_end count other has past) =
    let size : unsigned_abs count ≡ length (run_content run) = ap unsigned_abs (same_count count (piece_count run.piece) bytes has (has_count run rest bytes is e)) ∙ size_of_count run.piece in
    omega arith
run_not_faulty run rest bytes room is e fits (early_end has some) =
    not_end_count run.piece is.most (same_count (piece_count run.piece) end_count bytes (has_count run rest bytes is e) has)

-- the end mark is no run
pub run_not_end : (run : MaskRun) (rest other bytes : List ℕ) → IsRun run → bytes ≡ spelling run ++ rest → bytes ≡ end_mark ++ other → ⊥
run_not_end run rest other bytes is e end =
    let has : HasRunCount end_count bytes = subst (HasRunCount end_count) (sym end) (omega arith, refl) in
    not_end_count run.piece is.most (same_count (piece_count run.piece) end_count bytes (has_count run rest bytes is e) has)

-- at the end of the mask nothing is wrong with the end mark
pub end_not_faulty : (bytes rest : List ℕ) (room : ℕ) → bytes ≡ end_mark ++ rest → room ≡ 0 → IsWrongRun bytes room → ⊥
end_not_faulty bytes rest room e full faulty =
    let has : HasRunCount end_count bytes = subst (HasRunCount end_count) (sym e) (omega arith, refl) in
    end_has bytes room has full faulty
  where
    end_has : (bytes : List ℕ) (room : ℕ) → HasRunCount end_count bytes → room ≡ 0 → IsWrongRun bytes room → ⊥
    end_has bytes room has full (count_cut short) = omega (arith, has.0)
    end_has bytes room has full (count_zero zero_count) = let same = same_count (pos 0) end_count bytes zero_count has in cc
    end_has bytes room has full (run_cut count other here short) = other (same_count count end_count bytes here has)
    end_has bytes room has full (past_end count other here past) = other (same_count count end_count bytes here has)
    end_has bytes room has full (early_end here some) = omega arith
