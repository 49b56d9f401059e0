-- What the steps of the reader find.
use Rattle.std.proofs.Common.{◌≡◌, ◌≢◌, ℕ, ◌+◌, ◌*◌, ◌<◌, ◌≤◌, zero, suc, ℤ, pos, negsuc, neg_ℤ, unsigned_abs, ◌<ℤ◌, ◌≤ℤ◌, List, [], ◌∷◌, ◌++◌, length, get_or, take, drop, replicate, refl, sym, ap, ◌∙◌, subst, arith, Fits, w8, All, ◌⊎◌, inl, inr}
use Rattle.std.proofs.lemmas.List.{length-take-le, length-replicate, drop-drop, take-append-drop}
use Rattle.std.proofs.lemmas.List.Elements.{All-from_get_or, All-head, All-tail, All-cons, All-nil, All-take}
use Rattle.std.proofs.lemmas.Int.{ints}
use Rattle.std.specs.Int.{cast_signed, w16}
use Rattle.byteorder.specs.Endian.{twos_complement, little_number}
use Rattle.mask_runs.specs.Runs.{Literal, Repeat, MaskRun, end_mark}
use Rattle.mask_runs.specs.Fault.{HasRunCount, IsWrongRun, count_zero, past_end, run_cut, end_count}
use Rattle.mask_runs.specs.declared.read.RunStep.{RunStep}
use Rattle.mask_runs.specs.declared.read.RunStep.TheVariants.{Taken, End, Fault}
use Rattle.mask_runs.specs.inside.Steps.{TakesRun, ReadsRunBody, ReadsRun}

-- each byte of a slice is below 256
pub bytes_below : (bytes : List ℕ) → ((i : ℕ) → Fits w8 (get_or bytes i 0)) → All (λ byte. byte < 256) bytes
bytes_below bytes h = All-from_get_or (λ byte. byte < 256) bytes 0 (λ i _. omega (arith, h i))

-- the count of a literal
literal_count : (count : ℤ) (n : ℕ) → pos 0 <ℤ count → unsigned_abs count ≡ n → count ≡ pos n
literal_count (pos m) n h e = ap pos e
literal_count (negsuc m) n h e = absurd (omega (arith, ints))

-- the count of a repeat
repeat_count : (count : ℤ) (n : ℕ) → count ≤ℤ pos 0 → 0 < n → unsigned_abs count ≡ n → count ≡ neg_ℤ (pos n)
repeat_count (pos m) n h some e = absurd (omega (arith, ints))
repeat_count (negsuc m) (suc n) h some e = omega (arith, ints)
repeat_count (negsuc m) zero h some e = absurd (omega arith)

-- enough bytes follow the count of a literal
pub literal_first : (bytes : List ℕ) (count : ℤ) (n : ℕ) → All (λ byte. byte < 256) bytes → HasRunCount count bytes → pos 0 <ℤ count → unsigned_abs count ≡ n
    → 0 < n → n ≤ 32767 → n ≤ length (drop 2 bytes) → TakesRun bytes (take n (drop 2 bytes)) (2 + n) n
literal_first [] count n all has above is some most long = absurd (omega (arith, has.0))
literal_first (low ∷ []) count n all has above is some most long = absurd (omega (arith, has.0))
literal_first (low ∷ high ∷ rest) count n all has above is some most long =
    let run : MaskRun = record { low = low; high = high; piece = Literal (take n rest) } in
    let cut : length (take n rest) ≡ n = length-take-le n rest long in
    let tail : All (λ byte. byte < 256) rest = All-tail (λ byte. byte < 256) high rest (All-tail (λ byte. byte < 256) low (high ∷ rest) all) in
    record {
      run = run;
      is_run = record {
        bytes = All-cons (λ byte. byte < 256) low (high ∷ take n rest) (All-head (λ byte. byte < 256) low (high ∷ rest) all)
            (All-cons (λ byte. byte < 256) high (take n rest) (All-head (λ byte. byte < 256) high rest (All-tail (λ byte. byte < 256) low (high ∷ rest) all))
            (All-take (λ byte. byte < 256) n rest tail));
        count = has.1 ∙ literal_count count n above is ∙ ap pos (sym cut);
        least = omega arith;
        most = omega arith;
      };
      spelled = ap (λ xs. low ∷ high ∷ xs) (sym (take-append-drop n rest)) ∙ ap (λ xs. (low ∷ high ∷ take n rest) ++ xs) (drop-drop n 2 (low ∷ high ∷ rest));
      taken_is = omega arith;
      filled_is = sym cut;
      gives = refl;
    }

-- a byte follows the count of a repeat
pub repeat_first : (bytes : List ℕ) (count : ℤ) (n : ℕ) → All (λ byte. byte < 256) bytes → HasRunCount count bytes → count ≤ℤ pos 0 → unsigned_abs count ≡ n
    → 0 < n → n ≤ 32767 → 0 < length (drop 2 bytes) → TakesRun bytes (replicate n (get_or (drop 2 bytes) 0 0)) 3 n
repeat_first [] count n all has above is some most long = absurd (omega (arith, has.0))
repeat_first (low ∷ []) count n all has above is some most long = absurd (omega (arith, has.0))
repeat_first (low ∷ high ∷ []) count n all has above is some most long = absurd (omega arith)
repeat_first (low ∷ high ∷ byte ∷ rest) count n all has above is some most long =
    let run : MaskRun = record { low = low; high = high; piece = Repeat n byte } in
    let all_high = All-tail (λ byte. byte < 256) low (high ∷ byte ∷ rest) all in
    let all_body = All-tail (λ byte. byte < 256) high (byte ∷ rest) all_high in
    let long_is : length (replicate n byte) ≡ n = length-replicate n byte in
    record {
      run = run;
      is_run = record {
        bytes = All-cons (λ byte. byte < 256) low (high ∷ byte ∷ []) (All-head (λ byte. byte < 256) low (high ∷ byte ∷ rest) all)
            (All-cons (λ byte. byte < 256) high (byte ∷ []) (All-head (λ byte. byte < 256) high (byte ∷ rest) all_high)
            (All-cons (λ byte. byte < 256) byte [] (All-head (λ byte. byte < 256) byte rest all_body) (All-nil (λ byte. byte < 256))));
        count = has.1 ∙ repeat_count count n above some is;
        least = omega arith;
        most = omega arith;
      };
      spelled = refl;
      taken_is = refl;
      filled_is = sym long_is;
      gives = refl;
    }

-- what a number of two bytes is in two's complement
pub signed_is : (x : ℕ) → x < 65536 → cast_signed w16 x ≡ twos_complement 2 x
signed_is x h = grind (arith, ints)

-- the count that two bytes are read as
pub read_count : (bytes : List ℕ) (count : ℤ) → 2 ≤ length bytes → All (λ byte. byte < 256) bytes → count ≡ cast_signed w16 (little_number 2 bytes) → HasRunCount count bytes
read_count [] count long all e = absurd (omega arith)
read_count (low ∷ []) count long all e = absurd (omega arith)
read_count (low ∷ high ∷ rest) count long all e =
    let low_below = All-head (λ byte. byte < 256) low (high ∷ rest) all in
    let high_below = All-head (λ byte. byte < 256) high rest (All-tail (λ byte. byte < 256) low (high ∷ rest) all) in
    let number : little_number 2 (low ∷ high ∷ rest) ≡ low + 256 * high = omega arith in
    (long, sym (e ∙ ap (cast_signed w16) number ∙ signed_is (low + 256 * high) (omega arith)))

-- the count is that of the end mark
pub end_first : (bytes : List ℕ) → All (λ byte. byte < 256) bytes → HasRunCount end_count bytes → bytes ≡ end_mark ++ drop 2 bytes
end_first [] all has = absurd (omega (arith, has.0))
end_first (low ∷ []) all has = absurd (omega (arith, has.0))
end_first (low ∷ high ∷ rest) all has =
    let low_below = All-head (λ byte. byte < 256) low (high ∷ rest) all in
    let high_below = All-head (λ byte. byte < 256) high rest (All-tail (λ byte. byte < 256) low (high ∷ rest) all) in
    let low_is : low ≡ 0 = grind (arith, ints, has.1) in
    let high_is : high ≡ 128 = grind (arith, ints, has.1) in
    ap (λ n. n ∷ high ∷ rest) low_is ∙ ap (λ n. 0 ∷ n ∷ rest) high_is

-- a count of no bytes, or of more bytes than the mask still has
pub count_faulty : (bytes : List ℕ) (room n : ℕ) (count : ℤ) → HasRunCount count bytes → count ≢ end_count → unsigned_abs count ≡ n → (n ≡ 0) ⊎ ((n ≡ 0 → ⊥) × (room < n)) → IsWrongRun bytes room
count_faulty bytes room n (pos m) has other is (inl none) = count_zero (subst (λ k. HasRunCount (pos k) bytes) (is ∙ none) has)
count_faulty bytes room n (negsuc m) has other is (inl none) = absurd (omega arith)
count_faulty bytes room n count has other is (inr past) = past_end count other has (omega arith)

-- what the body of a run shows of the whole step
pub step_of_body : (bytes old part : List ℕ) (count : ℤ) (n : ℕ) (step : RunStep) → HasRunCount count bytes → count ≢ end_count → n ≡ length part → ReadsRunBody bytes count part step → ReadsRun bytes old (part ++ drop n old) step
step_of_body bytes old part count n (Taken taken filled) has other is run =
    let same : n ≡ filled = is ∙ ap length run.gives ∙ sym run.filled_is in
    (part, (ap (λ k. part ++ drop k old) same, run))
step_of_body bytes old part count n End has other is none = absurd none
step_of_body bytes old part count n Fault has other is short = run_cut count other has short
