-- Blobs of floating-point numbers, one behind the other, as they are walked.
use Rattle.std.proofs.Common.{◌≡◌, inl, inr, ℕ, ◌+◌, ◌-◌, ◌<◌, ◌≤◌, List, [], ◌∷◌, ◌++◌, All, Result, Ok, Err, length, take, drop, sym, ap, subst, ◌∙◌, arith}
use Rattle.std.specs.Prelude.{IfErr}
use Rattle.std.specs.List.{concat}
use Rattle.std.proofs.lemmas.List.{append-nil, length-append, length-drop, length-take-le, take-append-drop, take_all}
use Rattle.std.proofs.lemmas.List.Elements.{All-push}
use Rattle.std.proofs.lemmas.List.Folds.{concat-append}
use Rattle.outside_io.proofs.StreamLemmas.Gives.{take-add}
use Rattle.lerc_grammar.specs.declared.bands.BandReason.{BandReason}
use Rattle.tile_audit.specs.Sums.{IsNext, IsSummed, SumFaultAt, next_sum_faults}

pub err_map : {T E : Type 0} (P Q : E → Type 0) (r : Result T E) → ((e : E) → P e → Q e) → IfErr r P → IfErr r Q
err_map P Q (Ok t) go is = tt
err_map P Q (Err e) go is = go e is

-- the blobs in front of a place
abbrev pub Front : List ℕ → ℕ → ℕ → Type 0
Front bytes at count = (blobs : List (List ℕ)) × ((take at bytes ≡ concat blobs) × (All IsSummed blobs × ((length blobs ≡ count) × ((at ≤ length bytes) × ((count ≤ 16) × (count ≡ 0 → at ≡ 0))))))

rest_of : (bytes : List ℕ) (at : ℕ) → take (length bytes - at) (drop at bytes) ≡ drop at bytes
rest_of bytes at = take_all (length bytes - at) (drop at bytes) (omega (arith, length-drop at bytes))

pub fault_here : (bytes : List ℕ) (at count p : ℕ) (r : BandReason) → Front bytes at count → next_sum_faults count (take (length bytes - at) (drop at bytes)) p r → SumFaultAt bytes (at + p) r
fault_here bytes at count p r (blobs, (is, (all, (long, (within, (few, none)))))) next =
    let size : length (concat blobs) ≡ at = ap length (sym is) ∙ length-take-le at bytes within in
    record {
      blobs = blobs;
      rest = drop at bytes;
      joined = sym (take-append-drop at bytes) ∙ ap (λ l. l ++ drop at bytes) is;
      few = omega (arith, long, few);
      each = all;
      next = (p, (omega (arith, size), subst (λ (n : ℕ). next_sum_faults n (drop at bytes) p r) (sym long) (subst (λ l. next_sum_faults count l p r) (rest_of bytes at) next)));
    }

fewer : (count : ℕ) (rest : List ℕ) → IsNext count rest → count + 1 ≤ 16
fewer count rest (inl first) = omega (arith, first)
fewer count rest (inr (few, key)) = omega (arith, few)

pub front_more : (bytes : List ℕ) (at count n : ℕ) → Front bytes at count → IsNext count (take (length bytes - at) (drop at bytes)) × ((0 < n) × ((n ≤ length (take (length bytes - at) (drop at bytes))) × IsSummed (take n (take (length bytes - at) (drop at bytes)))))
    → Front bytes (at + n) (count + 1)
front_more bytes at count n (blobs, (is, (all, (long, (within, (few, none)))))) (next, (up, (fits, blob))) =
    let rest = rest_of bytes at in
    let some : n ≤ length (drop at bytes) = subst (λ l. n ≤ length l) rest fits in
    let here : IsSummed (take n (drop at bytes)) = subst (λ l. IsSummed (take n l)) rest blob in (
      blobs ++ take n (drop at bytes) ∷ [],
      (
        take-add at n bytes ∙ (λ i. is i ++ take n (drop at bytes)) ∙ ap (λ l. concat blobs ++ l) (sym (append-nil (take n (drop at bytes)))) ∙ sym (concat-append blobs (take n (drop at bytes) ∷ [])),
        (
          All-push IsSummed blobs (take n (drop at bytes)) all here,
          (
            omega (arith, long, length-append blobs (take n (drop at bytes) ∷ [])),
            (omega (arith, some, within, length-drop at bytes), (fewer count (take (length bytes - at) (drop at bytes)) next, λ zero_. absurd (omega (arith, zero_)))),
          ),
        ),
      ),
    )
