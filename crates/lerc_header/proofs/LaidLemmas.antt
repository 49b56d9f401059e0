-- Bytes laid over a list, one part behind the other.
use Rattle.std.proofs.Common.{◌≡◌, ℕ, ◌+◌, ◌-◌, ◌≤◌, List, [], ◌++◌, length, take, drop, sym, ap, ◌∙◌, arith}
use Rattle.std.proofs.lemmas.List.{append_assoc, append-nil, length-append, length-drop, length-take-le, drop-drop, drop_all, take_at, take_rest, take-append-drop}
use Rattle.std.proofs.Math.Seq.{drop-append_seam}
use borrow.Rule.Slice.PartMut.{put_mid}
use Rattle.lerc_header.specs.inside.Laid.{AreLaid}

drop_on : (e k : ℕ) (xs ys : List ℕ) → e ≤ k → drop e xs ≡ drop e ys → drop k xs ≡ drop k ys
drop_on e k xs ys behind same =
    let far : k ≡ e + (k - e) = omega (arith, behind) in
    ap (λ n. drop n xs) far ∙ sym (drop-drop (k - e) e xs) ∙ ap (drop (k - e)) same ∙ drop-drop (k - e) e ys ∙ sym (ap (λ n. drop n ys) far)

pub laid_of : (old : List ℕ) (at n : ℕ) (bytes new : List ℕ) → at + n ≤ length old → length bytes ≡ n → new ≡ take at old ++ (bytes ++ drop (at + n) old) → AreLaid old at (at + n) bytes new
laid_of old at n bytes new room size is =
    let joined : new ≡ (take at old ++ bytes) ++ drop (at + n) old = is ∙ sym (append_assoc (take at old) bytes (drop (at + n) old)) in
    let long : length (take at old ++ bytes) ≡ at + n = length-append (take at old) bytes ∙ ap (λ k. k + length bytes) (length-take-le at old (omega (arith, room))) ∙ ap (λ k. at + k) size in
    let rest : drop (at + n) new ≡ drop (at + n) old =
    ap (drop (at + n)) joined ∙ ap (λ k. drop k ((take at old ++ bytes) ++ drop (at + n) old)) (sym long) ∙ drop-append_seam (take at old ++ bytes) (drop (at + n) old) in
    record {
      size = ap (λ k. at + k) size;
      front = ap (take (at + n)) joined ∙ take_at (take at old ++ bytes) (drop (at + n) old) (at + n) long;
      rest = λ k behind. drop_on (at + n) k new old behind rest;
    }

-- what a write through `&mut out[at..]` leaves
pub laid_at : (old : List ℕ) (at n : ℕ) (bytes part : List ℕ) → at + n ≤ length old → length bytes ≡ n → part ≡ bytes ++ drop n (take (length old - at) (drop at old))
    → AreLaid old at (at + n) bytes (put_mid at (length old - at) old part)
laid_at old at n bytes part room size is =
    let none : drop (length old - at) (drop at old) ≡ [] = drop_all (length old - at) (drop at old) (omega (arith, length-drop at old)) in
    let behind : drop n (take (length old - at) (drop at old)) ≡ drop (at + n) old = ap (drop n) (take_rest old at) ∙ drop-drop n at old in
    let whole : part ++ drop (length old - at) (drop at old) ≡ bytes ++ drop (at + n) old =
    ap (λ xs. part ++ xs) none ∙ append-nil part ∙ is ∙ ap (λ xs. bytes ++ xs) behind in
    laid_of old at n bytes (put_mid at (length old - at) old part) room size (ap (λ xs. take at old ++ xs) whole)

pub laid_join : (a : List ℕ) (i j k : ℕ) (x b y c : List ℕ) → AreLaid a i j x b → AreLaid b j k y c → AreLaid a i k (x ++ y) c
laid_join a i j k x b y c first second = record {
  size = omega (arith, length-append x y, first.size, second.size);
  front = second.front ∙ ap (λ xs. xs ++ y) first.front ∙ append_assoc (take i a) x y;
  rest = λ n behind. second.rest n behind ∙ first.rest n (omega (arith, behind, second.size));
}

-- bytes laid over the front
pub laid_front : (old : List ℕ) (to : ℕ) (bytes new : List ℕ) → AreLaid old 0 to bytes new → new ≡ bytes ++ drop to old
laid_front old to bytes new laid =
    sym (take-append-drop to new) ∙ ap (λ xs. xs ++ drop to new) laid.front ∙ ap (λ xs. bytes ++ xs) (laid.rest to (omega arith))
