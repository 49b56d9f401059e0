-- The first piece of a mask, and the pieces after it; what is written for them are runs of the mask.
use Rattle.std.proofs.Common.{◌≡◌, ℕ, FitsSigned, ◌+◌, ◌-◌, ◌*◌, ◌<◌, ◌≤◌, zero, suc, min, List, [], ◌∷◌, ◌++◌, length, get_or, take, drop, replicate, flat_map, cond, true, refl, sym, ap, ◌∙◌, subst, arith, All, inl, inr, ◌==◌}
use Rattle.std.specs.Int.{cast_unsigned, w16, byte_at}
use Rattle.std.proofs.lemmas.Bool.{cases_lt, le-leb, lt-leb}
use Rattle.std.proofs.lemmas.Bool.Decides.{nat_tests}
use Rattle.std.proofs.lemmas.Int.{ints, to_z-of_z, fits_signed_from_abs}
use Rattle.std.proofs.lemmas.List.{ext_get_or, get_or-replicate, get_or-take, length-take-le, length-replicate, length-drop, drop-drop, take-append-drop, drop_all}
use Rattle.std.proofs.lemmas.List.Elements.{All-cons, All-nil, All-take, All-drop, All-get_or}
use Rattle.std.proofs.lemmas.List.Sums.{prefix_len_passes}
use Rattle.byteorder.specs.Endian.{twos_complement}
use Rattle.mask_runs.specs.declared.write.Choice.{Choice}
use Rattle.mask_runs.specs.declared.write.Choice.TheVariants.{Literal as LiteralOf, Repeat as RepeatOf}
use Rattle.mask_runs.specs.Runs.{MaskPiece, Literal, Repeat, MaskRun, IsRun, run_content, piece_content, piece_count, piece_body, AreJoinedRuns, Runs}
use Rattle.mask_runs.specs.Chosen.{AreChosenPieces, equal_bytes, before_repeat, first_piece, pieces_after, chosen_pieces, piece_bytes, chosen_runs}
use Rattle.mask_runs.specs.inside.Steps.{IsFirstChoice, piece_of, count_in, size_in}
use Rattle.mask_runs.proofs.Equal.{equal_most, before_some, before_most}
use Rattle.mask_runs.proofs.Pieces.{size_of_count}
use Rattle.mask_runs.proofs.Reading.{signed_is}
use Rattle.mask_runs.proofs.Steps.{joined_none, joined_cons}

-- five or more equal bytes come first
pub choose_repeat : (mask : List ℕ) (n : ℕ) → n ≡ min (equal_bytes mask) 32767 → 5 ≤ n → IsFirstChoice mask (RepeatOf n)
choose_repeat mask n is many = record {
  piece = ap (λ b. cond b (Repeat (min (equal_bytes mask) 32767) (get_or mask 0 0)) (Literal (take (min (before_repeat mask) 32767) mask))) (le-leb 5 (equal_bytes mask) (omega arith)) ∙ ap (λ k. Repeat k (get_or mask 0 0)) (sym is);
  least = omega arith;
  most = omega arith;
  within = let h = equal_most mask in omega arith;
}

-- fewer equal bytes come first
pub choose_literal : (mask : List ℕ) (e n : ℕ) → 0 < length mask → e ≡ min (equal_bytes mask) 32767 → e < 5 → n ≡ min (before_repeat mask) 32767 → IsFirstChoice mask (LiteralOf n)
choose_literal mask e n some equal few is = record {
  piece = ap (λ b. cond b (Repeat (min (equal_bytes mask) 32767) (get_or mask 0 0)) (Literal (take (min (before_repeat mask) 32767) mask))) (lt-leb 5 (equal_bytes mask) (omega arith)) ∙ ap (λ k. Literal (take k mask)) (sym is);
  least = let h = before_some mask some (omega arith) in omega arith;
  most = omega arith;
  within = let h = before_most mask in omega arith;
}

-- a mask that is not empty has a first piece
choice_of : (mask : List ℕ) → 0 < length mask → (choice : Choice) × IsFirstChoice mask choice
choice_of mask some = elim (cases_lt (min (equal_bytes mask) 32767) 5) as (λ _. (choice : Choice) × IsFirstChoice mask choice) [
  | inl few ↦ (LiteralOf (min (before_repeat mask) 32767), choose_literal mask (min (equal_bytes mask) 32767) (min (before_repeat mask) 32767) some refl few refl)
  | inr many ↦ (RepeatOf (min (equal_bytes mask) 32767), choose_repeat mask (min (equal_bytes mask) 32767) refl many)
]

-- how many bytes a chosen piece gives, and how many are written for it
pub length-content : (mask : List ℕ) (choice : Choice) → IsFirstChoice mask choice → length (piece_content (piece_of mask choice)) ≡ count_in choice
length-content mask (LiteralOf n) first = length-take-le n mask first.within
length-content mask (RepeatOf n) first = length-replicate n (get_or mask 0 0)

pub length-written : (mask : List ℕ) (choice : Choice) → IsFirstChoice mask choice → size_in choice ≡ length (piece_bytes (piece_of mask choice))
length-written mask (LiteralOf n) first = omega (arith, length-take-le n mask first.within)
length-written mask (RepeatOf n) first = omega arith

-- the pieces after so many bytes are those of what is left
pieces_after-drop : (n : ℕ) (mask : List ℕ) → pieces_after n mask ≡ chosen_pieces (drop n mask)
pieces_after-drop zero [] = refl
pieces_after-drop zero (x ∷ mask) = refl
pieces_after-drop (suc n) [] = refl
pieces_after-drop (suc n) (x ∷ mask) = pieces_after-drop n mask

-- the law of the chosen pieces
pub pieces_go_on : (mask : List ℕ) → 0 < length mask → chosen_pieces mask ≡ first_piece mask ∷ chosen_pieces (drop (length (piece_content (first_piece mask))) mask)
pieces_go_on [] some = absurd (omega arith)
pieces_go_on (x ∷ mask) some =
    let choice = choice_of (x ∷ mask) some in
    let size : length (piece_content (first_piece (x ∷ mask))) ≡ count_in choice.0 = ap (λ piece. length (piece_content piece)) choice.1.piece ∙ length-content (x ∷ mask) choice.0 choice.1 in
    let least = choice.1.least in
    let one_more : suc (length (piece_content (first_piece (x ∷ mask))) - 1) ≡ length (piece_content (first_piece (x ∷ mask))) = omega arith in
    ap (λ pieces. first_piece (x ∷ mask) ∷ pieces) (pieces_after-drop (length (piece_content (first_piece (x ∷ mask))) - 1) mask ∙ ap (λ n. chosen_pieces (drop n (x ∷ mask))) one_more)

-- the chosen pieces are those of the relation, and no others are
are_chosen_by : (n : ℕ) (mask : List ℕ) → length mask ≤ n → AreChosenPieces (chosen_pieces mask) mask
are_chosen_by n [] few = refl
are_chosen_by zero (x ∷ mask) few = absurd (omega (arith, few))
are_chosen_by (suc n) (x ∷ mask) few =
    let choice = choice_of (x ∷ mask) (omega arith) in
    let size : length (piece_content (first_piece (x ∷ mask))) ≡ count_in choice.0 = ap (λ piece. length (piece_content piece)) choice.1.piece ∙ length-content (x ∷ mask) choice.0 choice.1 in
    let least = choice.1.least in
    let rest = drop (length (piece_content (first_piece (x ∷ mask)))) (x ∷ mask) in
    let shorter : length rest ≤ n = omega (arith, length-drop (length (piece_content (first_piece (x ∷ mask)))) (x ∷ mask), size, least, few) in
    subst (λ (pieces : List MaskPiece). AreChosenPieces pieces (x ∷ mask)) (sym (pieces_go_on (x ∷ mask) (omega arith))) (omega arith, (refl, are_chosen_by n rest shorter))

pub are_chosen : (mask : List ℕ) → AreChosenPieces (chosen_pieces mask) mask
are_chosen mask = are_chosen_by (length mask) mask (omega arith)

pub only_chosen : (mask : List ℕ) (pieces : List MaskPiece) → AreChosenPieces pieces mask → pieces ≡ chosen_pieces mask
only_chosen mask [] is = sym (ap chosen_pieces is)
only_chosen mask (piece ∷ pieces) is =
    (λ t. is.1.0 t ∷ only_chosen (drop (length (piece_content piece)) mask) pieces is.1.1 t)
    ∙ ap (λ (p : MaskPiece). first_piece mask ∷ chosen_pieces (drop (length (piece_content p)) mask)) is.1.0
    ∙ sym (pieces_go_on mask is.0)

-- one piece more is written
pub runs_more : (mask : List ℕ) (choice : Choice) → 0 < length mask → IsFirstChoice mask choice
    → flat_map piece_bytes (chosen_pieces mask) ≡ piece_bytes (piece_of mask choice) ++ flat_map piece_bytes (chosen_pieces (drop (count_in choice) mask))
runs_more mask choice some first =
    let size : length (piece_content (first_piece mask)) ≡ count_in choice = ap (λ piece. length (piece_content piece)) first.piece ∙ length-content mask choice first in
    ap (flat_map piece_bytes) (pieces_go_on mask some) ∙ ap (λ piece. piece_bytes piece ++ flat_map piece_bytes (chosen_pieces (drop (length (piece_content (first_piece mask))) mask))) first.piece
    ∙ ap (λ n. piece_bytes (piece_of mask choice) ++ flat_map piece_bytes (chosen_pieces (drop n mask))) size

-- the same from a place on
pub runs_more_at : (mask : List ℕ) (at : ℕ) (choice : Choice) → at < length mask → IsFirstChoice (drop at mask) choice
    → flat_map piece_bytes (chosen_pieces (drop at mask)) ≡ piece_bytes (piece_of (drop at mask) choice) ++ flat_map piece_bytes (chosen_pieces (drop (at + count_in choice) mask))
runs_more_at mask at choice below first =
    runs_more (drop at mask) choice (omega (arith, length-drop at mask)) first
    ∙ ap (λ rest. piece_bytes (piece_of (drop at mask) choice) ++ flat_map piece_bytes (chosen_pieces rest)) (drop-drop (count_in choice) at mask)

-- nothing is written for no bytes
pub runs_done : (mask : List ℕ) (at : ℕ) → length mask ≤ at → flat_map piece_bytes (chosen_pieces (drop at mask)) ≡ []
runs_done mask at all = ap (λ rest. flat_map piece_bytes (chosen_pieces rest)) (drop_all at mask all)

-- the bytes that a repeat gives come first in the mask
front_equal : (mask : List ℕ) (n : ℕ) → n ≤ equal_bytes mask → replicate n (get_or mask 0 0) ≡ take n mask
front_equal mask n few =
    let within = equal_most mask in
    ext_get_or 0 (replicate n (get_or mask 0 0)) (take n mask) (length-replicate n (get_or mask 0 0) ∙ sym (length-take-le n mask (omega arith))) (λ k h.
    let below : k < n = omega (arith, length-replicate n (get_or mask 0 0)) in
    let test : (get_or mask k 0 == get_or mask 0 0) ≡ true = prefix_len_passes (λ byte. byte == get_or mask 0 0) mask k 0 (omega arith) in
    let same : get_or mask k 0 ≡ get_or mask 0 0 = grind (arith, nat_tests) in
    get_or-replicate n k (get_or mask 0 0) 0 below ∙ sym same ∙ sym (get_or-take n mask k 0 below))

-- the run that is written for a piece
abbrev run_of : MaskPiece → MaskRun
run_of piece = record { low = byte_at 0 (cast_unsigned w16 (piece_count piece)); high = byte_at 1 (cast_unsigned w16 (piece_count piece)); piece = piece }

run_is : (piece : MaskPiece) → 1 ≤ length (piece_content piece) → length (piece_content piece) ≤ 32767 → All (λ byte. byte < 256) (piece_body piece) → IsRun (run_of piece)
run_is piece least most all =
    let x = cast_unsigned w16 (piece_count piece) in
    let size = size_of_count piece in
    let fits : FitsSigned w16 (piece_count piece) = fits_signed_from_abs w16 (piece_count piece) (omega arith) in
    let below : x < 65536 = omega (arith, ints) in
    let low : byte_at 0 x < 256 = omega arith in
    let high : byte_at 1 x < 256 = omega arith in
    let number : byte_at 0 x + 256 * byte_at 1 x ≡ x = omega arith in
    record {
      bytes = All-cons (λ byte. byte < 256) (byte_at 0 x) (byte_at 1 x ∷ piece_body piece) low (All-cons (λ byte. byte < 256) (byte_at 1 x) (piece_body piece) high all);
      count = ap (twos_complement 2) number ∙ sym (signed_is x below) ∙ to_z-of_z w16 (piece_count piece) fits;
      least = least;
      most = most;
    }

-- what is written for the first piece is a run, and gives the front of the mask
first_run : (mask : List ℕ) (choice : Choice) → 0 < length mask → All (λ byte. byte < 256) mask → IsFirstChoice mask choice → IsRun (run_of (piece_of mask choice))
first_run mask (LiteralOf n) some all first =
    let size = length-content mask (LiteralOf n) first in
    run_is (Literal (take n mask)) (omega (arith, first.least)) (omega (arith, first.most)) (All-take (λ byte. byte < 256) n mask all)
first_run mask (RepeatOf n) some all first =
    let size = length-content mask (RepeatOf n) first in
    run_is (Repeat n (get_or mask 0 0)) (omega (arith, first.least)) (omega (arith, first.most))
    (All-cons (λ byte. byte < 256) (get_or mask 0 0) [] (All-get_or (λ byte. byte < 256) mask 0 0 some all) (All-nil (λ byte. byte < 256)))

first_gives : (mask : List ℕ) (choice : Choice) → IsFirstChoice mask choice → piece_content (piece_of mask choice) ++ drop (count_in choice) mask ≡ mask
first_gives mask (LiteralOf n) first = take-append-drop n mask
first_gives mask (RepeatOf n) first =
    elim (cases_lt (equal_bytes mask) 5) as (λ _. replicate n (get_or mask 0 0) ++ drop n mask ≡ mask) [
      | inl few ↦
          let other : first_piece mask ≡ Literal (take (min (before_repeat mask) 32767) mask) = ap (λ b. cond b (Repeat (min (equal_bytes mask) 32767) (get_or mask 0 0)) (Literal (take (min (before_repeat mask) 32767) mask))) (lt-leb 5 (equal_bytes mask) few) in
          let here = first.piece in
          absurd cc
      | inr many ↦
          let this : first_piece mask ≡ Repeat (min (equal_bytes mask) 32767) (get_or mask 0 0) = ap (λ b. cond b (Repeat (min (equal_bytes mask) 32767) (get_or mask 0 0)) (Literal (take (min (before_repeat mask) 32767) mask))) (le-leb 5 (equal_bytes mask) many) in
          let here : Repeat (min (equal_bytes mask) 32767) (get_or mask 0 0) ≡ Repeat n (get_or mask 0 0) = sym this ∙ first.piece in
          let times : min (equal_bytes mask) 32767 ≡ n = cc in
          ap (λ xs. xs ++ drop n mask) (front_equal mask n (omega arith)) ∙ take-append-drop n mask
    ]

-- what is written for a mask are runs of it
chosen_joined : (n : ℕ) (mask : List ℕ) → length mask ≤ n → All (λ byte. byte < 256) mask → AreJoinedRuns (flat_map piece_bytes (chosen_pieces mask)) mask
chosen_joined n [] short all = joined_none
chosen_joined zero (x ∷ xs) short all = absurd (omega arith)
chosen_joined (suc n) (x ∷ xs) short all =
    let mask = x ∷ xs in
    let some : 0 < length mask = omega arith in
    let choice = (choice_of mask some).0 in
    let first = (choice_of mask some).1 in
    let rest = chosen_joined n (drop (count_in choice) mask) (omega (arith, length-drop (count_in choice) mask, first.least)) (All-drop (λ byte. byte < 256) (count_in choice) mask all) in
    let run = run_of (piece_of mask choice) in
    let more : AreJoinedRuns (piece_bytes (piece_of mask choice) ++ flat_map piece_bytes (chosen_pieces (drop (count_in choice) mask))) (run_content run ++ drop (count_in choice) mask) =
    joined_cons (flat_map piece_bytes (chosen_pieces (drop (count_in choice) mask))) (drop (count_in choice) mask) run (first_run mask choice some all first) rest in
    subst (AreJoinedRuns (flat_map piece_bytes (chosen_pieces mask))) (first_gives mask choice first) (subst (λ (bytes : List ℕ). AreJoinedRuns bytes (run_content run ++ drop (count_in choice) mask)) (sym (runs_more mask choice some first)) more)

pub chosen_are_runs : (mask : List ℕ) → All (λ byte. byte < 256) mask → Runs (chosen_runs mask) mask
chosen_are_runs mask all = (flat_map piece_bytes (chosen_pieces mask), (refl, chosen_joined (length mask) mask (omega arith) all))
