-- What a step of the writer makes of the bytes that stand so far.
use Rattle.std.proofs.Common.{◌≡◌, ℕ, ◌+◌, ◌-◌, ◌*◌, ◌<◌, ◌≤◌, List, [], ◌++◌, length, take, drop, flat_map, refl, sym, ap, ◌∙◌, subst, arith}
use Rattle.std.proofs.lemmas.List.{append_assoc, length-append, length-drop, length-take-le, drop-drop, drop_all, take_all, take_rest}
use Rattle.byteorder.specs.Endian.{little_bytes}
use borrow.Rule.Slice.PartMut.{put_mid, post_of}
use Rattle.mask_runs.specs.declared.write.Choice.{Choice}
use Rattle.mask_runs.specs.declared.write.Choice.TheVariants.{Literal as LiteralOf, Repeat as RepeatOf}
use Rattle.mask_runs.specs.Runs.{end_mark}
use Rattle.mask_runs.specs.Chosen.{chosen_pieces, piece_bytes, chosen_runs}
use Rattle.mask_runs.specs.inside.Steps.{IsFirstChoice, piece_of, count_in, size_in}
use Rattle.mask_runs.proofs.Chosen.{length-written, runs_more_at, runs_done}
use Rattle.mask_runs.proofs.Steps.{take_put}

-- a count and then the bytes of a literal are written
pub literal_written : (mask out buf part : List ℕ) (choice : Choice) (n x : ℕ) → choice ≡ LiteralOf n → IsFirstChoice mask choice → buf ≡ little_bytes 2 x ++ drop 2 out → x ≡ n → part ≡ take n mask
    → take 2 buf ++ (part ++ post_of 2 (2 + n - 2) buf) ≡ piece_bytes (piece_of mask choice) ++ drop (size_in choice) out
literal_written mask out buf part choice n x is first wrote x_is copied =
    let within : n ≤ length mask = subst (λ ch. count_in ch ≤ length mask) is first.within in
    let number : x ≡ length (take n mask) = x_is ∙ sym (length-take-le n mask within) in
    let rest : drop (2 + n - 2) (drop 2 out) ≡ drop (2 + n) out = let k : 2 + (2 + n - 2) ≡ 2 + n = omega arith in drop-drop (2 + n - 2) 2 out ∙ ap (λ m. drop m out) k in
    let here : take 2 buf ++ (part ++ post_of 2 (2 + n - 2) buf) ≡ piece_bytes (piece_of mask (LiteralOf n)) ++ drop (2 + n) out =
    ap (λ b. take 2 b ++ (part ++ post_of 2 (2 + n - 2) b)) wrote
    ∙ ap (λ y. little_bytes 2 y ++ (part ++ drop (2 + n - 2) (drop 2 out))) number
    ∙ ap (λ p. little_bytes 2 (length (take n mask)) ++ (p ++ drop (2 + n - 2) (drop 2 out))) copied
    ∙ ap (λ r. little_bytes 2 (length (take n mask)) ++ (take n mask ++ r)) rest in
    subst (λ ch. take 2 buf ++ (part ++ post_of 2 (2 + n - 2) buf) ≡ piece_bytes (piece_of mask ch) ++ drop (size_in ch) out) (sym is) here

-- What the writer of the length knows at a place of the mask.
pub record Measuring (mask : List ℕ) (size at : ℕ) : Type 0 where
  pub within : at ≤ length mask
  pub small : size ≤ 3 * at + 2
  pub told : size + length (flat_map piece_bytes (chosen_pieces (drop at mask))) ≡ length (chosen_runs mask)

pub measuring_none : (mask : List ℕ) → Measuring mask 2 0
measuring_none mask = record { within = omega arith; small = omega arith; told = omega (arith, length-append (flat_map piece_bytes (chosen_pieces mask)) end_mark) }

pub measuring_more : (mask : List ℕ) (size at : ℕ) (choice : Choice) → at < length mask → Measuring mask size at → IsFirstChoice (drop at mask) choice → Measuring mask (size + size_in choice) (at + count_in choice)
measuring_more mask size at choice below m first =
    let more = ap length (runs_more_at mask at choice below first) ∙ length-append (piece_bytes (piece_of (drop at mask) choice)) (flat_map piece_bytes (chosen_pieces (drop (at + count_in choice) mask))) in
    let size_is = length-written (drop at mask) choice first in
    let small = size_small choice first.least in
    record {
      within = omega (arith, first.within, length-drop at mask);
      small = omega (arith, m.small);
      told = omega (arith, m.told);
    }
  where
    size_small : (choice : Choice) → 1 ≤ count_in choice → size_in choice ≤ 3 * count_in choice
    size_small (LiteralOf n) some = omega arith
    size_small (RepeatOf n) some = omega arith

pub measured : (mask : List ℕ) (size at : ℕ) → length mask ≤ at → Measuring mask size at → size ≡ length (chosen_runs mask)
measured mask size at all m = omega (arith, m.told, ap length (runs_done mask at all))

-- What the writer knows at a place of the mask.
pub record Written (mask out : List ℕ) (at end : ℕ) : Type 0 where
  pub within : at ≤ length mask
  pub room : end + length (flat_map piece_bytes (chosen_pieces (drop at mask)) ++ end_mark) ≡ length out
  pub told : take end out ++ (flat_map piece_bytes (chosen_pieces (drop at mask)) ++ end_mark) ≡ chosen_runs mask

-- a write to the rest of a list keeps its length
put_keeps_length : (out new : List ℕ) (end : ℕ) → end ≤ length out → length new ≡ length (take (length out - end) (drop end out)) → length (put_mid end (length out - end) out new) ≡ length out
put_keeps_length out new end within as_long =
    let left : length new ≡ length out - end = as_long ∙ ap length (take_rest out end) ∙ length-drop end out in
    let none : post_of end (length out - end) out ≡ [] = drop_all (length out - end) (drop end out) (omega (arith, length-drop end out)) in
    omega (arith, length-append (take end out) (new ++ post_of end (length out - end) out), length-append new (post_of end (length out - end) out), ap length none, length-take-le end out within)

pub written_none : (mask out : List ℕ) → length out ≡ length (chosen_runs mask) → Written mask out 0 0
written_none mask out room = record { within = omega arith; room = omega arith; told = refl }

-- the first piece fits in what is left
pub written_room : (mask out : List ℕ) (at end : ℕ) (choice : Choice) → at < length mask → Written mask out at end → IsFirstChoice (drop at mask) choice → size_in choice ≤ length (take (length out - end) (drop end out))
written_room mask out at end choice below w first =
    let left = flat_map piece_bytes (chosen_pieces (drop (at + count_in choice) mask)) in
    let piece = piece_bytes (piece_of (drop at mask) choice) in
    omega (
      arith,
      w.room,
      ap (λ xs. length (xs ++ end_mark)) (runs_more_at mask at choice below first),
      length-append (piece ++ left) end_mark,
      length-append piece left,
      length-written (drop at mask) choice first,
      ap length (take_rest out end),
      length-drop end out,
    )

pub written_more : (mask out new rest : List ℕ) (at end : ℕ) (choice : Choice) → at < length mask → Written mask out at end → IsFirstChoice (drop at mask) choice
    → new ≡ piece_bytes (piece_of (drop at mask) choice) ++ rest → length new ≡ length (take (length out - end) (drop end out))
    → Written mask (put_mid end (length out - end) out new) (at + count_in choice) (end + size_in choice)
written_more mask out new rest at end choice below w first wrote as_long =
    let kept = put_keeps_length out new end (omega (arith, w.room)) as_long in
    let left = flat_map piece_bytes (chosen_pieces (drop (at + count_in choice) mask)) in
    let piece = piece_bytes (piece_of (drop at mask) choice) in
    let more : flat_map piece_bytes (chosen_pieces (drop at mask)) ++ end_mark ≡ piece ++ (left ++ end_mark) =
    ap (λ xs. xs ++ end_mark) (runs_more_at mask at choice below first) ∙ append_assoc piece left end_mark in
    let size = length-written (drop at mask) choice first in
    let put = take_put out new piece rest end (length out - end) (size_in choice) (omega (arith, w.room)) wrote size in
    record {
      within = omega (arith, first.within, length-drop at mask);
      room = omega (arith, w.room, ap length more, length-append piece (left ++ end_mark));
      told = ap (λ xs. xs ++ (left ++ end_mark)) put.1 ∙ append_assoc (take end out) piece (left ++ end_mark) ∙ ap (λ xs. take end out ++ xs) (sym more) ∙ w.told;
    }

pub written_end : (mask out new rest : List ℕ) (at end : ℕ) → length mask ≤ at → Written mask out at end → new ≡ end_mark ++ rest → length new ≡ length (take (length out - end) (drop end out))
    → put_mid end (length out - end) out new ≡ chosen_runs mask
written_end mask out new rest at end all w wrote as_long =
    let kept = put_keeps_length out new end (omega (arith, w.room)) as_long in
    let none : flat_map piece_bytes (chosen_pieces (drop at mask)) ++ end_mark ≡ end_mark = ap (λ xs. xs ++ end_mark) (runs_done mask at all) in
    let room : end + 2 ≡ length out = ap (λ xs. end + length xs) (sym none) ∙ w.room in
    let put = take_put out new end_mark rest end (length out - end) 2 (omega arith) wrote refl in
    sym (take_all (end + 2) (put_mid end (length out - end) out new) (omega arith)) ∙ put.1 ∙ ap (λ xs. take end out ++ xs) (sym none) ∙ w.told
