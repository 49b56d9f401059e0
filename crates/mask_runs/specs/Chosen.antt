-- The runs that are written for a mask, of all those that could be.
use Rattle.std.specs.Prelude.{ℕ, zero, suc, ◌≡◌, ◌<◌, ◌+◌, ◌-◌, min, nat_le, ◌==◌, if◌then◌else◌, List, [], ◌∷◌, ◌++◌, length, take, drop, slice_index, flat_map}
use Rattle.std.specs.List.{prefix_len}
use Rattle.std.specs.Int.{cast_unsigned, w16}
use Rattle.byteorder.specs.Endian.{little_bytes}
use Rattle.mask_runs.specs.Runs.{MaskPiece, Literal, Repeat, piece_content, piece_count, piece_body, end_mark}

-- how many equal bytes come first
abbrev pub equal_bytes : List ℕ → ℕ
equal_bytes mask = prefix_len (λ byte. byte == slice_index mask 0) mask

-- how many bytes stand before the first place from which five or more are equal: all, where there
-- is no such place
abbrev pub before_repeat : List ℕ → ℕ
before_repeat [] = 0
before_repeat (byte ∷ mask) =
    if nat_le 5 (equal_bytes (byte ∷ mask)) then 0 else 1 + before_repeat mask

-- The first piece of a mask: a repeat where five or more equal bytes come first; else a literal up
-- to the next place where they do, or up to the mask's end. No piece gives more than 32,767 bytes.
abbrev pub first_piece : List ℕ → MaskPiece
first_piece mask = if nat_le 5 (equal_bytes mask)
    then Repeat (min (equal_bytes mask) 32767) (slice_index mask 0)
    else Literal (take (min (before_repeat mask) 32767) mask)

-- The pieces are those that are chosen for a mask: none of no bytes; else its first piece, and then
-- those that are chosen for what that piece leaves.
abbrev pub AreChosenPieces : List MaskPiece → List ℕ → Type 0
AreChosenPieces [] mask = mask ≡ []
AreChosenPieces (piece ∷ pieces) mask =
    (0 < length mask) × ((piece ≡ first_piece mask)
    × AreChosenPieces pieces (drop (length (piece_content piece)) mask))

-- The same pieces as a list: a law, `pieces_are_chosen`, says that they are chosen, and that no
-- others are. So nobody has to follow how it skips the bytes of a piece.

-- the pieces of a mask without its first n bytes
abbrev pub pieces_after : ℕ → List ℕ → List MaskPiece
pieces_after n [] = []
pieces_after (suc n) (byte ∷ mask) = pieces_after n mask
pieces_after zero (byte ∷ mask) =
    first_piece (byte ∷ mask)
    ∷ pieces_after (length (piece_content (first_piece (byte ∷ mask))) - 1) mask

abbrev pub chosen_pieces : List ℕ → List MaskPiece
chosen_pieces mask = pieces_after 0 mask

-- what is written for a piece: its count in two bytes, the lower one first, in two's complement,
-- and its body
abbrev pub piece_bytes : MaskPiece → List ℕ
piece_bytes piece = little_bytes 2 (cast_unsigned w16 (piece_count piece)) ++ piece_body piece

-- the chosen runs of a mask, with the end mark
abbrev pub chosen_runs : List ℕ → List ℕ
chosen_runs mask = flat_map piece_bytes (chosen_pieces mask) ++ end_mark
