-- Runs: the form in which a blob holds the bytes of a mask.
use Rattle.std.specs.Prelude.{◌≡◌, ℕ, ◌+◌, ◌*◌, ◌<◌, ◌≤◌, ℤ, pos, neg_ℤ, List, [], ◌∷◌, ◌++◌, length, replicate, flat_map, All}
use Rattle.byteorder.specs.Endian.{twos_complement}

-- A piece of a mask: a literal, which is some bytes as they are, or a repeat, which is one byte so
-- many times.
pub data MaskPiece : Type 0 where
  Literal : List ℕ → MaskPiece
  Repeat : ℕ → ℕ → MaskPiece

-- the bytes of the mask that a piece gives
abbrev pub piece_content : MaskPiece → List ℕ
piece_content (Literal bytes) = bytes
piece_content (Repeat times byte) = replicate times byte

-- the count of a piece: how many bytes of the mask it gives, below zero for a repeat
abbrev pub piece_count : MaskPiece → ℤ
piece_count (Literal bytes) = pos (length bytes)
piece_count (Repeat times byte) = neg_ℤ (pos times)

-- what follows the count: the bytes of a literal, or the byte that is repeated
abbrev pub piece_body : MaskPiece → List ℕ
piece_body (Literal bytes) = bytes
piece_body (Repeat times byte) = byte ∷ []

-- A run: a piece with the two bytes that stand for its count.
pub record MaskRun : Type 0 where
  pub low : ℕ
  pub high : ℕ
  pub piece : MaskPiece

-- the bytes of the mask that a run gives
abbrev pub run_content : MaskRun → List ℕ
run_content run = piece_content run.piece

-- the bytes that spell a run
abbrev pub spelling : MaskRun → List ℕ
spelling run = run.low ∷ run.high ∷ piece_body run.piece

-- the number that two bytes stand for: the lower byte first, in two's complement
abbrev pub number_in : ℕ → ℕ → ℤ
number_in low high = twos_complement 2 (low + 256 * high)

-- A run is spelled in bytes, its first two stand for the count of its piece, and it gives 1 to
-- 32,767 bytes.
pub record IsRun (run : MaskRun) : Type 0 where
  pub bytes : All (λ byte. byte < 256) (spelling run)
  pub count : number_in run.low run.high ≡ piece_count run.piece
  pub least : 1 ≤ length (run_content run)
  pub most : length (run_content run) ≤ 32767

-- The bytes spell some runs, one after the other, and the mask is what these give.
pub record AreJoinedRuns (bytes mask : List ℕ) : Type 0 where
  pub runs : List MaskRun
  pub each : All IsRun runs
  pub spelled : bytes ≡ flat_map spelling runs
  pub contents : mask ≡ flat_map run_content runs

-- the two bytes of the count -32768, which ends the runs
abbrev pub end_mark : List ℕ
end_mark = 0 ∷ 128 ∷ []

-- The bytes are runs of the mask: some runs, one after the other, and then the end mark.
abbrev pub Runs : List ℕ → List ℕ → Type 0
Runs bytes mask = (joined : List ℕ) × ((bytes ≡ joined ++ end_mark) × AreJoinedRuns joined mask)
