-- Bytes begin with a tile, or have a first fault.
use Rattle.std.proofs.Common.{◌≡◌, ℕ, ◌+◌, ◌*◌, ◌≤◌, List, ◌++◌, length, get_or, take, drop, refl, sym, ap, subst, ◌∙◌, arith, ◌⊎◌, inl, inr, append_assoc}
use Rattle.std.proofs.lemmas.Bool.{cases_eq}
use Rattle.std.proofs.lemmas.List.{length-take, length-take-le, take-append-drop}
use Rattle.first_fault.specs.Faults.{none, wrong, unless}
use Rattle.first_fault.specs.Parts.{AreBytes, InFront, HasFault, IsDecided}
use Rattle.first_fault.proofs.Decided.{Joined, decided_in_order, decided_unless}
use Rattle.tile_stream.proofs.Fronts.{at_most, the_fault}
use Rattle.bundle_tiles.specs.declared.raw_tile.RawHead.{RawHead}
use Rattle.bundle_tiles.specs.declared.raw_tile.RawReason.TheVariants.{BadTileMark, BadRow, BadCol, Truncated, BadSize}
use Rattle.bundle_tiles.specs.RawTile.{IsRawHead, IsRawSize, IsRawTile, RawTilesAreDecided, body_faults, col_faults, raw_cut, raw_faults, raw_head_faults, row_faults, size_faults, size_in}

is_size : (n : ℕ) → IsRawSize n ⊎ (¬ IsRawSize n)
is_size n = by (at_most 1 n) (at_most n 16777215)
  where
    by : (1 ≤ n) ⊎ (¬ (1 ≤ n)) → (n ≤ 16777215) ⊎ (¬ (n ≤ 16777215)) → IsRawSize n ⊎ (¬ IsRawSize n)
    by (inl some) (inl few) = inl (omega (arith, some), few)
    by (inr none_) few = inr (λ is. none_ (omega (arith, is.0)))
    by (inl some) (inr many) = inr (λ is. many is.1)

-- ---- the bytes in front

seven_bytes : (bytes : List ℕ) → 7 ≤ length (take 7 bytes) → length (take 7 bytes) ≡ 7
seven_bytes bytes long = omega (arith, length-take 7 bytes)

head_there : (bytes : List ℕ) → 7 ≤ length (take 7 bytes) → get_or (take 7 bytes) 0 0 ≡ 82 → get_or (take 7 bytes) 1 0 ≤ 127 → get_or (take 7 bytes) 2 0 ≤ 127 → IsRawSize (size_in (take 7 bytes)) → InFront IsRawHead bytes
head_there bytes long mark row col size = record {
  front = take 7 bytes;
  rest = drop 7 bytes;
  value = record { slot = 128 * get_or (take 7 bytes) 1 0 + get_or (take 7 bytes) 2 0; size = size_in (take 7 bytes) };
  joined = sym (take-append-drop 7 bytes);
  stands = record { long = seven_bytes bytes long; mark = mark; row = row; col = col; slot_is = refl; size_is = refl; size = size };
}

head_decided : IsDecided IsRawHead raw_head_faults
head_decided bytes are =
    let head = take 7 bytes in
    decided_unless (1 ≤ length head) (raw_cut head) (unless (get_or head 0 0 ≡ 82) (wrong BadTileMark 0) (row_faults head)) (at_most 1 (length head)) (the_fault Truncated (length head))
    (λ one. decided_unless (get_or head 0 0 ≡ 82) (wrong BadTileMark 0) (row_faults head) (cases_eq (get_or head 0 0) 82) (the_fault BadTileMark 0)
    (λ mark. decided_unless (2 ≤ length head) (raw_cut head) (unless (get_or head 1 0 ≤ 127) (wrong BadRow 1) (col_faults head)) (at_most 2 (length head)) (the_fault Truncated (length head))
    (λ two. decided_unless (get_or head 1 0 ≤ 127) (wrong BadRow 1) (col_faults head) (at_most (get_or head 1 0) 127) (the_fault BadRow 1)
    (λ row. decided_unless (3 ≤ length head) (raw_cut head) (unless (get_or head 2 0 ≤ 127) (wrong BadCol 2) (size_faults head)) (at_most 3 (length head)) (the_fault Truncated (length head))
    (λ three. decided_unless (get_or head 2 0 ≤ 127) (wrong BadCol 2) (size_faults head) (at_most (get_or head 2 0) 127) (the_fault BadCol 2)
    (λ col. decided_unless (7 ≤ length head) (raw_cut head) (unless (IsRawSize (size_in head)) (wrong BadSize 3) none) (at_most 7 (length head)) (the_fault Truncated (length head))
    (λ seven. decided_unless (IsRawSize (size_in head)) (wrong BadSize 3) none (is_size (size_in head)) (the_fault BadSize 3)
    (λ size. inl (head_there bytes seven mark row col size)))))))))

-- ---- the tile

-- so many bytes stand in front
record Behind (h : RawHead) (rest : List ℕ) (bytes : List ℕ) : Type 0 where
  pub behind : List ℕ
  pub joined : rest ≡ bytes ++ behind
  pub long : length bytes ≡ h.size

body_decided : (h : RawHead) (rest : List ℕ) → AreBytes rest → ((bytes : List ℕ) × Behind h rest bytes) ⊎ HasFault (body_faults h.size rest)
body_decided h rest are = by (at_most h.size (length rest))
  where
    by : (h.size ≤ length rest) ⊎ (¬ (h.size ≤ length rest)) → ((bytes : List ℕ) × Behind h rest bytes) ⊎ HasFault (body_faults h.size rest)
    by (inl enough) = inl (take h.size rest, record { behind = drop h.size rest; joined = sym (take-append-drop h.size rest); long = length-take-le h.size rest enough })
    by (inr few) = inr (record { place = length rest; reason = Truncated; fault = inr (few, (refl, refl)) })

tile_there : (bytes : List ℕ) → Joined IsRawHead Behind bytes → InFront IsRawTile bytes
tile_there bytes j =
    let same : j.first.value ≡ record { slot = j.first.value.slot; size = length j.last } = λ i. record { slot = j.first.value.slot; size = sym j.stands.long i } in
    record {
      front = j.first.front ++ j.last;
      rest = j.stands.behind;
      value = record { slot = j.first.value.slot; bytes = j.last };
      joined = j.first.joined ∙ ap (λ (u : List ℕ). j.first.front ++ u) j.stands.joined ∙ sym (append_assoc j.first.front j.last j.stands.behind);
      stands = record { head = j.first.front; joined = refl; head_is = subst (IsRawHead j.first.front) same j.first.stands };
    }

pub raw_decided : RawTilesAreDecided
raw_decided bytes are = by (decided_in_order IsRawHead raw_head_faults Behind (λ h behind. body_faults h.size behind) head_decided body_decided bytes are)
  where
    by : Joined IsRawHead Behind bytes ⊎ HasFault (raw_faults bytes) → InFront IsRawTile bytes ⊎ HasFault (raw_faults bytes)
    by (inl j) = inl (tile_there bytes j)
    by (inr w) = inr w
