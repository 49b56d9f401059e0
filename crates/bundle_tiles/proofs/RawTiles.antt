-- Tiles are parts, and how they are taken.
use Rattle.std.proofs.Common.{◌≡◌, inl, inr, ℕ, ◌+◌, ◌*◌, ◌<◌, ◌≤◌, List, [], ◌++◌, length, get_or, take, drop, Option, Some, None, refl, sym, ap, ◌∙◌, subst, arith, append_assoc, length-append}
use Rattle.std.proofs.lemmas.List.{append-nil}
use Rattle.first_fault.specs.Faults.{none, wrong, unless, moved}
use Rattle.first_fault.specs.Parts.{IsSingle, IsPart}
use Rattle.first_fault.proofs.Parts.{single-none, single-unless, single-in_order, passed, behind_it, same_rest}
use Rattle.outside_io.specs.streams.Source.{IsAtEnd, TakesFront}
use Rattle.raster_grids.specs.Taken.{TookBytes}
use Rattle.raster_grids.proofs.Taken.{ended}
use Rattle.raster_grids.proofs.TakenBytes.{took_join}
use Rattle.bundle_store.specs.declared.tile_rec.TileRec.{TileRec}
use Rattle.tile_stream.proofs.Fronts.{head_of_all, split_heads}
use Rattle.bundle_tiles.specs.declared.raw_tile.RawHead.{RawHead}
use Rattle.bundle_tiles.specs.declared.raw_tile.RawReason.{RawReason}
use Rattle.bundle_tiles.specs.declared.raw_tile.RawReason.TheVariants.{BadTileMark, BadRow, BadCol, Truncated, BadSize}
use Rattle.bundle_tiles.specs.declared.raw_tile.RawStop.{RawStop}
use Rattle.bundle_tiles.specs.declared.raw_tile.RawStop.TheVariants.{Fault, Source, OutOfMemory}
use Rattle.bundle_tiles.specs.RawTile.{IsRawHead, IsRawSize, IsRawTile, IsToldRaw, RawTilesAreParts, TookRaw, body_faults, col_faults, mark_faults, raw_cut, raw_faults, raw_head_faults, row_faults, size_faults, size_in}
use Rattle.bundle_tiles.specs.inside.Pieces.{IsToldBody}

-- ---- the bytes in front

head_once : (a b s t : List ℕ) (x y : RawHead) → IsRawHead a x → IsRawHead b y → a ++ s ≡ b ++ t → (a ≡ b) × (x ≡ y)
head_once a b s t x y ha hb e =
    let same : a ≡ b = split_heads a b s t 7 ha.long hb.long e in (
      same,
      λ i. record {
        slot = (ha.slot_is ∙ ap (λ (u : List ℕ). 128 * get_or u 1 0 + get_or u 2 0) same ∙ sym hb.slot_is) i;
        size = (ha.size_is ∙ ap size_in same ∙ sym hb.size_is) i;
      },
    )

no_head_fault : (a : List ℕ) (x : RawHead) (p : ℕ) (r : RawReason) → IsRawHead a x → mark_faults a p r → ⊥
no_head_fault a x p r h w =
    let size : IsRawSize (size_in a) = subst IsRawSize h.size_is h.size in
    let t1 = passed (1 ≤ length a) (unless (get_or a 0 0 ≡ 82) (wrong BadTileMark 0) (row_faults a)) (raw_cut a) (omega (arith, h.long)) p r w in
    let t2 = passed (get_or a 0 0 ≡ 82) (row_faults a) (wrong BadTileMark 0) h.mark p r t1 in
    let t3 = passed (2 ≤ length a) (unless (get_or a 1 0 ≤ 127) (wrong BadRow 1) (col_faults a)) (raw_cut a) (omega (arith, h.long)) p r t2 in
    let t4 = passed (get_or a 1 0 ≤ 127) (col_faults a) (wrong BadRow 1) h.row p r t3 in
    let t5 = passed (3 ≤ length a) (unless (get_or a 2 0 ≤ 127) (wrong BadCol 2) (size_faults a)) (raw_cut a) (omega (arith, h.long)) p r t4 in
    let t6 = passed (get_or a 2 0 ≤ 127) (size_faults a) (wrong BadCol 2) h.col p r t5 in
    let t7 = passed (7 ≤ length a) (unless (IsRawSize (size_in a)) (wrong BadSize 3) none) (raw_cut a) (omega (arith, h.long)) p r t6 in
    passed (IsRawSize (size_in a)) none (wrong BadSize 3) size p r t7

one_mark : (a : List ℕ) → IsSingle (mark_faults a)
one_mark a =
    let size : IsSingle (size_faults a) = single-unless (7 ≤ length a) Truncated (length a) (unless (IsRawSize (size_in a)) (wrong BadSize 3) none) (single-unless (IsRawSize (size_in a)) BadSize 3 none single-none) in
    let col : IsSingle (col_faults a) = single-unless (3 ≤ length a) Truncated (length a) (unless (get_or a 2 0 ≤ 127) (wrong BadCol 2) (size_faults a)) (single-unless (get_or a 2 0 ≤ 127) BadCol 2 (size_faults a) size) in
    let row : IsSingle (row_faults a) = single-unless (2 ≤ length a) Truncated (length a) (unless (get_or a 1 0 ≤ 127) (wrong BadRow 1) (col_faults a)) (single-unless (get_or a 1 0 ≤ 127) BadRow 1 (col_faults a) col) in
    single-unless (1 ≤ length a) Truncated (length a) (unless (get_or a 0 0 ≡ 82) (wrong BadTileMark 0) (row_faults a)) (single-unless (get_or a 0 0 ≡ 82) BadTileMark 0 (row_faults a) row)

head_part : IsPart IsRawHead raw_head_faults
head_part = record {
  once = head_once;
  either = λ a s x p r h w. no_head_fault a x p r h (subst (λ (u : List ℕ). mark_faults u p r) (head_of_all 7 a s (let few : length a ≤ 7 = omega (arith, h.long) in few) (λ fewer. absurd (let no : ⊥ = omega (arith, h.long) in no))) w);
  single = λ bytes. one_mark (take 7 bytes);
}

-- ---- the tile

single-body : (h : RawHead) (rest : List ℕ) → IsSingle (body_faults h.size rest)
single-body h rest = single-unless (h.size ≤ length rest) Truncated (length rest) none single-none

-- bytes of the size have no fault of their own
no_body_fault : (size : ℕ) (bytes s : List ℕ) (p : ℕ) (r : RawReason) → length bytes ≡ size → body_faults size (bytes ++ s) p r → ⊥
no_body_fault size bytes s p r long w =
    passed (size ≤ length (bytes ++ s)) none (raw_cut (bytes ++ s)) (omega (arith, long, length-append bytes s)) p r w

tile_once : (a b s t : List ℕ) (x y : TileRec) → IsRawTile a x → IsRawTile b y → a ++ s ≡ b ++ t → (a ≡ b) × (x ≡ y)
tile_once a b s t x y ta tb e =
    let joined : ta.head ++ (x.bytes ++ s) ≡ tb.head ++ (y.bytes ++ t) =
    sym (append_assoc ta.head x.bytes s) ∙ sym (ap (λ (u : List ℕ). u ++ s) ta.joined) ∙ e ∙ ap (λ (u : List ℕ). u ++ t) tb.joined ∙ append_assoc tb.head y.bytes t in
    let heads = head_once ta.head tb.head (x.bytes ++ s) (y.bytes ++ t) _ _ ta.head_is tb.head_is joined in
    let rests : x.bytes ++ s ≡ y.bytes ++ t = same_rest ta.head tb.head (x.bytes ++ s) (y.bytes ++ t) heads.0 joined in
    let long : length x.bytes ≡ length y.bytes = ap (λ (h : RawHead). h.size) heads.1 in
    let bodies : x.bytes ≡ y.bytes = split_heads x.bytes y.bytes s t (length y.bytes) long refl rests in
    let slots : x.slot ≡ y.slot = ap (λ (h : RawHead). h.slot) heads.1 in
    (ta.joined ∙ (λ i. heads.0 i ++ bodies i) ∙ sym tb.joined, λ i. record { slot = slots i; bytes = bodies i })

pub raw_part : RawTilesAreParts
raw_part = record {
  once = tile_once;
  either = λ a s x p r is w.
      let split : a ++ s ≡ is.head ++ (x.bytes ++ s) = ap (λ (u : List ℕ). u ++ s) is.joined ∙ append_assoc is.head x.bytes s in
      let later = behind_it IsRawHead raw_head_faults (λ h rest. body_faults h.size rest) head_part is.head (x.bytes ++ s) (record { slot = x.slot; size = length x.bytes }) is.head_is p r (subst (λ (u : List ℕ). raw_faults u p r) split w) in
      no_body_fault (length x.bytes) x.bytes s later.0 r refl later.1.1;
  single = λ bytes. single-in_order IsRawHead raw_head_faults (λ h rest. body_faults h.size rest) head_part single-body bytes;
}

-- ---- sizes

-- a tile that was read is one that a bundle can hold
pub raw_fits : (bytes : List ℕ) (t : TileRec) → IsRawTile bytes t → (0 < length t.bytes) × (length t.bytes < 16777216)
raw_fits bytes t is = (is.head_is.size.0, omega (arith, is.head_is.size.1))

pub raw_long : (bytes : List ℕ) (t : TileRec) → IsRawTile bytes t → length bytes ≡ 7 + length t.bytes
raw_long bytes t is = let size : length bytes ≡ length (is.head ++ t.bytes) = ap length is.joined in omega (arith, length-append is.head t.bytes, is.head_is.long)

-- ---- taking

-- what is wrong in the bytes in front, of which these were taken
pub head_told : (old new : Option (List ℕ)) (at p place : ℕ) (reason : RawReason) (bytes : List ℕ) → TookBytes old new bytes → 0 < length bytes → length bytes ≤ 7 → place ≡ at + p
    → ((rest : List ℕ) → new ≡ Some rest → length bytes < 7 → rest ≡ []) → mark_faults bytes p reason → IsToldRaw old at (Fault (record { reason = reason; place = place }))
head_told None new at p place reason bytes took some few is end w = tt
head_told (Some left) new at p place reason bytes (rest, (joined, then)) some few is end w =
    let all : take 7 (bytes ++ rest) ≡ bytes = head_of_all 7 bytes rest few (end rest then) in
    let fault : raw_faults (bytes ++ rest) p reason = inl (subst (λ (u : List ℕ). mark_faults u p reason) (sym all) w) in
    ((let size : length left ≡ length (bytes ++ rest) = ap length joined in omega (arith, length-append bytes rest)), (p, (is, subst (λ (u : List ℕ). raw_faults u p reason) (sym joined) fault)))

-- what is wrong behind them
pub body_told : (h : RawHead) (old mid : Option (List ℕ)) (head : List ℕ) (at next : ℕ) (stop : RawStop) → IsRawHead head h → TookBytes old mid head → next ≡ at + 7 → IsToldBody mid next h.size stop → IsToldRaw old at stop
body_told h None mid head at next (Fault f) stands took is w = tt
body_told h None mid head at next Source stands took is w = tt
body_told h None mid head at next OutOfMemory stands took is w = tt
body_told h (Some left) mid head at next Source stands took is w = tt
body_told h (Some left) mid head at next OutOfMemory stands took is w = tt
body_told h (Some left) mid head at next (Fault f) stands (rest, (joined, then)) is w =
    later (subst (λ (o : Option (List ℕ)). IsToldBody o next h.size (Fault f)) then w)
  where
    later : moved next (body_faults h.size rest) f.place f.reason → IsToldRaw (Some left) at (Fault f)
    later (p, (there, wrong_)) =
        let size : length left ≡ length (head ++ rest) = ap length joined in
        let fault : raw_faults (head ++ rest) (length head + p) f.reason = inr (record { front = head; rest = rest; value = h; joined = refl; stands = stands; later = (p, (refl, wrong_)) }) in
        (omega (arith, size, length-append head rest, stands.long), (length head + p, ((let e : f.place ≡ at + (length head + p) = omega (arith, is, stands.long, there) in e), subst (λ (u : List ℕ). raw_faults u (length head + p) f.reason) (sym joined) fault)))

-- fewer bytes than the size were there
pub body_cut : (old new : Option (List ℕ)) (at size n place : ℕ) (bytes : List ℕ) → TookBytes old new bytes → length bytes ≡ n → n < size → IsAtEnd new → place ≡ at + n
    → IsToldBody old at size (Fault (record { reason = Truncated; place = place }))
body_cut None new at size n place bytes took long less end is = tt
body_cut (Some left) new at size n place bytes (rest, (joined, then)) long less end is =
    let none : rest ≡ [] = ended new rest end then in
    let all : left ≡ bytes = joined ∙ ap (λ (u : List ℕ). bytes ++ u) none ∙ append-nil bytes in
    let many : length left ≡ n = ap length all ∙ long in
    (n, (is, inr ((λ enough. let no : ⊥ = omega (arith, many, less, enough) in no), (sym many, refl))))

-- no byte was left
pub none_left : (old new : Option (List ℕ)) (n : ℕ) (buf : List ℕ) → n ≡ 0 → IsAtEnd new → TakesFront old new n buf → TookRaw old new None
none_left None new n buf zero end took = took
none_left (Some left) new n buf zero end took =
    let is : new ≡ Some left = took.0 ∙ ap (λ (k : ℕ). Some (drop k left)) zero in
    let empty : left ≡ [] = ended new left end is in
    (empty, is ∙ ap Some empty)

-- the bytes in front were taken, and the tile's own behind them
pub raw_taken : (old mid new : Option (List ℕ)) (head : List ℕ) (h : RawHead) (tile : TileRec) → IsRawHead head h → tile.slot ≡ h.slot → length tile.bytes ≡ h.size → TookBytes old mid head → TookBytes mid new tile.bytes → TookRaw old new (Some tile)
raw_taken old mid new head h tile head_is slot size first second =
    let is : IsRawHead head (record { slot = tile.slot; size = length tile.bytes }) = subst (IsRawHead head) (λ i. record { slot = sym slot i; size = sym size i }) head_is in
    (head ++ tile.bytes, (record { head = head; joined = refl; head_is = is }, took_join old mid new head tile.bytes first second))
