-- Streams.
use Rattle.std.proofs.Common.{◌≡◌, inl, inr, ℕ, ◌<◌, ◌≤◌, List, [], ◌∷◌, ◌++◌, length, sym, ap, ◌∙◌, subst, arith, append_assoc, length-append}
use Rattle.std.proofs.lemmas.Bool.{cases_lt}
use Rattle.std.proofs.lemmas.List.{append-nil}
use Rattle.first_fault.specs.Faults.{moved}
use Rattle.first_fault.proofs.Parts.{single-moved}
use Rattle.bundle_store.specs.declared.tile_rec.TileRec.{TileRec}
use Rattle.tile_stream.proofs.OneBehindAnother as parts
use Rattle.bundle_tiles.specs.declared.raw_tile.RawFault.{RawFault}
use Rattle.bundle_tiles.specs.RawStream.{IsRawStream, IsStreamFault, RawStreamsHaveNoFault, RawStreamsHaveOneFault, RawStreamsHaveOneList}
use Rattle.bundle_tiles.specs.RawTile.{IsRawTile, raw_faults}
use Rattle.bundle_tiles.proofs.RawTiles.{raw_long, raw_part}

-- one tile more
pub stream_push : (bytes more : List ℕ) (tiles : List TileRec) (t : TileRec) → IsRawStream bytes tiles → IsRawTile more t → IsRawStream (bytes ++ more) (tiles ++ t ∷ [])
stream_push bytes more tiles t is tile = parts.push IsRawTile bytes more tiles t is tile

-- two streams, one behind the other
pub stream_join : (a b : List ℕ) (xs ys : List TileRec) → IsRawStream a xs → IsRawStream b ys → IsRawStream (a ++ b) (xs ++ ys)
stream_join a b xs ys one two = parts.join IsRawTile a b xs ys one two

-- two streams in front of the same bytes: the longer one goes on behind the shorter one
goes_on : (front rest other behind : List ℕ) (tiles others : List TileRec) → IsRawStream front tiles → IsRawStream other others → front ++ rest ≡ other ++ behind → length tiles ≤ length others
    → parts.GoesOn IsRawTile front rest other behind tiles others
goes_on front rest other behind tiles others is its e fewer = parts.goes_on IsRawTile raw_faults raw_part front rest other behind tiles others is its e fewer

pub streams_once : RawStreamsHaveOneList
streams_once bytes tiles others one two = parts.list_once IsRawTile raw_faults raw_part (λ front t is. omega (arith, raw_long front t is)) bytes tiles others one two

-- ---- one first fault

-- behind the same tiles the fault is the same; and in front of a tile there is none
faults_meet : (fw rw fv rv middle : List ℕ) (later : List TileRec) (f g : RawFault) → fv ≡ fw ++ middle → rw ≡ middle ++ rv → IsRawStream middle later
    → moved (length fw) (raw_faults rw) f.place f.reason → moved (length fv) (raw_faults rv) g.place g.reason → f ≡ g
faults_meet fw rw fv rv middle [] f g fronts rests none one two =
    let rest : rv ≡ rw = sym (rests ∙ ap (λ (u : List ℕ). u ++ rv) none) in
    let front : fv ≡ fw = fronts ∙ ap (λ (u : List ℕ). fw ++ u) none ∙ append-nil fw in
    let other : moved (length fw) (raw_faults rw) g.place g.reason =
    subst (λ (u : List ℕ). moved (length u) (raw_faults rw) g.place g.reason) front (subst (λ (u : List ℕ). moved (length fv) (raw_faults u) g.place g.reason) rest two) in
    let same = single-moved (length fw) (raw_faults rw) (raw_part.single rw) f.place g.place f.reason g.reason one other in
    λ i. record { reason = same.1 i; place = same.0 i }
faults_meet fw rw fv rv middle (t ∷ ts) f g fronts rests (front, (rest, (joined, (tile, more)))) one two =
    let split : rw ≡ front ++ (rest ++ rv) = rests ∙ ap (λ (u : List ℕ). u ++ rv) joined ∙ append_assoc front rest rv in
    absurd (raw_part.either front (rest ++ rv) t one.0 f.reason tile (subst (λ (u : List ℕ). raw_faults u one.0 f.reason) split one.1.1))

fault_of_fewer : (bytes : List ℕ) (f g : RawFault) (w : IsStreamFault bytes f) (v : IsStreamFault bytes g) → length w.tiles ≤ length v.tiles → f ≡ g
fault_of_fewer bytes f g w v fewer =
    let on = goes_on w.begins.front w.rest v.begins.front v.rest w.tiles v.tiles w.begins.stream v.begins.stream (sym w.begins.joined ∙ v.begins.joined) fewer in
    faults_meet w.begins.front w.rest v.begins.front v.rest on.middle on.later f g on.bytes_are on.rest_is on.stream w.next v.next

pub one_fault : RawStreamsHaveOneFault
one_fault bytes f g w v = elim (cases_lt (length v.tiles) (length w.tiles)) [
  | inl more ↦ sym (fault_of_fewer bytes g f v w (omega (arith, more)))
  | inr fewer ↦ fault_of_fewer bytes f g w v fewer
]

-- a stream goes on behind all tiles of its front
no_rest : (fw rw bytes middle : List ℕ) (later : List TileRec) (f : RawFault) → rw ≡ middle ++ [] → IsRawStream middle later → 0 < length rw → moved (length fw) (raw_faults rw) f.place f.reason → ⊥
no_rest fw rw bytes middle [] f rests none more next = let size : length rw ≡ 0 = ap length (rests ∙ append-nil middle ∙ none) in omega (arith, size, more)
no_rest fw rw bytes middle (t ∷ ts) f rests (front, (rest, (joined, (tile, on)))) more next =
    let split : rw ≡ front ++ (rest ++ []) = rests ∙ ap (λ (u : List ℕ). u ++ []) joined ∙ append_assoc front rest [] in
    raw_part.either front (rest ++ []) t next.0 f.reason tile (subst (λ (u : List ℕ). raw_faults u next.0 f.reason) split next.1.1)

pub no_fault : RawStreamsHaveNoFault
no_fault bytes tiles f is w = elim (cases_lt (length tiles) (length w.tiles)) [
  | inl longer ↦ (let on = goes_on bytes [] w.begins.front w.rest tiles w.tiles is w.begins.stream (append-nil bytes ∙ w.begins.joined) (omega (arith, longer)) in
      let size : 0 ≡ length (on.middle ++ w.rest) = ap length on.rest_is in
      omega (arith, size, length-append on.middle w.rest, w.more))
  | inr fewer ↦ (let on = goes_on w.begins.front w.rest bytes [] w.tiles tiles w.begins.stream is (sym w.begins.joined ∙ sym (append-nil bytes)) fewer in
      no_rest w.begins.front w.rest bytes on.middle on.later f on.rest_is on.stream w.more w.next)
]
