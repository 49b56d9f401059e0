-- Tiles that are cut from bytes that were read at once.
use Rattle.std.proofs.Common.{◌≡◌, ℕ, ◌+◌, ◌-◌, ◌<◌, ◌≤◌, List, [], ◌++◌, length, get_or, take, drop, min, sym, ap, ◌∙◌, arith}
use Rattle.std.proofs.lemmas.List.{length-drop, length-take, places, same_lists}
use Rattle.outside_io.specs.volume.History.{ReadsAt}
use Rattle.bundle_index.specs.Entry.{entry_at}
use Rattle.bundle_index.specs.Numbers.{u32_at}
use Rattle.bundle_index.specs.declared.entry.Entry.{Entry}
use Rattle.bundle_index.proofs.Numbers.{same_u32}
use Rattle.bundle_store.specs.Ahead.{AheadBytes, HasPart, IsAheadOf}
use Rattle.bundle_store.specs.Session.{GetGives}

part_of : (s o k n : ℕ) (b : List ℕ) → s ≤ o → o + k ≤ s + n → take k (drop (o - s) (take n (drop s b))) ≡ take k (drop o b)
part_of s o k n b from within = same_lists _ _ (grind (arith, places)) (λ i d lt. grind (arith, places))

-- what is cut is what the bundle has there
pub cut_bytes : (bundle : List ℕ) (a : AheadBytes) (e : Entry) → IsAheadOf bundle a → HasPart a e → take e.size (drop (e.offset - a.start) a.bytes) ≡ take e.size (drop e.offset bundle)
cut_bytes bundle a e is part = ap (λ (l : List ℕ). take e.size (drop (e.offset - a.start) l)) is ∙ part_of a.start e.offset e.size (length a.bytes) bundle part.from part.within

-- it is cut from the room of which they are the front
pub cut_room : (start count : ℕ) (room : List ℕ) (e : Entry) → count ≤ length room → HasPart (record { start = start; bytes = take count room }) e → take e.size (drop (e.offset - start) room) ≡ take e.size (drop (e.offset - start) (take count room))
cut_room start count room e most part =
    let from = part.from in
    let within = part.within in
    same_lists _ _ (grind (arith, places)) (λ i d lt. grind (arith, places))

ahead_within : (bundle : List ℕ) (a : AheadBytes) → IsAheadOf bundle a → 0 < length a.bytes → a.start + length a.bytes ≤ length bundle
ahead_within bundle a is some =
    let long : length a.bytes ≡ min (length a.bytes) (length bundle - a.start) = ap length is ∙ length-take (length a.bytes) (drop a.start bundle) ∙ ap (min (length a.bytes)) (length-drop a.start bundle) in
    omega (arith, long, some)

-- and it is the slot's tile
pub cut_gives : (bundle : List ℕ) (slot : ℕ) (a : AheadBytes) (e : Entry) (tile : List ℕ) → e ≡ entry_at bundle slot → 0 < e.size → IsAheadOf bundle a → HasPart a e → tile ≡ take e.size (drop (e.offset - a.start) a.bytes) → GetGives bundle slot tile
cut_gives bundle slot a e tile entry some is part cut =
    let size_is = ap (λ (x : Entry). x.size) entry in
    let offset_is = ap (λ (x : Entry). x.offset) entry in
    let whole = ahead_within bundle a is (omega (arith, some, part.from, part.within)) in
    record {
      some = omega (arith, size_is, some);
      within = omega (arith, size_is, offset_is, part.within, whole);
      bytes = cut ∙ cut_bytes bundle a e is part ∙ ap (λ (x : Entry). take x.size (drop x.offset bundle)) entry;
    }

-- bytes that were read into the front of the room stand there
pub ahead_read : (bundle : List ℕ) (start got : ℕ) (old buf rest : List ℕ) → ReadsAt bundle start got old buf → IsAheadOf bundle (record { start = start; bytes = take got (buf ++ rest) })
ahead_read bundle start got old buf rest read =
    let count = read.count in
    let front : take got (buf ++ rest) ≡ take got (drop start bundle) = ap (λ (l : List ℕ). take got (l ++ rest)) read.bytes ∙ same_lists _ _ (grind (arith, places)) (λ i d lt. grind (arith, places)) in
    let long : length (take got (buf ++ rest)) ≡ got = ap length front ∙ length-take got (drop start bundle) ∙ omega (arith, count, length-drop start bundle) in
    front ∙ ap (λ n. take n (drop start bundle)) (sym long)

-- and no bytes stand anywhere
pub ahead_none : (bundle : List ℕ) (a : AheadBytes) → a.bytes ≡ [] → IsAheadOf bundle a
ahead_none bundle a none = none ∙ sym (ap (λ n. take n (drop a.start bundle)) (ap length none))

cut_at : (n at i d : ℕ) (c : List ℕ) → i < n → get_or (take n (drop at c)) i d ≡ get_or c (at + i) d
cut_at n at i d c lt = grind (arith, places)

-- a number that stands among them
pub cut_word : (bundle room : List ℕ) (start count at : ℕ) → count ≤ length room → IsAheadOf bundle (record { start = start; bytes = take count room }) → HasPart (record { start = start; bytes = take count room }) (record { offset = at; size = 4 })
    → u32_at (take 4 (drop (at - start) room)) 0 ≡ u32_at bundle at
cut_word bundle room start count at most is part =
    let a : AheadBytes = record { start = start; bytes = take count room } in
    let e : Entry = record { offset = at; size = 4 } in
    ap (λ (l : List ℕ). u32_at l 0) (cut_room start count room e most part ∙ cut_bytes bundle a e is part)
    ∙ same_u32 (take 4 (drop at bundle)) bundle 0 at (λ i lt. cut_at 4 at (0 + i) 0 bundle (omega arith) ∙ ap (λ (m : ℕ). get_or bundle m 0) (let n : at + (0 + i) ≡ at + i = omega arith in n))
