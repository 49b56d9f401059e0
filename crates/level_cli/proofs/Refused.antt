-- A run that is refused, and of which no object fails, ends with its first refusal.
use Rattle.std.proofs.Common.{◌≡◌, ◌⊎◌, inl, inr, ℕ, ◌+◌, ◌<◌, ◌≤◌, ◌^◌, ◌/◌, ◌%◌, List, length, Bool, Option, Some, Result, Ok, Err, refl, sym, subst, ap, ◌∙◌, arith}
use Rattle.std.specs.Prelude.{IfErr, IsTrue, OnOk}
use Rattle.outside_io.specs.volume.History.{History}
use Rattle.bundle_store.specs.declared.fault.StoreFault.{StoreFault}
use Rattle.bundle_store.specs.declared.fault.StoreFault.TheVariants as found
use Rattle.lerc_header.specs.declared.header.Version.{Version}
use Rattle.program_ends.specs.Moves.{SinkMove, SourceMove}
use Rattle.program_ends.specs.declared.stop.Stop.{Stop}
use Rattle.program_ends.specs.declared.stop.Stop.TheVariants.{Refused, Volume, OutOfMemory}
use Rattle.opened_bundle.specs.Files.{Files, OfBundle}
use Rattle.opened_bundle.specs.Refusals.{IsMissing, IsOpening}
use Rattle.opened_bundle.specs.declared.refusal.StoreRefusal.{StoreRefusal}
use Rattle.opened_bundle.specs.declared.refusal.StoreRefusal.TheVariants.{NoTile, Beyond, BadBundle, BadJournal, Full, NotEmpty}
use Rattle.opened_bundle.proofs.OneBundle.{both, one_missing, one_opening, recovered_or_opening, tile_or_missing}
use Rattle.grid_blobs.specs.Blobs.{AreBlobsOf}
use Rattle.grid_blobs.specs.Stops.{IsStopOf}
use Rattle.grid_blobs.specs.declared.stop.InputFault.{InputFault}
use Rattle.grid_blobs.specs.declared.stop.InputStop.{InputStop}
use Rattle.grid_blobs.specs.declared.stop.InputStop.TheVariants.{Fault as FaultOf, Source as SourceOf, OutOfMemory as MemoryOf}
use Rattle.grid_blobs.proofs.OneAnswer.{blobs_or_fault, one_fault, one_tile}
use Rattle.level_cache.specs.declared.level.LevelFault.{LevelFault}
use Rattle.level_cache.specs.declared.level.LevelFault.TheVariants.{Shelf as ShelfOf, Store as StoreOf}
use Rattle.level_cache.specs.Calls.{GetRefusal, GetRefuses, GetsFrom, Lends, LevelMoves, OnStore, PutRefusal, PutRefuses, PutsIn, files_in}
use Rattle.level_cache.specs.Crashes.{Tells}
use Rattle.level_cache.specs.Places.{Corner, base_of, slot_of}
use Rattle.level_cli.specs.declared.refusal.Refusal.{Refusal}
use Rattle.level_cli.specs.declared.refusal.Refusal.TheVariants.{Input, Store, TooLarge, ShelfFailed}
use Rattle.level_cli.specs.declared.words.Command.{Command}
use Rattle.level_cli.specs.declared.words.Command.TheVariants.{Put, Get, Name}
use Rattle.level_cli.specs.Granted.{OfHanded}
use Rattle.level_cli.specs.Names.{End, input_stop_of, status_at, store_stop_of}
use Rattle.level_cli.specs.Refused.{GetIsRefused, InputRefuses, IsFirstRefusal, PutIsRefused}
use Rattle.level_cli.specs.Run.{GetEnds, OfCommand, PutEnds, ShelfMove}
use Rattle.level_cli.proofs.Granted.{handed_tells}

-- ---- a put beside files

abbrev Any : List ℕ → Type 0
Any bundle = Unit {0}

abbrev IsFullFor : ℕ → Refusal → List ℕ → Type 0
IsFullFor size r bundle = (r ≡ Store (Full (length bundle))) × ((size ≤ 16777215) × (2 ^ 40 < length bundle + 4 + size))

abbrev HasRoom : ℕ → List ℕ → Type 0
HasRoom size bundle = length bundle + 4 + size ≤ 2 ^ 40

-- the three kinds of refusals: of opening, of the tile, of the room
abbrev Kind : Files → ℕ → Refusal → Type 0
Kind f size r = ((o : StoreRefusal) × ((r ≡ Store o) × IsOpening (Some f) o))
    ⊎ (((r ≡ TooLarge size) × (OfBundle (Some f) Any × (16777215 < size)))
    ⊎ OfBundle (Some f) (IsFullFor size r))

-- what holds of a bundle that opens holds more weakly
weaken : (f : Files) (P Q : List ℕ → Type 0) → ((b : List ℕ) → P b → Q b) → OfBundle (Some f) P → OfBundle (Some f) Q
weaken f P Q so of = (of.0, (of.1.0, (of.1.1.0, (of.1.1.1.0, so of.1.0 of.1.1.1.1))))

kind_of_put : (f : Files) (size : ℕ) (r : Refusal) → PutIsRefused f size r → Kind f size r
kind_of_put f size (Input fault) is = absurd is
kind_of_put f size (Store (NoTile row col)) is = absurd is
kind_of_put f size (Store (Beyond row col entry got)) is = absurd is
kind_of_put f size (Store (BadBundle at number)) is = inl (BadBundle at number, (refl, is))
kind_of_put f size (Store (BadJournal at number)) is = inl (BadJournal at number, (refl, is))
kind_of_put f size (Store (NotEmpty len)) is = absurd is
kind_of_put f size (Store (Full len)) is =
    inr (inr (weaken f (λ b. (len ≡ length b) × ((size ≤ 16777215) × (2 ^ 40 < len + 4 + size))) (IsFullFor size (Store (Full len))) (λ b of. (ap (λ (n : ℕ). Store (Full n)) of.0, (of.1.0, (let e = of.0 in let more = of.1.1 in omega (arith, e, more))))) is))
kind_of_put f size (TooLarge len) is = inr (inl (let of = is.1.1.1.1 in (ap TooLarge of.0, (weaken f (λ b. (len ≡ size) × (16777215 < size)) Any (λ b so. tt) is, of.1))))
kind_of_put f size ShelfFailed is = absurd is

one_kind : (f : Files) (size : ℕ) (r s : Refusal) → Kind f size r → Kind f size s → r ≡ s
one_kind f size r s (inl one) (inl two) = one.1.0 ∙ (ap Store (one_opening f one.0 two.0 one.1.1 two.1.1) ∙ sym two.1.0)
one_kind f size r s (inl one) (inr (inl two)) = absurd (recovered_or_opening f Any one.0 two.1.0 one.1.1)
one_kind f size r s (inl one) (inr (inr two)) = absurd (recovered_or_opening f (IsFullFor size s) one.0 two one.1.1)
one_kind f size r s (inr (inl one)) (inl two) = absurd (recovered_or_opening f Any two.0 one.1.0 two.1.1)
one_kind f size r s (inr (inl one)) (inr (inl two)) = one.0 ∙ sym two.0
one_kind f size r s (inr (inl one)) (inr (inr two)) = absurd (let small = two.1.1.1.1.1.0 in let large = one.1.1 in omega (arith, small, large))
one_kind f size r s (inr (inr one)) (inl two) = absurd (recovered_or_opening f (IsFullFor size r) two.0 one two.1.1)
one_kind f size r s (inr (inr one)) (inr (inl two)) = absurd (let small = one.1.1.1.1.1.0 in let large = two.1.1 in omega (arith, small, large))
one_kind f size r s (inr (inr one)) (inr (inr two)) = let same = both f (IsFullFor size r) (IsFullFor size s) one two in same.1.0.0 ∙ sym same.1.1.0

kind_or_put : (f : Files) (size : ℕ) (r : Refusal) → Kind f size r → OfBundle (Some f) (HasRoom size) → size ≤ 16777215 → ⊥
kind_or_put f size r (inl one) room small = recovered_or_opening f (HasRoom size) one.0 room one.1.1
kind_or_put f size r (inr (inl one)) room small = let large = one.1.1 in omega (arith, small, large)
kind_or_put f size r (inr (inr one)) room small =
    let same = both f (IsFullFor size r) (HasRoom size) one room in let more = same.1.0.1.1 in let fits = same.1.1 in omega (arith, more, fits)

-- how a fault of the store ends the run
abbrev Ends : (Refusal → Type 0) → Stop Refusal → Type 0
Ends P stop = (stop ≡ Volume) ⊎ ((stop ≡ OutOfMemory) ⊎ ((r : Refusal) × ((stop ≡ Refused r) × P r)))

put_ends : (place : Corner) (f : Files) (size : ℕ) (fault : StoreFault) → PutRefusal size fault → PutRefuses f fault → Ends (Kind f size) (store_stop_of place fault)
put_ends place f size found.Device fails why = inl refl
put_ends place f size (found.BadBundle at number) fails why = inr (inr (Store (BadBundle at number), (refl, inl (BadBundle at number, (refl, (fails, why))))))
put_ends place f size (found.BadJournal at number) fails why = inr (inr (Store (BadJournal at number), (refl, inl (BadJournal at number, (refl, (fails, why))))))
put_ends place f size found.NoTile fails why = absurd fails
put_ends place f size (found.Beyond entry got) fails why = absurd fails
put_ends place f size (found.TileTooLarge at len) fails why = inr (inr (TooLarge len, (refl, inr (inl (ap TooLarge fails.1, (why, fails.2))))))
put_ends place f size (found.EmptyTile at) fails why = inl refl
put_ends place f size (found.Full len) fails why =
    inr (inr (Store (Full len), (refl, inr (inr (weaken f (λ b. len ≡ length b) (IsFullFor size (Store (Full len))) (λ b e. (ap (λ (n : ℕ). Store (Full n)) e, (fails.1, (let more = fails.2 in omega (arith, e, more))))) why)))))
put_ends place f size (found.NotEmpty len) fails why = absurd fails
put_ends place f size found.OutOfMemory fails why = inr (inl refl)
put_ends place f size found.Stopped fails why = inl refl

-- ---- a get beside files

-- a refusal with the row and the column of the level
abbrev at_place : Corner → StoreRefusal → StoreRefusal
at_place place (NoTile row col) = NoTile place.row place.col
at_place place (Beyond row col entry got) = Beyond place.row place.col entry got
at_place place (BadBundle at number) = BadBundle at number
at_place place (BadJournal at number) = BadJournal at number
at_place place (NotEmpty len) = NotEmpty len
at_place place (Full len) = Full len

abbrev Missing : Files → Corner → Refusal → Type 0
Missing f place r = (m : StoreRefusal) × ((r ≡ Store (at_place place m)) × IsMissing (Some f) (slot_of place) m)

one_missed : (f : Files) (place : Corner) (r s : Refusal) → Missing f place r → Missing f place s → r ≡ s
one_missed f place r s one two = one.1.0 ∙ (ap (λ (m : StoreRefusal). Store (at_place place m)) (one_missing f (slot_of place) one.0 two.0 one.1.1 two.1.1) ∙ sym two.1.0)

missing_of : (f : Files) (place : Corner) (r : Refusal) → GetIsRefused f place r → Missing f place r
missing_of f place (Input fault) is = absurd is
missing_of f place (Store (NoTile row col)) is =
    let slot = slot_of place in
    (NoTile (slot / 128) (slot % 128), ((let e = is.0 in let g = is.1.0 in λ i. Store (NoTile (e i) (g i))), (refl, refl, is.1.1)))
missing_of f place (Store (Beyond row col entry got)) is =
    let slot = slot_of place in
    (Beyond (slot / 128) (slot % 128) entry got, ((let e = is.0 in let g = is.1.0 in λ i. Store (Beyond (e i) (g i) entry got)), (refl, refl, is.1.1.0, is.1.1.1)))
missing_of f place (Store (BadBundle at number)) is = (BadBundle at number, (refl, is))
missing_of f place (Store (BadJournal at number)) is = (BadJournal at number, (refl, is))
missing_of f place (Store (NotEmpty len)) is = absurd is
missing_of f place (Store (Full len)) is = absurd is
missing_of f place (TooLarge len) is = absurd is
missing_of f place ShelfFailed is = absurd is

get_ends : (place : Corner) (f : Files) (fault : StoreFault) → GetRefusal fault → GetRefuses f (slot_of place) fault → Ends (Missing f place) (store_stop_of place fault)
get_ends place f found.Device fails why = inl refl
get_ends place f (found.BadBundle at number) fails why = inr (inr (Store (BadBundle at number), (refl, (BadBundle at number, (refl, (fails, why))))))
get_ends place f (found.BadJournal at number) fails why = inr (inr (Store (BadJournal at number), (refl, (BadJournal at number, (refl, (fails, why))))))
get_ends place f found.NoTile fails why =
    let slot = slot_of place in
    inr (inr (Store (NoTile place.row place.col), (refl, (NoTile (slot / 128) (slot % 128), (refl, (refl, refl, why))))))
get_ends place f (found.Beyond entry got) fails why =
    let slot = slot_of place in
    inr (inr (Store (Beyond place.row place.col entry got), (refl, (Beyond (slot / 128) (slot % 128) entry got, (refl, (refl, refl, fails, why))))))
get_ends place f (found.TileTooLarge at len) fails why = absurd fails
get_ends place f (found.EmptyTile at) fails why = absurd fails
get_ends place f (found.Full len) fails why = absurd fails
get_ends place f (found.NotEmpty len) fails why = absurd fails
get_ends place f found.OutOfMemory fails why = inr (inl refl)
get_ends place f found.Stopped fails why = absurd fails

-- ---- an input

same_input : (version : Version) (bytes : List ℕ) (fault : InputFault) (r : Refusal) → IsStopOf version (Some bytes) (FaultOf fault) → InputRefuses version bytes r → Input fault ≡ r
same_input version bytes fault (Input other) stops is =
    let same = one_fault version bytes fault.place other.place fault.reason other.reason stops is in
    let p = same.0 in
    let w = same.1 in
    λ i. Input (record { reason = w i; place = p i })
same_input version bytes fault (Store s) stops is = absurd is
same_input version bytes fault (TooLarge n) stops is = absurd is
same_input version bytes fault ShelfFailed stops is = absurd is

no_blobs : (version : Version) (error : ℕ) (bytes tile : List ℕ) (r : Refusal) → AreBlobsOf version error (Some bytes) tile → InputRefuses version bytes r → ⊥
no_blobs version error bytes tile (Input fault) are is = blobs_or_fault version error bytes tile fault.place fault.reason are is
no_blobs version error bytes tile (Store s) are is = is
no_blobs version error bytes tile (TooLarge n) are is = is
no_blobs version error bytes tile ShelfFailed are is = is

-- ---- the run

-- the run is neither cut off by an object nor by want of memory
abbrev pub Comes : End → Type 0
Comes end = (status_at end ≡ 3 → ⊥) × ((status_at end ≡ 5 → ⊥) × ((status_at end ≡ 6 → ⊥) × (status_at end ≡ 8 → ⊥)))

-- the run ends with this refusal
abbrev pub EndsWith : End → Refusal → SinkMove → Type 0
EndsWith end r out = (end ≡ Err (Refused r)) × out.same

module _ (end : End) (r : Refusal) (out : SinkMove) (comes : Comes end) where
  ends_with : (P : Refusal → Type 0) (stop : Stop Refusal) → Ends P stop → ((s : Refusal) → P s → s ≡ r) → end ≡ Err stop → out.same → EndsWith end r out
  ends_with P stop (inl is) same ended idle = absurd (comes.1.0 (ap status_at (ended ∙ (λ i. Err (is i)))))
  ends_with P stop (inr (inl is)) same ended idle = absurd (comes.1.1.0 (ap status_at (ended ∙ (λ i. Err (is i)))))
  ends_with P stop (inr (inr (s, (is, so)))) same ended idle = (let e = is ∙ ap Refused (same s so) in ended ∙ (λ i. Err (e i)), idle)

  input_ends : (version : Version) (error : ℕ) (bytes : List ℕ) (why : InputStop) → IsStopOf version (Some bytes) why → end ≡ Err (input_stop_of why) → out.same
      → InputRefuses version bytes r ⊎ ((tile : List ℕ) × AreBlobsOf version error (Some bytes) tile) → EndsWith end r out
  input_ends version error bytes SourceOf stops ended idle which = absurd (comes.0 (ap status_at ended))
  input_ends version error bytes MemoryOf stops ended idle which = absurd (comes.1.1.0 (ap status_at ended))
  input_ends version error bytes (FaultOf fault) stops ended idle (inl is) = (let e = same_input version bytes fault r stops is in ended ∙ (λ i. Err (Refused (e i))), idle)
  input_ends version error bytes (FaultOf fault) stops ended idle (inr (tile, are)) = absurd (blobs_or_fault version error bytes tile fault.place fault.reason are stops)

module _ {V : Type 0} (told : V → Bool) (history : V → History) (faults : V → ℕ) (shelf : ShelfMove V) (is_told : IsTrue shelf.told) (tells : Tells told shelf.volumes.old) where
  put_refused : (place : Corner) (tile : List ℕ) (answer : Result (Unit {0}) LevelFault) (end : End) (out : SinkMove) (r : Refusal) → Comes end
      → LevelMoves answer (base_of place) shelf.volumes.old shelf.volumes.new (Lends told history faults (λ q h k. PutsIn q (slot_of place) tile h k))
      → IfErr answer (λ fault. OnStore (PutRefusal (length tile)) fault) → OnOk answer ((0 < length tile) × (length tile ≤ 16777215)) → OfHanded told history faults shelf.volumes.old place (λ h. PutIsRefused (files_in h) (length tile) r)
      → PutEnds place tile answer end out → EndsWith end r out
  put_refused place tile (Ok u) end out r comes moves why fits refuses ended =
      let l = moves.0 in
      let made = l.made (handed_tells told history faults _ l.lent (tells (base_of place)) l.hands) in
      let f = files_in (history l.lent) in
      absurd (kind_or_put f (length tile) r (kind_of_put f (length tile) r (refuses l.lent l.hands)) made.room fits.1)
  put_refused place tile (Err ShelfOf) end out r comes moves why fits refuses ended = absurd (comes.1.1.1 (ap status_at ended.0))
  put_refused place tile (Err (StoreOf fault)) end out r comes moves why fits refuses ended =
      let l = moves.0 in
      let made = l.made (handed_tells told history faults _ l.lent (tells (base_of place)) l.hands) in
      let f = files_in (history l.lent) in
      let first = kind_of_put f (length tile) r (refuses l.lent l.hands) in
      ends_with end r out comes (Kind f (length tile)) (store_stop_of place fault) (put_ends place f (length tile) fault why made.why) (λ s so. one_kind f (length tile) s r so first) ended.0 ended.1

  get_refused : (place : Corner) (answer : Result (List ℕ) LevelFault) (end : End) (out : SinkMove) (r : Refusal) → Comes end
      → LevelMoves answer (base_of place) shelf.volumes.old shelf.volumes.new (Lends told history faults (λ q h k. GetsFrom q (slot_of place) h k))
      → IfErr answer (λ fault. OnStore GetRefusal fault) → OfHanded told history faults shelf.volumes.old place (λ h. GetIsRefused (files_in h) place r)
      → GetEnds place answer end out → EndsWith end r out
  get_refused place (Ok tile) end out r comes moves why refuses ended =
      let l = moves.0 in
      let made = l.made (handed_tells told history faults _ l.lent (tells (base_of place)) l.hands) in
      let f = files_in (history l.lent) in
      let missing = missing_of f place r (refuses l.lent l.hands) in
      absurd (tile_or_missing f (slot_of place) tile missing.0 made.read missing.1.1)
  get_refused place (Err ShelfOf) end out r comes moves why refuses ended = absurd (comes.1.1.1 (ap status_at ended.0))
  get_refused place (Err (StoreOf fault)) end out r comes moves why refuses ended =
      let l = moves.0 in
      let made = l.made (handed_tells told history faults _ l.lent (tells (base_of place)) l.hands) in
      let f = files_in (history l.lent) in
      let first = missing_of f place r (refuses l.lent l.hands) in
      ends_with end r out comes (Missing f place) (store_stop_of place fault) (get_ends place f fault why made.why) (λ s so. one_missed f place s r so first) ended.0 ended.1

  pub refused_so : (c : Command) (end : End) (src : SourceMove) (out : SinkMove) (r : Refusal) → OfCommand told history faults c end src out shelf
      → IsFirstRefusal told history faults shelf.volumes.old src.left.old c r → Comes end → EndsWith end r out
  refused_so (Put version error place) end src out r (inl before) (bytes, (is, inl fault)) comes =
      input_ends end r out comes version error bytes before.0.0 (subst (λ (i : Option (List ℕ)). IsStopOf version i before.0.0) is before.0.1.0) before.0.1.1 before.1.0 (inl fault)
  refused_so (Put version error place) end src out r (inl before) (bytes, (is, inr store)) comes =
      input_ends end r out comes version error bytes before.0.0 (subst (λ (i : Option (List ℕ)). IsStopOf version i before.0.0) is before.0.1.0) before.0.1.1 before.1.0
      (inr (store.0, subst (λ (i : Option (List ℕ)). AreBlobsOf version error i store.0) is store.1.0))
  refused_so (Put version error place) end src out r (inr put) (bytes, (is, inl fault)) comes =
      absurd (no_blobs version error bytes put.0 r (subst (λ (i : Option (List ℕ)). AreBlobsOf version error i put.0) is put.1.0) fault)
  refused_so (Put version error place) end src out r (inr put) (bytes, (is, inr store)) comes =
      let at = put.1.1 in
      let same = one_tile version error bytes store.0 put.0 (subst (λ (i : Option (List ℕ)). AreBlobsOf version error i store.0) is store.1.0) (subst (λ (i : Option (List ℕ)). AreBlobsOf version error i put.0) is put.1.0) in
      put_refused place put.0 at.answer end out r comes (at.moves is_told) at.fails at.fits
      (subst (λ (t : List ℕ). OfHanded told history faults shelf.volumes.old place (λ h. PutIsRefused (files_in h) (length t) r)) same store.1.1) at.ends
  refused_so (Get place) end src out r did first comes = get_refused place did.1.answer end out r comes (did.1.moves is_told) did.1.fails first did.1.ends
  refused_so (Name place) end src out r did first comes = absurd first
