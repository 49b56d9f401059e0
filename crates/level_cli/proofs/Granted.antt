-- A run that nothing refuses, and of which no object fails, ends well.
use Rattle.std.proofs.Common.{◌≡◌, inl, inr, ℕ, List, length, Bool, Option, Some, None, Result, Ok, Err, refl, sym, subst}
use Rattle.std.specs.Prelude.{IfErr, IfSome, IsTrue}
use Rattle.outside_io.specs.volume.History.{History}
use Rattle.bundle_store.specs.declared.fault.StoreFault.{StoreFault}
use Rattle.bundle_store.specs.declared.fault.StoreFault.TheVariants.{Device, BadBundle, BadJournal, NoTile, Beyond, TileTooLarge, EmptyTile, Full, NotEmpty, OutOfMemory as NoMemory, Stopped}
use Rattle.lerc_header.specs.declared.header.Version.{Version}
use Rattle.program_ends.specs.Moves.{SinkMove, SourceMove}
use Rattle.program_ends.specs.declared.stop.Stop.{Stop}
use Rattle.program_ends.specs.declared.stop.Stop.TheVariants.{Usage, Refused, Source, Output, Volume, OutOfMemory}
use Rattle.grid_blobs.specs.declared.stop.InputFault.{InputFault}
use Rattle.grid_blobs.specs.declared.stop.InputStop.{InputStop}
use Rattle.grid_blobs.specs.declared.stop.InputStop.TheVariants.{Fault as FaultOf, Source as SourceOf, OutOfMemory as MemoryOf}
use Rattle.grid_blobs.specs.Stops.{IsStopOf}
use Rattle.level_cache.specs.declared.level.LevelFault.{LevelFault}
use Rattle.level_cache.specs.declared.level.LevelFault.TheVariants.{Shelf as ShelfOf, Store as StoreOf}
use Rattle.level_cache.specs.Calls.{GetRefusal, GetsFrom, Lends, LevelMoves, OnStore, PutRefusal, PutsIn}
use Rattle.level_cache.specs.Crashes.{Tells}
use Rattle.level_cache.specs.Places.{Corner, base_of, slot_of}
use Rattle.level_cache.specs.Shelf.{Hands}
use Rattle.level_cli.specs.declared.refusal.Refusal.{Refusal}
use Rattle.level_cli.specs.declared.refusal.Refusal.TheVariants.{Input, Store, TooLarge, ShelfFailed}
use Rattle.level_cli.specs.declared.words.Command.{Command}
use Rattle.level_cli.specs.declared.words.Command.TheVariants.{Put, Get, Name}
use Rattle.level_cli.specs.Granted.{IsGranted, IsNamed, MayGet, MayPut, OfHanded}
use Rattle.level_cli.specs.Names.{End, input_stop_of, level_stop_of, status_at, store_stop_of}
use Rattle.level_cli.specs.Run.{GetEnds, OfCommand, PutEnds, ShelfMove}

-- a stop with a refusal's line is a refusal with a name
named : (place : Corner) (fault : StoreFault) (r : Refusal) → store_stop_of place fault ≡ Refused r → IsNamed fault
named place Device r is = cc
named place (BadBundle at n) r is = tt
named place (BadJournal at n) r is = tt
named place NoTile r is = tt
named place (Beyond e n) r is = tt
named place (TileTooLarge at n) r is = tt
named place (EmptyTile at) r is = tt
named place (Full n) r is = tt
named place (NotEmpty n) r is = tt
named place NoMemory r is = cc
named place Stopped r is = tt

stop_in : (a b : Stop Refusal) → ◌≡◌ {A = End} (Err a) (Err b) → b ≡ a
stop_in a b same = cc

-- what the shelf handed out tells its files
pub handed_tells : {V : Type 0} (told : V → Bool) (history : V → History) (faults : V → ℕ) (before : Option V) (vol : V) → IfSome before (λ v. IsTrue (told v)) → Hands told history faults before vol → IsTrue (told vol)
handed_tells {V} told history faults (Some stood) vol tells hands = subst (λ (v : V). IsTrue (told v)) (sym hands) tells
handed_tells told history faults None vol tells hands = hands.tells

-- the input is no reason
no_input : (version : Version) (input : Option (List ℕ)) (why : InputStop) (r : Refusal) → ((fault : InputFault) → IsStopOf version input (FaultOf fault) → ⊥)
    → IsStopOf version input why → input_stop_of why ≡ Refused r → ⊥
no_input version input (FaultOf fault) r none stops is = none fault stops
no_input version input SourceOf r none stops is = cc
no_input version input MemoryOf r none stops is = cc

module _ {V : Type 0} (told : V → Bool) (history : V → History) (faults : V → ℕ) (shelf : ShelfMove V) (is_told : IsTrue shelf.told) (tells : Tells told shelf.volumes.old) where
  no_put : (place : Corner) (tile : List ℕ) (fault : LevelFault) (r : Refusal) → (r ≡ ShelfFailed → ⊥)
      → LevelMoves {X = Unit {0}} (Err fault) (base_of place) shelf.volumes.old shelf.volumes.new (Lends told history faults (λ q h k. PutsIn q (slot_of place) tile h k))
      → OnStore (PutRefusal (length tile)) fault → OfHanded told history faults shelf.volumes.old place (MayPut (length tile)) → level_stop_of place fault ≡ Refused r → ⊥
  no_put place tile ShelfOf r other moves why may is = other (let e : r ≡ ShelfFailed = cc in e)
  no_put place tile (StoreOf fault) r other moves why may is =
      let l = moves.0 in
      may l.lent l.hands fault (named place fault r is) why (l.made (handed_tells told history faults _ l.lent (tells (base_of place)) l.hands)).why

  no_get : (place : Corner) (fault : LevelFault) (r : Refusal) → (r ≡ ShelfFailed → ⊥)
      → LevelMoves {X = List ℕ} (Err fault) (base_of place) shelf.volumes.old shelf.volumes.new (Lends told history faults (λ q h k. GetsFrom q (slot_of place) h k))
      → OnStore GetRefusal fault → OfHanded told history faults shelf.volumes.old place (MayGet (slot_of place)) → level_stop_of place fault ≡ Refused r → ⊥
  no_get place ShelfOf r other moves why may is = other (let e : r ≡ ShelfFailed = cc in e)
  no_get place (StoreOf fault) r other moves why may is =
      let l = moves.0 in
      may l.lent l.hands fault (named place fault r is) why (l.made (handed_tells told history faults _ l.lent (tells (base_of place)) l.hands)).why

  put_answered : (place : Corner) (tile : List ℕ) (answer : Result (Unit {0}) LevelFault) (out : SinkMove) (r : Refusal) → (r ≡ ShelfFailed → ⊥)
      → LevelMoves answer (base_of place) shelf.volumes.old shelf.volumes.new (Lends told history faults (λ q h k. PutsIn q (slot_of place) tile h k))
      → IfErr answer (λ fault. OnStore (PutRefusal (length tile)) fault) → OfHanded told history faults shelf.volumes.old place (MayPut (length tile)) → PutEnds place tile answer (Err (Refused r)) out → ⊥
  put_answered place tile (Ok u) out r other moves why may ended = ended
  put_answered place tile (Err fault) out r other moves why may ended = no_put place tile fault r other moves why may (stop_in _ _ ended.0)

  get_answered : (place : Corner) (answer : Result (List ℕ) LevelFault) (out : SinkMove) (r : Refusal) → (r ≡ ShelfFailed → ⊥)
      → LevelMoves answer (base_of place) shelf.volumes.old shelf.volumes.new (Lends told history faults (λ q h k. GetsFrom q (slot_of place) h k))
      → IfErr answer (λ fault. OnStore GetRefusal fault) → OfHanded told history faults shelf.volumes.old place (MayGet (slot_of place)) → GetEnds place answer (Err (Refused r)) out → ⊥
  get_answered place (Ok tile) out r other moves why may ended = ended
  get_answered place (Err fault) out r other moves why may ended = no_get place fault r other moves why may (stop_in _ _ ended.0)

  none_refused : (c : Command) (r : Refusal) (src : SourceMove) (out : SinkMove) → (r ≡ ShelfFailed → ⊥) → OfCommand told history faults c (Err (Refused r)) src out shelf
      → IsGranted told history faults shelf.volumes.old src.left.old c → ⊥
  none_refused (Put version error place) r src out other (inl before) grants = no_input version src.left.old before.0.0 r grants.0 before.0.1.0 (stop_in _ _ before.0.1.1)
  none_refused (Put version error place) r src out other (inr put) grants =
      let at = put.1.1 in
      put_answered place put.0 at.answer out r other (at.moves is_told) at.fails (grants.1 put.0 put.1.0) at.ends
  none_refused (Get place) r src out other did grants = get_answered place did.1.answer out r other (did.1.moves is_told) did.1.fails grants did.1.ends
  none_refused (Name place) r src out other did grants = did.1.1.1

  pub granted : (c : Command) (end : End) (src : SourceMove) (out : SinkMove) → OfCommand told history faults c end src out shelf
      → IsGranted told history faults shelf.volumes.old src.left.old c
      → (status_at end ≡ 1 → ⊥) → (status_at end ≡ 3 → ⊥) → (status_at end ≡ 4 → ⊥) → (status_at end ≡ 5 → ⊥) → (status_at end ≡ 6 → ⊥) → (status_at end ≡ 8 → ⊥) → status_at end ≡ 0
  granted c (Ok u) src out did grants n1 n3 n4 n5 n6 n8 = refl
  granted c (Err Usage) src out did grants n1 n3 n4 n5 n6 n8 = absurd (n1 refl)
  granted c (Err Source) src out did grants n1 n3 n4 n5 n6 n8 = absurd (n3 refl)
  granted c (Err Output) src out did grants n1 n3 n4 n5 n6 n8 = absurd (n4 refl)
  granted c (Err Volume) src out did grants n1 n3 n4 n5 n6 n8 = absurd (n5 refl)
  granted c (Err OutOfMemory) src out did grants n1 n3 n4 n5 n6 n8 = absurd (n6 refl)
  granted c (Err (Refused (Input fault))) src out did grants n1 n3 n4 n5 n6 n8 = absurd (none_refused c (Input fault) src out (λ e. cc) did grants)
  granted c (Err (Refused (Store s))) src out did grants n1 n3 n4 n5 n6 n8 = absurd (none_refused c (Store s) src out (λ e. cc) did grants)
  granted c (Err (Refused (TooLarge n))) src out did grants n1 n3 n4 n5 n6 n8 = absurd (none_refused c (TooLarge n) src out (λ e. cc) did grants)
  granted c (Err (Refused ShelfFailed)) src out did grants n1 n3 n4 n5 n6 n8 = absurd (n8 refl)
