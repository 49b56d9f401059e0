-- How a command ends behind the calls that it makes, and what follows of a run that ends well.
use Rattle.std.proofs.Common.{◌≡◌, ◌⊎◌, inl, inr, ℕ, ◌<◌, List, length, Bool, Option, Result, Ok, Err, refl, sym, ap, subst, ◌∙◌, arith}
use Rattle.std.specs.Prelude.{IsTrue}
use Rattle.outside_io.specs.streams.Faults.{IsCause}
use Rattle.outside_io.specs.streams.Sink.{Holds}
use Rattle.outside_io.specs.volume.History.{History}
use Rattle.bundle_store.specs.declared.fault.StoreFault.{StoreFault}
use Rattle.bundle_store.specs.declared.fault.StoreFault.TheVariants.{Device, BadBundle, BadJournal, NoTile, Beyond, TileTooLarge, EmptyTile, Full, NotEmpty, OutOfMemory as NoMemory, Stopped}
use Rattle.lerc_header.specs.declared.header.Version.{Version}
use Rattle.program_ends.specs.Moves.{SinkMove, SourceMove}
use Rattle.program_ends.specs.declared.stop.Stop.{Stop}
use Rattle.program_ends.specs.declared.stop.Stop.TheVariants.{Usage, Refused, Source, Output, Volume, OutOfMemory}
use Rattle.program_ends.proofs.Ends as ends
use Rattle.grid_blobs.specs.declared.stop.InputStop.{InputStop}
use Rattle.grid_blobs.specs.declared.stop.InputStop.TheVariants.{Fault as FaultOf, Source as SourceOf, OutOfMemory as MemoryOf}
use Rattle.level_cache.specs.declared.level.LevelFault.{LevelFault}
use Rattle.level_cache.specs.declared.level.LevelFault.TheVariants.{Shelf as ShelfOf, Store as StoreOf}
use Rattle.level_cache.specs.Calls.{DeviceRose, GetRefusal, GetsFrom, Lends, LevelMoves, OnStore, PutRefusal, PutsIn}
use Rattle.level_cache.specs.Places.{Corner, base_of, slot_of}
use Rattle.level_cli.specs.declared.refusal.Refusal.{Refusal}
use Rattle.level_cli.specs.declared.refusal.Refusal.TheVariants.{Input, Store, TooLarge, ShelfFailed}
use Rattle.level_cli.specs.declared.words.Command.{Command}
use Rattle.level_cli.specs.declared.words.Command.TheVariants.{Put, Get, Name}
use Rattle.level_cli.specs.InWords.{GaveName, GetsTile, PutsTile}
use Rattle.level_cli.specs.Names.{End, input_stop_of, level_stop_of, name_line, put_line, store_stop_of}
use Rattle.level_cli.specs.Run.{GaveBehind, GetEnds, IsVolumeCause, OfCommand, OfGet, OfName, OfPut, PutEnds, ShelfMove}

-- ---- which stops there are

-- the stops of the store
abbrev IsStoreStop : Stop Refusal → Type 0
IsStoreStop Usage = ⊥
IsStoreStop Source = ⊥
IsStoreStop Output = ⊥
IsStoreStop Volume = Unit {0}
IsStoreStop OutOfMemory = Unit {0}
IsStoreStop (Refused (Input f)) = ⊥
IsStoreStop (Refused (Store s)) = Unit {0}
IsStoreStop (Refused (TooLarge n)) = Unit {0}
IsStoreStop (Refused ShelfFailed) = ⊥

store_stops : (place : Corner) (fault : StoreFault) → IsStoreStop (store_stop_of place fault)
store_stops place Device = tt
store_stops place (BadBundle at n) = tt
store_stops place (BadJournal at n) = tt
store_stops place NoTile = tt
store_stops place (Beyond e n) = tt
store_stops place (TileTooLarge at n) = tt
store_stops place (EmptyTile at) = tt
store_stops place (Full n) = tt
store_stops place (NotEmpty n) = tt
store_stops place NoMemory = tt
store_stops place Stopped = tt

not_store : (place : Corner) (fault : StoreFault) (stop : Stop Refusal) → (IsStoreStop stop → ⊥) → store_stop_of place fault ≡ stop → ⊥
not_store place fault stop other is = other (subst IsStoreStop is (store_stops place fault))

-- a call on the level stops for none of these
not_level : (place : Corner) (fault : LevelFault) (stop : Stop Refusal) → (IsStoreStop stop → ⊥) → (Refused ShelfFailed ≡ stop → ⊥) → level_stop_of place fault ≡ stop → ⊥
not_level place ShelfOf stop other none is = none is
not_level place (StoreOf fault) stop other none is = not_store place fault stop other is

pub never_source : (place : Corner) (fault : LevelFault) → level_stop_of place fault ≡ Source → ⊥
never_source place fault is = not_level place fault Source (λ h. h) (λ e. cc) is

pub never_output : (place : Corner) (fault : LevelFault) → level_stop_of place fault ≡ Output → ⊥
never_output place fault is = not_level place fault Output (λ h. h) (λ e. cc) is

never_usage : (place : Corner) (fault : LevelFault) → level_stop_of place fault ≡ Usage → ⊥
never_usage place fault is = not_level place fault Usage (λ h. h) (λ e. cc) is

shelf_alone : (place : Corner) (fault : LevelFault) → level_stop_of place fault ≡ Refused ShelfFailed → fault ≡ ShelfOf
shelf_alone place ShelfOf is = refl
shelf_alone place (StoreOf fault) is = absurd (not_store place fault (Refused ShelfFailed) (λ h. h) is)

stop_of : (a b : Stop Refusal) → ◌≡◌ {A = End} (Err a) (Err b) → a ≡ b
stop_of a b same = cc

-- ---- what failed

-- where neither failed
no_cause : (P : Type 0) (old new : ℕ) → (P → ⊥) → new ≡ old → IsCause P old new
no_cause P old new never same = record {
  counts = omega (arith, same);
  failed = λ p. absurd (never p);
  rose = λ more. absurd (omega (arith, same, more));
}

pub kept : (P : Type 0) (count : ℕ) → (P → ⊥) → IsCause P count count
kept P count never = no_cause P count count never refl

pub shelf_cause : (place : Corner) (fault : LevelFault) (X : Type 0) (old new : ℕ) → IsCause (◌≡◌ {A = Result X LevelFault} (Err fault) (Err ShelfOf)) old new
    → IsCause (◌≡◌ {A = End} (Err (level_stop_of place fault)) (Err (Refused ShelfFailed))) old new
shelf_cause place fault X old new c =
    ends.caused (◌≡◌ {A = Result X LevelFault} (Err fault) (Err ShelfOf)) (◌≡◌ {A = End} (Err (level_stop_of place fault)) (Err (Refused ShelfFailed))) old new
    (λ e. let is : fault ≡ ShelfOf = cc in ap (λ (f : LevelFault). Err (level_stop_of place f)) is)
    (λ e. ap Err (shelf_alone place fault (stop_of _ _ e))) c

pub none_failed : (P Q : Type 0) (old new : ℕ) → (P → ⊥) → new ≡ old → IsVolumeCause P Q old new
none_failed P Q old new never same = record {
  counts = omega (arith, same);
  cause = λ p. absurd (never p);
  rose = λ more. absurd (omega (arith, same, more));
}

failed : (P Q : Type 0) (old new : ℕ) → P → (old < new) ⊎ ((old ≡ 18446744073709551615) × (new ≡ old)) → IsVolumeCause P Q old new
failed P Q old new is how = record {
  counts = elim how [ inl more ↦ omega (arith, more) | inr same ↦ omega (arith, same.1) ];
  cause = λ p. elim how [ inl more ↦ inl more | inr same ↦ inr (same.1 ∙ same.0) ];
  rose = λ more. inl is;
}

-- A refusal of the store that is no failure of the volume leaves its count.
steady : (place : Corner) (fault : StoreFault) (Q : Type 0) (old new : ℕ) → (store_stop_of place fault ≡ Volume → ⊥) → new ≡ old
    → IsVolumeCause (◌≡◌ {A = End} (Err (store_stop_of place fault)) (Err Volume)) Q old new
steady place fault Q old new other same = none_failed _ Q old new (λ e. other (stop_of _ _ e)) same

pub put_cause : (place : Corner) (size : ℕ) (fault : LevelFault) (old new : ℕ) → 0 < size → OnStore (PutRefusal size) fault → DeviceRose {X = Unit {0}} (Err fault) old new
    → IsVolumeCause (◌≡◌ {A = End} (Err (level_stop_of place fault)) (Err Volume)) (◌≡◌ {A = End} (Err (level_stop_of place fault)) (Err (Refused ShelfFailed))) old new
put_cause place size ShelfOf old new some why rose = record { counts = rose; cause = λ e. absurd (let is = stop_of _ _ e in cc); rose = λ more. inr refl }
put_cause place size (StoreOf Device) old new some why rose = failed _ _ old new refl rose
put_cause place size (StoreOf (BadBundle at n)) old new some why rose = steady place (BadBundle at n) _ old new (λ e. cc) rose
put_cause place size (StoreOf (BadJournal at n)) old new some why rose = steady place (BadJournal at n) _ old new (λ e. cc) rose
put_cause place size (StoreOf NoTile) old new some why rose = absurd why
put_cause place size (StoreOf (Beyond e n)) old new some why rose = absurd why
put_cause place size (StoreOf (TileTooLarge at n)) old new some why rose = steady place (TileTooLarge at n) _ old new (λ e. cc) rose
put_cause place size (StoreOf (EmptyTile at)) old new some why rose = absurd (let none = why.1 in omega (arith, none, some))
put_cause place size (StoreOf (Full n)) old new some why rose = steady place (Full n) _ old new (λ e. cc) rose
put_cause place size (StoreOf (NotEmpty n)) old new some why rose = absurd why
put_cause place size (StoreOf NoMemory) old new some why rose = steady place NoMemory _ old new (λ e. cc) rose
put_cause place size (StoreOf Stopped) old new some why rose = absurd why

pub get_cause : (place : Corner) (fault : LevelFault) (old new : ℕ) → OnStore GetRefusal fault → DeviceRose {X = List ℕ} (Err fault) old new
    → IsVolumeCause (◌≡◌ {A = End} (Err (level_stop_of place fault)) (Err Volume)) (◌≡◌ {A = End} (Err (level_stop_of place fault)) (Err (Refused ShelfFailed))) old new
get_cause place ShelfOf old new why rose = record { counts = rose; cause = λ e. absurd (let is = stop_of _ _ e in cc); rose = λ more. inr refl }
get_cause place (StoreOf Device) old new why rose = failed _ _ old new refl rose
get_cause place (StoreOf (BadBundle at n)) old new why rose = steady place (BadBundle at n) _ old new (λ e. cc) rose
get_cause place (StoreOf (BadJournal at n)) old new why rose = steady place (BadJournal at n) _ old new (λ e. cc) rose
get_cause place (StoreOf NoTile) old new why rose = steady place NoTile _ old new (λ e. cc) rose
get_cause place (StoreOf (Beyond e n)) old new why rose = steady place (Beyond e n) _ old new (λ e. cc) rose
get_cause place (StoreOf (TileTooLarge at n)) old new why rose = absurd why
get_cause place (StoreOf (EmptyTile at)) old new why rose = absurd why
get_cause place (StoreOf (Full n)) old new why rose = absurd why
get_cause place (StoreOf (NotEmpty n)) old new why rose = absurd why
get_cause place (StoreOf NoMemory) old new why rose = steady place NoMemory _ old new (λ e. cc) rose
get_cause place (StoreOf Stopped) old new why rose = absurd why

-- ---- no command ends for its words

no_usage_before : (why : InputStop) → ◌≡◌ {A = End} (Err (input_stop_of why)) (Err Usage) → ⊥
no_usage_before (FaultOf f) e = absurd (let is = stop_of _ _ e in cc)
no_usage_before SourceOf e = absurd (let is = stop_of _ _ e in cc)
no_usage_before MemoryOf e = absurd (let is = stop_of _ _ e in cc)

no_usage_behind : (end : End) (out : SinkMove) (bytes : List ℕ) → GaveBehind end out bytes → end ≡ Err Usage → ⊥
no_usage_behind end out bytes gave is = let none : GaveBehind (Err Usage) out bytes = subst (λ (x : End). GaveBehind x out bytes) is gave in none

no_usage_put : (place : Corner) (tile : List ℕ) (answer : Result (Unit {0}) LevelFault) (end : End) (out : SinkMove) → PutEnds place tile answer end out → end ≡ Err Usage → ⊥
no_usage_put place tile (Ok u) end out ended is = no_usage_behind end out _ ended is
no_usage_put place tile (Err fault) end out ended is = never_usage place fault (stop_of _ _ (sym ended.0 ∙ is))

no_usage_get : (place : Corner) (answer : Result (List ℕ) LevelFault) (end : End) (out : SinkMove) → GetEnds place answer end out → end ≡ Err Usage → ⊥
no_usage_get place (Ok tile) end out ended is = no_usage_behind end out _ ended is
no_usage_get place (Err fault) end out ended is = never_usage place fault (stop_of _ _ (sym ended.0 ∙ is))

pub no_usage : {V : Type 0} (told : V → Bool) (history : V → History) (faults : V → ℕ) (c : Command) (end : End) (src : SourceMove) (out : SinkMove) (shelf : ShelfMove V)
    → OfCommand told history faults c end src out shelf → end ≡ Err Usage → ⊥
no_usage told history faults (Put version error place) end src out shelf (inl before) is = no_usage_before before.0.0 (sym before.0.1.1 ∙ is)
no_usage told history faults (Put version error place) end src out shelf (inr put) is = no_usage_put place put.0 put.1.1.answer end out put.1.1.ends is
no_usage told history faults (Get place) end src out shelf did is = no_usage_get place did.1.answer end out did.1.ends is
no_usage told history faults (Name place) end src out shelf did is = no_usage_behind end out _ did.1.1.1 is

-- ---- a run that ends well

well_put : (place : Corner) (tile : List ℕ) (answer : Result (Unit {0}) LevelFault) (out : SinkMove) → PutEnds place tile answer (Ok tt) out
    → (answer ≡ Ok tt) × Holds out.held.old out.held.new (put_line place (length tile))
well_put place tile (Ok u) out ended = (refl, ended)
well_put place tile (Err fault) out ended = absurd (let no = ended.0 in cc)

pub put_well : {V : Type 0} (told : V → Bool) (history : V → History) (faults : V → ℕ) (version : Version) (error : ℕ) (place : Corner) (input : Option (List ℕ)) (end : End) (out : SinkMove) (shelf : ShelfMove V)
    → end ≡ Ok tt → OfPut told history faults version error place input end out shelf → PutsTile told history faults version error place input out shelf
put_well told history faults version error place input end out shelf is (inl before) = absurd (let no : ◌≡◌ {A = End} (Ok tt) (Err (input_stop_of before.0.0)) = sym is ∙ before.0.1.1 in cc)
put_well {V} told history faults version error place input end out shelf is (inr put) =
    let at = put.1.1 in
    let w = well_put place put.0 at.answer out (subst (λ (x : End). PutEnds place put.0 at.answer x out) is at.ends) in
    let moves = λ (told_ : IsTrue shelf.told). subst (λ (x : Result (Unit {0}) LevelFault). LevelMoves x (base_of place) shelf.volumes.old shelf.volumes.new (Lends told history faults (λ r old new. PutsIn r (slot_of place) put.0 old new))) w.0 (at.moves told_) in
    record {
      tile = put.0;
      blobs = put.1.0;
      line = w.1;
      puts = λ told_. (moves told_).0;
      beside = λ told_. (moves told_).1;
    }

well_got : (place : Corner) (answer : Result (List ℕ) LevelFault) (out : SinkMove) → GetEnds place answer (Ok tt) out
    → (tile : List ℕ) × ((answer ≡ Ok tile) × Holds out.held.old out.held.new tile)
well_got place (Ok tile) out ended = (tile, (refl, ended))
well_got place (Err fault) out ended = absurd (let no = ended.0 in cc)

pub get_well : {V : Type 0} (told : V → Bool) (history : V → History) (faults : V → ℕ) (place : Corner) (end : End) (out : SinkMove) (shelf : ShelfMove V)
    → end ≡ Ok tt → OfGet told history faults place end out shelf → GetsTile told history faults place out shelf
get_well {V} told history faults place end out shelf is at =
    let w = well_got place at.answer out (subst (λ (x : End). GetEnds place at.answer x out) is at.ends) in
    let moves = λ (told_ : IsTrue shelf.told). subst (λ (x : Result (List ℕ) LevelFault). LevelMoves x (base_of place) shelf.volumes.old shelf.volumes.new (Lends told history faults (λ r old new. GetsFrom r (slot_of place) old new))) w.1.0 (at.moves told_) in
    record {
      tile = w.0;
      given = w.1.1;
      gets = λ told_. (moves told_).0;
      beside = λ told_. (moves told_).1;
    }

pub name_well : (place : Corner) (end : End) (out : SinkMove) → end ≡ Ok tt → OfName place end out → GaveName place out
name_well place end out is (name, (named, gave)) = (name, (named, subst (λ (x : End). GaveBehind x out (name_line name)) is gave))
