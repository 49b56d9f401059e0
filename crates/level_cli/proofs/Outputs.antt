-- What `put`, `get` and `name` leave, by what the calls that they make answer.
use Rattle.std.proofs.Common.{◌≡◌, inl, inr, ℕ, ◌<◌, ◌≤◌, List, length, Bool, Option, Result, Ok, Err, refl, ap}
use Rattle.std.specs.Prelude.{IsTrue}
use Rattle.outside_io.specs.streams.Faults.{IsCause}
use Rattle.outside_io.specs.streams.Sink.{Holds, HoldsPrefix}
use Rattle.outside_io.specs.volume.History.{History}
use Rattle.lerc_header.specs.declared.header.Version.{Version}
use Rattle.program_ends.specs.Moves.{sink_move}
use Rattle.program_ends.specs.declared.stop.Stop.{Stop}
use Rattle.program_ends.specs.declared.stop.Stop.TheVariants.{Source, Output}
use Rattle.program_ends.proofs.Ends as ends
use Rattle.grid_blobs.specs.declared.stop.InputStop.{InputStop}
use Rattle.grid_blobs.specs.declared.stop.InputStop.TheVariants.{Fault as FaultOf, Source as SourceOf, OutOfMemory as MemoryOf}
use Rattle.grid_blobs.specs.Blobs.{AreBlobsOf}
use Rattle.grid_blobs.specs.Stops.{IsStopOf}
use Rattle.level_cache.specs.declared.level.LevelFault.{LevelFault}
use Rattle.level_cache.specs.Calls.{GetRefusal, GetsFrom, Lends, LevelMoves, OnStore, PutRefusal, PutsIn}
use Rattle.level_cache.specs.Places.{Corner, base_of, slot_of}
use Rattle.level_cli.specs.Names.{End, input_stop_of, level_stop_of, put_line}
use Rattle.level_cli.specs.Run.{OfGet, OfPut, shelf_move}

-- ---- causes

-- A call that went well before left the count, and so does an end that the object did not cause.
pub calm : (P Q : Type 0) (old new : ℕ) → (P → ⊥) → (Q → ⊥) → IsCause P old new → IsCause Q old new
calm P Q old new other never c = record {
  counts = c.counts;
  failed = λ q. absurd (never q);
  rose = λ more. absurd (other (c.rose more));
}

source_of : (why : InputStop) → ◌≡◌ {A = End} (Err (input_stop_of why)) (Err Source) → why ≡ SourceOf
source_of (FaultOf f) e = absurd cc
source_of SourceOf e = refl
source_of MemoryOf e = absurd cc

pub source_cause : (X : Type 0) (why : InputStop) (old new : ℕ) → IsCause (◌≡◌ {A = Result X InputStop} (Err why) (Err SourceOf)) old new → IsCause (◌≡◌ {A = End} (Err (input_stop_of why)) (Err Source)) old new
source_cause X why old new c =
    ends.caused (◌≡◌ {A = Result X InputStop} (Err why) (Err SourceOf)) (◌≡◌ {A = End} (Err (input_stop_of why)) (Err Source)) old new
    (λ e. let is : why ≡ SourceOf = cc in ap (λ (w : InputStop). Err (input_stop_of w)) is) (λ e. ap Err (source_of why e)) c

-- ---- `put`

module _ {V X K : Type 0} (told : V → Bool) (history : V → History) (faults : V → ℕ) (held : K → Option (List ℕ)) (count : K → ℕ) (tells : X → Bool) (volumes : X → Corner → Option V)
    (version : Version) (error : ℕ) (place : Corner) (input : Option (List ℕ)) (tile : List ℕ) where
  pub put_unread : (why : InputStop) (out : K) (shelf : X) → IsStopOf version input why
      → OfPut told history faults version error place input (Err (input_stop_of why)) (sink_move held count out out) (shelf_move tells volumes shelf shelf)
  put_unread why out shelf stops = inl ((why, (stops, refl)), (refl, refl))

  pub put_refused : (fault : LevelFault) (out : K) (old new : X) → AreBlobsOf version error input tile
      → (IsTrue (tells old) → LevelMoves (Err fault) (base_of place) (volumes old) (volumes new) (Lends told history faults (λ r h k. PutsIn r (slot_of place) tile h k)))
      → OnStore (PutRefusal (length tile)) fault
      → OfPut told history faults version error place input (Err (level_stop_of place fault)) (sink_move held count out out) (shelf_move tells volumes old new)
  put_refused fault out old new blobs moves why = inr (tile, (blobs, record { answer = Err fault; moves = moves; fails = why; fits = tt; ends = (refl, refl) }))

  pub put_gave : (out_old out_new : K) (old new : X) → AreBlobsOf version error input tile
      → (IsTrue (tells old) → LevelMoves (Ok tt) (base_of place) (volumes old) (volumes new) (Lends told history faults (λ r h k. PutsIn r (slot_of place) tile h k)))
      → (0 < length tile) × (length tile ≤ 16777215) → Holds (held out_old) (held out_new) (put_line place (length tile))
      → OfPut told history faults version error place input (Ok tt) (sink_move held count out_old out_new) (shelf_move tells volumes old new)
  put_gave out_old out_new old new blobs moves fits gave = inr (tile, (blobs, record { answer = Ok tt; moves = moves; fails = tt; fits = fits; ends = gave }))

  pub put_cut : (out_old out_new : K) (old new : X) → AreBlobsOf version error input tile
      → (IsTrue (tells old) → LevelMoves (Ok tt) (base_of place) (volumes old) (volumes new) (Lends told history faults (λ r h k. PutsIn r (slot_of place) tile h k)))
      → (0 < length tile) × (length tile ≤ 16777215) → HoldsPrefix (held out_old) (held out_new) (put_line place (length tile))
      → OfPut told history faults version error place input (Err Output) (sink_move held count out_old out_new) (shelf_move tells volumes old new)
  put_cut out_old out_new old new blobs moves fits gave = inr (tile, (blobs, record { answer = Ok tt; moves = moves; fails = tt; fits = fits; ends = gave }))

-- ---- `get`

module _ {V X K : Type 0} (told : V → Bool) (history : V → History) (faults : V → ℕ) (held : K → Option (List ℕ)) (count : K → ℕ) (tells : X → Bool) (volumes : X → Corner → Option V) (place : Corner) where
  pub get_refused : (fault : LevelFault) (out : K) (old new : X)
      → (IsTrue (tells old) → LevelMoves (Err fault) (base_of place) (volumes old) (volumes new) (Lends told history faults (λ r h k. GetsFrom r (slot_of place) h k)))
      → OnStore GetRefusal fault
      → OfGet told history faults place (Err (level_stop_of place fault)) (sink_move held count out out) (shelf_move tells volumes old new)
  get_refused fault out old new moves why = record { answer = Err fault; moves = moves; fails = why; ends = (refl, refl) }

  pub get_gave : (tile : List ℕ) (out_old out_new : K) (old new : X)
      → (IsTrue (tells old) → LevelMoves (Ok tile) (base_of place) (volumes old) (volumes new) (Lends told history faults (λ r h k. GetsFrom r (slot_of place) h k)))
      → Holds (held out_old) (held out_new) tile
      → OfGet told history faults place (Ok tt) (sink_move held count out_old out_new) (shelf_move tells volumes old new)
  get_gave tile out_old out_new old new moves gave = record { answer = Ok tile; moves = moves; fails = tt; ends = gave }

  pub get_cut : (tile : List ℕ) (out_old out_new : K) (old new : X)
      → (IsTrue (tells old) → LevelMoves (Ok tile) (base_of place) (volumes old) (volumes new) (Lends told history faults (λ r h k. GetsFrom r (slot_of place) h k)))
      → HoldsPrefix (held out_old) (held out_new) tile
      → OfGet told history faults place (Err Output) (sink_move held count out_old out_new) (shelf_move tells volumes old new)
  get_cut tile out_old out_new old new moves gave = record { answer = Ok tile; moves = moves; fails = tt; ends = gave }
