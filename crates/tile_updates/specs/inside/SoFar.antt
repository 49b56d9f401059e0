-- What was made of the first tiles of an input, what waits behind them, and what follows.
use Rattle.std.specs.Prelude.{◌≡◌, ℕ, ◌+◌, ◌-◌, ◌*◌, ◌<◌, ◌≤◌, List, [], ◌∷◌, ◌++◌, length, All, Option}
use Rattle.outside_io.specs.streams.Source.{IsAtEnd}
use Rattle.raster_grids.specs.Taken.{TookBytes, TookSome}
use Rattle.lerc_header.specs.declared.header.Version.{Version}
use Rattle.lerc_encode.specs.Encoded.{AreEncodedOnce, BandsNeedV4}
use Rattle.tile_stream.specs.declared.tile.Tile.{Tile}
use Rattle.tile_stream.specs.declared.tile.TileStop.TheVariants.{Fault as TileFaultOf}
use Rattle.tile_stream.specs.Stream.{IsStream}
use Rattle.tile_stream.specs.Tile.{IsTile, IsToldStop}
use Rattle.tile_updates.specs.declared.stop.StreamStop.{StreamStop}
use Rattle.tile_updates.specs.declared.stop.StreamStop.TheVariants.{TooManyTiles, Fault, DepthNeedsV4, TileTooLarge, KeptTooMuch, Source, OutOfMemory}
use Rattle.tile_updates.specs.declared.updates.Next.{Next}
use Rattle.tile_updates.specs.declared.updates.Next.TheVariants.{More, AtEnd, Refused}
use Rattle.tile_updates.specs.declared.updates.SoFar.{SoFar}
use Rattle.tile_updates.specs.declared.updates.Waiting.{Waiting}
use Rattle.tile_updates.specs.Stops.{TellsStop}
use Rattle.tile_updates.specs.Updates.{AllPass, updates_of, tile_bytes}

-- ---- one tile

-- a tile was taken from the source
pub record TakesTile (old new : Option (List ℕ)) (t : Tile) (bytes : List ℕ) : Type 0 where
  pub tile : IsTile bytes t
  pub took : TookBytes old new bytes

-- the next tile was taken, and waits
pub record WaitsToo (v : Version) (old new : Option (List ℕ)) (before after : Waiting)
    : Type 0 where
  pub tile : Tile
  pub bytes : List ℕ
  pub takes : TakesTile old new tile bytes
  pub size : length bytes ≤ 83886104
  pub flat : ¬ BandsNeedV4 v tile.bands
  pub batch : after.batch ≡ before.batch ++ tile ∷ []
  pub place : after.place ≡ before.place + length bytes

-- a tile was taken that the version has no place for
pub record TakesDeep (v : Version) (place at : ℕ) (old new : Option (List ℕ)) : Type 0 where
  pub tile : Tile
  pub bytes : List ℕ
  pub takes : TakesTile old new tile bytes
  pub deep : BandsNeedV4 v tile.bands
  pub at_is : at ≡ place + 16

-- what follows is refused so as it is read
abbrev pub RefusesReading : Version → ℕ → Option (List ℕ) → Option (List ℕ) → StreamStop → Type 0
RefusesReading v place old new TooManyTiles = ⊥
RefusesReading v place old new (Fault f) = IsToldStop old place (TileFaultOf f)
RefusesReading v place old new (DepthNeedsV4 at) = TakesDeep v place at old new
RefusesReading v place old new (TileTooLarge at len) = ⊥
RefusesReading v place old new (KeptTooMuch at) = ⊥
RefusesReading v place old new Source = ⊥
RefusesReading v place old new OutOfMemory = ⊥

-- one tile more waits; or none was left; or the next one is refused
abbrev pub Follows : Version → Option (List ℕ) → Option (List ℕ) → Waiting → Waiting → Next →
    Type 0
Follows v old new before after More = WaitsToo v old new before after
Follows v old new before after AtEnd = IsAtEnd old × ((new ≡ old) × (after ≡ before))
Follows v old new before after (Refused stop) =
    RefusesReading v before.place old new stop × (after ≡ before)

-- a stop that may be told of any input
abbrev pub IsFree : Version → StreamStop → Type 0
IsFree v stop = (step : ℕ) (input : Option (List ℕ)) → TellsStop v step input stop

-- ---- the tiles of a batch

-- these tiles were taken from the source, from this place of the input on, and the version has a
-- place for the depths of each
pub record AreWaiting (v : Version) (place : ℕ) (old now : Option (List ℕ)) (w : Waiting)
    : Type 0 where
  pub front : List ℕ
  pub stream : IsStream front w.batch
  pub took : TookBytes old now front
  pub place_is : w.place ≡ place + length front
  pub low : w.place ≤ place + 83886104 * length w.batch
  pub flat : All (λ t. ¬ BandsNeedV4 v t.bands) w.batch

-- what follows tiles that wait: there are some, and what follows was not looked at; or none is
-- left; or there may be more, and the next one is refused
abbrev pub EndsSo : Version → ℕ → Option (List ℕ) → Option (List ℕ) → Waiting → Next → Type 0
EndsSo v room mid new w More = (new ≡ mid) × (0 < length w.batch)
EndsSo v room mid new w AtEnd = (new ≡ mid) × IsAtEnd mid
EndsSo v room mid new w (Refused stop) =
    (length w.batch < room) × RefusesReading v w.place mid new stop

-- tiles wait, at most so many, and this follows them
pub record IsFilled (v : Version) (room place : ℕ) (old new : Option (List ℕ)) (w : Waiting)
    (next : Next) : Type 0 where
  pub mid : Option (List ℕ)
  pub waiting : AreWaiting v place old mid w
  pub few : length w.batch ≤ room
  pub ends : EndsSo v room mid new w next

-- ---- the whole input

-- the first tiles were taken from the input, and this was made of them
pub record IsSoFar (v : Version) (step : ℕ) (old now : Option (List ℕ)) (done : SoFar)
    : Type 0 where
  pub tiles : List Tile
  pub front : List ℕ
  pub stream : IsStream front tiles
  pub took : TookBytes old now front
  pub pass : AllPass v step tiles
  pub encoded : All (λ t. AreEncodedOnce (tile_bytes v step t) t.bands step) tiles
  pub list_is : done.list ≡ updates_of v step tiles
  pub place_is : done.place ≡ length front

-- what stands at the end of the source
pub record IsAll (v : Version) (step : ℕ) (old now : Option (List ℕ)) (done : SoFar)
    : Type 0 where
  pub so_far : IsSoFar v step old now done
  pub end : IsAtEnd now

-- Of the first tiles this was made, and these wait behind them.
pub record IsHeld (v : Version) (step : ℕ) (old now : Option (List ℕ)) (done : SoFar)
    (w : Waiting) (next : Next) : Type 0 where
  pub from : Option (List ℕ)
  pub so_far : IsSoFar v step old from done
  pub few : length done.list ≤ 1048576
  pub place : done.place ≤ 83886104 * length done.list
  pub filled : IsFilled v (1048576 - length done.list) done.place from now w next
  pub some : TookSome old now
