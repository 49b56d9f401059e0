-- What a command answers: the rows of one table. Each relation below has one case for each command.
use Rattle.std.specs.Prelude.{◌≡◌, ◌⊎◌, ℕ, ◌*◌, ◌<◌, ◌≤◌, take, List, [], length, Option, None, Some, Ok, Err, IsTrue}
use Rattle.bundle_index.specs.Sizes.{slot_count}
use Rattle.bundle_store.specs.declared.recovery.Recovery.{Recovery}
use Rattle.bundle_store.specs.Session.{GetGives}
use Rattle.bundle_store.specs.declared.check.CheckReport.{CheckReport}
use Rattle.bundle_store.specs.Check.{Reports}
use Rattle.bundle_store.specs.declared.tile_rec.TileRec.{TileRec}
use Rattle.bundle_lines.specs.Builds.{built_line_of}
use Rattle.bundle_lines.specs.Lines.{check_lines, listing, put_lines, recovery_line}
use Rattle.bundle_lines.specs.Puts.{HaveRoom, IsFirstFull, LeavesNoRoom}
use Rattle.tile_updates.specs.Updates.{IsUpdates, OfBytes}
use Rattle.raster_values.specs.Bands.{AreBands}
use Rattle.raster_grids.specs.BandsGrid.{IsBandsGrid}
use Rattle.raster_grids.specs.Grid.{bands_grid_of}
use Rattle.raster_values.specs.Raster.{Pixels}
use Rattle.lerc_header.specs.Written.{step_of}
use Rattle.lerc_grammar.specs.declared.bands.BandReason.{BandReason}
use Rattle.lerc_grammar.specs.Bands.{BandsBlob, BandsFaultAt}
use Rattle.lerc_encode.specs.Choice.{chosen_bands}
use Rattle.lerc_encode.specs.Encoded.{BandsNeedV4}
use Rattle.sample_tiles.specs.declared.adding.Sums.{Sums}
use Rattle.sample_tiles.specs.Sums.{AreSums}
use Rattle.program_ends.specs.declared.stop.Stop.{Stop}
use Rattle.program_ends.specs.declared.stop.Stop.TheVariants.{Usage, Source, Output, Volume, OutOfMemory, Refused}
use Rattle.opened_bundle.specs.declared.refusal.StoreRefusal.{StoreRefusal}
use Rattle.opened_bundle.specs.declared.refusal.StoreRefusal.TheVariants.{NotEmpty, Full}
use Rattle.opened_bundle.specs.Files.{Files, HasRecovered, OfBundle}
use Rattle.opened_bundle.specs.Refusals.{IsMissing, IsOpening, IsUnrecovered}
use Rattle.lerc_cli.specs.declared.words.Command.{Command}
use Rattle.lerc_cli.specs.declared.words.Command.TheVariants.{Encode, Decode, Info, Build, Put, Get, GetRaw, List as ListAll, Check, Recover, Sample}
use Rattle.lerc_cli.specs.declared.refusal.Fault.{Fault}
use Rattle.lerc_cli.specs.declared.refusal.Refusal.{Refusal}
use Rattle.lerc_cli.specs.declared.refusal.Refusal.TheVariants.{Input, Store, Stream}
use Rattle.lerc_cli.specs.words.Commands.{reads_source, calls_volume}
use Rattle.lerc_cli.specs.inputs.Given.{Given, OfInput}
use Rattle.lerc_cli.specs.inputs.Refused.{IsBandsBlob, IsNoBandsBlob, HasHead, IsNoUpdates, IsNotEncoded, band_reason_of}
use Rattle.lerc_cli.specs.answers.Names.{End}
use Rattle.lerc_cli.specs.answers.Outline.{AreLinesOf}
use Rattle.lerc_cli.specs.answers.Samples.{sums_lines}

-- the updates of a command's input, where it is told; only `build` and `put` have any
abbrev pub UpdatesOf : Command → Given → List TileRec → Type 0
UpdatesOf (Build version error workers) g updates =
    OfBytes g.input (λ bytes. IsUpdates version (step_of error) bytes updates)
UpdatesOf (Put version error workers) g updates =
    OfBytes g.input (λ bytes. IsUpdates version (step_of error) bytes updates)
UpdatesOf c g updates = updates ≡ []

-- the bytes that the slot's entry names are the blobs of these bands
abbrev pub HoldsBands : List ℕ → ℕ → List Pixels → Type 0
HoldsBands bundle slot bands = (tile : List ℕ) × (GetGives bundle slot tile × BandsBlob tile bands)

-- The command's output, where nothing refuses or fails. The number is that of the updates that are
-- done.
abbrev pub IsOutput : Command → Given → ℕ → List ℕ → Type 0
IsOutput (Encode version error) g n output =
    (bands : List Pixels) × (AreBands bands × OfInput g (λ bytes. IsBandsGrid bytes bands)
    × (¬ BandsNeedV4 version bands) × (output ≡ chosen_bands None bands version (step_of error)))
IsOutput Decode g n output =
    (bands : List Pixels) × (AreBands bands × OfInput g (λ bytes. BandsBlob bytes bands)
    × (output ≡ bands_grid_of bands))
IsOutput Info g n output = (blobs : List ℕ)
    × (IsBandsBlob blobs × OfInput g (λ bytes. bytes ≡ blobs) × AreLinesOf blobs output)
IsOutput (Build version error workers) g n output = (updates : List TileRec)
    × (UpdatesOf (Build version error workers) g updates × (n ≡ length updates)
    × OfBundle g.files (λ bundle. bundle ≡ []) × (output ≡ built_line_of updates))
IsOutput (Put version error workers) g n output = (updates : List TileRec)
    × (UpdatesOf (Put version error workers) g updates × (n ≡ length updates)
    × OfBundle g.files (λ bundle. HaveRoom bundle updates n) × (output ≡ put_lines updates))
IsOutput (Get slot) g n output =
    (bands : List Pixels) × (AreBands bands
    × OfBundle g.files (λ bundle. HoldsBands bundle slot bands)
    × (output ≡ bands_grid_of bands))
IsOutput (GetRaw slot) g n output = OfBundle g.files (λ bundle. GetGives bundle slot output)
IsOutput ListAll g n output = OfBundle g.files (λ bundle. output ≡ listing bundle slot_count)
IsOutput Check g n output = (report : CheckReport)
    × (OfBundle g.files (λ bundle. Reports bundle slot_count report)
    × (output ≡ check_lines report))
IsOutput Recover g n output =
    (done : Recovery) × (HasRecovered g.files done × (output ≡ recovery_line done))
IsOutput (Sample start count) g n output =
    (sums : Sums) × (AreSums start count sums × (output ≡ sums_lines sums))

-- the input has updates, and the bundle is not opened
abbrev pub IsUnopened : Command → Given → Stop Refusal → Type 0
IsUnopened c g stop = (updates : List TileRec) × (UpdatesOf c g updates
    × ((refusal : StoreRefusal)
    × ((stop ≡ Refused (Store refusal)) × IsOpening g.files refusal)))

-- the input has updates, and the bundle that is opened is not empty
abbrev pub IsNotEmpty : Command → Given → Stop Refusal → Type 0
IsNotEmpty c g stop = (len : ℕ)
    × ((stop ≡ Refused (Store (NotEmpty len))) × ((updates : List TileRec)
    × (UpdatesOf c g updates × (0 < len) × OfBundle g.files (λ bundle. len ≡ length bundle))))

-- There is no room for update number n, as it is put, and there is for those before it. Over a
-- volume that tells nothing, the kept length leaves no room for that one or a later one.
abbrev pub IsFull : Command → Given → ℕ → Stop Refusal → Type 0
IsFull c g n stop = (len : ℕ) × ((stop ≡ Refused (Store (Full len))) × ((updates : List TileRec)
    × (UpdatesOf c g updates × (n < length updates)
    × LeavesNoRoom len updates n
    × OfBundle g.files (λ bundle. IsFirstFull bundle updates n len))))

-- This is the first fault of the bytes that the slot's entry names, which are to be the blobs of
-- bands.
abbrev pub HoldsNoBands : Option Files → ℕ → Fault → Type 0
HoldsNoBands files slot fault = (reason : BandReason) × ((fault.reason ≡ band_reason_of reason)
    × OfBundle files (λ bundle. (tile : List ℕ)
    × (GetGives bundle slot tile × BandsFaultAt tile fault.place reason)))

-- This is the first refusal in the command's order. The number is that of the updates that are
-- done.
abbrev pub IsRefusal : Command → Given → ℕ → Stop Refusal → Type 0
IsRefusal (Encode version error) g n (Refused (Input fault)) =
    IsNotEncoded version g fault.place fault.reason
IsRefusal (Encode version error) g n stop = ⊥
IsRefusal Decode g n (Refused (Input fault)) = IsNoBandsBlob g fault
IsRefusal Decode g n stop = ⊥
IsRefusal Info g n (Refused (Input fault)) = IsNoBandsBlob g fault
IsRefusal Info g n stop = ⊥
IsRefusal (Build version error workers) g n stop = (n ≡ 0)
    × (IsNoUpdates version (step_of error) g.input stop
    ⊎ (IsUnopened (Build version error workers) g stop
    ⊎ IsNotEmpty (Build version error workers) g stop))
IsRefusal (Put version error workers) g n stop =
    ((n ≡ 0) × IsNoUpdates version (step_of error) g.input stop)
    ⊎ (((n ≡ 0) × IsUnopened (Put version error workers) g stop)
    ⊎ IsFull (Put version error workers) g n stop)
IsRefusal (Get slot) g n (Refused (Input fault)) = HoldsNoBands g.files slot fault
IsRefusal (Get slot) g n (Refused (Store refusal)) = IsMissing g.files slot refusal
IsRefusal (Get slot) g n stop = ⊥
IsRefusal (GetRaw slot) g n (Refused (Store refusal)) = IsMissing g.files slot refusal
IsRefusal (GetRaw slot) g n stop = ⊥
IsRefusal ListAll g n (Refused (Store refusal)) = IsOpening g.files refusal
IsRefusal ListAll g n stop = ⊥
IsRefusal Check g n (Refused (Store refusal)) = IsOpening g.files refusal
IsRefusal Check g n stop = ⊥
IsRefusal Recover g n (Refused (Store refusal)) = IsUnrecovered g.files refusal
IsRefusal Recover g n stop = ⊥
IsRefusal (Sample start count) g n stop = ⊥

-- the lines of some of the first rows of slots
abbrev pub IsListed : Option Files → List ℕ → Type 0
IsListed files output = (rows : ℕ) × ((rows ≤ 128)
    × OfBundle files (λ bundle. output ≡ listing bundle (128 * rows)))

-- the lines of the updates that are done, and none before the first
abbrev pub IsPutSoFar : Command → Given → ℕ → List ℕ → Type 0
IsPutSoFar c g n output = ((n ≡ 0) × (output ≡ []))
    ⊎ ((updates : List TileRec) × (UpdatesOf c g updates × (n ≤ length updates)
    × (output ≡ put_lines (take n updates))))

-- What the command has meant to give by the time that the output fails: all of it, where it gives
-- all at once.
abbrev pub CutByOutput : Command → Given → ℕ → List ℕ → Type 0
CutByOutput (Put version error workers) g n output =
    IsPutSoFar (Put version error workers) g n output
CutByOutput ListAll g n output = IsListed g.files output
CutByOutput c g n output = IsOutput c g n output

-- The same where the volume fails: nothing, unless lines are given in between. Before `build` has a
-- line no update is done.
abbrev pub CutByVolume : Command → Given → ℕ → List ℕ → Type 0
CutByVolume (Build version error workers) g n output = (n ≡ 0) × (output ≡ [])
CutByVolume (Put version error workers) g n output =
    IsPutSoFar (Put version error workers) g n output
CutByVolume c g n output = output ≡ []

-- the same where the store refuses
abbrev pub CutByStore : Command → Given → ℕ → List ℕ → Type 0
CutByStore (Build version error workers) g n output = (n ≡ 0) × (output ≡ [])
CutByStore (Put version error workers) g n output =
    IsPutSoFar (Put version error workers) g n output
CutByStore c g n output = output ≡ []

-- where memory may be wanted
abbrev pub MayWant : Command → Given → Type 0
MayWant (Encode version error) g = Unit {0}
MayWant Decode g = OfInput g HasHead
MayWant Info g = OfInput g HasHead
MayWant (Build version error workers) g = Unit {0}
MayWant (Put version error workers) g = Unit {0}
MayWant (Get slot) g = OfBundle g.files (λ bundle. Unit {0})
MayWant (GetRaw slot) g = OfBundle g.files (λ bundle. Unit {0})
MayWant ListAll g = OfBundle g.files (λ bundle. Unit {0})
MayWant Check g = OfBundle g.files (λ bundle. Unit {0})
MayWant Recover g = ⊥
MayWant (Sample start count) g = Unit {0}

-- The whole answer: how the command ends, how many updates are then done, and what it has meant to
-- give by then.
abbrev pub Answers : Command → Given → ℕ → End → List ℕ → Type 0
Answers c g n (Ok x) output = IsOutput c g n output
Answers c g n (Err Usage) output = ⊥
Answers c g n (Err Source) output = IsTrue (reads_source c) × (n ≡ 0) × (output ≡ [])
Answers c g n (Err Output) output = CutByOutput c g n output
Answers c g n (Err Volume) output = IsTrue (calls_volume c) × CutByVolume c g n output
Answers c g n (Err OutOfMemory) output = MayWant c g × (n ≡ 0) × (output ≡ [])
Answers c g n (Err (Refused (Input fault))) output =
    IsRefusal c g n (Refused (Input fault)) × (output ≡ [])
Answers c g n (Err (Refused (Stream refusal))) output =
    IsRefusal c g n (Refused (Stream refusal)) × (output ≡ [])
Answers c g n (Err (Refused (Store refusal))) output =
    IsRefusal c g n (Refused (Store refusal)) × CutByStore c g n output

-- the end is an answer, and not of an object that failed or of want of memory
abbrev pub IsAnswer : End → Type 0
IsAnswer (Ok x) = Unit {0}
IsAnswer (Err Usage) = ⊥
IsAnswer (Err Source) = ⊥
IsAnswer (Err Output) = ⊥
IsAnswer (Err Volume) = ⊥
IsAnswer (Err OutOfMemory) = ⊥
IsAnswer (Err (Refused refusal)) = Unit {0}

-- all that the command reads is told
pub record IsAllTold (c : Command) (g : Given) : Type 0 where
  pub input : IsTrue (reads_source c) → (bytes : List ℕ) × (g.input ≡ Some bytes)
  pub files : IsTrue (calls_volume c) → (files : Files) × (g.files ≡ Some files)

-- What is told has one answer of a command: one end, and one output.
abbrev pub AnswersOnce : Command → Type 0
AnswersOnce c = (g : Given) (n m : ℕ) (end other : End) (output another : List ℕ)
    → IsAllTold c g → IsAnswer end → IsAnswer other
    → Answers c g n end output → Answers c g m other another
    → (end ≡ other) × (output ≡ another)
