-- How the commands end that give one tile.
use Rattle.std.proofs.Common.{◌≡◌, ℕ, ◌≤◌, List, [], Option, Ok, Err, refl, rules, subst}
use Rattle.outside_io.specs.streams.Faults.{FailedBetween}
use Rattle.outside_io.specs.streams.Sink.{Holds, HoldsPrefix}
use Rattle.raster_values.specs.Raster.{Pixels}
use Rattle.raster_grids.specs.Grid.{bands_grid_of}
use Rattle.bundle_store.specs.Session.{GetGives}
use Rattle.lerc_grammar.specs.Bands.{BandsFaultAt}
use Rattle.program_ends.specs.Moves.{SinkMove, sink_move}
use Rattle.lerc_cli.specs.declared.words.Command.TheVariants.{Get, GetRaw}
use Rattle.program_ends.specs.declared.stop.Stop.{Stop}
use Rattle.lerc_cli.specs.declared.refusal.Refusal.{Refusal}
use Rattle.program_ends.specs.declared.stop.Stop.TheVariants.{Usage, Refused, Source, Output, Volume, OutOfMemory}
use Rattle.lerc_cli.specs.declared.refusal.Refusal.TheVariants.{Input, Store, Stream}
use Rattle.lerc_cli.specs.answers.Table.{Answers, HoldsBands, IsOutput}
use Rattle.opened_bundle.specs.Files.{Files}
use Rattle.lerc_cli.specs.run.Run.{OfOutput}
use Rattle.lerc_cli.specs.inputs.Given.{given}
use Rattle.lerc_cli.specs.inside.Opening.{DecodesTile}
use Rattle.opened_bundle.specs.Opening.{ReadsTile}
use Rattle.opened_bundle.proofs.BundleOpening.{bundle_map}
use Rattle.opened_bundle.specs.declared.refusal.StoreRefusal.{StoreRefusal}
use Rattle.lerc_cli.specs.inside.Opening.{of_store}
use Rattle.lerc_cli.proofs.AnswerLemmas.Stores.{store_output}
use Rattle.lerc_cli.proofs.AnswerLemmas.Outputs.{cut, gave, stopped}

-- ---- the tile's bytes

raw_ends : (input : Option (List ℕ)) (files : Option Files) (slot : ℕ) (stop : Stop StoreRefusal) → ReadsTile files slot (Err stop) → Answers (GetRaw slot) (given input files) 0 (Err (of_store stop)) []
raw_ends input files slot Usage reads = absurd reads
raw_ends input files slot Source reads = absurd reads
raw_ends input files slot Output reads = absurd reads
raw_ends input files slot Volume reads = (search rules, refl)
raw_ends input files slot OutOfMemory reads = (reads, refl, refl)
raw_ends input files slot (Refused refusal) reads = (reads, refl)

not_output : (files : Option Files) (slot : ℕ) (stop : Stop StoreRefusal) → ReadsTile files slot (Err stop) → of_store stop ≡ Output → ⊥
not_output files slot stop reads is = let none : ReadsTile files slot (Err Output) = subst (λ (s : Stop StoreRefusal). ReadsTile files slot (Err s)) (store_output stop is) reads in none

pub raw_stopped : (K : Type 0) (held : K → Option (List ℕ)) (faults : K → ℕ) (out out_new : K) (input : Option (List ℕ)) (files : Option Files) (slot : ℕ) (stop : Stop StoreRefusal)
    → out_new ≡ out → ReadsTile files slot (Err stop) → OfOutput (GetRaw slot) (given input files) 0 (Err (of_store stop)) (sink_move held faults out out_new)
raw_stopped K held faults out out_new input files slot stop same reads = stopped (GetRaw slot) (given input files) K held faults out out_new (of_store stop) (raw_ends input files slot stop reads) same (not_output files slot stop reads)

-- ---- its grid

grid_ends : (input : Option (List ℕ)) (files : Option Files) (slot : ℕ) (stop : Stop StoreRefusal) → ReadsTile files slot (Err stop) → Answers (Get slot) (given input files) 0 (Err (of_store stop)) []
grid_ends input files slot Usage reads = absurd reads
grid_ends input files slot Source reads = absurd reads
grid_ends input files slot Output reads = absurd reads
grid_ends input files slot Volume reads = (search rules, refl)
grid_ends input files slot OutOfMemory reads = (reads, refl, refl)
grid_ends input files slot (Refused refusal) reads = (reads, refl)

pub grid_stopped : (K : Type 0) (held : K → Option (List ℕ)) (faults : K → ℕ) (out out_new : K) (input : Option (List ℕ)) (files : Option Files) (slot : ℕ) (stop : Stop StoreRefusal)
    → out_new ≡ out → ReadsTile files slot (Err stop) → OfOutput (Get slot) (given input files) 0 (Err (of_store stop)) (sink_move held faults out out_new)
grid_stopped K held faults out out_new input files slot stop same reads = stopped (Get slot) (given input files) K held faults out out_new (of_store stop) (grid_ends input files slot stop reads) same (not_output files slot stop reads)

-- the tile was read, and is not the blobs of bands
tile_ends : (input : Option (List ℕ)) (files : Option Files) (slot : ℕ) (tile : List ℕ) (stop : Stop Refusal) → ReadsTile files slot (Ok tile) → DecodesTile tile (Err stop) → Answers (Get slot) (given input files) 0 (Err stop) []
tile_ends input files slot tile Usage reads decodes = absurd decodes
tile_ends input files slot tile (Refused (Input f)) reads decodes = (
  (
    decodes.0,
    (
      decodes.1.0,
      bundle_map files (λ b. GetGives b slot tile) (λ b. (t : List ℕ) × (GetGives b slot t × BandsFaultAt t f.place decodes.0)) (λ b gives. (tile, (gives, decodes.1.1))) reads,
    ),
  ),
  refl,
)
tile_ends input files slot tile Source reads decodes = absurd decodes
tile_ends input files slot tile Output reads decodes = absurd decodes
tile_ends input files slot tile Volume reads decodes = absurd decodes
tile_ends input files slot tile OutOfMemory reads decodes =
    (bundle_map files (λ b. GetGives b slot tile) (λ b. Unit {0}) (λ b gives. tt) reads, refl, refl)
tile_ends input files slot tile (Refused (Store refusal)) reads decodes = absurd decodes
tile_ends input files slot tile (Refused (Stream refusal)) reads decodes = absurd decodes

no_bands_output : (tile : List ℕ) (stop : Stop Refusal) → DecodesTile tile (Err stop) → stop ≡ Output → ⊥
no_bands_output tile stop decodes is = let none : DecodesTile tile (Err Output) = subst (λ (s : Stop Refusal). DecodesTile tile (Err s)) is decodes in none

pub tile_stopped : (K : Type 0) (held : K → Option (List ℕ)) (faults : K → ℕ) (out out_new : K) (input : Option (List ℕ)) (files : Option Files) (slot : ℕ) (tile : List ℕ) (stop : Stop Refusal)
    → out_new ≡ out → ReadsTile files slot (Ok tile) → DecodesTile tile (Err stop) → OfOutput (Get slot) (given input files) 0 (Err stop) (sink_move held faults out out_new)
tile_stopped K held faults out out_new input files slot tile stop same reads decodes = stopped (Get slot) (given input files) K held faults out out_new stop (tile_ends input files slot tile stop reads decodes) same (no_bands_output tile stop decodes)

holds_bands : (files : Option Files) (slot : ℕ) (tile : List ℕ) (bands : List Pixels) (input : Option (List ℕ)) → ReadsTile files slot (Ok tile) → DecodesTile tile (Ok bands) → IsOutput (Get slot) (given input files) 0 (bands_grid_of bands)
holds_bands files slot tile bands input reads decodes =
    (bands, (decodes.0, bundle_map files (λ b. GetGives b slot tile) (λ b. HoldsBands b slot bands) (λ b gives. (tile, (gives, decodes))) reads, refl))

pub grid_gave : (input : Option (List ℕ)) (files : Option Files) (slot : ℕ) (tile : List ℕ) (bands : List Pixels) (sink : SinkMove)
    → ReadsTile files slot (Ok tile) → DecodesTile tile (Ok bands) → Holds sink.held.old sink.held.new (bands_grid_of bands) → sink.faults.new ≡ sink.faults.old → OfOutput (Get slot) (given input files) 0 (Ok tt) sink
grid_gave input files slot tile bands sink reads decodes holds count =
    gave (Get slot) (given input files) (bands_grid_of bands) sink (holds_bands files slot tile bands input reads decodes) holds count

pub grid_cut : (input : Option (List ℕ)) (files : Option Files) (slot : ℕ) (tile : List ℕ) (bands : List Pixels) (sink : SinkMove)
    → ReadsTile files slot (Ok tile) → DecodesTile tile (Ok bands) → HoldsPrefix sink.held.old sink.held.new (bands_grid_of bands) → sink.faults.old ≤ sink.faults.new → FailedBetween sink.faults.old sink.faults.new → OfOutput (Get slot) (given input files) 0 (Err Output) sink
grid_cut input files slot tile bands sink reads decodes holds counts failed =
    cut (Get slot) (given input files) (bands_grid_of bands) sink (holds_bands files slot tile bands input reads decodes) holds counts failed
