-- Ends of the bundle's calls, as those of the program.
use Rattle.std.proofs.Common.{◌≡◌, inl, inr, ℕ, List, Option, Ok, Err, refl, arith}
use Rattle.std.proofs.lemmas.Bool.{cases_lt}
use Rattle.outside_io.specs.streams.Faults.{IsCause}
use Rattle.outside_io.specs.volume.Disk.{Disk}
use Rattle.bundle_tiles.specs.Imported.{ImportEnd}
use Rattle.bundle_tiles.specs.declared.taking.ImportStop.TheVariants as found
use Rattle.opened_bundle.specs.Files.{Files}
use Rattle.opened_bundle.specs.Left.{RestsBehind}
use Rattle.opened_bundle.specs.Opening.{OpeningStops}
use Rattle.opened_bundle.proofs.BundleOpening.{failed_later}
use Rattle.opened_bundle.specs.declared.refusal.StoreRefusal.{StoreRefusal}
use Rattle.opened_bundle.specs.declared.refusal.StoreRefusal.TheVariants.{NoTile, Beyond, BadBundle, BadJournal, NotEmpty, Full}
use Rattle.program_ends.specs.declared.stop.Stop.{Stop}
use Rattle.program_ends.specs.declared.stop.Stop.TheVariants.{Usage, Source, Output, Volume, OutOfMemory, Refused}
use Rattle.tiles_cli.specs.Exporting.{Rests}
use Rattle.tiles_cli.specs.Names.{import_end_of, with_store}

-- ---- a bundle that was not opened

pub store_volume : (stop : Stop StoreRefusal) → with_store stop ≡ Volume → stop ≡ Volume
store_volume Usage is = absurd (let no : ⊥ = cc in no)
store_volume Source is = absurd (let no : ⊥ = cc in no)
store_volume Output is = absurd (let no : ⊥ = cc in no)
store_volume Volume is = refl
store_volume OutOfMemory is = absurd (let no : ⊥ = cc in no)
store_volume (Refused refusal) is = absurd (let no : ⊥ = cc in no)

pub never_output : (files : Option Files) (stop : Stop StoreRefusal) → OpeningStops files stop → with_store stop ≡ Output → ⊥
never_output files Usage stops is = stops
never_output files Source stops is = stops
never_output files Output stops is = stops
never_output files Volume stops is = cc
never_output files OutOfMemory stops is = cc
never_output files (Refused refusal) stops is = cc

pub never_source : (files : Option Files) (stop : Stop StoreRefusal) → OpeningStops files stop → with_store stop ≡ Source → ⊥
never_source files Usage stops is = stops
never_source files Source stops is = stops
never_source files Output stops is = stops
never_source files Volume stops is = cc
never_source files OutOfMemory stops is = cc
never_source files (Refused refusal) stops is = cc

pub rests_store : (stop : Stop StoreRefusal) (journal : List ℕ) (d : Disk) → RestsBehind stop journal d → Rests (Err (with_store stop)) journal d
rests_store Usage journal d rests = rests
rests_store Source journal d rests = rests
rests_store Output journal d rests = rests
rests_store Volume journal d rests = rests
rests_store OutOfMemory journal d rests = rests
rests_store (Refused (NoTile row col)) journal d rests = rests
rests_store (Refused (Beyond row col entry got)) journal d rests = rests
rests_store (Refused (BadBundle place found)) journal d rests = rests
rests_store (Refused (BadJournal place found)) journal d rests = rests
rests_store (Refused (NotEmpty len)) journal d rests = rests
rests_store (Refused (Full len)) journal d rests = rests

-- ---- causes

-- an object that was not called
pub uncalled : (P : Type 0) (n : ℕ) → (P → ⊥) → IsCause P n n
uncalled P n never = record { counts = omega arith; failed = λ is. absurd (never is); rose = λ rose. absurd (let no : ⊥ = omega (arith, rose) in no) }

pub joined_cause : (P Q : Type 0) (f f_mid f_new : ℕ) → (P → ⊥) → IsCause P f f_mid → IsCause Q f_mid f_new → IsCause Q f f_new
joined_cause P Q f f_mid f_new well one two = record {
  counts = omega (arith, one.counts, two.counts);
  failed = λ q. failed_later f f_mid f_new one.counts (two.failed q);
  rose = λ rose. elim (cases_lt f f_mid) [ inl before ↦ absurd (well (one.rose before)) | inr after ↦ two.rose (omega (arith, after, rose)) ];
}

-- ---- an import's end

pub import_source : (r : ImportEnd) → import_end_of r ≡ Err Source → r ≡ Err found.Source
import_source (Ok x) is = absurd (let no : ⊥ = cc in no)
import_source (Err (found.Stream f)) is = absurd (let no : ⊥ = cc in no)
import_source (Err found.Source) is = refl
import_source (Err found.Output) is = absurd (let no : ⊥ = cc in no)
import_source (Err found.Volume) is = absurd (let no : ⊥ = cc in no)
import_source (Err found.OutOfMemory) is = absurd (let no : ⊥ = cc in no)
import_source (Err (found.Full len)) is = absurd (let no : ⊥ = cc in no)
import_source (Err found.TooManyTiles) is = absurd (let no : ⊥ = cc in no)

pub import_output : (r : ImportEnd) → import_end_of r ≡ Err Output → r ≡ Err found.Output
import_output (Ok x) is = absurd (let no : ⊥ = cc in no)
import_output (Err (found.Stream f)) is = absurd (let no : ⊥ = cc in no)
import_output (Err found.Source) is = absurd (let no : ⊥ = cc in no)
import_output (Err found.Output) is = refl
import_output (Err found.Volume) is = absurd (let no : ⊥ = cc in no)
import_output (Err found.OutOfMemory) is = absurd (let no : ⊥ = cc in no)
import_output (Err (found.Full len)) is = absurd (let no : ⊥ = cc in no)
import_output (Err found.TooManyTiles) is = absurd (let no : ⊥ = cc in no)

pub import_volume : (r : ImportEnd) → import_end_of r ≡ Err Volume → r ≡ Err found.Volume
import_volume (Ok x) is = absurd (let no : ⊥ = cc in no)
import_volume (Err (found.Stream f)) is = absurd (let no : ⊥ = cc in no)
import_volume (Err found.Source) is = absurd (let no : ⊥ = cc in no)
import_volume (Err found.Output) is = absurd (let no : ⊥ = cc in no)
import_volume (Err found.Volume) is = refl
import_volume (Err found.OutOfMemory) is = absurd (let no : ⊥ = cc in no)
import_volume (Err (found.Full len)) is = absurd (let no : ⊥ = cc in no)
import_volume (Err found.TooManyTiles) is = absurd (let no : ⊥ = cc in no)
