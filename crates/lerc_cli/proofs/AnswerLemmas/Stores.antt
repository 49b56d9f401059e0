-- A stop of the opened bundle, as one of the program, fails the object that it failed.
use Rattle.std.proofs.Common.{◌≡◌, Result, Err, refl, ap}
use Rattle.program_ends.specs.Moves.{VolumeMove}
use Rattle.program_ends.specs.declared.stop.Stop.{Stop}
use Rattle.program_ends.specs.declared.stop.Stop.TheVariants.{Usage, Refused, Source, Output, Volume, OutOfMemory}
use Rattle.opened_bundle.specs.declared.refusal.StoreRefusal.{StoreRefusal}
use Rattle.opened_bundle.specs.Left.{OfReading}
use Rattle.opened_bundle.proofs.BundleOpening.{reads_as}
use Rattle.lerc_cli.specs.declared.refusal.Refusal.{Refusal}
use Rattle.lerc_cli.specs.inside.Opening.{of_store}

pub store_output : (stop : Stop StoreRefusal) → of_store stop ≡ Output → stop ≡ Output
store_output Usage is = absurd cc
store_output Source is = absurd cc
store_output Output is = refl
store_output Volume is = absurd cc
store_output OutOfMemory is = absurd cc
store_output (Refused r) is = absurd cc

pub store_source : (stop : Stop StoreRefusal) → of_store stop ≡ Source → stop ≡ Source
store_source Usage is = absurd cc
store_source Source is = refl
store_source Output is = absurd cc
store_source Volume is = absurd cc
store_source OutOfMemory is = absurd cc
store_source (Refused r) is = absurd cc

pub store_volume : (stop : Stop StoreRefusal) → of_store stop ≡ Volume → stop ≡ Volume
store_volume Usage is = absurd cc
store_volume Source is = absurd cc
store_volume Output is = absurd cc
store_volume Volume is = refl
store_volume OutOfMemory is = absurd cc
store_volume (Refused r) is = absurd cc

-- and the volume is left as the opened bundle leaves it
pub store_reads : (X Y : Type 0) (stop : Stop StoreRefusal) (vol : VolumeMove) → OfReading (◌≡◌ {A = Result X (Stop StoreRefusal)} (Err stop) (Err Volume)) vol
    → OfReading (◌≡◌ {A = Result Y (Stop Refusal)} (Err (of_store stop)) (Err Volume)) vol
store_reads X Y stop vol so =
    reads_as (◌≡◌ {A = Result X (Stop StoreRefusal)} (Err stop) (Err Volume)) (◌≡◌ {A = Result Y (Stop Refusal)} (Err (of_store stop)) (Err Volume)) vol
    (λ is. let same : stop ≡ Volume = cc in ap (λ (s : Stop StoreRefusal). Err (of_store s)) same)
    (λ is. let same : of_store stop ≡ Volume = cc in ap (λ (s : Stop StoreRefusal). Err s) (store_volume stop same))
    so
