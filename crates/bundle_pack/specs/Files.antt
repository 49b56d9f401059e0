-- The two files of each volume of a list, as a read gives them.
use Rattle.std.specs.Prelude.{ℕ, List, map}
use Rattle.outside_io.specs.declared.volume.VolFile.TheVariants.{Bundle, Journal}
use Rattle.outside_io.specs.volume.History.{History, contents}
use Rattle.opened_bundle.specs.Files.{Files}

abbrev pub files_in : History → Files
files_in h = record { bundle = contents Bundle h; journal = contents Journal h }

abbrev pub all_files : {V : Type 0} → (V → History) → List V → List Files
all_files history vs = map (λ v. files_in (history v)) vs

abbrev pub all_bundles : {V : Type 0} → (V → History) → List V → List (List ℕ)
all_bundles history vs = map (λ v. contents Bundle (history v)) vs
