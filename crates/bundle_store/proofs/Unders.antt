-- Writes within a file.
use Rattle.std.proofs.Common.{◌≡◌, ◌⊎◌, ℕ, ◌+◌, ◌<◌, ◌≤◌, List, length, arith}
use Rattle.outside_io.specs.volume.Disk.{File, wrote}
use Rattle.outside_io.proofs.VolumeLemmas.Laid.{length-laid}
use Rattle.outside_io.proofs.VolumeLemmas.Limits.{Limits, limits_wrote}

abbrev pub SameLength : List ℕ → ℕ → Type 0
SameLength old n = n ≡ length old

-- a write within the file
pub inside : (old : List ℕ) (Fixed : ℕ → Type 0) (f : File) (at : ℕ) (bytes : List ℕ) → Limits old (SameLength old) Fixed f → length f.now ≡ length old → at + length bytes ≤ length old
    → ((i : ℕ) → Fixed i → (i < at) ⊎ (at + length bytes ≤ i)) → Limits old (SameLength old) Fixed (wrote at bytes f)
inside old Fixed f at bytes limits same within apart =
    let size = length-laid at bytes f.now (omega arith) in
    limits_wrote old (SameLength old) Fixed f at bytes limits (λ n least most. omega arith) apart
