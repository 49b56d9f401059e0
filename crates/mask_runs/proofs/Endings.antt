-- A mask with another last byte.
use Rattle.std.proofs.Common.{◌≡◌, ℕ, ◌+◌, ◌-◌, ◌<◌, List, length, set, drop, sym, ap, ◌∙◌, arith, All}
use Rattle.std.proofs.lemmas.List.{length-drop, length-set, drop-set-add}
use Rattle.std.proofs.lemmas.List.Elements.{All-set}
use Rattle.mask_runs.specs.Ending.{ending_with}

pub length-ending : (mask : List ℕ) (last : ℕ) → length (ending_with mask last) ≡ length mask
length-ending mask last = length-set mask (length mask - 1) last

-- what is left of it
pub drop-ending : (mask : List ℕ) (last at : ℕ) → at < length mask → ending_with (drop at mask) last ≡ drop at (ending_with mask last)
drop-ending mask last at below =
    let there : at + (length (drop at mask) - 1) ≡ length mask - 1 = omega (arith, below, length-drop at mask) in
    sym (drop-set-add at mask (length (drop at mask) - 1) last) ∙ ap (λ n. drop at (set mask n last)) there

pub ending_below : (mask : List ℕ) (last : ℕ) → last < 256 → All (λ byte. byte < 256) mask → All (λ byte. byte < 256) (ending_with mask last)
ending_below mask last below all = All-set (λ byte. byte < 256) mask (length mask - 1) last below all
